-- The calls of a file can be made: the fields of its records are bytes.
use Rattle.std.proofs.Common.{◌≡◌, ℕ, zero, suc, pred, ◌+◌, ◌≤◌, cond, ◌&&◌, eqb, leb, List, [], ◌∷◌, length, get_or, take, drop, Some, None, Ok, Err, Option, Result, refl, arith}
use Rattle.std.specs.Result.{IfOk}
use Rattle.std.proofs.lemmas.Bool.{cond_both}
use Rattle.std.proofs.lemmas.Grind.{common_steps}
use Rattle.model.specs.Items.{Bytes}
use Rattle.promise.specs.Calls.{AllMade}
use Rattle.records.specs.declared.fault.Refusal.{Refusal}
use Rattle.records.specs.declared.fault.Refusal.TheVariants.{StrangeKind, WrongLength, BadName}
use Rattle.records.specs.declared.fault.SourceFile.TheVariants.{Process}
use Rattle.records.specs.Bytes.{two, Cut}
use Rattle.records.specs.Items.{is_name, Named, fields_of, item_of}
use Rattle.records.specs.Records.{Said, station, item, arc, then, arc_of, read_of, whole_of, record_of}
use Rattle.files.specs.Process.{calls_in}
use Rattle.files.specs.Rows.{said_in}
use Rattle.files.proofs.Said.{said_row, said_none}

abbrev pub AllBytes : List ℕ → Type 0
AllBytes bs = (i : ℕ) → get_or bs i 0 ≤ 255

bytes_drop : (n : ℕ) (bs : List ℕ) → AllBytes bs → AllBytes (drop n bs)
bytes_drop n bs h i = grind (arith, common_steps, h)

bytes_take : (n : ℕ) (bs : List ℕ) → AllBytes bs → AllBytes (take n bs)
bytes_take n bs h i = grind (arith, common_steps, h)

then_holds : {X Y : Type 0} (P : X → Type 0) (Q : Y → Type 0) (r : Result X Refusal) (f : X → Result Y Refusal) → IfOk r P → ((x : X) → P x → IfOk (f x) Q) → IfOk (then r f) Q
then_holds P Q (Ok x) f h on = on x h
then_holds P Q (Err e) f h on = tt

-- the one-byte fields of an item are bytes
Fine : Said → Type 0
Fine (station new) = Unit {0}
Fine (item new) = Bytes new.item
Fine (arc new) = Unit {0}

fields_fine : (bs : List ℕ) → AllBytes bs → Bytes (fields_of bs)
fields_fine bs h = record { class_fits = h 0; station_fits = h 1; priority_fits = h 3; queue_fits = h 4; size_fits = h 5 }

NamedFine : Result Named Refusal → Type 0
NamedFine r = IfOk r (λ (n : Named). Bytes n.item)

item_fine : (bs : List ℕ) → AllBytes bs → NamedFine (item_of bs)
unfolding NamedFine
item_fine bs h =
    let good : Result Named Refusal = Ok (record { item = fields_of bs; name = drop 26 bs }) in
    cond_both (leb 27 (length bs) && leb (length bs) 42) (cond (is_name (drop 26 bs)) good (Err BadName)) (Err WrongLength) NamedFine
    (λ _. cond_both (is_name (drop 26 bs)) good (Err BadName) NamedFine (λ _. fields_fine bs h) (λ _. tt)) (λ _. tt)

any : {X : Type 0} (r : Result X Refusal) → IfOk r (λ _. Unit {0})
any (Ok x) = tt
any (Err e) = tt

read_fine : (kind : ℕ) (bs : List ℕ) → AllBytes bs → IfOk (read_of Process kind bs) Fine
unfolding Fine NamedFine
read_fine kind bs h =
    let SaidFine : Result Said Refusal → Type 0 = λ r. IfOk r Fine in
    let items : Result Said Refusal = then (item_of bs) (λ i. Ok (item i)) in
    let arcs : Result Said Refusal = then (arc_of bs) (λ a. Ok (arc a)) in
    cond_both (eqb kind 2) items (cond (eqb kind 3) arcs (Err StrangeKind)) SaidFine
    (λ _. then_holds (λ (n : Named). Bytes n.item) Fine (item_of bs) (λ i. Ok (item i)) (item_fine bs h) (λ n p. p))
    (λ _. cond_both (eqb kind 3) arcs (Err StrangeKind) SaidFine (λ _. then_holds (λ _. Unit {0}) Fine (arc_of bs) (λ a. Ok (arc a)) (any (arc_of bs)) (λ a p. tt)) (λ _. tt))

FirstFine : Result (Said × ℕ) Refusal → Type 0
FirstFine r = IfOk r (λ (p : Said × ℕ). Fine p.0)

record_fine : (bs : List ℕ) → AllBytes bs → FirstFine (record_of Process bs)
unfolding FirstFine
record_fine bs h =
    let body : List ℕ = take (two bs 0) (drop 4 bs) in
    let c : Cut = record { kind = two bs 2; body = body } in
    cond_both (leb 4 (length bs) && leb (4 + two bs 0) (length bs)) (Some c) None (λ (o : Option Cut). FirstFine (whole_of Process o))
    (λ _. then_holds Fine (λ (p : Said × ℕ). Fine p.0) (read_of Process (two bs 2) body) (λ s. Ok (s, 4 + length body)) (read_fine (two bs 2) body (bytes_take (two bs 0) (drop 4 bs) (bytes_drop 4 bs h))) (λ s p. p)) (λ _. tt)

row_made : (row : Said) (rows : List Said) → Fine row → AllMade (calls_in rows) → AllMade (calls_in (row ∷ rows))
unfolding Fine
row_made (station new) rows p on = on
row_made (item new) rows p on = (p, on)
row_made (arc new) rows p on = (tt, on)

first_made : (b : ℕ) (bs : List ℕ) (r : Result (Said × ℕ) Refusal) → record_of Process (b ∷ bs) ≡ r → FirstFine r → ((k : ℕ) → AllMade (calls_in (said_in Process k bs))) → AllMade (calls_in (said_in Process 0 (b ∷ bs)))
unfolding FirstFine
first_made b bs (Ok (row, n)) is p on = rw (said_row Process b bs row n is) (row_made row (said_in Process (pred n) bs) p (on (pred n)))
first_made b bs (Err e) is p on = rw (said_none Process (b ∷ bs) e is) tt

pub all_made : (skip : ℕ) (bs : List ℕ) → AllBytes bs → AllMade (calls_in (said_in Process skip bs))
unfolding said_in
all_made skip [] h = tt
all_made (suc skip) (b ∷ bs) h = all_made skip bs ((λ i. h (suc i)))
all_made zero (b ∷ bs) h = first_made b bs (record_of Process (b ∷ bs)) refl (record_fine (b ∷ bs) h) (λ k. all_made k bs ((λ i. h (suc i))))
