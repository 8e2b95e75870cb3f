-- A file that is put to its own questions alone is refused by one of those, and by no call.
use Rattle.std.proofs.Common.{◌≡◌, ℕ, zero, suc, pred, ◌+◌, ◌≤◌, leb, List, [], ◌∷◌, length, Ok, Err, Result, refl, sym, subst, arith}
use Rattle.std.specs.Result.{IfErr}
use Rattle.std.proofs.lemmas.Bool.{cond_both}
use Rattle.records.specs.declared.fault.Fault.{Fault}
use Rattle.records.specs.declared.fault.Refusal.{Refusal}
use Rattle.records.specs.declared.fault.Refusal.TheVariants.{TooLong}
use Rattle.records.specs.declared.fault.SourceFile.{SourceFile}
use Rattle.records.specs.declared.fault.SourceFile.TheVariants.{Cell, Process}
use Rattle.records.specs.declared.record.Figures.{Figures}
use Rattle.records.specs.declared.record.Figures.TheVariants.{Table, Processor, Can, Gateway}
use Rattle.records.specs.Faults.{number_of}
use Rattle.records.specs.Records.{Said, station, item, arc, record_of}
use Rattle.records.proofs.Own.{Own, then_own, record_own}
use Rattle.files.specs.declared.cell.Classes.{Classes}
use Rattle.files.specs.Cell.{no_stations, with_station, with_record, classes_of}
use Rattle.files.specs.Process.{check_of}
use Rattle.files.specs.Rows.{answer_of, step_of, walk, rows_of}

abbrev pub FileOwn : {S : Type 0} → Result S Fault → Type 0
FileOwn r = IfErr r (λ f. number_of f.refusal ≤ 7)

module _ {S : Type 0} (takes : S → Said → Result S Refusal) (own : (s : S) (said : Said) → Own (takes s said)) (file : SourceFile) where
  step_own : (bs : List ℕ) (s : S) → Own (step_of takes file bs s)
  step_own bs s = then_own (record_of file bs) _ (record_own file bs) (λ p. then_own (takes s p.0) _ (own s p.0) (λ t. tt))

  front_own : (place b : ℕ) (bs : List ℕ) (s : S) (r : Result (S × ℕ) Refusal) → step_of takes file (b ∷ bs) s ≡ r → Own r → ((k : ℕ) (t : S) → FileOwn (walk (step_of takes file) file k (place + 1) bs t)) → FileOwn (walk (step_of takes file) file 0 place (b ∷ bs) s)
  unfolding walk
  front_own place b bs s (Ok (t, n)) e h on = rw (e, walk) (on (pred n) t)
  front_own place b bs s (Err f) e h on = rw (e, walk) h

  walk_own : (skip place : ℕ) (bs : List ℕ) (s : S) → FileOwn (walk (step_of takes file) file skip place bs s)
  unfolding walk
  walk_own skip place [] s = tt
  walk_own (suc skip) place (b ∷ bs) s = walk_own skip (place + 1) bs s
  walk_own zero place (b ∷ bs) s = front_own place b bs s (step_of takes file (b ∷ bs) s) refl (step_own (b ∷ bs) s) (λ k t. walk_own k (place + 1) bs t)

  rows_own : (bs : List ℕ) (s : S) → FileOwn (rows_of takes file bs s)
  rows_own bs s = cond_both (leb (length bs) 16384) (walk (step_of takes file) file 0 0 bs s) (Err (record { refusal = TooLong; place = 0; file = file })) FileOwn (λ _. walk_own 0 0 bs s) (λ _. omega arith)

answer_own : {S : Type 0} (r : Result S Fault) → FileOwn r → FileOwn (answer_of r)
answer_own (Ok s) h = tt
answer_own (Err f) h = h

pub check_own : (bs : List ℕ) → FileOwn (check_of bs)
check_own bs = answer_own _ (rows_own (λ s said. Ok s) (λ s said. tt) Process bs tt)

station_own : (c : Classes) (n : ℕ) (f : Figures) → Own (with_station c n f)
station_own c n Table = grind arith
station_own c n Processor = grind arith
station_own c n (Can bus) = grind arith
station_own c n (Gateway slot) = grind arith

added_own : (c : Classes) (said : Said) → Own (with_record c said)
added_own c (station new) = station_own c new.station new.figures
added_own c (item new) = omega arith
added_own c (arc new) = omega arith

pub cell_own : (bs : List ℕ) (f : Fault) → Err f ≡ classes_of bs → number_of f.refusal ≤ 7
cell_own bs f e = subst FileOwn (sym e) (rows_own with_record added_own Cell bs no_stations)
