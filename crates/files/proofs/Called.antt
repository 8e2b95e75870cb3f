-- A process file without fault makes the sheet that its entries and arcs make.
use Rattle.std.proofs.Common.{◌≡◌, ℕ, Bool, false, cond, leb, List, [], ◌∷◌, length, Ok, Err, Result, sym, refl, ap, ◌∙◌, arith}
use Rattle.promise.specs.declared.outcome.Refusal.{Refusal as CallRefusal}
use Rattle.promise.specs.State.{Meaning, State, empty}
use Rattle.promise.specs.Calls.{Call, entry, arc as join, then as answering, entry_ask, arc_ask, left, after, after_all}
use Rattle.records.specs.declared.fault.Fault.{Fault}
use Rattle.records.specs.declared.fault.Refusal.{Refusal}
use Rattle.records.specs.declared.fault.Refusal.TheVariants.{TooLong}
use Rattle.records.specs.declared.fault.SourceFile.TheVariants.{Process}
use Rattle.records.specs.Records.{Said, station, item, arc}
use Rattle.files.specs.Process.{called, with_row, sheet_of, calls_in, calls_of}
use Rattle.records.specs.Rows.{rows_in}
use Rattle.files.specs.Rows.{said_in, step_of, walk}
use Rattle.files.proofs.Said.{sayings, said_rows}
use Rattle.files.proofs.Walks.{taken, taken_end, taken_fault, taken_row, taken_refused, walked}

pub then_err : {X : Type 0} (a : Result (Unit {0}) CallRefusal) (x : X) (e : CallRefusal) → answering a (Ok x) ≡ Err e → a ≡ Err e
then_err a x e h = grind arith

module _ (m : Meaning) where
  called_ok : (s t : State) (c : Call) (r : Result (Unit {0}) CallRefusal) → called m s c r ≡ Ok t → after m s c ≡ t
  called_ok s t c r e = grind arith

  -- a row that is taken in is one call made
  row_called : (s t : State) (row : Said) (rows : List Said) → with_row m s row ≡ Ok t → after_all m s (calls_in (row ∷ rows)) ≡ after_all m t (calls_in rows)
  row_called s t (station new) rows e = absurd cc
  row_called s t (item new) rows e = ap (λ u. after_all m u (calls_in rows)) (called_ok s t (entry new.item) (entry_ask m s new.item) e)
  row_called s t (arc new) rows e = ap (λ u. after_all m u (calls_in rows)) (called_ok s t (join new.from new.to) (arc_ask s new.from new.to) e)

  taken_on : (said : Said) (place : ℕ) (rows : List (Result (Said × ℕ) Fault)) (s t : State) (r : Result State Refusal) → with_row m s said ≡ r → taken (with_row m) Process (Ok (said, place) ∷ rows) s ≡ Ok t → ((u : State) → taken (with_row m) Process rows u ≡ Ok t → t ≡ after_all m u (calls_in (sayings rows))) → t ≡ after_all m s (calls_in (said ∷ sayings rows))
  taken_on said place rows s t (Ok u) is e on =
      on u (cc (taken_row (with_row m) Process said place rows s u (sym is))) ∙ sym (row_called s u said (sayings rows) is)
  taken_on said place rows s t (Err f) is e on = absurd (cc (taken_refused (with_row m) Process said place rows s f (sym is)))

  -- the rows that are all taken in are the calls made
  taken_called : (rows : List (Result (Said × ℕ) Fault)) (s t : State) → taken (with_row m) Process rows s ≡ Ok t → t ≡ after_all m s (calls_in (sayings rows))
  unfolding sayings
  taken_called [] s t e = cc (taken_end (with_row m) Process s)
  taken_called (Err f ∷ rows) s t e = absurd (cc (taken_fault (with_row m) Process f rows s))
  taken_called (Ok row ∷ rows) s t e = taken_on row.0 row.1 rows s t (with_row m s row.0) refl e (λ u. taken_called rows u t)

  granted_unbroken : (s t : State) (r : Result (Unit {0}) CallRefusal) → s.broken ≡ false → t.broken ≡ false → (left r t s).broken ≡ false
  granted_unbroken s t r h g = grind arith

  -- no entry and no arc breaks a sheet
  unbroken : (rows : List Said) (s : State) → s.broken ≡ false → (after_all m s (calls_in rows)).broken ≡ false
  unbroken [] s h = h
  unbroken (station new ∷ rows) s h = unbroken rows s h
  unbroken (item new ∷ rows) s h = unbroken rows (after m s (entry new.item)) (granted_unbroken s _ (entry_ask m s new.item) h refl)
  unbroken (arc new ∷ rows) s h = unbroken rows (after m s (join new.from new.to)) (granted_unbroken s _ (arc_ask s new.from new.to) h refl)

  short : (b : Bool) (r : Result State Fault) (f : Fault) (t : State) → cond b r (Err f) ≡ Ok t → r ≡ Ok t
  short b r f t e = grind arith

  pub sheet_called : (bs : List ℕ) (t : State) → Ok t ≡ sheet_of m bs → t ≡ after_all m empty (calls_of bs)
  sheet_called bs t e =
      let whole : walk (step_of (with_row m) Process) Process 0 0 bs empty ≡ Ok t = short (leb (length bs) 16384) (walk (step_of (with_row m) Process) Process 0 0 bs empty) (record { refusal = TooLong; place = 0; file = Process }) t (sym e) in
      rw (said_rows Process 0 0 bs) (taken_called (rows_in Process 0 0 bs) empty t (sym (walked (with_row m) Process 0 0 bs empty) ∙ whole))

  pub sheet_unbroken : (bs : List ℕ) (t : State) → Ok t ≡ sheet_of m bs → t.broken ≡ false
  sheet_unbroken bs t e = ap (λ (s : State). s.broken) (sheet_called bs t e) ∙ unbroken (said_in Process 0 bs) empty refl
