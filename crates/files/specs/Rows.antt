-- A file is a row of records, taken in one after the other.
use Rattle.std.specs.Prelude.{ℕ, zero, suc, pred, ◌+◌, cond, List, [], ◌∷◌, length, Ok, Err, Result, nat_le}
use Rattle.records.specs.declared.fault.Fault.{Fault}
use Rattle.records.specs.declared.fault.Refusal.{Refusal}
use Rattle.records.specs.declared.fault.Refusal.TheVariants.{TooLong}
use Rattle.records.specs.declared.fault.SourceFile.{SourceFile}
use Rattle.records.specs.Records.{Said, then, record_of}

-- what an answer says of the state that it leaves
abbrev pub left_as : {S E : Type 0} → Result (Unit {0}) E → S → Result S E
left_as (Ok u) s = Ok s
left_as (Err e) s = Err e

abbrev pub answer_of : {S E : Type 0} → Result S E → Result (Unit {0}) E
answer_of (Ok s) = Ok tt
answer_of (Err e) = Err e

-- the state after the record in front, and that record's length
abbrev pub step_of : {S : Type 0} → (S → Said → Result S Refusal) → SourceFile → List ℕ → S → Result (S × ℕ) Refusal
step_of takes file bs s = then (record_of file bs) (λ p. then (takes s p.0) (λ t. Ok (t, p.1)))

-- the state after all records, or the first fault: `skip` bytes of a record are still to pass over,
-- and then the next one stands at `place`
unfoldable pub walk : {S : Type 0} → (List ℕ → S → Result (S × ℕ) Refusal) → SourceFile → ℕ → ℕ → List ℕ → S → Result S Fault
walk step file skip place [] s = Ok s
walk step file (suc skip) place (b ∷ bs) s = walk step file skip (place + 1) bs s
walk step file zero place (b ∷ bs) s =
    elim (step (b ∷ bs) s)
    [ Ok p ↦ walk step file (pred p.1) (place + 1) bs p.0 | Err e ↦ Err (record { refusal = e; place = place; file = file }) ]

-- is the file at most 16,384 bytes? then its records in order
abbrev pub rows_of : {S : Type 0} → (S → Said → Result S Refusal) → SourceFile → List ℕ → S → Result S Fault
rows_of takes file bs s = cond (nat_le (length bs) 16384) (walk (step_of takes file) file 0 0 bs s) (Err (record { refusal = TooLong; place = 0; file = file }))

-- what the records of a file say, in order, up to the first that is refused for itself; `skip` bytes of one
-- are still to pass over
unfoldable pub said_in : SourceFile → ℕ → List ℕ → List Said
said_in file skip [] = []
said_in file (suc skip) (b ∷ bs) = said_in file skip bs
said_in file zero (b ∷ bs) = elim (record_of file (b ∷ bs)) [ Ok p ↦ p.0 ∷ said_in file (pred p.1) bs | Err e ↦ [] ]
