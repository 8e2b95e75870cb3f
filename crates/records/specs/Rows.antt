-- A file is a row of records, each with its place.
use Rattle.std.specs.Prelude.{ℕ, zero, suc, pred, ◌+◌, List, [], ◌∷◌, drop, Ok, Err, Result}
use Rattle.records.specs.declared.fault.Fault.{Fault}
use Rattle.records.specs.declared.fault.SourceFile.{SourceFile}
use Rattle.records.specs.declared.rows.Row.{Row}
use Rattle.records.specs.declared.rows.Rows.{Rows}
use Rattle.records.specs.Records.{Said, said, record_of}

-- a record whose name is a list of bytes, with its place
abbrev pub row_as : Result Row Fault → Result (Said × ℕ) Fault
row_as (Ok row) = Ok (said row.record, row.place)
row_as (Err fault) = Err fault

-- the records in order, up to the first that is refused for itself: `skip` bytes of one are still to pass
-- over, and then the next one stands at `place`
unfoldable pub rows_in : SourceFile → ℕ → ℕ → List ℕ → List (Result (Said × ℕ) Fault)
rows_in file skip place [] = []
rows_in file (suc skip) place (b ∷ bs) = rows_in file skip (place + 1) bs
rows_in file zero place (b ∷ bs) =
    elim (record_of file (b ∷ bs))
    [ Ok p ↦ Ok (p.0, place) ∷ rows_in file (pred p.1) (place + 1) bs | Err e ↦ Err (record { refusal = e; place = place; file = file }) ∷ [] ]

-- the records that are still to come
abbrev pub rows_left : Rows → List (Result (Said × ℕ) Fault)
rows_left rows = rows_in rows.file 0 rows.place (drop rows.place rows.bytes.now)
