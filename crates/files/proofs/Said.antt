-- What the records of a file say, by its rows.
use Rattle.std.proofs.Common.{◌≡◌, ℕ, zero, suc, pred, ◌+◌, List, [], ◌∷◌, Ok, Err, Result, refl, ap, arith}
use Rattle.std.specs.List.{filter_map}
use Rattle.records.specs.declared.fault.Fault.{Fault}
use Rattle.records.specs.declared.fault.Refusal.{Refusal}
use Rattle.records.specs.declared.fault.SourceFile.{SourceFile}
use Rattle.records.specs.declared.fault.SourceFile.TheVariants.{Process}
use Rattle.records.specs.Records.{Said, record_of}
use Rattle.records.specs.Rows.{rows_in}
use Rattle.files.specs.Names.{name_of}
use Rattle.files.specs.Process.{names_in}
use Rattle.files.specs.Rows.{said_in}

-- what rows say, up to the first fault
unfoldable pub sayings : List (Result (Said × ℕ) Fault) → List Said
sayings [] = []
sayings (Ok row ∷ rows) = row.0 ∷ sayings rows
sayings (Err fault ∷ rows) = []

module _ (file : SourceFile) where
  pub said_row : (b : ℕ) (bs : List ℕ) (row : Said) (n : ℕ) → record_of file (b ∷ bs) ≡ Ok (row, n) → said_in file 0 (b ∷ bs) ≡ row ∷ said_in file (pred n) bs
  unfolding said_in
  said_row b bs row n e = rw (e, said_in) refl

  -- no record in front: there is none
  pub said_none : (bs : List ℕ) (r : Refusal) → record_of file bs ≡ Err r → said_in file 0 bs ≡ []
  unfolding said_in
  said_none [] r e = refl
  said_none (b ∷ bs) r e = rw (e, said_in) refl

  said_front : (place b : ℕ) (bs : List ℕ) (r : Result (Said × ℕ) Refusal) → record_of file (b ∷ bs) ≡ r → ((k : ℕ) → said_in file k bs ≡ sayings (rows_in file k (place + 1) bs)) → said_in file 0 (b ∷ bs) ≡ sayings (rows_in file 0 place (b ∷ bs))
  unfolding said_in rows_in sayings
  said_front place b bs (Ok (row, n)) e on = rw (e, said_in, rows_in, sayings) (ap (λ rows. row ∷ rows) (on (pred n)))
  said_front place b bs (Err f) e on = rw (e, said_in, rows_in, sayings) refl

  pub said_rows : (skip place : ℕ) (bs : List ℕ) → said_in file skip bs ≡ sayings (rows_in file skip place bs)
  unfolding said_in rows_in sayings
  said_rows skip place [] = refl
  said_rows (suc skip) place (b ∷ bs) = said_rows skip (place + 1) bs
  said_rows zero place (b ∷ bs) = said_front place b bs (record_of file (b ∷ bs)) refl (λ k. said_rows k (place + 1) bs)

-- the names in a process file are those of its rows
names_said : (row : Said) (place : ℕ) (rows : List Said) (others : List (Result (Said × ℕ) Fault)) → names_in rows ≡ filter_map name_of others → names_in (row ∷ rows) ≡ filter_map name_of (Ok (row, place) ∷ others)
names_said row place rows others e = grind arith

names_front : (place b : ℕ) (bs : List ℕ) (r : Result (Said × ℕ) Refusal) → record_of Process (b ∷ bs) ≡ r → ((k : ℕ) → names_in (said_in Process k bs) ≡ filter_map name_of (rows_in Process k (place + 1) bs)) → names_in (said_in Process 0 (b ∷ bs)) ≡ filter_map name_of (rows_in Process 0 place (b ∷ bs))
unfolding said_in rows_in
names_front place b bs (Ok (row, n)) e on = rw (e, said_in, rows_in) (names_said row place (said_in Process (pred n) bs) (rows_in Process (pred n) (place + 1) bs) (on (pred n)))
names_front place b bs (Err f) e on = rw (e, said_in, rows_in) refl

pub names_rows : (skip place : ℕ) (bs : List ℕ) → names_in (said_in Process skip bs) ≡ filter_map name_of (rows_in Process skip place bs)
unfolding said_in rows_in
names_rows skip place [] = refl
names_rows (suc skip) place (b ∷ bs) = names_rows skip (place + 1) bs
names_rows zero place (b ∷ bs) = names_front place b bs (record_of Process (b ∷ bs)) refl (λ k. names_rows k (place + 1) bs)
