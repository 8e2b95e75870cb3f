-- How the records of a file follow each other.
use Rattle.std.proofs.Common.{◌≡◌, ℕ, zero, suc, ◌+◌, ◌<◌, ◌≤◌, List, [], ◌∷◌, length, drop, Ok, Err, refl, ap, arith}
use Rattle.std.proofs.lemmas.List.{drop-drop, drop_all}
use Rattle.records.specs.declared.fault.Refusal.{Refusal}
use Rattle.records.specs.declared.fault.SourceFile.{SourceFile}
use Rattle.records.specs.Records.{Said, record_of}
use Rattle.records.specs.Rows.{rows_in}

module _ (file : SourceFile) where
  -- the bytes of a record are passed over
  rows_passed : (k place at : ℕ) (bs : List ℕ) → place + k ≡ at → k ≤ length bs → rows_in file k place bs ≡ rows_in file 0 at (drop k bs)
  unfolding rows_in
  rows_passed zero place at bs e h = let d : place ≡ at = omega arith in ap (λ m. rows_in file 0 m bs) d
  rows_passed (suc k) place at [] e h = absurd (omega arith)
  rows_passed (suc k) place at (b ∷ bs) e h = rows_passed k (place + 1) at bs (omega arith) (omega arith)

  -- the record in front, and those behind it
  pub rows_first : (place n : ℕ) (bs : List ℕ) (row : Said) → 0 < n → n ≤ length bs → Ok (row, n) ≡ record_of file bs → rows_in file 0 place bs ≡ Ok (row, place) ∷ rows_in file 0 (place + n) (drop n bs)
  unfolding rows_in
  rows_first place zero bs row p h e = absurd (omega arith)
  rows_first place (suc n) [] row p h e = absurd (omega arith)
  rows_first place (suc n) (b ∷ bs) row p h e = rw (← e, rows_in) (ap (λ rest. Ok (row, place) ∷ rest) (rows_passed n (place + 1) (place + suc n) bs (omega arith) (omega arith)))

  -- a record that is refused is the last
  pub rows_fault : (place : ℕ) (bs : List ℕ) (r : Refusal) → 0 < length bs → Err r ≡ record_of file bs → rows_in file 0 place bs ≡ Err (record { refusal = r; place = place; file = file }) ∷ []
  unfolding rows_in
  rows_fault place [] r p e = absurd (omega arith)
  rows_fault place (b ∷ bs) r p e = rw (← e, rows_in) refl

  -- no byte is left, and no record
  pub rows_end : (place : ℕ) (bs : List ℕ) → length bs ≡ 0 → rows_in file 0 place bs ≡ []
  unfolding rows_in
  rows_end place [] e = refl
  rows_end place (b ∷ bs) e = absurd (omega arith)

  -- the same, where the bytes are those of a file from a place on
  pub next_row : (place n : ℕ) (bytes : List ℕ) (row : Said) → 0 < n → n ≤ length (drop place bytes) → Ok (row, n) ≡ record_of file (drop place bytes) → rows_in file 0 place (drop place bytes) ≡ Ok (row, place) ∷ rows_in file 0 (place + n) (drop (place + n) bytes)
  next_row place n bytes row p h e = rw (← drop-drop n place bytes) (rows_first place n (drop place bytes) row p h e)

  pub next_fault : (place : ℕ) (bytes : List ℕ) (r : Refusal) → 0 < length (drop place bytes) → Err r ≡ record_of file (drop place bytes) → rows_in file 0 place (drop place bytes) ≡ Err (record { refusal = r; place = place; file = file }) ∷ rows_in file 0 (length bytes) (drop (length bytes) bytes)
  next_fault place bytes r p e = rw (drop_all (length bytes) bytes (omega arith), rows_end (length bytes) [] refl) (rows_fault place (drop place bytes) r p e)

pub fewer : {A : Type 0} (x : A) (xs ys : List A) → xs ≡ x ∷ ys → length ys < length xs
fewer x xs ys e = let n : length xs ≡ length (x ∷ ys) = ap length e in omega (arith, n)
