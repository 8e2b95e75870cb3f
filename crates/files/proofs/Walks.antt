-- A walk over the bytes of a file is a walk over its records.
use Rattle.std.proofs.Common.{◌≡◌, ℕ, zero, suc, pred, ◌+◌, ◌≤◌, List, [], ◌∷◌, length, Ok, Err, Result, sym, refl}
use Rattle.std.proofs.lemmas.Bool.{le-leb}
use Rattle.records.specs.declared.fault.Fault.{Fault}
use Rattle.records.specs.declared.fault.Refusal.{Refusal}
use Rattle.records.specs.declared.fault.SourceFile.{SourceFile}
use Rattle.records.specs.Records.{Said, record_of}
use Rattle.records.specs.Rows.{rows_in}
use Rattle.files.specs.Rows.{step_of, walk, rows_of}

-- the state after these records, or the first fault
unfoldable pub taken : {S : Type 0} → (S → Said → Result S Refusal) → SourceFile → List (Result (Said × ℕ) Fault) → S → Result S Fault
taken takes file [] s = Ok s
taken takes file (Err fault ∷ rows) s = Err fault
taken takes file (Ok row ∷ rows) s = elim (takes s row.0) [ Ok t ↦ taken takes file rows t | Err e ↦ Err (record { refusal = e; place = row.1; file = file }) ]

module _ {S : Type 0} (takes : S → Said → Result S Refusal) (file : SourceFile) where
  pub taken_end : (s : S) → taken takes file [] s ≡ Ok s
  unfolding taken
  taken_end s = refl

  pub taken_fault : (fault : Fault) (rows : List (Result (Said × ℕ) Fault)) (s : S) → taken takes file (Err fault ∷ rows) s ≡ Err fault
  unfolding taken
  taken_fault fault rows s = refl

  pub taken_row : (said : Said) (place : ℕ) (rows : List (Result (Said × ℕ) Fault)) (s t : S) → Ok t ≡ takes s said → taken takes file (Ok (said, place) ∷ rows) s ≡ taken takes file rows t
  unfolding taken
  taken_row said place rows s t e = rw (← e, taken) refl

  pub taken_refused : (said : Said) (place : ℕ) (rows : List (Result (Said × ℕ) Fault)) (s : S) (e : Refusal) → Err e ≡ takes s said → taken takes file (Ok (said, place) ∷ rows) s ≡ Err (record { refusal = e; place = place; file = file })
  unfolding taken
  taken_refused said place rows s r e = rw (← e, taken) refl

  after_row : (said : Said) (n place b : ℕ) (bs : List ℕ) (s : S) (r : Result S Refusal) → Ok (said, n) ≡ record_of file (b ∷ bs) → takes s said ≡ r → ((k : ℕ) (t : S) → walk (step_of takes file) file k (place + 1) bs t ≡ taken takes file (rows_in file k (place + 1) bs) t) → walk (step_of takes file) file 0 place (b ∷ bs) s ≡ taken takes file (rows_in file 0 place (b ∷ bs)) s
  unfolding walk taken rows_in
  after_row said n place b bs s (Ok t) read e on = rw (← read, e, walk, rows_in, taken) (on (pred n) t)
  after_row said n place b bs s (Err f) read e on = rw (← read, e, walk, rows_in, taken) refl

  walked_row : (place b : ℕ) (bs : List ℕ) (s : S) (r : Result (Said × ℕ) Refusal) → record_of file (b ∷ bs) ≡ r → ((k : ℕ) (t : S) → walk (step_of takes file) file k (place + 1) bs t ≡ taken takes file (rows_in file k (place + 1) bs) t) → walk (step_of takes file) file 0 place (b ∷ bs) s ≡ taken takes file (rows_in file 0 place (b ∷ bs)) s
  unfolding walk taken rows_in
  walked_row place b bs s (Ok (said, n)) e on = after_row said n place b bs s (takes s said) (sym e) refl on
  walked_row place b bs s (Err f) e on = rw (e, walk, rows_in, taken) refl

  pub walked : (skip place : ℕ) (bs : List ℕ) (s : S) → walk (step_of takes file) file skip place bs s ≡ taken takes file (rows_in file skip place bs) s
  unfolding walk taken rows_in
  walked skip place [] s = refl
  walked (suc skip) place (b ∷ bs) s = walked skip (place + 1) bs s
  walked zero place (b ∷ bs) s = walked_row place b bs s (record_of file (b ∷ bs)) refl (λ k t. walked k (place + 1) bs t)

  rows_taken : (bs : List ℕ) (s : S) → length bs ≤ 16384 → rows_of takes file bs s ≡ taken takes file (rows_in file 0 0 bs) s
  rows_taken bs s h = rw (le-leb (length bs) 16384 h) (walked 0 0 bs s)

  -- what is left of a walk, once it is known, is what the whole walk comes to
  pub rows_come : (bs : List ℕ) (s u : S) (left rows : List (Result (Said × ℕ) Fault)) (r : Result S Fault) → length bs ≤ 16384 → taken takes file left u ≡ taken takes file (rows_in file 0 0 bs) s → left ≡ rows → taken takes file rows u ≡ r → rows_of takes file bs s ≡ r
  rows_come bs s u left rows r short same is e = cc (rows_taken bs s short)
