-- No number below n passes a test, told by what `any` and `all` answer.
use Rattle.std.proofs.Common.{◌≡◌, ℕ, zero, suc, ◌<◌, Bool, true, false, not, List, length, slice_index_or, refl, sym, subst, arith, ⊎_elim}
use Rattle.std.specs.Bool.{MatchBool}
use Rattle.std.specs.List.{range_with_len, AllWithin, HoldsAt}
use Rattle.std.proofs.lemmas.Bool.{and_right, cases_eq}
use Rattle.std.proofs.lemmas.List.FromFn.{length-range_with_len, get_or-range_with_len}
use Rattle.promise.specs.Calls.{none_to}

pub none_hit : (f : ℕ → Bool) (n k : ℕ) → k < n → f k ≡ true → none_to f n ≡ false
none_hit f zero k l e = absurd (omega arith)
none_hit f (suc n) k l e =
    ⊎_elim (λ (same : k ≡ n). let hit : f n ≡ true = rw (← same) e in rw hit (and_right (none_to f n) false refl))
    (λ other. rw (none_hit f n k (omega arith) e) refl) (cases_eq k n)

pub none_miss : (f : ℕ → Bool) (n : ℕ) → ((k : ℕ) → k < n → f k ≡ false) → none_to f n ≡ true
none_miss f zero h = refl
none_miss f (suc n) h = rw (h n (omega arith), none_miss f n (λ k l. h k (omega arith))) refl

module _ {X : Type 0} (p : X → Bool) (d : X) (xs : List X) where
  -- what `any` answers of a list
  pub none_by_any : (r : Bool) → MatchBool r ((k : ℕ) × (k < length xs) × HoldsAt (λ x. p x ≡ true) xs k) (AllWithin (λ x. p x ≡ false) xs 0 (length xs)) → not r ≡ none_to (λ k. p (slice_index_or xs k d)) (length xs)
  none_by_any true (k, l, h) = sym (none_hit _ _ k l (h d))
  none_by_any false all = sym (none_miss _ _ (λ k l. all k d (omega arith) l))

-- what `all` answers of the numbers below n
pub none_by_all : (f : ℕ → Bool) (n : ℕ) (r : Bool) → MatchBool r (AllWithin (λ k. f k ≡ false) (range_with_len 0 n) 0 (length (range_with_len 0 n))) ((k : ℕ) × (k < length (range_with_len 0 n)) × HoldsAt (λ k. f k ≡ true) (range_with_len 0 n) k) → r ≡ none_to f n
none_by_all f n true all =
    sym (none_miss f n (λ k l. let nth : slice_index_or (range_with_len 0 n) k 0 ≡ k = omega (arith, get_or-range_with_len 0 n k 0 l) in
    subst (λ j. f j ≡ false) nth (all k 0 (omega arith) (omega (arith, length-range_with_len 0 n)))))
none_by_all f n false (k, l, h) =
    let inside : k < n = omega (arith, length-range_with_len 0 n) in
    let nth : slice_index_or (range_with_len 0 n) k 0 ≡ k = omega (arith, get_or-range_with_len 0 n k 0 inside) in
    sym (none_hit f n k inside (subst (λ j. f j ≡ true) nth (h 0)))
