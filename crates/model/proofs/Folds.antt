-- Sums and largests rise with their terms, and stay small where these do.
use Rattle.std.proofs.Common.{ℕ, zero, suc, ◌*◌, ◌<◌, ◌≤◌, Bool, true, false, cond, add-le-add, arith}
use native.Mathlib.Nat.{max-le}
use Rattle.model.specs.Folds.{sum_to, largest_to}

pub sum_to_rises : (f g : ℕ → ℕ) (n : ℕ) → ((j : ℕ) → j < n → f j ≤ g j) → sum_to f n ≤ sum_to g n
sum_to_rises f g zero h = omega arith
sum_to_rises f g (suc n) h = add-le-add (sum_to_rises f g n (λ j lt. h j (omega arith))) (h n (omega arith))

pub sum_to_small : (f : ℕ → ℕ) (m n : ℕ) → ((j : ℕ) → j < n → f j ≤ m) → sum_to f n ≤ n * m
sum_to_small f m zero h = omega arith
sum_to_small f m (suc n) h = omega (arith, sum_to_small f m n (λ j lt. h j (omega arith)), h n (omega arith))

pub cond_rises : (b : Bool) {m n : ℕ} → m ≤ n → cond b m 0 ≤ cond b n 0
cond_rises true h = h
cond_rises false h = omega arith

pub cond_small : (b : Bool) {m n : ℕ} → m ≤ n → cond b m 0 ≤ n
cond_small true h = h
cond_small false h = omega arith

pub largest_to_rises : (f g : ℕ → ℕ) (n : ℕ) → ((j : ℕ) → j < n → f j ≤ g j) → largest_to f n ≤ largest_to g n
largest_to_rises f g zero h = omega arith
largest_to_rises f g (suc n) h = omega (arith, largest_to_rises f g n (λ j lt. h j (omega arith)), h n (omega arith))

pub largest_to_small : (f : ℕ → ℕ) (m n : ℕ) → ((j : ℕ) → j < n → f j ≤ m) → largest_to f n ≤ m
largest_to_small f m zero h = omega arith
largest_to_small f m (suc n) h = max-le (largest_to_small f m n (λ j lt. h j (omega arith))) (h n (omega arith))

pub largest_to_above : (f : ℕ → ℕ) (n j : ℕ) → j < n → f j ≤ largest_to f n
largest_to_above f zero j l = absurd (omega arith)
largest_to_above f (suc n) j l = grind (arith, largest_to_above f n j)
