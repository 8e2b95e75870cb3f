-- The queue bound that is answered: the largest load there, and the smallest number that reaches it.
use Rattle.std.proofs.Common.{◌≡◌, ℕ, zero, suc, ◌<◌, ◌≤◌, Bool, true, false, cond, ltb, List, get_or, Some, None, Option, refl, arith}
use Rattle.std.proofs.lemmas.Bool.{cond_both, both_ways}
use Rattle.std.proofs.lemmas.Bool.Decides.{nat_tests}
use Rattle.model.specs.declared.item.Item.{Item}
use Rattle.model.specs.Items.{no_item}
use Rattle.model.specs.Folds.{largest_to}
use Rattle.model.proofs.Folds.{largest_to_small, largest_to_above}
use Rattle.promise.specs.declared.outcome.QueueBound.{QueueBound}
use Rattle.promise.specs.Calls.{larger, bound_to}

module _ (belongs : Item → Bool) (load : ℕ → ℕ) (xs : List Item) where
  abbrev pub is_at : ℕ → Bool
  is_at i = belongs (get_or xs i no_item)

  abbrev pub load_at : ℕ → ℕ
  load_at i = cond (is_at i) (load i) 0

  pub record BestTo (n : ℕ) (b : QueueBound) : Type 0 where
    pub bytes : b.bytes ≡ largest_to load_at n
    pub inside : b.item < n
    pub there : is_at b.item ≡ true
    pub reached : load b.item ≡ b.bytes
    pub first : (j : ℕ) → j < b.item → is_at j ≡ true → load j < b.bytes

  abbrev pub Best : ℕ → Option QueueBound → Type 0
  Best n None = (i : ℕ) → i < n → is_at i ≡ false
  Best n (Some b) = BestTo n b

  largest_none : (n : ℕ) → ((i : ℕ) → i < n → is_at i ≡ false) → largest_to load_at n ≤ 0
  largest_none n h = largest_to_small load_at 0 n (λ j l. grind (arith, h j))

  below_largest : (n j : ℕ) → j < n → is_at j ≡ true → load j ≤ largest_to load_at n
  below_largest n j l e = grind (arith, largest_to_above load_at n j l)

  best_yes : (n : ℕ) (o : Option QueueBound) → is_at n ≡ true → Best n o → Best (suc n) (larger o (load n) n)
  best_yes n None e h =
      record {
        bytes = grind (arith, largest_none n h);
        inside = omega arith;
        there = e;
        reached = refl;
        first = λ j l t. absurd (both_ways (is_at j) (h j l) t);
      }
  best_yes n (Some b) e h =
      cond_both (ltb b.bytes (load n)) (Some (record { bytes = load n; item = n })) (Some b) (Best (suc n))
      (λ lt. record {
        bytes = grind (arith, nat_tests, h.bytes);
        inside = omega arith;
        there = e;
        reached = refl;
        first = λ j l t. grind (arith, nat_tests, h.bytes, below_largest n j l t);
      })
      (λ ge. record {
        bytes = grind (arith, nat_tests, h.bytes);
        inside = omega (arith, h.inside);
        there = h.there;
        reached = h.reached;
        first = h.first;
      })

  best_no : (n : ℕ) (o : Option QueueBound) → is_at n ≡ false → Best n o → Best (suc n) o
  best_no n None e h = λ i l. grind (arith, h)
  best_no n (Some b) e h =
      record {
        bytes = grind (arith, h.bytes);
        inside = omega (arith, h.inside);
        there = h.there;
        reached = h.reached;
        first = h.first;
      }

  pub best : (n : ℕ) → Best n (bound_to belongs load xs n)
  best zero = λ i l. absurd (omega arith)
  best (suc n) =
      cond_both (is_at n) (larger (bound_to belongs load xs n) (load n) n) (bound_to belongs load xs n) (Best (suc n))
      (λ e. best_yes n (bound_to belongs load xs n) e (best n))
      (λ e. best_no n (bound_to belongs load xs n) e (best n))
