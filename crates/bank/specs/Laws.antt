-- The law of a bank, from those of its front and of what is behind, and that of a rule with no wait and no load.
use Rattle.std.specs.Prelude.{ℕ, ◌<◌, ◌≤◌, true, false, cond, ◌==◌, slice_index_or}
use Rattle.model.specs.Items.{no_item}
use Rattle.model.specs.Laws.{Reckoning, Monotone, StaysBelow, Law}
use Rattle.std.proofs.Common.{arith}
use Rattle.bank.specs.Bank.{chosen}

chosen_monotone : (n : ℕ) (f g : Reckoning) → Monotone f → Monotone g → Monotone (chosen n f g)
chosen_monotone n f g mf mg items s t i hs ht lo h =
    elim ((slice_index_or items i no_item).class == n) as (λ v. cond v (f items s i) (g items s i) ≤ cond v (f items t i) (g items t i))
    [ true ↦ mf items s t i hs ht lo h | false ↦ mg items s t i hs ht lo h ]

chosen_bounded : (n m : ℕ) (f g : Reckoning) → StaysBelow m f → StaysBelow m g → StaysBelow m (chosen n f g)
chosen_bounded n m f g bf bg items s i hs h =
    elim ((slice_index_or items i no_item).class == n) as (λ v. cond v (f items s i) (g items s i) < m)
    [ true ↦ bf items s i hs h | false ↦ bg items s i hs h ]

pub bank_law : (n : ℕ) (w l w' l' : Reckoning) → Law w l → Law w' l' → Law (chosen n w w') (chosen n l l')
bank_law n w l w' l' p q =
    record {
      wait_monotone = chosen_monotone n w w' p.wait_monotone q.wait_monotone;
      load_monotone = chosen_monotone n l l' p.load_monotone q.load_monotone;
      wait_bounded = chosen_bounded n _ w w' p.wait_bounded q.wait_bounded;
      load_bounded = chosen_bounded n _ l l' p.load_bounded q.load_bounded;
    }

pub nothing_law : Law (λ _ _ _. 0) (λ _ _ _. 0)
nothing_law =
    record {
      wait_monotone = λ _ _ _ _ _ _ _ _. omega arith;
      load_monotone = λ _ _ _ _ _ _ _ _. omega arith;
      wait_bounded = λ _ _ _ _ _. omega arith;
      load_bounded = λ _ _ _ _ _. omega arith;
    }
