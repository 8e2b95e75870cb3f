-- The law of each class, from its parts.
use Rattle.std.specs.Prelude.{ℕ, ◌^◌, ◌<◌, ◌≤◌, List, length, Option}
use Rattle.std.proofs.Common.{add-le-add, le_refl, mul-le-mul_right, arith}
use Rattle.model.specs.declared.item.Item.{Item}
use Rattle.model.specs.Laws.{Monotone, StaysBelow, Law}
use Rattle.rules.specs.declared.gateway.Slot.{Slot}
use Rattle.rules.specs.Sums.{Part, Fair, largest_of_weaker, capped, waiting, loading}
use Rattle.rules.specs.Processor.{processor_wait, work}
use Rattle.rules.specs.Can.{can_wait, can_load, frames, queued}
use Rattle.rules.specs.Gateway.{through_slot, gateway_wait, gateway_load, bytes}
use Rattle.rules.specs.SumBounds.{over_stronger_monotone, sum_of_parts_small}
use Rattle.rules.specs.Parts.{ceiling_rises, work_fair, frames_fair, queued_fair, bytes_fair}

capped_rises : {a b : ℕ} → a ≤ b → capped a ≤ capped b
capped_rises h = omega arith

capped_small : (a : ℕ) → capped a < 1000002
capped_small a = omega arith

waiting_monotone : (h : Item → ℕ) (f : Part) → Fair (2 ^ 42) f → Monotone (waiting h f)
waiting_monotone h f fair items s t i hs ht lo lt =
    capped_rises (add-le-add (le_refl (largest_of_weaker h items i)) (over_stronger_monotone _ f fair items s t i hs ht lo lt))

waiting_bounded : (h : Item → ℕ) (f : Part) → StaysBelow 1000002 (waiting h f)
waiting_bounded h f items s i hs lt = capped_small _

loading_monotone : (f : Part) → Fair (2 ^ 33) f → Monotone (loading f)
loading_monotone f fair items s t i hs ht lo lt = add-le-add (le_refl _) (over_stronger_monotone _ f fair items s t i hs ht lo lt)

pub loading_bounded : (f : Part) → Fair (2 ^ 33) f → StaysBelow (2 ^ 40) (loading f)
loading_bounded f fair items s i hs lt =
    omega (arith, hs.valid i lt, sum_of_parts_small (2 ^ 33) f fair items s i (length items) hs lt (le_refl _))

pub processor_law : Law processor_wait (λ _ _ _. 0)
processor_law =
    record {
      wait_monotone = waiting_monotone (λ x. x.held) work work_fair;
      load_monotone = λ _ _ _ _ _ _ _ _. omega arith;
      wait_bounded = waiting_bounded (λ x. x.held) work;
      load_bounded = λ _ _ _ _ _. omega arith;
    }

pub can_law : Law can_wait can_load
can_law =
    record {
      wait_monotone = waiting_monotone (λ x. x.duration) frames frames_fair;
      load_monotone = loading_monotone queued queued_fair;
      wait_bounded = waiting_bounded (λ x. x.duration) frames;
      load_bounded = loading_bounded queued queued_fair;
    }

through_slot_rises : (round capacity a b : ℕ) → a ≤ b → through_slot round capacity a ≤ through_slot round capacity b
through_slot_rises round capacity a b h =
    capped_rises (add-le-add (le_refl round) (mul-le-mul_right round (ceiling_rises a b capacity h)))

pub gateway_law : (slots : List (Option Slot)) → Law (gateway_wait slots) gateway_load
gateway_law slots =
    record {
      wait_monotone = λ items s t i hs ht lo lt. through_slot_rises _ _ _ _ (loading_monotone bytes bytes_fair items s t i hs ht lo lt);
      load_monotone = loading_monotone bytes bytes_fair;
      wait_bounded = λ _ _ _ _ _. capped_small _;
      load_bounded = loading_bounded bytes bytes_fair;
    }
