-- Every item waits the same stretch, and queues its own bytes only, at most 254 of them.
use Rattle.std.specs.Prelude.{ℕ, min, Bool, not, ◌==◌, slice_index_or}
use Rattle.std.proofs.Common.{le_refl, arith}
use Rattle.model.specs.declared.item.Item.{Item}
use Rattle.model.specs.Items.{no_item}
use Rattle.model.specs.Laws.{Reckoning, Law}
use Rattle.promise.specs.State.{Meaning}

abbrev pub flat_admits : Item → Bool
flat_admits x = not (x.size == 255)

abbrev pub flat_wait : ℕ → Reckoning
flat_wait stretch items times i = min stretch 1000001

abbrev pub flat_load : Reckoning
flat_load items times i = (slice_index_or items i no_item).size

abbrev pub flatly : ℕ → Meaning
flatly stretch = record { admits = flat_admits; wait = flat_wait stretch; load = flat_load }

pub flat_law : (stretch : ℕ) → Law (flat_wait stretch) flat_load
flat_law stretch =
    record {
      wait_monotone = λ _ _ _ _ _ _ _ _. le_refl _;
      load_monotone = λ _ _ _ _ _ _ _ _. le_refl _;
      wait_bounded = λ _ _ _ _ _. omega arith;
      load_bounded = λ items s i handed inside. omega (arith, (handed.valid i inside).bytes.size_fits);
    }
