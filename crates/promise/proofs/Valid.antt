-- A record whose questions were answered with yes is valid.
use Rattle.std.proofs.Common.{◌≡◌, ◌≤◌, true, arith}
use Rattle.std.proofs.lemmas.Bool.Decides.{nat_tests}
use Rattle.model.specs.declared.item.Item.{Item}
use Rattle.model.specs.Items.{has_period, has_limits, has_start, Bytes, Valid}

valid_of : (x : Item) → 1 ≤ x.period → x.period ≤ 1000000 → has_limits x ≡ true → has_start x ≡ true → Bytes x → Valid x
valid_of x low high limits start bytes =
    record {
      period_low = low;
      period_high = high;
      duration_low = grind (arith, nat_tests);
      duration_high = grind (arith, nat_tests);
      deadline_high = grind (arith, nat_tests);
      mark_bit = grind (arith, nat_tests);
      held_within = grind (arith, nat_tests);
      offset_within = grind (arith, nat_tests);
      bytes = bytes;
    }

pub valid_from : (x : Item) → has_period x ≡ true → has_limits x ≡ true → has_start x ≡ true → Bytes x → Valid x
valid_from x period limits start bytes = valid_of x (grind (arith, nat_tests)) (grind (arith, nat_tests)) limits start bytes

-- of a changed record the period is the old one
pub valid_changed : (old x : Item) → Valid old → old.period ≡ x.period → has_limits x ≡ true → has_start x ≡ true → Bytes x → Valid x
valid_changed old x v e limits start bytes = valid_of x (omega (arith, v.period_low)) (omega (arith, v.period_high)) limits start bytes
