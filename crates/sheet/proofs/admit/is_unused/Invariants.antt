use Rattle.std.proofs.Common.{◌≡◌, ℕ, ◌<◌, false, not, ◌&&◌, ◌==◌, slice_index_or}
use Rattle.model.specs.Items.{no_item}
use Rattle.promise.specs.Calls.{rivals}
use Rattle.sheet.proofs.admit.is_unused.Given as goal

abbrev pub invariant-loop-j : goal.invariant-loop-j
invariant-loop-j l = (k : ℕ) → k < l.j → (not (k == l.number) && rivals l.item (slice_index_or l.items k no_item)) ≡ false
