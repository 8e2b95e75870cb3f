use Rattle.std.proofs.Common.{◌≡◌, ℕ, ◌<◌, length, slice_index_or}
use Rattle.promise.specs.Calls.{line_at, no_line}
use Rattle.sheet.proofs.sheet.Sheet.fill.Given as goal

abbrev pub invariant-loop-i : goal.invariant-loop-i
invariant-loop-i g l =
    ((k : ℕ) → k < l.i → slice_index_or l.row-items k no_line ≡ line_at l.self.table k)
    × (length l.row-items ≡ length l.initial.row-items)
