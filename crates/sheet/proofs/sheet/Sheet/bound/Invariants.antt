use Rattle.std.proofs.Common.{◌≡◌}
use Rattle.model.specs.Items.{is_there}
use Rattle.promise.specs.Calls.{bound_to}
use Rattle.sheet.proofs.sheet.Sheet.bound.Given as goal

abbrev pub invariant-loop-i : goal.invariant-loop-i
invariant-loop-i g l = l.bound ≡ bound_to (is_there l.queue.class l.queue.station l.queue.queue) (g.R.Rule.load l.self.rule l.self.table.items l.self.table.times) l.self.table.items l.i
