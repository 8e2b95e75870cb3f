use Rattle.std.proofs.Common.{◌≡◌}
use Rattle.model.specs.Folds.{sum_to}
use Rattle.rules.specs.Sums.{part_at}
use Rattle.rules.proofs.interference.over_stronger.Given as goal

abbrev pub invariant-loop-j : goal.invariant-loop-j
invariant-loop-j g l = l.sum ≡ sum_to (part_at g.C.Contribution.part l.asked.items.now l.asked.times.now l.asked.i) l.j
