use Rattle.std.proofs.Common.{le_refl, arith}
use Rattle.rules.specs.SumBounds.{sum_of_parts_small}
use Rattle.rules.proofs.interference.wait_of.Goals as goal

pub overflow_add-from : goal.overflow_add-from
overflow_add-from g c =
    let asked = c.args.asked in
    let k = sum_of_parts_small _ _ g.met.C.Contribution.fair _ _ asked.i _ asked.handed asked.inside (le_refl _) in
    omega arith
