use Rattle.std.proofs.Common.{le_refl, arith}
use Rattle.rules.specs.SumBounds.{sum_of_parts_small}
use Rattle.rules.proofs.interference.load_of.Goals as goal

pub overflow_add-result : goal.overflow_add-result
overflow_add-result g c =
    let asked = c.args.asked in
    let k = sum_of_parts_small _ _ g.met.C.Contribution.fair _ _ asked.i _ asked.handed asked.inside (le_refl _) in
    omega (arith, asked.handed.valid asked.i asked.inside)
