use Rattle.std.proofs.Common.{arith}
use Rattle.sheet.proofs.sheet.Sheet.find.Goals as goal

pub invariant_of-result : goal.invariant_of-result
invariant_of-result g c =
    let asked = c.ask.result in
    let bound = (g.met.R.Rule.lawful c.args.self.now.rule).wait_bounded _ _ _ asked.handed asked.inside in
    record { late = c.latest-late.ensures.small; wait = omega (arith, bound, c.wait-wait.ensures) }
