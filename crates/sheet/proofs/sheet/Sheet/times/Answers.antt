use Rattle.std.proofs.Common.{rules}
use Rattle.promise.proofs.Kept.{leaves}
use Rattle.sheet.proofs.sheet.Sheet.times.Goals as goal

pub returns-in_err-ask_times-clause-leaves : goal.returns-in_err-ask_times-clause-leaves
returns-in_err-ask_times-clause-leaves g c = leaves _ (g.met.R.Rule.lawful c.args.self.now.rule) _ _ _ tt (search rules)

pub returns-clause-leaves : goal.returns-clause-leaves
returns-clause-leaves g c = leaves _ (g.met.R.Rule.lawful c.args.self.now.rule) _ _ _ tt (search rules)
