use Rattle.promise.proofs.Kept.{promised}
use Rattle.sheet.proofs.sheet.Sheet.new.Goals as goal

pub returns-clause-promise : goal.returns-clause-promise
returns-clause-promise g c = promised _ (g.met.R.Rule.lawful c.args.rule)
