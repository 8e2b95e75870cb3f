use Rattle.std.proofs.Common.{sym, ◌∙◌}
use Rattle.report.proofs.Judged.{verdict}
use Rattle.report.proofs.tell.decide.Goals as goal

pub returns-clause-verdict : goal.returns-clause-verdict
returns-clause-verdict g c =
    verdict _ _ _ _ _ c.requires c.allowance-steps.ensures (sym c.unwrap.ensures ∙ c.run.ensures.answer) c.run.ensures.leaves
