use Rattle.std.proofs.Common.{ap, ◌∙◌}
use Rattle.page.specs.Pages.{settled}
use Rattle.report.proofs.Rowing.{truth_of_rows}
use Rattle.report.proofs.tell.judge.Goals as goal

pub returns-in-Settled-clause-truth : goal.returns-in-Settled-clause-truth
returns-in-Settled-clause-truth g c =
    truth_of_rows _ _ _ c.decide-ending.new.sheet.table _ _ (c.settled.ensures ∙ ap (λ rows. settled rows c.decide-ending.result.steps) c.rows.ensures) c.decide-ending.ensures.verdict.items (c.decide-ending.ensures.verdict.least c.in-Settled.is)

pub returns-in-Broken-clause-truth : goal.returns-in-Broken-clause-truth
returns-in-Broken-clause-truth g c =
    rw c.broken.ensures (c.decide-ending.ensures.verdict.hopeless c.in-Broken.item c.in-Broken.cause c.in-Broken.is)
