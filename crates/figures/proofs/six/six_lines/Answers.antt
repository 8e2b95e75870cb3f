use Rattle.std.proofs.Common.{sym, ◌∙◌}
use Rattle.figures.proofs.six.six_lines.Goals as goal
use Rattle.figures.proofs.Worked.{figures}

pub returns : goal.returns
returns c = record { figures = figures; lines = c.lines_at_5000.ensures ∙ sym figures.six_settle.left }
