use Rattle.std.proofs.Common.{◌≡◌}
use Rattle.records.specs.Rows.{rows_in, rows_left}
use Rattle.files.proofs.Walks.{taken}
use Rattle.files.proofs.rows.take_all.Given as goal

-- the rows that are still to come give what all rows give
abbrev pub invariant-loop-row : goal.invariant-loop-row
invariant-loop-row g l =
    (g.I.Intake.fixed l.intake ≡ g.I.Intake.fixed l.initial.intake)
    × (taken (g.I.Intake.takes (g.I.Intake.fixed l.initial.intake)) l.file (rows_left l.row-iterator) (g.I.Intake.view l.intake)
    ≡ taken (g.I.Intake.takes (g.I.Intake.fixed l.initial.intake)) l.file (rows_in l.file 0 0 l.bytes) (g.I.Intake.view l.initial.intake))
