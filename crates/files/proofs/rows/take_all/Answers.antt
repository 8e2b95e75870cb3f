use Rattle.std.proofs.Common.{sym, ap, ◌∙◌, arith, rules}
use Rattle.records.specs.Records.{said}
use Rattle.files.proofs.Walks.{taken, taken_end, taken_fault, taken_row, taken_refused, rows_come}
use Rattle.files.proofs.rows.take_all.Goals as goal

pub loop-row-preserved : goal.loop-row-preserved
loop-row-preserved g c =
    let takes = g.I.Intake.takes (g.I.Intake.fixed c.args.intake.now) in
    let file = c.args.file in
    let s = g.I.Intake.view c.loop-row.intake in
    let same = c.loop-row.invariant.0 in
    let v = rw same at c.in_default.ensures.view in
    let step = rw c.in_ok-record.was at c.in-Some.ensures.steps in
    let here = ap (λ rows. taken takes file rows s) step ∙ taken_row takes file (said c.in_ok-record.field-0.record) c.in_ok-record.field-0.place _ s (g.I.Intake.view c.take.new.self) v in
    (c.in_default.ensures.fixed ∙ same, sym here ∙ c.loop-row.invariant.1)

pub returns-in_err-record-clause-view : goal.returns-in_err-record-clause-view
returns-in_err-record-clause-view g c =
    let takes = g.I.Intake.takes (g.I.Intake.fixed c.args.intake.now) in
    let step = rw c.in_err-record.was at c.in-Some.ensures.steps in
    rw (rows_come takes c.args.file c.args.bytes.now (g.I.Intake.view c.args.intake.now) _ _ _ _ (omega arith) c.loop-row.invariant.1 step (taken_fault takes c.args.file c.in_err-record.field-0.0 _ _)) (search rules)

pub returns-in-Err-clause-view : goal.returns-in-Err-clause-view
returns-in-Err-clause-view g c =
    let takes = g.I.Intake.takes (g.I.Intake.fixed c.args.intake.now) in
    let v = rw c.loop-row.invariant.0 at c.in-Err.ensures.view in
    let step = rw c.in_ok-record.was at c.in-Some.ensures.steps in
    sym (rows_come takes c.args.file _ _ _ _ _ _ (omega arith) c.loop-row.invariant.1 step (taken_refused takes c.args.file (said c.in_ok-record.field-0.record) c.in_ok-record.field-0.place _ _ c.in-Err.refusal v))

pub returns-clause-view : goal.returns-clause-view
returns-clause-view g c =
    let takes = g.I.Intake.takes (g.I.Intake.fixed c.args.intake.now) in
    sym (rows_come takes c.args.file _ _ _ _ _ _ (omega arith) c.loop-row.invariant.1 c.in-None.ensures.steps.0 (taken_end takes c.args.file _))
