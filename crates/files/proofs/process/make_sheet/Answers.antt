use Rattle.std.proofs.Common.{ℕ, ◌≤◌, get_or, arith}
use Rattle.promise.specs.State.{meaning}
use Rattle.files.proofs.Called.{sheet_called, sheet_unbroken}
use Rattle.files.proofs.Made.{all_made}
use Rattle.files.proofs.process.make_sheet.Goals as goal

pub returns-in-Ok-clause-calls : goal.returns-in-Ok-clause-calls
returns-in-Ok-clause-calls g c =
    let bs = c.args.file.now in
    let v = rw (c.new-sheet.ensures.rule, c.new-sheet.ensures.state) at c.in-Ok.ensures.view in
    let bytes : ((i : ℕ) → get_or bs i 0 ≤ 255) = λ i. omega (arith, c.type_inv.file i) in
    record { made = all_made 0 bs bytes; state = sheet_called (meaning g.R.Rule c.args.rule) bs c.take_all.new.intake.table v }

pub returns-in-Ok-clause-unbroken : goal.returns-in-Ok-clause-unbroken
returns-in-Ok-clause-unbroken g c =
    let v = rw (c.new-sheet.ensures.rule, c.new-sheet.ensures.state) at c.in-Ok.ensures.view in
    sheet_unbroken (meaning g.R.Rule c.args.rule) c.args.file.now c.take_all.new.intake.table v
