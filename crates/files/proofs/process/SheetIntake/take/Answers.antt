use Rattle.std.proofs.Common.{length, sym, rules}
use Rattle.promise.specs.State.{meaning}
use Rattle.promise.specs.Calls.{entry_ask}
use Rattle.files.proofs.Called.{then_err}
use Rattle.files.proofs.process.SheetIntake.take.Goals as goal

pub returns-in_err-entry-in-Item-clause-view : goal.returns-in_err-entry-in-Item-clause-view
returns-in_err-entry-in-Item-clause-view g c =
    let s = c.args.self.now.table in
    let m = meaning g.R.Rule c.args.self.now.rule in
    let e = then_err (entry_ask m s c.in-Item.new.item) (length s.items) c.in_err-entry-in-Item.field-0.0 (sym c.in_err-entry-in-Item.ensures.answer) in
    rw (c.in-Item.is, e) (search rules)
