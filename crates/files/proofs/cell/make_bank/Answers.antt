use Rattle.std.proofs.Common.{rules}
use Rattle.files.proofs.Own.{cell_own}
use Rattle.files.proofs.cell.make_bank.Goals as goal

pub returns-in-Err-clause-own : goal.returns-in-Err-clause-own
returns-in-Err-clause-own c = cell_own c.args.file.now c.in-Err.fault (search rules)
