use Rattle.std.proofs.Common.{◌≡◌, sym, subst, rules}
use Rattle.files.specs.Process.{check_of}
use Rattle.files.proofs.Own.{FileOwn, check_own}
use Rattle.files.proofs.process.check_process.Goals as goal

pub returns-clause-own : goal.returns-clause-own
returns-clause-own c =
    let same : c.take_all.result ≡ check_of c.args.file.now = search rules in
    subst FileOwn (sym same) (check_own c.args.file.now)
