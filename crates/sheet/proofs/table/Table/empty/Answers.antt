use Rattle.std.proofs.Common.{refl, rules}
use Rattle.promise.specs.State.{empty}
use Rattle.sheet.specs.Tables.{Fit}
use Rattle.sheet.proofs.Padded.{holds, whole, empty_is}
use Rattle.sheet.proofs.table.Table.empty.Goals as goal

pub invariant_of-result : goal.invariant_of-result
invariant_of-result c =
    let f : Fit empty = search rules in
    whole _ empty f (empty_is _ _ _ refl refl refl)

pub returns-clause-value : goal.returns-clause-value
returns-clause-value c =
    let f : Fit empty = search rules in
    holds _ empty f (empty_is _ _ _ refl refl refl)

pub returns-clause-fit : goal.returns-clause-fit
returns-clause-fit c =
    let f : Fit empty = search rules in
    (whole _ empty f (empty_is _ _ _ refl refl refl)).fit
