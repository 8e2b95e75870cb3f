use Rattle.std.proofs.Common.{◌≡◌, ◌&&◌, ◌==◌, Bool, true, false, rules}
use borrow.Author.Tests.{tests}
use Rattle.std.proofs.lemmas.Iterator.{cases_from_any, YieldsList-from_slice}
use Rattle.model.specs.declared.arc.Arc.{Arc}
use Rattle.model.specs.Items.{no_arc}
use Rattle.sheet.proofs.None.{none_by_any}
use Rattle.sheet.proofs.admit.is_new_arc.Goals as goal

pub returns : goal.returns
returns c =
    let is : Arc → Bool = λ a. a.from == c.args.from && a.to == c.args.to in
    none_by_any is no_arc c.args.arcs.now _
    (cases_from_any _ _ _ (λ a. is a ≡ true) (λ a. is a ≡ false) c.any.ensures.ran (YieldsList-from_slice c.args.arcs.now cc) (λ x q k. search (rules, tests)) (λ x q k. search (rules, tests)))
