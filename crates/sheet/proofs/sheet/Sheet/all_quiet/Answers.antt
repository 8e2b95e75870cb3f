use Rattle.std.proofs.Common.{◌≡◌, ℕ, Bool, true, false, not, length, arith, refl, rules}
use borrow.Author.Tests.{tests}
use Rattle.std.proofs.lemmas.Iterator.{cases_from_all, YieldsList-from_range}
use Rattle.promise.specs.Steps.{outcome, is_quiet}
use Rattle.sheet.proofs.None.{none_by_all}
use Rattle.sheet.proofs.sheet.Sheet.all_quiet.Goals as goal

pub returns : goal.returns
returns g c =
    let sheet = c.args.self.now in
    let moves : ℕ → Bool = λ i. not (is_quiet (outcome (g.R.Rule.wait sheet.rule) sheet.table i)) in
    none_by_all moves (length sheet.table.items) _
    (cases_from_all _ _ _ (λ i. moves i ≡ false) (λ i. moves i ≡ true) c.all.ensures.ran (YieldsList-from_range 0 _ _ refl (omega (arith, c.count.ensures.value))) (λ x q k. search (rules, tests)) (λ x q k. search (rules, tests)))
