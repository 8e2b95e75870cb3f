use Rattle.std.proofs.Common.{◌≡◌, ◌-◌, ◌≤◌, List, sum_by, sym, subst, arith, rules}
use Rattle.std.proofs.lemmas.List.{get_or_default}
use Rattle.std.proofs.lemmas.List.Sums.{sum_by-le}
use Rattle.model.specs.declared.item.Item.{Item}
use Rattle.model.specs.Items.{no_item, Valid}
use Rattle.sheet.proofs.table.Table.room.Goals as goal

-- of valid records, each may rise by less than 1,000,000
slack_small : (x y : Item) → x ≡ y → Valid y → x.deadline - x.duration ≤ 1000000
slack_small x y e v = subst (λ (z : Item). z.deadline - z.duration ≤ 1000000) (sym e) (omega (arith, v.deadline_high, v.period_high))

pub returns-clause-small : goal.returns-clause-small
returns-clause-small c =
    let items : List Item = c.args.self.now.items in
    let fit = c.items-items.ensures.fit in
    let sum : c.sum.result ≡ sum_by (λ (x : Item). x.deadline - x.duration) items = search rules in
    let low = sum_by-le (λ (x : Item). x.deadline - x.duration) 1000000 items (λ k d l. slack_small _ _ (get_or_default items k d no_item l) (fit.handed.valid k l)) in
    omega (arith, sum, low, fit.handed.few)
