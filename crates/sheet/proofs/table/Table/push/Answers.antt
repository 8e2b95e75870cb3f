use Rattle.std.proofs.Common.{sym, ap, ◌∙◌, subst}
use Rattle.promise.specs.State.{fresh}
use Rattle.sheet.specs.Tables.{table_of, Fit}
use Rattle.sheet.proofs.Padded.{holds, whole, pushed_is, pushed_fit}
use Rattle.sheet.proofs.table.Table.push.Goals as goal

pub invariant_of-self : goal.invariant_of-self
invariant_of-self c =
    let value = c.reset.ensures.value in
    let f : Fit (fresh c.args.self.now.items c.args.self.now.arcs) = subst Fit value c.reset.ensures.fit in
    let e = sym c.self.invariant.blank ∙ ap table_of (c.self.view_is ∙ value) in
    whole _ _ (pushed_fit _ c.args.item f c.requires.room c.requires.valid) (pushed_is c.self.inside _ _ c.args.item e c.requires.room)

pub returns-clause-value : goal.returns-clause-value
returns-clause-value c =
    let value = c.reset.ensures.value in
    let f : Fit (fresh c.args.self.now.items c.args.self.now.arcs) = subst Fit value c.reset.ensures.fit in
    let e = sym c.self.invariant.blank ∙ ap table_of (c.self.view_is ∙ value) in
    holds _ _ (pushed_fit _ c.args.item f c.requires.room c.requires.valid) (pushed_is c.self.inside _ _ c.args.item e c.requires.room)

pub returns-clause-fit : goal.returns-clause-fit
returns-clause-fit c =
    let value = c.reset.ensures.value in
    let f : Fit (fresh c.args.self.now.items c.args.self.now.arcs) = subst Fit value c.reset.ensures.fit in
    let e = sym c.self.invariant.blank ∙ ap table_of (c.self.view_is ∙ value) in
    (whole _ _ (pushed_fit _ c.args.item f c.requires.room c.requires.valid) (pushed_is c.self.inside _ _ c.args.item e c.requires.room)).fit
