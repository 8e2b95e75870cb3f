use Rattle.std.proofs.Common.{◌<◌, length, set, ap, ◌∙◌, arith, rules}
use Rattle.promise.specs.State.{State, fresh}
use Rattle.sheet.specs.Tables.{state_of, Fit}
use Rattle.sheet.proofs.Padded.{holds, whole, replaced, replaced_is}
use Rattle.sheet.proofs.table.Table.replace.Goals as goal

pub invariant_of-self : goal.invariant_of-self
invariant_of-self c =
    let t = c.self.inside in
    let l : c.args.i < length (state_of t).items = omega (arith, c.requires.inside, ap (λ (u : State). length u.items) c.self.view_is) in
    let s : State = replaced t c.self.invariant c.args.i c.args.item in
    let f : Fit s = search rules in
    whole _ s f (replaced_is t c.self.invariant c.args.i c.args.item l)

pub returns-clause-value : goal.returns-clause-value
returns-clause-value c =
    let t = c.self.inside in
    let l : c.args.i < length (state_of t).items = omega (arith, c.requires.inside, ap (λ (u : State). length u.items) c.self.view_is) in
    let s : State = replaced t c.self.invariant c.args.i c.args.item in
    let f : Fit s = search rules in
    let e = holds _ s f (replaced_is t c.self.invariant c.args.i c.args.item l) in
    c.reset.ensures.value ∙ (ap (λ (u : State). fresh u.items u.arcs) e ∙ ap (λ (u : State). fresh (set u.items c.args.i c.args.item) u.arcs) c.self.view_is)
