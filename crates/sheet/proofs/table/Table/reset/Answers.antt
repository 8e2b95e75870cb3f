use Rattle.std.proofs.Common.{ap, ◌∙◌, refl}
use Rattle.promise.specs.State.{State, fresh}
use Rattle.sheet.proofs.Padded.{holds, whole, fresh_fit, sound_of, reset_is}
use Rattle.sheet.proofs.table.Table.reset.Goals as goal

pub invariant_of-self : goal.invariant_of-self
invariant_of-self c =
    let t = c.self.inside in
    let w = c.self.invariant in
    whole _ _ (fresh_fit _ _ (sound_of _ w.fit) w.fit.few_arcs w.fit.linked) (reset_is t w _ _ refl refl)

pub returns-clause-value : goal.returns-clause-value
returns-clause-value c =
    let t = c.self.inside in
    let w = c.self.invariant in
    holds _ _ (fresh_fit _ _ (sound_of _ w.fit) w.fit.few_arcs w.fit.linked) (reset_is t w _ _ refl refl) ∙ ap (λ (u : State). fresh u.items u.arcs) c.self.view_is

pub returns-clause-fit : goal.returns-clause-fit
returns-clause-fit c =
    let t = c.self.inside in
    let w = c.self.invariant in
    (whole _ _ (fresh_fit _ _ (sound_of _ w.fit) w.fit.few_arcs w.fit.linked) (reset_is t w _ _ refl refl)).fit
