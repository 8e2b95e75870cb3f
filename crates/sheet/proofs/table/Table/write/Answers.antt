use Rattle.std.proofs.Common.{◌<◌, length, ap, ◌∙◌, arith, rules}
use Rattle.promise.specs.State.{State}
use Rattle.promise.specs.Steps.{written}
use Rattle.sheet.specs.Tables.{state_of, Fit}
use Rattle.sheet.proofs.Padded.{holds, whole, written_is}
use Rattle.sheet.proofs.table.Table.write.Goals as goal

pub invariant_of-self : goal.invariant_of-self
invariant_of-self c =
    let t = c.self.inside in
    let l : c.args.i < length (state_of t).items = omega (arith, c.requires.inside, ap (λ (u : State). length u.items) c.self.view_is) in
    let s : State = written (state_of t) c.args.i c.args.new in
    let f : Fit s = search rules in
    whole _ s f (written_is t c.self.invariant c.args.i c.args.new l)

pub returns-clause-value : goal.returns-clause-value
returns-clause-value c =
    let t = c.self.inside in
    let l : c.args.i < length (state_of t).items = omega (arith, c.requires.inside, ap (λ (u : State). length u.items) c.self.view_is) in
    let s : State = written (state_of t) c.args.i c.args.new in
    let f : Fit s = search rules in
    holds _ s f (written_is t c.self.invariant c.args.i c.args.new l) ∙ ap (λ (u : State). written u c.args.i c.args.new) c.self.view_is

pub returns-clause-fit : goal.returns-clause-fit
returns-clause-fit c =
    let t = c.self.inside in
    let l : c.args.i < length (state_of t).items = omega (arith, c.requires.inside, ap (λ (u : State). length u.items) c.self.view_is) in
    let s : State = written (state_of t) c.args.i c.args.new in
    let f : Fit s = search rules in
    (whole _ s f (written_is t c.self.invariant c.args.i c.args.new l)).fit
