use Rattle.std.proofs.Common.{◌<◌, length, ap, arith}
use Rattle.model.specs.declared.arc.Arc.{Arc}
use Rattle.promise.specs.State.{State}
use Rattle.promise.specs.Calls.{joined}
use Rattle.sheet.specs.Tables.{state_of}
use Rattle.sheet.proofs.Padded.{whole, joined as linked, joined_is, joined_fit}
use Rattle.sheet.proofs.table.Table.join.Goals as goal

pub overflow_cast-self : goal.overflow_cast-self
overflow_cast-self c = omega (arith, c.requires.start, ap (λ (u : State). length u.items) c.self.view_is, c.self.invariant.fit.handed.few)

pub overflow_cast-self-2 : goal.overflow_cast-self-2
overflow_cast-self-2 c = omega (arith, c.requires.end, ap (λ (u : State). length u.items) c.self.view_is, c.self.invariant.fit.handed.few)

pub invariant_of-self : goal.invariant_of-self
invariant_of-self c =
    let t = c.self.inside in
    let w = c.self.invariant in
    let l : length (state_of t).arcs < 128 = omega (arith, c.requires.room, ap (λ (u : State). length u.arcs) c.self.view_is) in
    let g : c.args.from < length (state_of t).items = omega (arith, c.requires.start, ap (λ (u : State). length u.items) c.self.view_is) in
    let a : Arc = joined c.args.from c.args.to in
    whole _ (linked t w a) (joined_fit t w a l g) (joined_is t w a l)
