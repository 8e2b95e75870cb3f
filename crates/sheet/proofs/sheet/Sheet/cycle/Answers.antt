use Rattle.std.proofs.Common.{◌≡◌, ◌+◌, ◌-◌, cond, nat_lt, ◌⊎◌, length, sym, refl, ap, ◌∙◌, subst, inl, inr, arith}
use Rattle.std.proofs.lemmas.Bool.{leb-true, leb-false}
use Rattle.model.specs.Laws.{Reckoning}
use Rattle.promise.specs.declared.outcome.Became.TheVariants.{Raised, Quiet}
use Rattle.promise.specs.State.{State}
use Rattle.promise.specs.Steps.{outcome, stepped}
use Rattle.promise.specs.Runs.{Ran, run_from, next}
use Rattle.sheet.proofs.Unroll.{settled_is, spent_is, step_items, again, broke_is}
use Rattle.sheet.proofs.sheet.Sheet.cycle.Goals as goal
use Rattle.sheet.proofs.sheet.Sheet.cycle.Goals.{in-Raised, in-Quiet}

pub loop-steps-init : goal.loop-steps-init
loop-steps-init g c =
    let z : c.args.allowance - 0 ≡ c.args.allowance = omega arith in (
      ap (λ k. run_from (g.R.Rule.wait c.args.self.now.rule) k c.args.self.now.table 0 0 0 0) z,
      refl,
      sym c.count-n.ensures.value,
      (λ h. h),
      omega arith,
      omega arith,
    )

pub loop-steps-preserved : goal.loop-steps-preserved
loop-steps-preserved g c =
    let D : g.row.R.Denot → Reckoning = g.R.Rule.wait in
    let ρ = c.args.self.now.rule in
    let s : State = c.loop-steps.self.table in
    let s' : State = c.turn.new.self.table in
    let i = c.loop-steps.item in
    let steps = c.loop-steps.steps in
    let inv = c.loop-steps.invariant in
    let busy = leb-false _ _ (sym c.if-settles.ensures) in
    let o : c.turn.result ≡ outcome (D ρ) s i = subst (λ (x : g.row.R.Denot). c.turn.result ≡ outcome (D x) s i) inv.1 c.turn.ensures.answer in
    let st : s' ≡ stepped (D ρ) s i = subst (λ (x : g.row.R.Denot). s' ≡ stepped (D x) s i) inv.1 c.turn.ensures.state in
    let way : ((outcome (D ρ) s i ≡ Raised) × (c.match-turn.quiet ≡ 0) × (c.match-turn.raises ≡ c.loop-steps.raises + 1)) ⊎ ((outcome (D ρ) s i ≡ Quiet) × (c.match-turn.quiet ≡ c.loop-steps.quiet + 1) × (c.match-turn.raises ≡ c.loop-steps.raises)) =
    elim c.match-turn.branch [ in-Raised w ↦ inl (sym o ∙ w.in-Raised.is, w.quiet-is, w.raises-is) | in-Quiet w ↦ inr (sym o ∙ w.in-Quiet.is, w.quiet-is, w.raises-is) ] in
    let j : c.next_item-item.result ≡ next s i = c.next_item-item.ensures.value ∙ ap (λ k. cond (nat_lt (i + 1) k) (i + 1) 0) (sym inv.2) in (
      again (D ρ) (c.args.allowance - steps) (c.args.allowance - (steps + 1)) s s' i c.loop-steps.quiet steps c.loop-steps.raises
          (omega (arith, c.loop-steps-test.true)) (omega (arith, inv.2, busy)) st c.next_item-item.result c.match-turn.quiet c.match-turn.raises j way ∙ inv.0,
      c.turn.ensures.rule ∙ inv.1,
      ap length (step_items (D ρ) s s' i st) ∙ inv.2,
      (λ _. c.next_item-item.ensures.inside),
      omega (arith, inv.4),
      omega (arith, inv.5, busy),
    )

pub returns-then-settles : goal.returns-then-settles
returns-then-settles g c =
    let inv = c.loop-steps.invariant in
    let e = sym (settled_is (g.R.Rule.wait c.args.self.now.rule) (c.args.allowance - c.loop-steps.steps) c.loop-steps.self.table c.loop-steps.item c.loop-steps.quiet c.loop-steps.steps c.loop-steps.raises (omega (arith, inv.2, leb-true _ _ (sym c.if-settles.ensures)))) ∙ inv.0 in
    record { answer = ap (λ (x : Ran). x.result) e; state = ap (λ (x : Ran). x.state) e; rule = inv.1 }

pub returns-in-Broke : goal.returns-in-Broke
returns-in-Broke g c =
    let D : g.row.R.Denot → Reckoning = g.R.Rule.wait in
    let ρ = c.args.self.now.rule in
    let s : State = c.loop-steps.self.table in
    let s' : State = c.turn.new.self.table in
    let i = c.loop-steps.item in
    let steps = c.loop-steps.steps in
    let inv = c.loop-steps.invariant in
    let o : c.turn.result ≡ outcome (D ρ) s i = subst (λ (x : g.row.R.Denot). c.turn.result ≡ outcome (D x) s i) inv.1 c.turn.ensures.answer in
    let st : s' ≡ stepped (D ρ) s i = subst (λ (x : g.row.R.Denot). s' ≡ stepped (D x) s i) inv.1 c.turn.ensures.state in
    let e = broke_is (D ρ) (c.args.allowance - steps) (c.args.allowance - (steps + 1)) s s' i c.loop-steps.quiet steps c.loop-steps.raises
    (omega (arith, c.loop-steps-test.true)) (omega (arith, inv.2, leb-false _ _ (sym c.if-settles.ensures))) st c.in-Broke.cause (sym o ∙ c.in-Broke.is) ∙ inv.0 in
    record { answer = ap (λ (x : Ran). x.result) e; state = ap (λ (x : Ran). x.state) e; rule = c.turn.ensures.rule ∙ inv.1 }

pub returns-then-settles-2 : goal.returns-then-settles-2
returns-then-settles-2 g c =
    let inv = c.loop-steps.invariant in
    let e = sym (settled_is (g.R.Rule.wait c.args.self.now.rule) (c.args.allowance - c.loop-steps.steps) c.loop-steps.self.table c.loop-steps.item c.loop-steps.quiet c.loop-steps.steps c.loop-steps.raises (omega (arith, inv.2, leb-true _ _ (sym c.if-settles-2.ensures)))) ∙ inv.0 in
    let all : c.loop-steps.steps ≡ c.args.allowance = omega (arith, c.loop-steps-test.false, c.loop-steps.auto.steps-end) in
    let answer = ap (λ (x : Ran). x.result) e in
    record { answer = cc; state = ap (λ (x : Ran). x.state) e; rule = inv.1 }

pub returns-else-settles-2 : goal.returns-else-settles-2
returns-else-settles-2 g c =
    let inv = c.loop-steps.invariant in
    let all : c.loop-steps.steps ≡ c.args.allowance = omega (arith, c.loop-steps-test.false, c.loop-steps.auto.steps-end) in
    let e = sym (spent_is (g.R.Rule.wait c.args.self.now.rule) (c.args.allowance - c.loop-steps.steps) c.loop-steps.self.table c.loop-steps.item c.loop-steps.quiet c.loop-steps.steps c.loop-steps.raises (omega (arith, all)) (omega (arith, inv.2, leb-false _ _ (sym c.if-settles-2.ensures)))) ∙ inv.0 in
    let answer = ap (λ (x : Ran). x.result) e in
    record { answer = cc; state = ap (λ (x : Ran). x.state) e; rule = inv.1 }
