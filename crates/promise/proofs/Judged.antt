-- What an outcome says of an item, its times, and those that a step found.
use Rattle.std.proofs.Common.{◌≡◌, ◌<◌, ◌≤◌, cond, ◌&&◌, ◌||◌, eqb, ltb, ◌⊎◌, refl, inl, inr, ⊎_elim, arith}
use Rattle.std.proofs.lemmas.Bool.{eqb-true, eqb-false, ltb-true, ltb-false, cond_both, and_parts, and_cases, or_cases, or_parts}
use Rattle.std.proofs.lemmas.Bool.Decides.{nat_tests}
use Rattle.model.specs.declared.item.Item.{Item}
use Rattle.model.specs.declared.times.Times.{Times}
use Rattle.model.specs.Items.{end_of}
use Rattle.promise.specs.declared.outcome.Became.{Became}
use Rattle.promise.specs.declared.outcome.Became.TheVariants.{Raised, Quiet, Broke}
use Rattle.promise.specs.declared.outcome.Cause.{Cause}
use Rattle.promise.specs.declared.outcome.Cause.TheVariants.{Input, Limit}
use Rattle.promise.specs.Steps.{judge, by}

abbrev pub Told : Item → Times → Times → Became → Type 0
Told x old new Raised = (end_of x new ≤ x.deadline) × ((old.late < new.late) ⊎ (old.wait < new.wait))
Told x old new Quiet = (end_of x new ≤ x.deadline) × (x.mark ≡ 1 → new.late ≤ x.offset) × (new.late ≤ old.late) × (new.wait ≤ old.wait)
Told x old new (Broke Input) = (x.mark ≡ 1) × (x.offset < new.late)
Told x old new (Broke Limit) = x.deadline < end_of x new

pub told : (x : Item) (old new : Times) → Told x old new (judge x old new)
told x old new =
    cond_both (eqb x.mark 1 && ltb x.offset new.late) (Broke Input)
    (cond (ltb x.deadline (end_of x new)) (Broke Limit)
    (cond (ltb old.late new.late || ltb old.wait new.wait) Raised Quiet))
    (Told x old new)
    (λ e. let p = and_parts _ _ e in (eqb-true _ _ p.0, ltb-true _ _ p.1))
    (λ e. cond_both (ltb x.deadline (end_of x new)) (Broke Limit)
    (cond (ltb old.late new.late || ltb old.wait new.wait) Raised Quiet)
    (Told x old new)
    (λ f. ltb-true _ _ f)
    (λ f. cond_both (ltb old.late new.late || ltb old.wait new.wait) Raised Quiet (Told x old new)
    (λ g. (ltb-false _ _ f, ⊎_elim (λ h. inl (ltb-true _ _ h)) (λ h. inr (ltb-true _ _ h)) (or_cases _ _ g)))
    (λ g. let p = or_parts _ _ g in
    (ltb-false _ _ f, (λ m. ⊎_elim (λ h. absurd (eqb-false _ _ h m)) (λ h. ltb-false _ _ h) (and_cases _ _ e)), ltb-false _ _ p.0, ltb-false _ _ p.1))))

pub quiet_if : (x : Item) (old new : Times) → end_of x new ≤ x.deadline → (x.mark ≡ 1 → new.late ≤ x.offset) → new.late ≤ old.late → new.wait ≤ old.wait → judge x old new ≡ Quiet
quiet_if x old new fit exact l w =
    grind (arith, nat_tests)

pub by_cases : {X : Type 0} (b : Became) (x y : X) (z : Cause → X) (P : X → Type 0) → (b ≡ Raised → P x) → (b ≡ Quiet → P y) → ((c : Cause) → b ≡ Broke c → P (z c)) → P (by b x y z)
by_cases Raised x y z P p q r = p refl
by_cases Quiet x y z P p q r = q refl
by_cases (Broke c) x y z P p q r = r c refl
