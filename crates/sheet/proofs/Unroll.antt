-- The clauses of a run as equations.
use Rattle.std.proofs.Common.{◌≡◌, ℕ, zero, suc, ◌+◌, ◌<◌, ◌≤◌, ◌⊎◌, length, sym, refl, ap, ◌∙◌, inl, inr, arith}
use Rattle.std.proofs.lemmas.Bool.{cond-true, cond-false, le-leb, lt-leb}
use Rattle.model.specs.Laws.{Reckoning}
use Rattle.promise.specs.declared.outcome.Became.{Became}
use Rattle.promise.specs.declared.outcome.Became.TheVariants.{Raised, Quiet, Broke}
use Rattle.promise.specs.declared.outcome.Cause.{Cause}
use Rattle.promise.specs.declared.outcome.Ending.{Ending}
use Rattle.promise.specs.declared.outcome.Ending.TheVariants.{Settled, Spent, Broken}
use Rattle.promise.specs.State.{State}
use Rattle.promise.specs.Steps.{by, written, broken_off, outcome, found, stepped}
use Rattle.promise.specs.Runs.{ran, next, run_from}
use Rattle.promise.proofs.Judged.{by_cases}

pub settled_is : (wait : Reckoning) (f : ℕ) (s : State) (i q t r : ℕ) → length s.items ≤ q → run_from wait f s i q t r ≡ ran s Settled t r
unfolding run_from
settled_is wait zero s i q t r l = ap (λ (e : Ending). ran s e t r) (cond-true _ _ _ (le-leb _ _ l))
settled_is wait (suc f) s i q t r l = cond-true _ _ _ (le-leb _ _ l)

pub spent_is : (wait : Reckoning) (f : ℕ) (s : State) (i q t r : ℕ) → f ≡ 0 → q < length s.items → run_from wait f s i q t r ≡ ran s Spent t r
unfolding run_from
spent_is wait zero s i q t r e l = ap (λ (e : Ending). ran s e t r) (cond-false _ _ _ (lt-leb _ _ l))
spent_is wait (suc f) s i q t r e l = absurd (omega arith)

turn_is : (wait : Reckoning) (f h : ℕ) (s : State) (i q t r : ℕ) → f ≡ suc h → q < length s.items → run_from wait f s i q t r ≡
    by (outcome wait s i)
    (run_from wait h (written s i (found wait s i)) (next s i) 0 (t + 1) (r + 1))
    (run_from wait h (written s i (found wait s i)) (next s i) (q + 1) (t + 1) r)
    (λ c. ran (broken_off s) (Broken i c) (t + 1) r)
unfolding run_from
turn_is wait f h s i q t r e l = ap (λ k. run_from wait k s i q t r) e ∙ cond-false _ _ _ (lt-leb _ _ l)

-- a step keeps the items
pub step_items : (wait : Reckoning) (s s' : State) (i : ℕ) → s' ≡ stepped wait s i → s'.items ≡ s.items
step_items wait s s' i e = ap (λ (u : State). u.items) e ∙ by_cases (outcome wait s i) _ _ _ (λ (u : State). u.items ≡ s.items) (λ _. refl) (λ _. refl) (λ _ _. refl)

module _ (wait : Reckoning) (f h : ℕ) (s s' : State) (i q t r : ℕ) (e : f ≡ suc h) (l : q < length s.items) (st : s' ≡ stepped wait s i) where
  step_is : (b : Became) → outcome wait s i ≡ b → s' ≡ by b (written s i (found wait s i)) (written s i (found wait s i)) (λ c. broken_off s)
  step_is b o = st ∙ ap (λ (x : Became). by x (written s i (found wait s i)) (written s i (found wait s i)) (λ c. broken_off s)) o

  one : (b : Became) → outcome wait s i ≡ b → run_from wait f s i q t r ≡ by b (run_from wait h (written s i (found wait s i)) (next s i) 0 (t + 1) (r + 1)) (run_from wait h (written s i (found wait s i)) (next s i) (q + 1) (t + 1) r) (λ c. ran (broken_off s) (Broken i c) (t + 1) r)
  one b o = turn_is wait f h s i q t r e l ∙ ap (λ (x : Became). by x (run_from wait h (written s i (found wait s i)) (next s i) 0 (t + 1) (r + 1)) (run_from wait h (written s i (found wait s i)) (next s i) (q + 1) (t + 1) r) (λ c. ran (broken_off s) (Broken i c) (t + 1) r)) o

  pub again : (j q' r' : ℕ) → j ≡ next s i → ((outcome wait s i ≡ Raised) × (q' ≡ 0) × (r' ≡ r + 1)) ⊎ ((outcome wait s i ≡ Quiet) × (q' ≡ q + 1) × (r' ≡ r)) → run_from wait h s' j q' (t + 1) r' ≡ run_from wait f s i q t r
  again j q' r' ej (inl w) = let z = step_is Raised w.0 in let o = one Raised w.0 in let a = w.1 in let b = w.2 in cc
  again j q' r' ej (inr w) = let z = step_is Quiet w.0 in let o = one Quiet w.0 in let a = w.1 in let b = w.2 in cc

  pub broke_is : (c : Cause) → outcome wait s i ≡ Broke c → ran s' (Broken i c) (t + 1) r ≡ run_from wait f s i q t r
  broke_is c o = ap (λ (u : State). ran u (Broken i c) (t + 1) r) (step_is (Broke c) o) ∙ sym (one (Broke c) o)
