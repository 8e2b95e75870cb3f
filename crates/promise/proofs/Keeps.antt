-- A run touches neither items nor arcs, and breaks at one of the items.
use Rattle.std.proofs.Common.{◌≡◌, ℕ, zero, suc, ◌+◌, ◌<◌, leb, List, length, refl, arith}
use Rattle.std.proofs.lemmas.Bool.{leb-false, cond_both}
use Rattle.model.specs.declared.arc.Arc.{Arc}
use Rattle.model.specs.declared.item.Item.{Item}
use Rattle.model.specs.Laws.{Reckoning}
use Rattle.promise.specs.declared.outcome.Cause.{Cause}
use Rattle.promise.specs.declared.outcome.Ending.{Ending}
use Rattle.promise.specs.declared.outcome.Ending.TheVariants.{Settled, Spent, Broken}
use Rattle.promise.specs.State.{State}
use Rattle.promise.specs.Steps.{found, outcome, written, broken_off, by}
use Rattle.promise.specs.Runs.{Ran, ran, next, run_from}
use Rattle.promise.proofs.Judged.{by_cases}
use Rattle.promise.proofs.Run.{next_inside}

pub record Has (xs : List Item) (arcs : List Arc) (s : State) : Type 0 where
  pub items : s.items ≡ xs
  pub arcs_same : s.arcs ≡ arcs

pub run_keeps : (wait : Reckoning) (f : ℕ) (s : State) (i quiet steps raises : ℕ) → Has s.items s.arcs (run_from wait f s i quiet steps raises).state
unfolding run_from
run_keeps wait zero s i quiet steps raises = record { items = refl; arcs_same = refl }
run_keeps wait (suc f) s i quiet steps raises =
    let P : Ran → Type 0 = λ x. Has s.items s.arcs x.state in
    let raised : Ran = run_from wait f (written s i (found wait s i)) (next s i) 0 (steps + 1) (raises + 1) in
    let still : Ran = run_from wait f (written s i (found wait s i)) (next s i) (quiet + 1) (steps + 1) raises in
    let broke : Cause → Ran = λ c. ran (broken_off s) (Broken i c) (steps + 1) raises in
    let up : P raised = run_keeps wait f (written s i (found wait s i)) (next s i) 0 (steps + 1) (raises + 1) in
    let on : P still = run_keeps wait f (written s i (found wait s i)) (next s i) (quiet + 1) (steps + 1) raises in
    cond_both (leb (length s.items) quiet) (ran s Settled steps raises) (by (outcome wait s i) raised still broke) P
    (λ _. record { items = refl; arcs_same = refl })
    (λ _. by_cases (outcome wait s i) raised still broke P (λ _. up) (λ _. on) (λ c _. record { items = refl; arcs_same = refl }))

-- an item at which a run breaks is there
abbrev pub Inside : ℕ → Ending → Type 0
Inside n Settled = Unit {0}
Inside n Spent = Unit {0}
Inside n (Broken i c) = i < n

pub run_inside : (wait : Reckoning) (f : ℕ) (s : State) (i quiet steps raises : ℕ) → (0 < length s.items → i < length s.items) → Inside (length s.items) (run_from wait f s i quiet steps raises).result.ending
unfolding run_from
run_inside wait zero s i quiet steps raises h = cond_both (leb (length s.items) quiet) Settled Spent (Inside (length s.items)) (λ _. tt) (λ _. tt)
run_inside wait (suc f) s i quiet steps raises h =
    let n : ℕ = length s.items in
    let P : Ran → Type 0 = λ x. Inside n x.result.ending in
    let raised : Ran = run_from wait f (written s i (found wait s i)) (next s i) 0 (steps + 1) (raises + 1) in
    let still : Ran = run_from wait f (written s i (found wait s i)) (next s i) (quiet + 1) (steps + 1) raises in
    let broke : Cause → Ran = λ c. ran (broken_off s) (Broken i c) (steps + 1) raises in
    let on : (0 < n → next s i < n) = λ some. next_inside n i some in
    cond_both (leb n quiet) (ran s Settled steps raises) (by (outcome wait s i) raised still broke) P (λ _. tt)
    (λ e.
    let some : 0 < n = omega (arith, leb-false n quiet e) in
    by_cases (outcome wait s i) raised still broke P
    (λ _. run_inside wait f (written s i (found wait s i)) (next s i) 0 (steps + 1) (raises + 1) on)
    (λ _. run_inside wait f (written s i (found wait s i)) (next s i) (quiet + 1) (steps + 1) raises on)
    (λ c _. h some))
