-- What a run does: step after step in the order of the numbers, round and round.
use Rattle.std.specs.Prelude.{ℕ, zero, suc, ◌+◌, cond, length, nat_le, nat_lt}
use Rattle.model.specs.Laws.{Reckoning}
use Rattle.promise.specs.declared.outcome.Ending.{Ending}
use Rattle.promise.specs.declared.outcome.Ending.TheVariants.{Settled, Spent, Broken}
use Rattle.promise.specs.declared.outcome.RunResult.{RunResult}
use Rattle.promise.specs.State.{State}
use Rattle.promise.specs.Steps.{found, outcome, written, broken_off, by}

-- what a run makes, and the state that it leaves
pub record Ran : Type 0 where
  pub state : State
  pub result : RunResult

abbrev pub ran : State → Ending → ℕ → ℕ → Ran
ran s ending steps raises = record { state = s; result = record { ending = ending; steps = steps; raises = raises } }

-- the item after i, from 0 again after the last
abbrev pub next : State → ℕ → ℕ
next s i = cond (nat_lt (i + 1) (length s.items)) (i + 1) 0

-- a run under way: the allowance that is left, the state, the item to step, how many of the latest steps
-- were quiet, and the steps and raising steps so far
unfoldable pub run_from : Reckoning → ℕ → State → ℕ → ℕ → ℕ → ℕ → Ran
run_from wait zero s i quiet steps raises = ran s (cond (nat_le (length s.items) quiet) Settled Spent) steps raises
run_from wait (suc left) s i quiet steps raises =
    cond (nat_le (length s.items) quiet) (ran s Settled steps raises)
    (by (outcome wait s i)
    (run_from wait left (written s i (found wait s i)) (next s i) 0 (steps + 1) (raises + 1))
    (run_from wait left (written s i (found wait s i)) (next s i) (quiet + 1) (steps + 1) raises)
    (λ c. ran (broken_off s) (Broken i c) (steps + 1) raises))

abbrev pub run_of : Reckoning → State → ℕ → Ran
run_of wait s allowance = run_from wait allowance s 0 0 0 0
