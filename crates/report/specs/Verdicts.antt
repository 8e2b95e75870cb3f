-- What a run with enough steps says of the sheet on which it began.
use Rattle.std.specs.Prelude.{◌≡◌, ℕ, ◌<◌, false, List, length}
use Rattle.promise.specs.declared.outcome.Cause.{Cause}
use Rattle.promise.specs.declared.outcome.Ending.TheVariants.{Settled, Spent, Broken}
use Rattle.promise.specs.declared.outcome.RunResult.{RunResult}
use Rattle.promise.specs.State.{State, Meaning, empty}
use Rattle.promise.specs.Runs.{run_of}
use Rattle.promise.specs.Calls.{Call, AllMade, after_all}
use Rattle.promise.specs.Promise.{Hopeless, IsSettled, enough}
use Rattle.report.specs.Truth.{Least}

-- a sheet that some list of calls made, and that is unbroken
pub record Reached (m : Meaning) (s : State) : Type 0 where
  pub calls : List Call
  pub made : AllMade calls
  pub state : s ≡ after_all m empty calls
  pub unbroken : s.broken ≡ false

-- of the sheet s, the result r and the sheet t that the run left
pub record Verdict (m : Meaning) (s : State) (r : RunResult) (t : State) : Type 0 where
  pub result : r ≡ (run_of m.wait s (enough s)).result
  pub left : t ≡ (run_of m.wait s (enough s)).state
  pub items : t.items ≡ s.items
  pub settled : r.ending ≡ Settled → IsSettled m t
  pub least : r.ending ≡ Settled → Least m s t.times
  pub hopeless : (i : ℕ) (c : Cause) → r.ending ≡ Broken i c → Hopeless m s
  pub inside : (i : ℕ) (c : Cause) → r.ending ≡ Broken i c → i < length s.items
  pub decided : r.ending ≡ Spent → ⊥
