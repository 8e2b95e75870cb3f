-- A run followed for so many steps, and what it makes if it ends within them. An argument is computed before
-- the call, so a run by its definition computes both ways on at each step; here each of them waits under a λ,
-- and only the one taken is computed.
use Rattle.std.proofs.Common.{◌≡◌, ℕ, zero, suc, ◌+◌, Bool, true, false, cond, leb, length, Some, None, Option, refl}
use Rattle.model.specs.Laws.{Reckoning}
use Rattle.promise.specs.declared.outcome.Became.{Became}
use Rattle.promise.specs.declared.outcome.Became.TheVariants.{Raised, Quiet, Broke}
use Rattle.promise.specs.declared.outcome.Cause.{Cause}
use Rattle.promise.specs.declared.outcome.Ending.TheVariants.{Settled, Broken}
use Rattle.promise.specs.State.{State, Meaning, empty}
use Rattle.promise.specs.Steps.{found, outcome, written, broken_off, by}
use Rattle.promise.specs.Runs.{Ran, ran, next, run_from, run_of}

-- one turn of a run: it has settled, or goes on by the outcome of a step
abbrev turn : Bool → Became → Ran → (Unit {0} → Option Ran) → (Unit {0} → Option Ran) → (Cause → Ran) → Option Ran
turn true b now raised quiet broke = Some now
turn false Raised now raised quiet broke = raised tt
turn false Quiet now raised quiet broke = quiet tt
turn false (Broke c) now raised quiet broke = Some (broke c)

abbrev pub walk : Reckoning → ℕ → State → ℕ → ℕ → ℕ → ℕ → Option Ran
walk wait zero s i quiet steps raises = None
walk wait (suc n) s i quiet steps raises =
    turn (leb (length s.items) quiet) (outcome wait s i) (ran s Settled steps raises)
    (λ u. walk wait n (written s i (found wait s i)) (next s i) 0 (steps + 1) (raises + 1))
    (λ u. walk wait n (written s i (found wait s i)) (next s i) (quiet + 1) (steps + 1) raises)
    (λ c. ran (broken_off s) (Broken i c) (steps + 1) raises)

-- n more than what is left
abbrev pub more : ℕ → ℕ → ℕ
more zero left = left
more (suc n) left = suc (more n left)

follows : (b : Bool) (o : Became) (now : Ran) (raised quiet : Unit {0} → Option Ran) (broke : Cause → Ran) (x y out : Ran) → (raised tt ≡ Some out → x ≡ out) → (quiet tt ≡ Some out → y ≡ out) → turn b o now raised quiet broke ≡ Some out → cond b now (by o x y broke) ≡ out
follows true o now raised quiet broke x y out p q e = cc
follows false Raised now raised quiet broke x y out p q e = p e
follows false Quiet now raised quiet broke x y out p q e = q e
follows false (Broke c) now raised quiet broke x y out p q e = cc

-- what was followed to its end is what the run makes, whatever more it is allowed
pub walked : (wait : Reckoning) (n left : ℕ) (s : State) (i quiet steps raises : ℕ) (out : Ran) → walk wait n s i quiet steps raises ≡ Some out → run_from wait (more n left) s i quiet steps raises ≡ out
unfolding run_from
walked wait zero left s i quiet steps raises out e = absurd cc
walked wait (suc n) left s i quiet steps raises out e =
    follows (leb (length s.items) quiet) (outcome wait s i) (ran s Settled steps raises)
    (λ u. walk wait n (written s i (found wait s i)) (next s i) 0 (steps + 1) (raises + 1))
    (λ u. walk wait n (written s i (found wait s i)) (next s i) (quiet + 1) (steps + 1) raises)
    (λ c. ran (broken_off s) (Broken i c) (steps + 1) raises)
    _ _ out
    (walked wait n left (written s i (found wait s i)) (next s i) 0 (steps + 1) (raises + 1) out)
    (walked wait n left (written s i (found wait s i)) (next s i) (quiet + 1) (steps + 1) raises out)
    e

pub none_settle : (m : Meaning) (allowance : ℕ) → run_of m.wait empty allowance ≡ ran empty Settled 0 0
unfolding run_from
none_settle m zero = refl
none_settle m (suc n) = refl
