-- The worked figures, each followed to the end of its run.
use Rattle.std.proofs.Common.{◌≡◌, ℕ, Bool, true, false, List, [], ◌∷◌, Some, refl, ap, ◌∙◌}
use Rattle.model.specs.declared.arc.Arc.{Arc}
use Rattle.model.specs.declared.item.Item.{Item}
use Rattle.model.specs.declared.times.Times.{Times}
use Rattle.promise.specs.declared.outcome.Ending.{Ending}
use Rattle.promise.specs.declared.outcome.Line.{Line}
use Rattle.promise.specs.Promise.{enough}
use Rattle.promise.specs.State.{State, fresh}
use Rattle.promise.specs.Runs.{Ran, ran, run_of}
use Rattle.figures.specs.Machine.{machine}
use Rattle.figures.specs.Cases.{processes, frames, messages, six_items, six_arcs}
use Rattle.figures.specs.Figures.{Works, Figures, ran_on, sheet_of, lines_of}
use Rattle.figures.proofs.Walks.{walk, more, walked, none_settle}

-- a sheet that the calls make, and a run that ends within n of the steps that are enough
works : (xs : List Item) (arcs : List Arc) (n left : ℕ) (s : State) (ending : Ending) (steps raises : ℕ) (lines : List Line) → sheet_of xs arcs ≡ fresh xs arcs → enough (fresh xs arcs) ≡ more n left → walk machine.wait n (fresh xs arcs) 0 0 0 0 ≡ Some (ran s ending steps raises) → lines_of s ≡ lines → Works xs arcs ending steps raises lines
works xs arcs n left s ending steps raises lines granted allowed followed listed =
    let run : ran_on xs arcs ≡ ran s ending steps raises =
    ap (λ (t : State). run_of machine.wait t (enough t)) granted
    ∙ (ap (run_of machine.wait (fresh xs arcs)) allowed
    ∙ walked machine.wait n left (fresh xs arcs) 0 0 0 0 (ran s ending steps raises) followed) in
    record { granted = granted; result = ap (λ (x : Ran). x.result) run; left = ap (λ (x : Ran). lines_of x.state) run ∙ listed }

abbrev holding : List Item → List Arc → List Times → Bool → State
holding xs arcs ts broken = record { items = xs; arcs = arcs; times = ts; broken = broken }

abbrev pair : ℕ → ℕ → Times
pair late wait = record { late = late; wait = wait }

abbrev six_times : Times → List Times
six_times last = pair 1000 0 ∷ pair 1500 150 ∷ pair 1840 0 ∷ pair 2240 190 ∷ pair 2580 2000 ∷ last ∷ []

pub figures : Figures
figures =
    record {
      process_fits = works (processes 40) [] 5 197 (holding (processes 40) [] (pair 0 0 ∷ pair 0 10 ∷ []) false) _ _ _ _ refl refl refl refl;
      process_caught = works (processes 41) [] 7 193 (holding (processes 41) [] (pair 0 0 ∷ pair 0 20 ∷ []) false) _ _ _ _ refl refl refl refl;
      frames_settle = works frames [] 5 9237 (holding frames [] (pair 0 110 ∷ pair 0 270 ∷ []) false) _ _ _ _ refl refl refl refl;
      arrives_once = λ wait. refl;
      arrives_twice = λ wait. refl;
      slot_shared = works (messages 3) [] 5 38997 (holding (messages 3) [] (pair 0 2000 ∷ pair 0 2000 ∷ []) false) _ _ _ _ refl refl refl refl;
      slot_overrun = works (messages 4) [] 5 38997 (holding (messages 4) [] (pair 0 2000 ∷ pair 0 3000 ∷ []) false) _ _ _ _ refl refl refl refl;
      six_settle = works (six_items 5000) six_arcs 13 349253 (holding (six_items 5000) six_arcs (six_times (pair 5000 0)) false) _ _ _ _ refl refl refl refl;
      six_tight = works (six_items 4830) six_arcs 13 349253 (holding (six_items 4830) six_arcs (six_times (pair 4830 0)) false) _ _ _ _ refl refl refl refl;
      six_break = works (six_items 4829) six_arcs 6 349260 (holding (six_items 4829) six_arcs (six_times (pair 0 0)) true) _ _ _ _ refl refl refl refl;
      none_settle = none_settle;
    }
