-- The worked figures, as one statement about the definitions of the rules, the bank and the run.
use Rattle.std.specs.Prelude.{◌≡◌, ℕ, zero, suc, List, [], ◌∷◌, ◌++◌, length}
use Rattle.model.specs.declared.arc.Arc.{Arc}
use Rattle.model.specs.declared.item.Item.{Item}
use Rattle.promise.specs.declared.outcome.Cause.TheVariants.{Input}
use Rattle.promise.specs.declared.outcome.Ending.{Ending}
use Rattle.promise.specs.declared.outcome.Ending.TheVariants.{Settled, Broken}
use Rattle.promise.specs.declared.outcome.Line.{Line}
use Rattle.promise.specs.State.{State, Meaning, fresh, empty}
use Rattle.promise.specs.Runs.{Ran, ran, run_of}
use Rattle.promise.specs.Calls.{Call, entry, arc, line_at, after_all}
use Rattle.promise.specs.Promise.{enough}
use Rattle.rules.specs.Can.{can_wait}
use Rattle.figures.specs.Machine.{machine}
use Rattle.figures.specs.Cases.{processes, frames, coming_late, messages, six_items, six_arcs, line, six_lines}

-- the calls that enter the items and then the arcs, in order
abbrev pub arc_calls : List Arc → List Call
arc_calls [] = []
arc_calls (a ∷ arcs) = arc a.from a.to ∷ arc_calls arcs

abbrev pub calls_for : List Item → List Arc → List Call
calls_for [] arcs = arc_calls arcs
calls_for (x ∷ xs) arcs = entry x ∷ calls_for xs arcs

-- the sheet that these calls make of an empty one
abbrev pub sheet_of : List Item → List Arc → State
sheet_of xs arcs = after_all machine empty (calls_for xs arcs)

-- a run on it, with so many steps as are always enough
abbrev pub ran_on : List Item → List Arc → Ran
ran_on xs arcs = run_of machine.wait (sheet_of xs arcs) (enough (sheet_of xs arcs))

-- the lines of the items below n
abbrev pub lines_to : State → ℕ → List Line
lines_to s zero = []
lines_to s (suc n) = lines_to s n ++ (line_at s n ∷ [])

abbrev pub lines_of : State → List Line
lines_of s = lines_to s (length s.items)

-- what becomes of a sheet with these items and arcs
pub record Works (xs : List Item) (arcs : List Arc) (ending : Ending) (steps raises : ℕ) (lines : List Line) : Type 0 where
  -- every entry and every arc is granted
  pub granted : sheet_of xs arcs ≡ fresh xs arcs
  -- how the run ends, after how many steps, of which how many raise a time
  pub result : (ran_on xs arcs).result ≡ record { ending = ending; steps = steps; raises = raises }
  -- the times that it leaves, with the ends by them
  pub left : lines_of (ran_on xs arcs).state ≡ lines

pub record Figures : Type 0 where
  -- a process of 40 under a stronger one of 10 that comes every 50: it ends at 50, as that one comes again
  pub process_fits : Works (processes 40) [] Settled 4 1 (line 0 0 0 10 ∷ line 1 0 10 50 ∷ [])
  -- a tick longer, and the stronger one runs a second time before it ends
  pub process_caught : Works (processes 41) [] Settled 6 2 (line 0 0 0 10 ∷ line 1 0 20 61 ∷ [])
  -- two CAN messages: the stronger waits for the frame that has begun, the weaker for the stronger one's
  pub frames_settle : Works frames [] Settled 4 2 (line 0 0 110 380 ∷ line 1 0 270 380 ∷ [])
  -- by the rule alone: 270 of wait and 2229 of jitter are one tick short of the stronger one's period, 2500
  pub arrives_once : (wait : ℕ) → can_wait frames (coming_late 2229 wait) 1 ≡ 270
  -- and with 2230 it arrives a second time
  pub arrives_twice : (wait : ℕ) → can_wait frames (coming_late 2230 wait) 1 ≡ 540
  -- 5 and 3 bytes share the 8 of one slot
  pub slot_shared : Works (messages 3) [] Settled 4 2 (line 0 0 2000 2250 ∷ line 1 0 2000 2250 ∷ [])
  -- of 5 and 4 the last byte goes a round later
  pub slot_overrun : Works (messages 4) [] Settled 4 2 (line 0 0 2000 2250 ∷ line 1 0 3000 3250 ∷ [])
  -- six items in a row, through all four classes
  pub six_settle : Works (six_items 5000) six_arcs Settled 12 6 (six_lines (line 5 5000 0 5300))
  -- the last may be fixed as early as the one before it ends
  pub six_tight : Works (six_items 4830) six_arcs Settled 12 6 (six_lines (line 5 4830 0 5130))
  -- a tick earlier, its input comes too late: the step on it breaks the sheet, and its times stay 0
  pub six_break : Works (six_items 4829) six_arcs (Broken 5 Input) 6 5 (six_lines (line 5 0 0 300))
  -- a sheet without items is settled as it is, under any rule and with any allowance
  pub none_settle : (m : Meaning) (allowance : ℕ) → run_of m.wait empty allowance ≡ ran empty Settled 0 0
