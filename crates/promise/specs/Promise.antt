-- The promise, in words of lawful sets and lists of calls.
use Rattle.std.specs.Prelude.{◌≡◌, ℕ, ◌+◌, ◌-◌, ◌*◌, ◌<◌, ◌≤◌, true, false, cond, List, length, Some, None, Ok, sum_by, Option, slice_index_or}
use Rattle.model.specs.declared.times.Times.{Times}
use Rattle.model.specs.Items.{no_item, is_there}
use Rattle.model.specs.Laws.{Below}
use Rattle.model.specs.Lawful.{late_at, wait_at, end_at, Lawful}
use Rattle.model.specs.Folds.{largest_to}
use Rattle.promise.specs.declared.outcome.Became.{Became}
use Rattle.promise.specs.declared.outcome.Ending.{Ending}
use Rattle.promise.specs.declared.outcome.Ending.TheVariants.{Settled, Spent, Broken}
use Rattle.promise.specs.declared.outcome.QueueBound.{QueueBound}
use Rattle.promise.specs.declared.outcome.RunResult.{RunResult}
use Rattle.promise.specs.State.{State, Meaning, empty}
use Rattle.promise.specs.Runs.{run_of}
use Rattle.promise.specs.Calls.{Call, entry, arc, change, step, run, times, queue_bound, all_quiet, step_answer, run_answer, times_answer, bound_answer, AllMade, after, after_all}

-- the lawful sets of a sheet as it stands
abbrev pub LawfulFor : Meaning → State → List Times → Type 0
LawfulFor m s ts = Lawful m.wait s.items s.arcs ts

abbrev pub Hopeless : Meaning → State → Type 0
Hopeless m s = (ts : List Times) → LawfulFor m s ts → ⊥

-- the two questions: is the sheet unbroken, and would a step on each of its items be quiet?
abbrev pub IsSettled : Meaning → State → Type 0
IsSettled m s = (s.broken ≡ false) × (all_quiet m s ≡ true)

-- S: the sum of deadline - duration
abbrev pub room : State → ℕ
room s = sum_by (λ x. x.deadline - x.duration) s.items

-- so many steps are always enough
abbrev pub enough : State → ℕ
enough s = (room s + 1) * length s.items

abbrev pub load_there : Meaning → State → List Times → ℕ → ℕ → ℕ → ℕ → ℕ
load_there m s ts class station queue i = cond (is_there class station queue (slice_index_or s.items i no_item)) (m.load s.items ts i) 0

-- the queue bound of a set: the largest load that it gives an item there
abbrev pub bound_of : Meaning → State → List Times → ℕ → ℕ → ℕ → ℕ
bound_of m s ts class station queue = largest_to (load_there m s ts class station queue) (length s.items)

-- what the end of a run says of the lawful sets of the sheet on which it began
abbrev pub Tells : Meaning → State → ℕ → State → Ending → Type 0
Tells m s allowance left Settled = LawfulFor m s left.times
Tells m s allowance left Spent = allowance < enough s
Tells m s allowance left (Broken i c) = Hopeless m s

-- it ended settled and a lawful set exists, or it ended broken and none does
abbrev pub Decided : Meaning → State → State → Ending → Type 0
Decided m s left Settled = LawfulFor m s left.times
Decided m s left Spent = ⊥
Decided m s left (Broken i c) = Hopeless m s

pub record RunKept (m : Meaning) (s : State) (allowance : ℕ) (left : State) (r : RunResult) : Type 0 where
  pub tells : Tells m s allowance left r.ending
  pub decides : enough s ≤ allowance → Decided m s left r.ending
  pub raises : r.raises ≤ room s
  pub steps : r.steps ≤ allowance

-- a queue bound that is granted: the bound of the sheet's times, which no lawful set has smaller, and the
-- smallest number of an item that reaches it
pub record BoundIs (m : Meaning) (s : State) (class station queue : ℕ) (b : QueueBound) : Type 0 where
  pub bytes : b.bytes ≡ bound_of m s s.times class station queue
  pub least : (ts : List Times) → LawfulFor m s ts → b.bytes ≤ bound_of m s ts class station queue
  pub inside : b.item < length s.items
  pub there : is_there class station queue (slice_index_or s.items b.item no_item) ≡ true
  pub reached : m.load s.items s.times b.item ≡ b.bytes
  pub first : (j : ℕ) → j < b.item → is_there class station queue (slice_index_or s.items j no_item) ≡ true → m.load s.items s.times j < b.bytes

abbrev pub BoundKept : Meaning → State → ℕ → ℕ → ℕ → Option QueueBound → Type 0
BoundKept m s class station queue None = (i : ℕ) → i < length s.items → is_there class station queue (slice_index_or s.items i no_item) ≡ false
BoundKept m s class station queue (Some b) = BoundIs m s class station queue b

-- what a granted answer rests on
abbrev pub AnswerKept : Meaning → State → Call → Type 0
AnswerKept m s (entry x) = Unit {0}
AnswerKept m s (arc p i) = Unit {0}
AnswerKept m s (change i x) = Unit {0}
AnswerKept m s (step i) = (b : Became) (end : ℕ) → step_answer m s i ≡ Ok (b, end) → (ts : List Times) → LawfulFor m s ts → end ≤ end_at s.items ts i
AnswerKept m s (run allowance) = (r : RunResult) → run_answer m s allowance ≡ Ok r → RunKept m s allowance (run_of m.wait s allowance).state r
AnswerKept m s (times rows) = times_answer m s rows ≡ Ok tt → LawfulFor m s s.times × ((ts : List Times) → LawfulFor m s ts → Below s.times ts)
AnswerKept m s (queue_bound class station queue) = (b : Option QueueBound) → bound_answer m s class station queue ≡ Ok b → BoundKept m s class station queue b

-- the promise of one state
pub record Kept (m : Meaning) (s : State) : Type 0 where
  -- the sheet's times are below every lawful set
  pub late_low : (ts : List Times) → LawfulFor m s ts → (i : ℕ) → late_at s.times i ≤ late_at ts i
  pub wait_low : (ts : List Times) → LawfulFor m s ts → (i : ℕ) → wait_at s.times i ≤ wait_at ts i
  pub end_low : (ts : List Times) → LawfulFor m s ts → (i : ℕ) → end_at s.items s.times i ≤ end_at s.items ts i
  -- settled and lawful are the same
  pub lawful : IsSettled m s → LawfulFor m s s.times
  pub settled : LawfulFor m s s.times → IsSettled m s
  -- and then no lawful set has a smaller queue bound anywhere
  pub least_bounds : IsSettled m s → (ts : List Times) → LawfulFor m s ts → (class station queue : ℕ) → bound_of m s s.times class station queue ≤ bound_of m s ts class station queue
  -- broken: nothing is lawful
  pub hopeless : s.broken ≡ true → Hopeless m s
  -- what the next call would answer
  pub answers : (c : Call) → AnswerKept m s c

-- two histories that lead to the same items and arcs: where one settles no other breaks, and where both
-- settle they leave equal times
abbrev pub Agree : Meaning → State → State → Type 0
Agree m s t = s.items ≡ t.items → s.arcs ≡ t.arcs → IsSettled m s → (t.broken ≡ false) × (IsSettled m t → s.times ≡ t.times)

-- the promise, of every state that calls lead to from the empty sheet
pub record Promised (m : Meaning) : Type 0 where
  pub kept : (calls : List Call) → AllMade calls → Kept m (after_all m empty calls)
  pub agree : (calls others : List Call) → AllMade calls → AllMade others → Agree m (after_all m empty calls) (after_all m empty others)

-- the promise as one call has it: what it leaves, and, of a sheet that some list of calls made, what its
-- answer rests on and the promise of the sheet that it leaves
pub record Leaves (m : Meaning) (s : State) (c : Call) (left : State) : Type 0 where
  pub state : left ≡ after m s c
  pub kept : (calls : List Call) → AllMade calls → s ≡ after_all m empty calls → AnswerKept m s c × Kept m left
