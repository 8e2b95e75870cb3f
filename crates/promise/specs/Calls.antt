-- The seven calls: the questions in their order, what each answers, and what it leaves.
use Rattle.std.specs.Prelude.{◌≡◌, ℕ, zero, suc, ◌<◌, Bool, true, cond, not, ◌&&◌, List, [], ◌∷◌, ◌++◌, length, get_or, drop, Some, None, Ok, Err, Option, Result, ◌==◌, nat_le, nat_lt, slice_index_or, slice_set}
use Rattle.model.specs.declared.arc.Arc.{Arc}
use Rattle.model.specs.declared.item.Item.{Item}
use Rattle.model.specs.Items.{no_item, no_arc, has_period, has_limits, has_start, is_there, Bytes}
use Rattle.model.specs.Lawful.{late_at, wait_at, end_at}
use Rattle.promise.specs.declared.outcome.Became.{Became}
use Rattle.promise.specs.declared.outcome.Line.{Line}
use Rattle.promise.specs.declared.outcome.QueueBound.{QueueBound}
use Rattle.promise.specs.declared.outcome.Refusal.{Refusal}
use Rattle.promise.specs.declared.outcome.Refusal.TheVariants.{ManyItems, BadPeriod, BadLimits, BadStart, TakenPriority, NotAdmitted, NoItem, FixedFields, BadArc, KnownArc, ManyArcs, SheetBroken, NotSettled, ShortTable}
use Rattle.promise.specs.declared.outcome.RunResult.{RunResult}
use Rattle.promise.specs.State.{State, Meaning, fresh, item_at}
use Rattle.promise.specs.Steps.{outcome, stepped, is_quiet}
use Rattle.promise.specs.Runs.{run_of}

-- a question: on yes the next ones, on no its refusal
abbrev pub ask : Bool → Refusal → Result (Unit {0}) Refusal → Result (Unit {0}) Refusal
ask test refusal next = cond test next (Err refusal)

-- an answer after its questions
abbrev pub then : {X : Type 0} → Result (Unit {0}) Refusal → Result X Refusal → Result X Refusal
then (Ok u) answer = answer
then (Err e) answer = Err e

-- f holds of no number below n
abbrev pub none_to : (ℕ → Bool) → ℕ → Bool
none_to f zero = true
none_to f (suc n) = none_to f n && not (f n)

-- y, which is another item than x, has its priority at its class and station
abbrev pub rivals : Item → Item → Bool
rivals x y = x.class == y.class && x.station == y.station && x.priority == y.priority

-- no item but number i, which x is or becomes, has its priority there
abbrev pub is_unused : List Item → ℕ → Item → Bool
is_unused xs i x = none_to (λ j. not (j == i) && rivals x (slice_index_or xs j no_item)) (length xs)

abbrev pub is_new_arc : List Arc → ℕ → ℕ → Bool
is_new_arc arcs p i = none_to (λ k. ((get_or arcs k no_arc).from == p) && (get_or arcs k no_arc).to == i) (length arcs)

-- a change that leaves class, station, mark and period alone
abbrev pub keeps_fields : Item → Item → Bool
keeps_fields old x = old.class == x.class && old.station == x.station && old.mark == x.mark && old.period == x.period

-- no step on any item would be anything but quiet
abbrev pub all_quiet : Meaning → State → Bool
all_quiet m s = none_to (λ i. not (is_quiet (outcome m.wait s i))) (length s.items)

abbrev pub entry_ask : Meaning → State → Item → Result (Unit {0}) Refusal
entry_ask m s x =
    ask (nat_lt (length s.items) 64) ManyItems
    (ask (has_period x) BadPeriod
    (ask (has_limits x) BadLimits
    (ask (has_start x) BadStart
    (ask (is_unused s.items (length s.items) x) TakenPriority
    (ask (m.admits x) NotAdmitted
    (Ok tt))))))

abbrev pub entry_answer : Meaning → State → Item → Result ℕ Refusal
entry_answer m s x = then (entry_ask m s x) (Ok (length s.items))

abbrev pub arc_ask : State → ℕ → ℕ → Result (Unit {0}) Refusal
arc_ask s p i =
    ask (nat_lt p (length s.items) && nat_lt i (length s.items)) NoItem
    (ask (nat_lt p i && (item_at s p).period == (item_at s i).period) BadArc
    (ask (is_new_arc s.arcs p i) KnownArc
    (ask (nat_lt (length s.arcs) 128) ManyArcs
    (Ok tt))))

abbrev pub change_ask : Meaning → State → ℕ → Item → Result (Unit {0}) Refusal
change_ask m s i x =
    ask (nat_lt i (length s.items)) NoItem
    (ask (keeps_fields (item_at s i) x) FixedFields
    (ask (has_limits x) BadLimits
    (ask (has_start x) BadStart
    (ask (is_unused s.items i x) TakenPriority
    (ask (m.admits x) NotAdmitted
    (Ok tt))))))

abbrev pub step_ask : State → ℕ → Result (Unit {0}) Refusal
step_ask s i =
    ask (nat_lt i (length s.items)) NoItem
    (ask (not s.broken) SheetBroken
    (Ok tt))

-- the outcome, and where the item ends by the times then held
abbrev pub step_answer : Meaning → State → ℕ → Result (Became × ℕ) Refusal
step_answer m s i = then (step_ask s i) (Ok (outcome m.wait s i, end_at s.items (stepped m.wait s i).times i))

abbrev pub run_ask : State → Result (Unit {0}) Refusal
run_ask s = ask (not s.broken) SheetBroken (Ok tt)

abbrev pub run_answer : Meaning → State → ℕ → Result RunResult Refusal
run_answer m s allowance = then (run_ask s) (Ok (run_of m.wait s allowance).result)

abbrev pub settled_ask : Meaning → State → Result (Unit {0}) Refusal
settled_ask m s =
    ask (not s.broken) SheetBroken
    (ask (all_quiet m s) NotSettled
    (Ok tt))

-- of the caller's table only the number of its records is asked
abbrev pub times_answer : Meaning → State → ℕ → Result (Unit {0}) Refusal
times_answer m s rows = then (settled_ask m s) (ask (nat_le (length s.items) rows) ShortTable (Ok tt))

-- the line of item i
abbrev pub line_at : State → ℕ → Line
line_at s i = record { number = i; late = late_at s.times i; wait = wait_at s.times i; end = end_at s.items s.times i }

abbrev pub no_line : Line
no_line = record { number = 0; late = 0; wait = 0; end = 0 }

-- what times writes: one line an item from the front; behind the last line nothing is touched
pub record Filled (s : State) (before after : List Line) : Type 0 where
  pub lines : (i : ℕ) → i < length s.items → slice_index_or after i no_line ≡ line_at s i
  pub rest : drop (length s.items) after ≡ drop (length s.items) before

-- what stands in the caller's table after an answer; a refusal leaves it as it was
abbrev pub Rows : State → Result (Unit {0}) Refusal → List Line → List Line → Type 0
Rows s (Ok u) before after = Filled s before after
Rows s (Err e) before after = after ≡ before

-- a load that is larger than the bound so far takes its place
abbrev pub larger : Option QueueBound → ℕ → ℕ → Option QueueBound
larger None load i = Some (record { bytes = load; item = i })
larger (Some b) load i = cond (nat_lt b.bytes load) (Some (record { bytes = load; item = i })) (Some b)

-- of the items below n that are there: the largest load, and the first item that has it
abbrev pub bound_to : (Item → Bool) → (ℕ → ℕ) → List Item → ℕ → Option QueueBound
bound_to there load xs zero = None
bound_to there load xs (suc n) = cond (there (slice_index_or xs n no_item)) (larger (bound_to there load xs n) (load n) n) (bound_to there load xs n)

abbrev pub bound_answer : Meaning → State → ℕ → ℕ → ℕ → Result (Option QueueBound) Refusal
bound_answer m s class station queue =
    then (settled_ask m s) (Ok (bound_to (is_there class station queue) (m.load s.items s.times) s.items (length s.items)))

pub data Call : Type 0 where
  entry : Item → Call
  arc : ℕ → ℕ → Call
  change : ℕ → Item → Call
  step : ℕ → Call
  run : ℕ → Call
  times : ℕ → Call
  queue_bound : ℕ → ℕ → ℕ → Call

-- a call that can be made: the one-byte fields of its record are bytes, which in the logic is to be said
abbrev pub Made : Call → Type 0
Made (entry x) = Bytes x
Made (arc p i) = Unit {0}
Made (change i x) = Bytes x
Made (step i) = Unit {0}
Made (run allowance) = Unit {0}
Made (times rows) = Unit {0}
Made (queue_bound class station queue) = Unit {0}

abbrev pub AllMade : List Call → Type 0
AllMade [] = Unit {0}
AllMade (c ∷ cs) = Made c × AllMade cs

-- what is left after the questions: a refusal touches nothing
abbrev pub left : Result (Unit {0}) Refusal → State → State → State
left (Ok u) after before = after
left (Err e) after before = before

abbrev pub joined : ℕ → ℕ → Arc
joined p i = record { from = p; to = i }

abbrev pub after : Meaning → State → Call → State
after m s (entry x) = left (entry_ask m s x) (fresh (s.items ++ (x ∷ [])) s.arcs) s
after m s (arc p i) = left (arc_ask s p i) (fresh s.items (s.arcs ++ (joined p i ∷ []))) s
after m s (change i x) = left (change_ask m s i x) (fresh (slice_set s.items i x) s.arcs) s
after m s (step i) = left (step_ask s i) (stepped m.wait s i) s
after m s (run allowance) = left (run_ask s) (run_of m.wait s allowance).state s
after m s (times rows) = s
after m s (queue_bound class station queue) = s

-- after a list of calls, the first of them first
abbrev pub after_all : Meaning → State → List Call → State
after_all m s [] = s
after_all m s (c ∷ cs) = after_all m (after m s c) cs
