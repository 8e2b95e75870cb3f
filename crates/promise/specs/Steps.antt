-- What a step on one item does.
use Rattle.std.specs.Prelude.{ℕ, max, Bool, true, false, cond, ◌&&◌, ◌||◌, List, [], ◌∷◌, ◌==◌, nat_lt, slice_set}
use Rattle.model.specs.declared.arc.Arc.{Arc}
use Rattle.model.specs.declared.item.Item.{Item}
use Rattle.model.specs.declared.times.Times.{Times}
use Rattle.model.specs.Items.{end_of}
use Rattle.model.specs.Laws.{Reckoning}
use Rattle.model.specs.Lawful.{end_at}
use Rattle.promise.specs.declared.outcome.Became.{Became}
use Rattle.promise.specs.declared.outcome.Became.TheVariants.{Raised, Quiet, Broke}
use Rattle.promise.specs.declared.outcome.Cause.{Cause}
use Rattle.promise.specs.declared.outcome.Cause.TheVariants.{Input, Limit}
use Rattle.promise.specs.State.{State, item_at, times_at}

-- the largest of m and all ends with an arc to i
abbrev pub latest : List Item → List Times → ℕ → List Arc → ℕ → ℕ
latest xs ts i [] m = m
latest xs ts i (a ∷ arcs) m = latest xs ts i arcs (cond (a.to == i) (max m (end_at xs ts a.from)) m)

-- the new late time and wait of item i, both from the times before the step
abbrev pub found : Reckoning → State → ℕ → Times
found wait s i = record { late = latest s.items s.times i s.arcs (item_at s i).offset; wait = wait s.items s.times i }

-- a late release of an item with mark 1 comes before an end that is too late, and both before raised or quiet
abbrev pub judge : Item → Times → Times → Became
judge x old new =
    cond (x.mark == 1 && nat_lt x.offset new.late) (Broke Input)
    (cond (nat_lt x.deadline (end_of x new)) (Broke Limit)
    (cond (nat_lt old.late new.late || nat_lt old.wait new.wait) Raised Quiet))

abbrev pub outcome : Reckoning → State → ℕ → Became
outcome wait s i = judge (item_at s i) (times_at s i) (found wait s i)

abbrev pub written : State → ℕ → Times → State
written s i t = record { items = s.items; arcs = s.arcs; times = slice_set s.times i t; broken = s.broken }

abbrev pub broken_off : State → State
broken_off s = record { items = s.items; arcs = s.arcs; times = s.times; broken = true }

-- by cases of an outcome
abbrev pub by : {X : Type 0} → Became → X → X → (Cause → X) → X
by Raised x y z = x
by Quiet x y z = y
by (Broke c) x y z = z c

-- the state after a step
abbrev pub stepped : Reckoning → State → ℕ → State
stepped wait s i = by (outcome wait s i) (written s i (found wait s i)) (written s i (found wait s i)) (λ c. broken_off s)

abbrev pub is_quiet : Became → Bool
is_quiet b = by b false true (λ c. false)
