-- The state that a table holds, and what every table keeps.
use Rattle.std.specs.Prelude.{◌≡◌, ℕ, zero, suc, ◌<◌, ◌≤◌, List, [], ◌∷◌, length, take, slice_index_or}
use Rattle.model.specs.declared.arc.Arc.{Arc}
use Rattle.model.specs.declared.item.Item.{Item}
use Rattle.model.specs.Items.{no_item, no_times, no_arc}
use Rattle.model.specs.Laws.{Handed}
use Rattle.promise.specs.State.{State}
use Rattle.sheet.specs.declared.table.Table.TheInside.{Inside}

abbrev pub state_of : Inside → State
state_of t = record { items = take t.count t.items; arcs = take t.arc_count t.arcs; times = take t.count t.times; broken = t.broken }

-- the records of a list, and blank ones behind them, n in all
unfoldable pub padded : {X : Type 0} → ℕ → X → List X → List X
padded zero blank xs = xs
padded (suc n) blank [] = blank ∷ padded n blank []
padded (suc n) blank (x ∷ xs) = x ∷ padded n blank xs

-- the table that holds a state
abbrev pub table_of : State → Inside
table_of s = record {
  count = length s.items;
  items = padded 64 no_item s.items;
  arc_count = length s.arcs;
  arcs = padded 128 no_arc s.arcs;
  times = padded 64 no_times s.times;
  broken = s.broken;
}

-- each arc starts at an item
abbrev pub Linked : List Item → List Arc → Type 0
Linked xs arcs = (k : ℕ) → k < length arcs → (slice_index_or arcs k no_arc).from < length xs

-- a rule may be handed what stands there, there are no more than 128 arcs, and each starts at an item
pub record Fit (s : State) : Type 0 where
  pub handed : Handed s.items s.times
  pub few_arcs : length s.arcs ≤ 128
  pub linked : Linked s.items s.arcs

-- what every table keeps; the second tells that what is not in use is blank
pub record Whole (t : Inside) : Type 0 where
  pub fit : Fit (state_of t)
  pub blank : table_of (state_of t) ≡ t
