-- A sheet as the calls see it, and what a rule means to it.
use Rattle.std.specs.Prelude.{ℕ, Bool, false, List, [], length, replicate, slice_index_or}
use Rattle.model.specs.declared.arc.Arc.{Arc}
use Rattle.model.specs.declared.item.Item.{Item}
use Rattle.model.specs.declared.rule.Rule.{Ghosts}
use Rattle.model.specs.declared.times.Times.{Times}
use Rattle.model.specs.Items.{no_item, no_times}
use Rattle.model.specs.Laws.{Reckoning}

-- the three functions of a rule
pub record Meaning : Type 0 where
  pub admits : Item → Bool
  pub wait : Reckoning
  pub load : Reckoning

abbrev pub meaning : {R : Type 0} → Ghosts R → R → Meaning
meaning rule r = record { admits = rule.admits r; wait = rule.wait r; load = rule.load r }

pub record State : Type 0 where
  pub items : List Item
  pub arcs : List Arc
  pub times : List Times
  pub broken : Bool

-- all times 0, and unbroken
abbrev pub fresh : List Item → List Arc → State
fresh xs arcs = record { items = xs; arcs = arcs; times = replicate (length xs) no_times; broken = false }

abbrev pub empty : State
empty = fresh [] []

abbrev pub item_at : State → ℕ → Item
item_at s i = slice_index_or s.items i no_item

abbrev pub times_at : State → ℕ → Times
times_at s i = slice_index_or s.times i no_times
