-- Lawful sets of times.
use Rattle.std.specs.Prelude.{◌≡◌, ℕ, ◌<◌, ◌≤◌, List, length, get_or, slice_index_or}
use Rattle.model.specs.declared.arc.Arc.{Arc}
use Rattle.model.specs.declared.item.Item.{Item}
use Rattle.model.specs.declared.times.Times.{Times}
use Rattle.model.specs.Items.{no_item, no_times, no_arc, end_of}
use Rattle.model.specs.Laws.{Reckoning}

abbrev pub late_at : List Times → ℕ → ℕ
late_at ts i = (get_or ts i no_times).late

abbrev pub wait_at : List Times → ℕ → ℕ
wait_at ts i = (get_or ts i no_times).wait

abbrev pub end_at : List Item → List Times → ℕ → ℕ
end_at xs ts i = end_of (slice_index_or xs i no_item) (slice_index_or ts i no_times)

-- the five conditions on an item i of a lawful set
pub record LawfulAt (wait : Reckoning) (xs : List Item) (arcs : List Arc) (ts : List Times) (i : ℕ) : Type 0 where
  -- it is not released before its offset
  pub released : (get_or xs i no_item).offset ≤ late_at ts i
  -- nor before an item with an arc to it has ended
  pub supplied : (k : ℕ) → k < length arcs → (get_or arcs k no_arc).to ≡ i → end_at xs ts (get_or arcs k no_arc).from ≤ late_at ts i
  -- it waits no shorter than the rule says of this same set
  pub waited : wait xs ts i ≤ wait_at ts i
  -- it ends by its deadline
  pub in_time : end_at xs ts i ≤ (get_or xs i no_item).deadline
  -- with mark 1 it is not released after its offset either
  pub exact : (get_or xs i no_item).mark ≡ 1 → late_at ts i ≤ (get_or xs i no_item).offset

-- a lawful set: one pair of times for each item, under the five conditions
pub record Lawful (wait : Reckoning) (xs : List Item) (arcs : List Arc) (ts : List Times) : Type 0 where
  pub paired : length ts ≡ length xs
  pub each : (i : ℕ) → i < length xs → LawfulAt wait xs arcs ts i
