-- What a rule may be handed, and the law that belongs to it.
use Rattle.std.specs.Prelude.{◌≡◌, ℕ, ◌^◌, ◌<◌, ◌≤◌, List, length, get_or, slice_index_or}
use Rattle.model.specs.declared.item.Item.{Item}
use Rattle.model.specs.declared.times.Times.{Times}
use Rattle.model.specs.Items.{no_item, no_times, Valid}

pub record Small (t : Times) : Type 0 where
  pub late : t.late ≤ 1000000
  pub wait : t.wait ≤ 1000000

-- what a rule may be handed: at most 64 valid records, and one pair of times up to 1,000,000 for each
pub record Handed (items : List Item) (times : List Times) : Type 0 where
  pub few : length items ≤ 64
  pub paired : length times ≡ length items
  pub valid : (i : ℕ) → i < length items → Valid (slice_index_or items i no_item)
  pub late_small : (i : ℕ) → i < length items → (get_or times i no_times).late ≤ 1000000
  pub wait_small : (i : ℕ) → i < length items → (get_or times i no_times).wait ≤ 1000000

-- no time of the first set is above the same one of the second
pub record Below (s t : List Times) : Type 0 where
  pub late : (i : ℕ) → (get_or s i no_times).late ≤ (get_or t i no_times).late
  pub wait : (i : ℕ) → (get_or s i no_times).wait ≤ (get_or t i no_times).wait

-- a figure of item i, from all items and a set of times
abbrev pub Reckoning : Type 0
Reckoning = List Item → List Times → ℕ → ℕ

-- a set of times with nothing smaller gives nothing smaller
abbrev pub Monotone : Reckoning → Type 0
Monotone f = (items : List Item) (s t : List Times) (i : ℕ) → Handed items s → Handed items t → Below s t → i < length items → f items s i ≤ f items t i

abbrev pub StaysBelow : ℕ → Reckoning → Type 0
StaysBelow m f = (items : List Item) (s : List Times) (i : ℕ) → Handed items s → i < length items → f items s i < m

-- the law of a rule, of its waits and its loads
pub record Law (wait load : Reckoning) : Type 0 where
  pub wait_monotone : Monotone wait
  pub load_monotone : Monotone load
  pub wait_bounded : StaysBelow 1000002 wait
  pub load_bounded : StaysBelow (2 ^ 40) load
