-- What waits and loads are made of: the largest figure of the weaker items, and sums over the
-- stronger ones.
use Rattle.std.specs.Prelude.{ℕ, ◌+◌, ◌-◌, ◌/◌, ◌≤◌, min, max, Bool, cond, ◌&&◌, List, length, get_or, ◌==◌, nat_lt, slice_index_or}
use Rattle.model.specs.declared.item.Item.{Item}
use Rattle.model.specs.declared.times.Times.{Times}
use Rattle.model.specs.Folds.{sum_to, largest_to}
use Rattle.model.specs.Items.{no_item, no_times, jitter_of, Valid}
use Rattle.model.specs.Laws.{Reckoning, Small}

-- a divisor below 1 counts as 1
abbrev pub ⌊◌/◌⌋ : ℕ → ℕ → ℕ
⌊ a / d ⌋ = a / max 1 d

abbrev pub ⌈◌/◌⌉ : ℕ → ℕ → ℕ
⌈ a / d ⌉ = (a + (max 1 d - 1)) / max 1 d

-- 1,000,001 stands for any larger wait
abbrev pub capped : ℕ → ℕ
capped wait = min 1000001 wait

-- the other is stronger than mine: of the same class and station, with a smaller priority number
abbrev pub is_stronger : Item → Item → Bool
is_stronger mine other = mine.class == other.class && mine.station == other.station && nat_lt other.priority mine.priority

-- the other is weaker than mine: of the same class and station, with a larger priority number
abbrev pub is_weaker : Item → Item → Bool
is_weaker mine other = mine.class == other.class && mine.station == other.station && nat_lt mine.priority other.priority

-- what one other item adds, from my record and times and from the other's
abbrev pub Part : Type 0
Part = Item → Times → Item → Times → ℕ

abbrev pub part_at : Part → List Item → List Times → ℕ → ℕ → ℕ
part_at f items times i j =
    cond (is_stronger (slice_index_or items i no_item) (slice_index_or items j no_item))
    (f (slice_index_or items i no_item) (slice_index_or times i no_times) (slice_index_or items j no_item) (slice_index_or times j no_times))
    0

-- the sum of f over the items stronger than item i
abbrev pub over_stronger : Part → Reckoning
over_stronger f items times i = sum_to (part_at f items times i) (length items)

abbrev pub figure_at : (Item → ℕ) → List Item → ℕ → ℕ → ℕ
figure_at f items i j = cond (is_weaker (slice_index_or items i no_item) (slice_index_or items j no_item)) (f (slice_index_or items j no_item)) 0

-- the largest f among the items weaker than item i
abbrev pub largest_of_weaker : (Item → ℕ) → List Item → ℕ → ℕ
largest_of_weaker f items i = largest_to (figure_at f items i) (length items)

-- a wait: the largest figure of the weaker + the sum over the stronger
abbrev pub waiting : (Item → ℕ) → Part → Reckoning
waiting figure part items times i = capped (largest_of_weaker figure items i + over_stronger part items times i)

-- a load: own size + the sum over the stronger
abbrev pub loading : Part → Reckoning
loading part items times i = (get_or items i no_item).size + over_stronger part items times i

-- how often a message j arrives while mine waits: ⌊(wait + jitter j) / period j⌋ + 1
abbrev pub arrivals : Times → Item → Times → ℕ
arrivals own other its = ⌊ own.wait + jitter_of other its / other.period ⌋ + 1

-- a part that raising times never lowers, and that is at most m
pub record Fair (m : ℕ) (f : Part) : Type 0 where
  pub rises : (x y : Item) (s s' t t' : Times) → Valid x → Valid y → s.wait ≤ s'.wait → t.late ≤ t'.late → f x s y t ≤ f x s' y t'
  pub small : (x y : Item) (s t : Times) → Valid x → Valid y → Small s → Small t → f x s y t ≤ m
