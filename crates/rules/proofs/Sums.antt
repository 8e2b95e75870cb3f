-- A turn of the loops that sum over the stronger and take the largest of the weaker.
use Rattle.std.specs.Prelude.{◌≡◌, ℕ, ◌+◌, max, true, false, List, slice_index_or}
use Rattle.std.proofs.Common.{add-one, arith}
use Rattle.model.specs.declared.item.Item.{Item}
use Rattle.model.specs.declared.times.Times.{Times}
use Rattle.model.specs.Items.{no_item, no_times}
use Rattle.model.specs.Folds.{sum_to, largest_to}
use Rattle.rules.specs.Sums.{is_stronger, is_weaker, Part, part_at, figure_at}

-- a turn of the loop that sums: the item at j is stronger, or is not
pub stronger_yes : (f : Part) (items : List Item) (s : List Times) (i j : ℕ) → true ≡ is_stronger (slice_index_or items i no_item) (slice_index_or items j no_item) → sum_to (part_at f items s i) (j + 1) ≡ sum_to (part_at f items s i) j + f (slice_index_or items i no_item) (slice_index_or s i no_times) (slice_index_or items j no_item) (slice_index_or s j no_times)
stronger_yes f items s i j e = rw (add-one, ← e)

pub stronger_no : (f : Part) (items : List Item) (s : List Times) (i j : ℕ) → false ≡ is_stronger (slice_index_or items i no_item) (slice_index_or items j no_item) → sum_to (part_at f items s i) (j + 1) ≡ sum_to (part_at f items s i) j
stronger_no f items s i j e = rw (add-one, ← e) (omega arith)

-- a turn of the loop that takes the largest
pub weaker_yes : (f : Item → ℕ) (items : List Item) (i j : ℕ) → true ≡ is_weaker (slice_index_or items i no_item) (slice_index_or items j no_item) → largest_to (figure_at f items i) (j + 1) ≡ max (largest_to (figure_at f items i) j) (f (slice_index_or items j no_item))
weaker_yes f items i j e = rw (add-one, ← e)

pub weaker_no : (f : Item → ℕ) (items : List Item) (i j : ℕ) → false ≡ is_weaker (slice_index_or items i no_item) (slice_index_or items j no_item) → largest_to (figure_at f items i) (j + 1) ≡ largest_to (figure_at f items i) j
weaker_no f items i j e = rw (add-one, ← e) (omega arith)
