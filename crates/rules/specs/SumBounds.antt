-- The sums over the stronger: that they rise with the times, and how large they get.
use Rattle.std.specs.Prelude.{ℕ, ◌*◌, ◌<◌, ◌≤◌, List, length, slice_index_or}
use Rattle.std.proofs.Common.{le_trans, mul-le-mul_right, arith}
use Rattle.model.specs.declared.item.Item.{Item}
use Rattle.model.specs.declared.times.Times.{Times}
use Rattle.model.specs.Items.{no_item, no_times}
use Rattle.model.specs.Laws.{Handed, Monotone, Small}
use Rattle.model.specs.Folds.{sum_to}
use Rattle.model.proofs.Folds.{sum_to_rises, sum_to_small, cond_rises, cond_small}
use Rattle.rules.specs.Sums.{is_stronger, Part, part_at, over_stronger, Fair}

handed_small : (items : List Item) (s : List Times) → Handed items s → (i : ℕ) → i < length items → Small (slice_index_or s i no_times)
handed_small items s hs i h = record { late = hs.late_small i h; wait = hs.wait_small i h }

-- the one monotonicity of all the sums
pub over_stronger_monotone : (m : ℕ) (f : Part) → Fair m f → Monotone (over_stronger f)
over_stronger_monotone m f fair items s t i hs ht lo h =
    sum_to_rises (part_at f items s i) (part_at f items t i) (length items)
    (λ j lt. cond_rises (is_stronger (slice_index_or items i no_item) (slice_index_or items j no_item)) (fair.rises _ _ _ _ _ _ (hs.valid i h) (hs.valid j lt) (lo.wait i) (lo.late j)))

pub sum_of_parts_small : (m : ℕ) (f : Part) → Fair m f → (items : List Item) (s : List Times) (i n : ℕ) → Handed items s → i < length items → n ≤ length items → sum_to (part_at f items s i) n ≤ 64 * m
sum_of_parts_small m f fair items s i n hs h le =
    le_trans
    (sum_to_small (part_at f items s i) m n (λ j lt.
    let k : j < length items = omega arith in
    cond_small (is_stronger (slice_index_or items i no_item) (slice_index_or items j no_item)) (fair.small _ _ _ _ (hs.valid i h) (hs.valid j k) (handed_small items s hs i h) (handed_small items s hs j k))))
    (mul-le-mul_right m (omega (arith, hs.few)))
