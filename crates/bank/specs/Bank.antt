-- The bank: items of the front's class go to the front, the others behind.
use Rattle.std.specs.Prelude.{ℕ, cond, ◌==◌, slice_index_or}
use Rattle.model.specs.declared.item.Item.{Item}
use Rattle.model.specs.Items.{no_item}
use Rattle.model.specs.Laws.{Reckoning}

abbrev pub by_class : {A : Type 0} → ℕ → Item → A → A → A
by_class class x front behind = cond (x.class == class) front behind

abbrev pub chosen : ℕ → Reckoning → Reckoning → Reckoning
chosen class front behind items times i = by_class class (slice_index_or items i no_item) (front items times i) (behind items times i)
