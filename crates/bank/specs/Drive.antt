-- What a rule may be asked.
use Rattle.std.specs.Prelude.{ℕ, ◌<◌, List, length}
use Rattle.model.specs.declared.item.Item.{Item}
use Rattle.model.specs.declared.times.Times.{Times}
use Rattle.model.specs.Laws.{Handed}

-- about the item numbered i, among items and times that it may be handed
abbrev pub MayAsk : List Item → List Times → ℕ → Type 0
MayAsk items times i = Handed items times × (i < length items)
