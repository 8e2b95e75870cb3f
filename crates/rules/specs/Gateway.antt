-- Class 4, gateway: a queue by priority into one slot of each round.
use Rattle.std.specs.Prelude.{ℕ, ◌+◌, ◌*◌, Bool, false, ◌&&◌, List, Some, None, Option, ◌==◌, nat_le, slice_index_or}
use Rattle.model.specs.declared.item.Item.{Item}
use Rattle.model.specs.Items.{no_item}
use Rattle.model.specs.Laws.{Reckoning}
use Rattle.rules.specs.declared.gateway.Slot.{Slot}
use Rattle.rules.specs.Stations.{station_at}
use Rattle.rules.specs.Sums.{⌈◌/◌⌉, Part, capped, arrivals, loading}

abbrev pub admits_in : Option Slot → Item → Bool
admits_in None x = false
admits_in (Some slot) x = x.class == 4 && x.mark == 0 && x.held == 0 && x.queue == 0 && nat_le 1 x.size && nat_le x.size slot.capacity && x.duration == slot.length

abbrev pub gateway_admits : List (Option Slot) → Item → Bool
gateway_admits slots x = admits_in (station_at slots x.station) x

-- (⌊(wait + jitter j) / period j⌋ + 1) × size j
abbrev pub bytes : Part
bytes mine own other its = arrivals own other its * other.size

-- own size + I, where I is the sum of the bytes over the stronger
abbrev pub gateway_load : Reckoning
gateway_load = loading bytes

-- the figures of a slot; a missing figure counts as 0
abbrev pub round_of : Option Slot → ℕ
round_of None = 0
round_of (Some slot) = slot.round

abbrev pub capacity_of : Option Slot → ℕ
capacity_of None = 0
capacity_of (Some slot) = slot.capacity

-- round + ⌈(own size + I) / capacity⌉ × round
abbrev pub through_slot : ℕ → ℕ → ℕ → ℕ
through_slot round capacity load = capped (round + ⌈ load / capacity ⌉ * round)

abbrev pub gateway_wait : List (Option Slot) → Reckoning
gateway_wait slots items times i = through_slot (round_of (station_at slots (slice_index_or items i no_item).station)) (capacity_of (station_at slots (slice_index_or items i no_item).station)) (gateway_load items times i)
