-- Class 3, CAN: fixed priorities without preemption.
use Rattle.std.specs.Prelude.{ℕ, ◌+◌, ◌*◌, Bool, false, cond, ◌&&◌, List, Some, None, Option, ◌==◌, nat_le}
use Rattle.model.specs.declared.item.Item.{Item}
use Rattle.model.specs.Laws.{Reckoning}
use Rattle.rules.specs.declared.can.Bus.{Bus}
use Rattle.rules.specs.Stations.{station_at}
use Rattle.rules.specs.Sums.{Part, arrivals, waiting, loading}

-- the longest frame with an 11-bit identifier and `size` bytes, all stuff bits among its bits
abbrev pub frame_ticks : Bus → ℕ → ℕ
frame_ticks bus size = (55 + 10 * size) * bus.ticks_per_bit

abbrev pub admits_on : Option Bus → Item → Bool
admits_on None x = false
admits_on (Some bus) x = x.class == 3 && x.mark == 0 && x.held == 0 && nat_le x.size 8 && x.duration == frame_ticks bus x.size

abbrev pub can_admits : List (Option Bus) → Item → Bool
can_admits buses x = admits_on (station_at buses x.station) x

-- (⌊(wait + jitter j) / period j⌋ + 1) × duration j
abbrev pub frames : Part
frames mine own other its = arrivals own other its * other.duration

-- the largest duration of the weaker + the sum of the frames over the stronger
abbrev pub can_wait : Reckoning
can_wait = waiting (λ x. x.duration) frames

-- (⌊(wait + jitter j) / period j⌋ + 1) × size j, of the stronger of my own queue
abbrev pub queued : Part
queued mine own other its = cond (mine.queue == other.queue) (arrivals own other its * other.size) 0

-- own size + the sum of what is queued over the stronger
abbrev pub can_load : Reckoning
can_load = loading queued
