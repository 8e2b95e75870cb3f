-- Items, and what a pair of times says of one.
use Rattle.std.specs.Prelude.{ℕ, ◌+◌, ◌-◌, ◌<◌, ◌≤◌, Bool, ◌&&◌, ◌==◌, nat_le, nat_lt}
use Rattle.model.specs.declared.arc.Arc.{Arc}
use Rattle.model.specs.declared.item.Item.{Item}
use Rattle.model.specs.declared.times.Times.{Times}

-- what stands past the end of a list
abbrev pub no_item : Item
no_item = record { class = 0; station = 0; mark = 0; priority = 0; queue = 0; size = 0; period = 0; duration = 0; held = 0; offset = 0; deadline = 0 }

abbrev pub no_times : Times
no_times = record { late = 0; wait = 0 }

abbrev pub no_arc : Arc
no_arc = record { from = 0; to = 0 }

-- the end of an item: late + wait + duration
abbrev pub end_of : Item → Times → ℕ
end_of x t = t.late + t.wait + x.duration

-- its jitter: late - offset, and 0 where that is negative, as `-` stops at 0
abbrev pub jitter_of : Item → Times → ℕ
jitter_of x t = t.late - x.offset

-- the period lies between 1 and 1,000,000
abbrev pub has_period : Item → Bool
has_period x = nat_le 1 x.period && nat_le x.period 1000000

-- duration, deadline and period follow each other in size, from 1 on
abbrev pub has_limits : Item → Bool
has_limits x = nat_le 1 x.duration && nat_le x.duration x.deadline && nat_le x.deadline x.period

-- the mark is one of the two, held is within the duration, and the offset within the period
abbrev pub has_start : Item → Bool
has_start x = nat_le x.mark 1 && nat_le x.held x.duration && nat_lt x.offset x.period

-- the two use the same resource
abbrev pub shares_station : Item → Item → Bool
shares_station x y = x.class == y.class && x.station == y.station

-- an item of this class, station and queue
abbrev pub is_there : ℕ → ℕ → ℕ → Item → Bool
is_there class station queue x = x.class == class && x.station == station && x.queue == queue

-- in the logic a field is any number, so that these are bytes is to be said
pub record Bytes (x : Item) : Type 0 where
  pub class_fits : x.class ≤ 255
  pub station_fits : x.station ≤ 255
  pub priority_fits : x.priority ≤ 255
  pub queue_fits : x.queue ≤ 255
  pub size_fits : x.size ≤ 255

-- a valid record: all three hold
pub record Valid (x : Item) : Type 0 where
  pub period_low : 1 ≤ x.period
  pub period_high : x.period ≤ 1000000
  pub duration_low : 1 ≤ x.duration
  pub duration_high : x.duration ≤ x.deadline
  pub deadline_high : x.deadline ≤ x.period
  pub mark_bit : x.mark ≤ 1
  pub held_within : x.held ≤ x.duration
  pub offset_within : x.offset < x.period
  pub bytes : Bytes x
