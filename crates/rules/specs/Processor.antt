-- Class 2, processor: fixed priorities with preemption; load 0.
use Rattle.std.specs.Prelude.{◌+◌, ◌*◌, Bool, ◌&&◌, List, is_some, Option, ◌==◌}
use Rattle.model.specs.declared.item.Item.{Item}
use Rattle.model.specs.Items.{jitter_of}
use Rattle.model.specs.Laws.{Reckoning}
use Rattle.rules.specs.Stations.{station_at}
use Rattle.rules.specs.Sums.{⌈◌/◌⌉, Part, waiting}

abbrev pub processor_admits : List (Option (Unit {0})) → Item → Bool
processor_admits stations x = x.class == 2 && is_some (station_at stations x.station) && x.mark == 0 && x.size == 0 && x.queue == 0

-- ⌈(wait + own duration + jitter j) / period j⌉ × duration j
abbrev pub work : Part
work mine own other its = ⌈ own.wait + mine.duration + jitter_of other its / other.period ⌉ * other.duration

-- the largest held of the weaker + the sum of the work over the stronger
abbrev pub processor_wait : Reckoning
processor_wait = waiting (λ x. x.held) work
