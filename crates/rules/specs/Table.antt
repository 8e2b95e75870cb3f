-- Class 1, table: wait 0, load 0.
use Rattle.std.specs.Prelude.{Bool, ◌&&◌, List, is_some, Option, ◌==◌}
use Rattle.model.specs.declared.item.Item.{Item}
use Rattle.rules.specs.Stations.{station_at}

abbrev pub table_admits : List (Option (Unit {0})) → Item → Bool
table_admits stations x = x.class == 1 && is_some (station_at stations x.station) && x.mark == 1 && x.size == 0 && x.held == 0 && x.queue == 0
