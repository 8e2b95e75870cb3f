-- The names that stand in a row of records.
use Rattle.std.specs.Prelude.{ℕ, List, Some, None, Ok, Err, Option, Result}
use Rattle.std.specs.List.{filter_map}
use Rattle.records.specs.declared.fault.Fault.{Fault}
use Rattle.records.specs.Records.{Said, station, item, arc}
use Rattle.records.specs.Rows.{rows_left}
use Rattle.files.specs.declared.names.ItemNames.{ItemNames}

abbrev pub name_said : Said → Option (List ℕ)
name_said (station new) = None
name_said (item new) = Some new.name
name_said (arc new) = None

abbrev pub name_of : Result (Said × ℕ) Fault → Option (List ℕ)
name_of (Ok row) = name_said row.0
name_of (Err fault) = None

-- the names that are still to come
abbrev pub names_left : ItemNames → List (List ℕ)
names_left names = filter_map name_of (rows_left names.rows)
