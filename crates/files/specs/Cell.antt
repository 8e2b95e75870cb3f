-- The cell file, made into a bank of all the classes.
use Rattle.std.specs.Prelude.{ℕ, cond, List, replicate, Some, None, Ok, Err, Option, Result, slice_set}
use Rattle.rules.specs.All.{AllClasses}
use Rattle.rules.specs.Stations.{is_free}
use Rattle.files.specs.declared.cell.Classes.{Classes}
use Rattle.records.specs.declared.fault.Fault.{Fault}
use Rattle.records.specs.declared.fault.Refusal.{Refusal}
use Rattle.records.specs.declared.fault.Refusal.TheVariants.{StrangeKind, TakenStation}
use Rattle.records.specs.declared.fault.SourceFile.TheVariants.{Cell}
use Rattle.records.specs.declared.record.Figures.{Figures}
use Rattle.records.specs.declared.record.Figures.TheVariants.{Table as OfTable, Processor as OfProcessor, Can as OfCan, Gateway as OfGateway}
use Rattle.records.specs.Records.{Said, station, item, arc}
use Rattle.files.specs.Rows.{rows_of}

abbrev pub no_stations : Classes
no_stations =
    record {
      table = record { stations = record { figures = replicate 8 None } };
      processor = record { stations = record { figures = replicate 8 None } };
      can = record { stations = record { figures = replicate 8 None } };
      gateway = record { stations = record { figures = replicate 8 None } };
    }

-- is the station new in its class? then it is added there
abbrev pub added : {T : Type 0} → List (Option T) → ℕ → T → (List (Option T) → Classes) → Result Classes Refusal
added figures n new with = cond (is_free figures n) (Ok (with (slice_set figures n (Some new)))) (Err TakenStation)

abbrev pub with_station : Classes → ℕ → Figures → Result Classes Refusal
with_station c n OfTable = added c.table.stations.figures n tt (λ f. record { table = record { stations = record { figures = f } }; processor = c.processor; can = c.can; gateway = c.gateway })
with_station c n OfProcessor = added c.processor.stations.figures n tt (λ f. record { table = c.table; processor = record { stations = record { figures = f } }; can = c.can; gateway = c.gateway })
with_station c n (OfCan bus) = added c.can.stations.figures n bus (λ f. record { table = c.table; processor = c.processor; can = record { stations = record { figures = f } }; gateway = c.gateway })
with_station c n (OfGateway slot) = added c.gateway.stations.figures n slot (λ f. record { table = c.table; processor = c.processor; can = c.can; gateway = record { stations = record { figures = f } } })

abbrev pub with_record : Classes → Said → Result Classes Refusal
with_record c (station s) = with_station c s.station s.figures
with_record c (item i) = Err StrangeKind
with_record c (arc a) = Err StrangeKind

-- the classes that a cell file tells of, or its first fault
abbrev pub classes_of : List ℕ → Result Classes Fault
classes_of bs = rows_of with_record Cell bs no_stations

abbrev pub bank_of : Classes → AllClasses
bank_of c = record { front = c.table; behind = record { front = c.processor; behind = record { front = c.can; behind = record { front = c.gateway; behind = record {} } } } }

abbrev pub piled : Result Classes Fault → Result AllClasses Fault
piled (Ok c) = Ok (bank_of c)
piled (Err f) = Err f

-- the bank that a cell file tells of, or the file's first fault
abbrev pub cell_of : List ℕ → Result AllClasses Fault
cell_of bs = piled (classes_of bs)

-- a refused file leaves a bank with no station
abbrev pub or_none : Result AllClasses Fault → AllClasses
or_none (Ok b) = b
or_none (Err f) = bank_of no_stations
