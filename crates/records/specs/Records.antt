-- What a record says, on the list of bytes.
use Rattle.std.specs.Prelude.{ℕ, ◌+◌, cond, List, length, Some, None, Ok, Err, Option, Result, ◌==◌, slice_index}
use Rattle.model.specs.declared.arc.Arc.{Arc}
use Rattle.records.specs.declared.fault.Refusal.{Refusal}
use Rattle.records.specs.declared.fault.Refusal.TheVariants.{NotWhole, StrangeKind, WrongLength}
use Rattle.records.specs.declared.fault.SourceFile.{SourceFile}
use Rattle.records.specs.declared.fault.SourceFile.TheVariants.{Cell, Process}
use Rattle.records.specs.declared.record.Record.{Record}
use Rattle.records.specs.declared.record.Record.TheVariants.{Station, Item, Arc as Joined}
use Rattle.records.specs.declared.record.StationRecord.{StationRecord}
use Rattle.records.specs.Bytes.{Cut, cut_of}
use Rattle.records.specs.Stations.{station_of}
use Rattle.records.specs.Items.{Named, item_of, named}

-- a record whose name is a list of bytes
pub data Said : Type 0 where
  station : StationRecord → Said
  item : Named → Said
  arc : Arc → Said

abbrev pub said : Record → Said
said (Station s) = station s
said (Item i) = item (named i)
said (Joined a) = arc a

-- what comes of a value, or the refusal in its place
abbrev pub then : {X Y : Type 0} → Result X Refusal → (X → Result Y Refusal) → Result Y Refusal
then (Ok x) f = f x
then (Err e) f = Err e

abbrev pub arc_of : List ℕ → Result Arc Refusal
arc_of bs = cond (length bs == 2) (Ok (record { from = slice_index bs 0; to = slice_index bs 1 })) (Err WrongLength)

-- kind 1 belongs in the cell file, kinds 2 and 3 in the process file
abbrev pub read_of : SourceFile → ℕ → List ℕ → Result Said Refusal
read_of Cell kind bs = cond (kind == 1) (then (station_of bs) (λ s. Ok (station s))) (Err StrangeKind)
read_of Process kind bs =
    cond (kind == 2) (then (item_of bs) (λ i. Ok (item i)))
    (cond (kind == 3) (then (arc_of bs) (λ a. Ok (arc a)))
    (Err StrangeKind))

abbrev pub read_as : Result Record Refusal → Result Said Refusal
read_as (Ok r) = Ok (said r)
read_as (Err e) = Err e

abbrev pub whole_of : SourceFile → Option Cut → Result (Said × ℕ) Refusal
whole_of file None = Err NotWhole
whole_of file (Some c) = then (read_of file c.kind c.body) (λ s. Ok (s, 4 + length c.body))

-- the record in front, and its length with its head
abbrev pub record_of : SourceFile → List ℕ → Result (Said × ℕ) Refusal
record_of file bs = whole_of file (cut_of bs)

abbrev pub record_as : Result (Record × ℕ) Refusal → Result (Said × ℕ) Refusal
record_as (Ok p) = Ok (said p.0, p.1)
record_as (Err e) = Err e
