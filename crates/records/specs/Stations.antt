-- The body of a station's record: class, station, first and second figure (4 bytes each), third (2).
use Rattle.std.specs.Prelude.{ℕ, Bool, cond, ◌&&◌, List, length, Some, None, Ok, Err, Option, Result, ◌==◌, nat_le, slice_index}
use Rattle.records.specs.declared.fault.Refusal.{Refusal}
use Rattle.records.specs.declared.fault.Refusal.TheVariants.{WrongLength, OutOfRange}
use Rattle.records.specs.declared.record.Figures.{Figures}
use Rattle.records.specs.declared.record.Figures.TheVariants.{Table, Processor, Can, Gateway}
use Rattle.records.specs.declared.record.StationRecord.{StationRecord}
use Rattle.records.specs.Bytes.{two, four}

-- a value, if a test is passed
abbrev pub if : {X : Type 0} → Bool → X → Option X
if test x = cond test (Some x) None

abbrev pub table_of : ℕ → ℕ → ℕ → Option Figures
table_of first second third = if (first == 0 && second == 0 && third == 0) Table

abbrev pub processor_of : ℕ → ℕ → ℕ → Option Figures
processor_of first second third = if (first == 0 && second == 0 && third == 0) Processor

-- ticks per bit 1 to 100
abbrev pub can_of : ℕ → ℕ → ℕ → Option Figures
can_of first second third = if (nat_le 1 first && nat_le first 100 && second == 0 && third == 0) (Can (record { ticks_per_bit = first }))

-- round 1 to 100,000, slot 1 to round, capacity 1 to 240
abbrev pub gateway_of : ℕ → ℕ → ℕ → Option Figures
gateway_of first second third = if (nat_le 1 first && nat_le first 100000 && nat_le 1 second && nat_le second first && nat_le 1 third && nat_le third 240) (Gateway (record { round = first; length = second; capacity = third }))

abbrev pub figures_of : ℕ → ℕ → ℕ → ℕ → Option Figures
figures_of class first second third =
    cond (class == 1) (table_of first second third)
    (cond (class == 2) (processor_of first second third)
    (cond (class == 3) (can_of first second third)
    (cond (class == 4) (gateway_of first second third)
    None)))

-- stations are 0 to 7
abbrev pub in_range : ℕ → Option Figures → Result StationRecord Refusal
in_range station None = Err OutOfRange
in_range station (Some figures) = cond (nat_le station 7) (Ok (record { station = station; figures = figures })) (Err OutOfRange)

abbrev pub station_of : List ℕ → Result StationRecord Refusal
station_of bs = cond (length bs == 12) (in_range (slice_index bs 1) (figures_of (slice_index bs 0) (four bs 2) (four bs 6) (two bs 10))) (Err WrongLength)
