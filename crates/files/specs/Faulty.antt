-- The part of a file that a fault is about.
use Rattle.std.specs.Prelude.{ℕ, ◌+◌, List, [], take, drop}
use Rattle.records.specs.declared.fault.Fault.{Fault}
use Rattle.records.specs.declared.fault.Refusal.{Refusal}
use Rattle.records.specs.declared.fault.Refusal.TheVariants.{TooLong, NotWhole, StrangeKind, WrongLength, OutOfRange, TakenStation, BadName, Call}
use Rattle.records.specs.declared.fault.SourceFile.{SourceFile}
use Rattle.records.specs.declared.fault.SourceFile.TheVariants.{Cell, Process}
use Rattle.records.specs.Bytes.{two}

abbrev pub file_of : SourceFile → List ℕ → List ℕ → List ℕ
file_of Cell cell process = cell
file_of Process cell process = process

-- the record in front with its head
abbrev pub front_of : List ℕ → List ℕ
front_of rest = take (4 + two rest 0) rest

-- of the bytes from the record's place on
abbrev pub part_of : Refusal → List ℕ → List ℕ
part_of TooLong rest = []
part_of NotWhole rest = rest
part_of StrangeKind rest = front_of rest
part_of WrongLength rest = front_of rest
part_of OutOfRange rest = front_of rest
part_of TakenStation rest = front_of rest
part_of BadName rest = front_of rest
part_of (Call refusal) rest = front_of rest

abbrev pub faulty_of : Fault → List ℕ → List ℕ → List ℕ
faulty_of f cell process = part_of f.refusal (drop f.place (file_of f.file cell process))
