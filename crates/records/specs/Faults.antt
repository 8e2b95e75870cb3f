-- Refusals by their numbers, and what is printed of a fault.
use Rattle.std.specs.Prelude.{ℕ, cond, List, ◌++◌, codes, decimal, ◌==◌, nat_le}
use Rattle.promise.specs.Refusals.{number_of as call_number_of}
use Rattle.records.specs.declared.fault.Fault.{Fault}
use Rattle.records.specs.declared.fault.Layer.{Layer}
use Rattle.records.specs.declared.fault.Layer.TheVariants.{File, Bank, Sheet}
use Rattle.records.specs.declared.fault.Refusal.{Refusal}
use Rattle.records.specs.declared.fault.Refusal.TheVariants.{TooLong, NotWhole, StrangeKind, WrongLength, OutOfRange, TakenStation, BadName, Call}
use Rattle.records.specs.declared.fault.SourceFile.{SourceFile}
use Rattle.records.specs.declared.fault.SourceFile.TheVariants.{Cell, Process}

-- the number of the question that was answered with no
abbrev pub number_of : Refusal → ℕ
number_of TooLong = 1
number_of NotWhole = 2
number_of StrangeKind = 3
number_of WrongLength = 4
number_of OutOfRange = 5
number_of TakenStation = 6
number_of BadName = 7
number_of (Call refusal) = call_number_of refusal

-- who puts a question: the file 1 to 7, the bank 13, the sheet the others
abbrev pub layer_of : ℕ → Layer
layer_of n = cond (n == 13) Bank (cond (nat_le 1 n) (cond (nat_le n 7) File Sheet) Sheet)

abbrev pub name_of : SourceFile → List ℕ
name_of Cell = codes "cell"
name_of Process = codes "process"

-- what is printed of a fault: the file, the place, the number
abbrev pub fault_text : Fault → List ℕ
fault_text f = codes "fault " ++ (name_of f.file ++ (codes " " ++ (decimal f.place ++ (codes " " ++ decimal (number_of f.refusal)))))
