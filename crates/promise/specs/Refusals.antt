-- The questions by their numbers.
use Rattle.std.specs.Prelude.{ℕ}
use Rattle.promise.specs.declared.outcome.Refusal.{Refusal}
use Rattle.promise.specs.declared.outcome.Refusal.TheVariants.{ManyItems, BadPeriod, BadLimits, BadStart, TakenPriority, NotAdmitted, NoItem, FixedFields, BadArc, KnownArc, ManyArcs, SheetBroken, NotSettled, ShortTable}

abbrev pub number_of : Refusal → ℕ
number_of ManyItems = 8
number_of BadPeriod = 9
number_of BadLimits = 10
number_of BadStart = 11
number_of TakenPriority = 12
number_of NotAdmitted = 13
number_of NoItem = 14
number_of FixedFields = 15
number_of BadArc = 16
number_of KnownArc = 17
number_of ManyArcs = 18
number_of SheetBroken = 19
number_of NotSettled = 20
number_of ShortTable = 21
