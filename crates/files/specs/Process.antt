-- The process file: the questions of the file layer, and the sheet that it makes over a rule.
use Rattle.std.specs.Prelude.{◌≡◌, ℕ, List, [], ◌∷◌, Ok, Err, Result}
use Rattle.promise.specs.declared.outcome.Refusal.{Refusal as CallRefusal}
use Rattle.promise.specs.State.{Meaning, State, empty}
use Rattle.promise.specs.Calls.{Call, entry, arc as join, entry_ask, arc_ask, AllMade, after, after_all}
use Rattle.records.specs.declared.fault.Fault.{Fault}
use Rattle.records.specs.declared.fault.Refusal.{Refusal}
use Rattle.records.specs.declared.fault.Refusal.TheVariants.{StrangeKind, Call as Refused}
use Rattle.records.specs.declared.fault.SourceFile.TheVariants.{Process}
use Rattle.records.specs.Records.{Said, station, item, arc}
use Rattle.files.specs.Rows.{answer_of, rows_of, said_in}

-- the answer of the file layer alone: any record is taken in, and none is kept
abbrev pub check_of : List ℕ → Result (Unit {0}) Fault
check_of bs = answer_of (rows_of {S = Unit {0}} (λ s said. Ok s) Process bs tt)

-- the sheet after a call that is granted, or its refusal
abbrev pub called : Meaning → State → Call → Result (Unit {0}) CallRefusal → Result State Refusal
called m s c (Ok u) = Ok (after m s c)
called m s c (Err e) = Err (Refused e)

abbrev pub with_row : Meaning → State → Said → Result State Refusal
with_row m s (station new) = Err StrangeKind
with_row m s (item new) = called m s (entry new.item) (entry_ask m s new.item)
with_row m s (arc new) = called m s (join new.from new.to) (arc_ask s new.from new.to)

-- the sheet that a process file tells of, over a rule with this meaning, or the file's first fault
abbrev pub sheet_of : Meaning → List ℕ → Result State Fault
sheet_of m bs = rows_of (with_row m) Process bs empty

-- a refused file leaves the empty sheet
abbrev pub or_empty : Result State Fault → State
or_empty (Ok s) = s
or_empty (Err f) = empty

-- the entries and arcs that records ask for, in order
abbrev pub calls_in : List Said → List Call
calls_in [] = []
calls_in (station new ∷ rows) = calls_in rows
calls_in (item new ∷ rows) = entry new.item ∷ calls_in rows
calls_in (arc new ∷ rows) = join new.from new.to ∷ calls_in rows

abbrev pub calls_of : List ℕ → List Call
calls_of bs = calls_in (said_in Process 0 bs)

-- the names of the items, in order
abbrev pub names_in : List Said → List (List ℕ)
names_in [] = []
names_in (station new ∷ rows) = names_in rows
names_in (item new ∷ rows) = new.name ∷ names_in rows
names_in (arc new ∷ rows) = names_in rows

abbrev pub names_of : List ℕ → List (List ℕ)
names_of bs = names_in (said_in Process 0 bs)

-- the empty sheet after the entries and arcs of a file in order
pub record FromCalls (m : Meaning) (bs : List ℕ) (s : State) : Type 0 where
  pub made : AllMade (calls_of bs)
  pub state : s ≡ after_all m empty (calls_of bs)

-- what a file makes: after a fault the empty sheet
abbrev pub Makes : Meaning → List ℕ → Result (Unit {0}) Fault → State → Type 0
Makes m bs (Ok u) s = FromCalls m bs s
Makes m bs (Err f) s = s ≡ empty
