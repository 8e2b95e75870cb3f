-- The page that two files come to.
use Rattle.std.specs.Prelude.{ℕ, List, [], length, Ok, Err, Result, slice_index_or}
use Rattle.model.specs.Lawful.{late_at, wait_at, end_at}
use Rattle.promise.specs.declared.outcome.Ending.{Ending}
use Rattle.promise.specs.declared.outcome.Ending.TheVariants.{Settled, Spent, Broken}
use Rattle.promise.specs.State.{State, Meaning, item_at}
use Rattle.promise.specs.Runs.{Ran, run_of}
use Rattle.promise.specs.Promise.{enough}
use Rattle.rules.specs.All.{AllClasses, all_admits, all_wait, all_load}
use Rattle.page.specs.Pages.{Row, Page, settled, broken, spent, refused, rows_to}
use Rattle.records.specs.declared.fault.Fault.{Fault}
use Rattle.files.specs.Cell.{cell_of, or_none}
use Rattle.files.specs.Rows.{answer_of}
use Rattle.files.specs.Process.{sheet_of, names_of}

abbrev pub row_of : List (List ℕ) → State → ℕ → Row
row_of names s i = record { name = slice_index_or names i []; late = late_at s.times i; wait = wait_at s.times i; end = end_at s.items s.times i; limit = (item_at s i).deadline }

-- the page of a run that ended so, after so many steps, and left this sheet
abbrev pub ended : List (List ℕ) → State → ℕ → Ending → Page
ended names s steps Settled = settled (rows_to (row_of names s) (length s.items)) steps
ended names s steps Spent = spent steps
ended names s steps (Broken i cause) = broken (slice_index_or names i []) cause steps

abbrev pub ran : List (List ℕ) → Ran → Page
ran names x = ended names x.state x.result.steps x.result.ending

-- a sheet run with an allowance of (S + 1) × n
abbrev pub judged : Meaning → List (List ℕ) → Result State Fault → Page
judged m names (Ok s) = ran names (run_of m.wait s (enough s))
judged m names (Err f) = refused f

-- a process file over a rule with this meaning
abbrev pub over_of : Meaning → List ℕ → Page
over_of m process = judged m (names_of process) (sheet_of m process)

-- what the bank of a cell file means
abbrev pub means : AllClasses → Meaning
means b = record { admits = all_admits b; wait = all_wait b; load = all_load b }

abbrev pub cell_means : List ℕ → Meaning
cell_means cell = means (or_none (cell_of cell))

-- a fault in the cell file goes first
abbrev pub after : Result (Unit {0}) Fault → Page → Page
after (Ok u) page = page
after (Err f) page = refused f

abbrev pub report_of : List ℕ → List ℕ → Page
report_of cell process = after (answer_of (cell_of cell)) (over_of (cell_means cell) process)
