use Rattle.std.proofs.Common.{◌≡◌, length}
use Rattle.records.specs.Rows.{rows_left}
use Rattle.files.specs.Names.{names_left}
use Rattle.files.proofs.names.ItemNamesIterator.next.Given as goal

-- no row so far had a name
abbrev pub invariant-loop-row : goal.invariant-loop-row
invariant-loop-row l = names_left l.self ≡ names_left l.initial.self

abbrev pub decreases-loop-row : goal.decreases-loop-row
decreases-loop-row l = length (rows_left l.self.rows)
