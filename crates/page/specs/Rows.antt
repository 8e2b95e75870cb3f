-- The row of an item, as a page has it.
use Rattle.std.specs.Prelude.{ℕ, min, List, map, take}
use Rattle.promise.specs.declared.outcome.Line.{Line}
use Rattle.page.specs.declared.page.Row.{Row as RowOf}
use Rattle.page.specs.declared.page.Rows.{Rows}
use Rattle.page.specs.Pages.{Row}

abbrev pub row_as : RowOf → Row
row_as r = record { name = r.name.now; late = r.late; wait = r.wait; end = r.end; limit = r.limit }

-- the row of an item with this name, this line and this deadline
abbrev pub row_with : List ℕ → Line → ℕ → Row
row_with name line limit = record { name = name; late = line.late; wait = line.wait; end = line.end; limit = limit }

-- the rows in use, from the first to the last
abbrev pub rows_in : Rows → List Row
rows_in p = map row_as (take (min p.count 64) p.rows)
