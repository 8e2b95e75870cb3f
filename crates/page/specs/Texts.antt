-- What is printed of a page.
use Rattle.std.specs.Prelude.{ℕ, List, ◌++◌, codes, decimal}
use Rattle.std.specs.List.{flat_map}
use Rattle.promise.specs.Causes.{cause_text}
use Rattle.records.specs.Faults.{fault_text}
use Rattle.page.specs.Pages.{Row, Page, settled, broken, spent, refused}

-- name, late, wait, end, deadline
abbrev pub row_text : Row → List ℕ
row_text r = r.name ++ (codes " " ++ (decimal r.late ++ (codes " " ++ (decimal r.wait ++ (codes " " ++ (decimal r.end ++ (codes " " ++ decimal r.limit)))))))

abbrev pub line_text : Row → List ℕ
line_text r = row_text r ++ codes "\n"

abbrev pub table_text : List Row → List ℕ
table_text rows = codes "item late wait end limit\n" ++ flat_map line_text rows

abbrev pub page_text : Page → List ℕ
page_text (settled rows steps) = table_text rows ++ (codes "settled " ++ decimal steps)
page_text (broken name cause steps) = codes "broken " ++ (name ++ (codes " " ++ (cause_text cause ++ (codes " " ++ decimal steps))))
page_text (spent steps) = codes "spent " ++ decimal steps
page_text (refused fault) = fault_text fault
