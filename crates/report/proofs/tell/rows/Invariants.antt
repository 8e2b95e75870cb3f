use Rattle.std.proofs.Common.{◌≡◌, ◌≤◌, length, map, take}
use Rattle.files.specs.Process.{names_of}
use Rattle.page.specs.Pages.{rows_to}
use Rattle.page.specs.Rows.{row_as}
use Rattle.report.specs.Pages.{row_of}
use Rattle.report.proofs.tell.rows.Given as goal

abbrev pub invariant-loop-i : goal.invariant-loop-i
invariant-loop-i g l =
    record {
      full : length l.rows ≡ 64;
      few : l.count ≤ 64;
      built : map row_as (take l.i l.rows) ≡ rows_to (row_of (names_of l.fn.process) l.sheet.table) l.i;
    }
