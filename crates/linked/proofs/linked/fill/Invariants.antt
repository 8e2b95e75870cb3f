use Rattle.std.proofs.Common.{◌≡◌, map, length, take}
use Rattle.page.specs.Rows.{row_as}
use Rattle.linked.specs.Linked.{times_of}
use Rattle.linked.proofs.linked.fill.Given as goal

abbrev pub invariant-loop-i : goal.invariant-loop-i
invariant-loop-i l =
    record {
      full : length l.times ≡ 64;
      filled : take l.i l.times ≡ map times_of (map row_as (take l.i l.rows));
    }
