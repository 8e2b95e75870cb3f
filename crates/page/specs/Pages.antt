-- A page: the rows of a settled sheet, or how else it came out.
use Rattle.std.specs.Prelude.{ℕ, List, map}
use Rattle.std.specs.List.{range_with_len}
use Rattle.promise.specs.declared.outcome.Cause.{Cause}
use Rattle.records.specs.declared.fault.Fault.{Fault}

-- one line: an item by its name, with its late time, wait, end and deadline
pub record Row : Type 0 where
  pub name : List ℕ
  pub late : ℕ
  pub wait : ℕ
  pub end : ℕ
  pub limit : ℕ

pub data Page : Type 0 where
  settled : List Row → ℕ → Page
  broken : List ℕ → Cause → ℕ → Page
  spent : ℕ → Page
  refused : Fault → Page

-- the rows of the items below n
abbrev pub rows_to : (ℕ → Row) → ℕ → List Row
rows_to row n = map row (range_with_len 0 n)
