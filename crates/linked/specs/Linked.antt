-- What a caller is told of a page.
use Rattle.std.specs.Prelude.{◌≡◌, ℕ, List, [], map, length, take}
use Rattle.page.specs.Pages.{Row, Page, settled, broken, spent, refused}
use Rattle.linked.specs.declared.linked.Told.{Told}
use Rattle.linked.specs.declared.linked.ToldTimes.{ToldTimes}

abbrev pub outcome_of : Page → ℕ
outcome_of (settled rows steps) = 0
outcome_of (broken name cause steps) = 1
outcome_of (spent steps) = 3
outcome_of (refused fault) = 2

abbrev pub steps_of : Page → ℕ
steps_of (settled rows steps) = steps
steps_of (broken name cause steps) = steps
steps_of (spent steps) = steps
steps_of (refused fault) = 0

abbrev pub rows_of : Page → List Row
rows_of (settled rows steps) = rows
rows_of (broken name cause steps) = []
rows_of (spent steps) = []
rows_of (refused fault) = []

-- a row without its name
abbrev pub times_of : Row → ToldTimes
times_of r = record { late = r.late; wait = r.wait; end = r.end; limit = r.limit }

pub record Tells (t : Told) (page : Page) : Type 0 where
  pub outcome : t.outcome ≡ outcome_of page
  pub count : t.count ≡ length (rows_of page)
  pub steps : t.steps ≡ steps_of page
  pub times : take t.count t.times ≡ map times_of (rows_of page)
