-- What a page says of the machine's lawful sets.
use Rattle.std.specs.Prelude.{List, map}
use Rattle.model.specs.declared.times.Times.{Times}
use Rattle.model.specs.Laws.{Below}
use Rattle.promise.specs.State.{State, Meaning}
use Rattle.promise.specs.Promise.{LawfulFor, Hopeless}
use Rattle.page.specs.Pages.{Row, Page, settled, broken, spent, refused}

abbrev pub times_in : List Row → List Times
times_in rows = map (λ r. record { late = r.late; wait = r.wait }) rows

-- the least lawful set of a sheet
pub record Least (m : Meaning) (s : State) (ts : List Times) : Type 0 where
  pub lawful : LawfulFor m s ts
  pub least : (us : List Times) → LawfulFor m s us → Below ts us

-- settled: the rows have the least lawful set; broken: there is none; and no page is spent
abbrev pub Truth : Meaning → State → Page → Type 0
Truth m s (settled rows steps) = Least m s (times_in rows)
Truth m s (broken name cause steps) = Hopeless m s
Truth m s (spent steps) = ⊥
Truth m s (refused fault) = Unit {0}
