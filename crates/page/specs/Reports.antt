-- The page that a report holds.
use Rattle.std.specs.Prelude.{List}
use Rattle.page.specs.declared.page.Outcome.{Outcome}
use Rattle.page.specs.declared.page.Outcome.TheVariants.{Settled, Broken, Refused}
use Rattle.page.specs.declared.page.Report.{Report}
use Rattle.page.specs.Pages.{Row, Page, settled, broken, refused}
use Rattle.page.specs.Rows.{rows_in}

abbrev pub outcome_in : List Row → Outcome → Page
outcome_in rows (Settled steps) = settled rows steps
outcome_in rows (Broken name cause steps) = broken name.now cause steps
outcome_in rows (Refused fault) = refused fault

abbrev pub told : Report → Page
told r = outcome_in (rows_in r.rows) r.outcome
