-- The kinds of records by their numbers.
use Rattle.std.specs.Prelude.{ℕ, cond, Ok, Err, Result, ◌==◌}
use Rattle.records.specs.declared.fault.Refusal.{Refusal}
use Rattle.records.specs.declared.fault.Refusal.TheVariants.{StrangeKind}
use Rattle.records.specs.declared.record.Kind.{Kind}
use Rattle.records.specs.declared.record.Kind.TheVariants.{Station, Item, Arc}

abbrev pub kind_of : ℕ → Result Kind Refusal
kind_of number = cond (number == 1) (Ok Station) (cond (number == 2) (Ok Item) (cond (number == 3) (Ok Arc) (Err StrangeKind)))
