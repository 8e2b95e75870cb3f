-- The causes in print.
use Rattle.std.specs.Prelude.{ℕ, List, codes}
use Rattle.promise.specs.declared.outcome.Cause.{Cause}
use Rattle.promise.specs.declared.outcome.Cause.TheVariants.{Input, Limit}

abbrev pub cause_text : Cause → List ℕ
cause_text Input = codes "input"
cause_text Limit = codes "limit"
