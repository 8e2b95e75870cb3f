use Rattle.std.proofs.Common.{◌≡◌, ℕ, ◌+◌, ◌-◌, ◌/◌, ◌≤◌, max, sym, ap, ◌∙◌, arith}
use Rattle.std.proofs.Math.Nat.{div-eq_of_lt-le}
use Rattle.std.proofs.lemmas.Grind.{div_ceil_times}
use Rattle.std.specs.Int.{div_ceil}
use Rattle.rules.proofs.interference.ceiling.Goals as goal

rounds_up : (a d : ℕ) → 1 ≤ d → div_ceil a d ≡ (a + (d - 1)) / d
rounds_up a d pos =
    let times = div_ceil_times a d pos in
    sym (div-eq_of_lt-le d (omega (arith, times)) (omega (arith, times)))

pub returns : goal.returns
returns c =
    let divisor : c.from.result ≡ max 1 c.args.divisor = omega arith in
    c.div_ceil.ensures ∙ (ap (div_ceil c.args.amount) divisor ∙ rounds_up c.args.amount (max 1 c.args.divisor) (omega arith))
