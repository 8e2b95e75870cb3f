use Rattle.std.proofs.Common.{◌≡◌, ◌-◌, ◌<◌, ◌≤◌, length}
use Rattle.promise.specs.Runs.{run_from, run_of}
use Rattle.sheet.proofs.sheet.Sheet.cycle.Given as goal

-- what is left of the run gives what the whole run gives
abbrev pub invariant-loop-steps : goal.invariant-loop-steps
invariant-loop-steps g l =
    (run_from (g.R.Rule.wait l.initial.self.rule) (l.allowance - l.steps) l.self.table l.item l.quiet l.steps l.raises
    ≡ run_of (g.R.Rule.wait l.initial.self.rule) l.initial.self.table l.allowance)
    × (l.self.rule ≡ l.initial.self.rule)
    × (length l.self.table.items ≡ l.n)
    × (0 < l.n → l.item < l.n)
    × (l.raises ≤ l.steps)
    × (l.quiet ≤ l.n)
