use Rattle.std.proofs.Common.{◌≡◌, ◌≤◌, drop}
use Rattle.promise.specs.Steps.{latest}
use Rattle.sheet.proofs.table.Table.latest.Given as goal

-- what is left of the arcs gives what they all give
abbrev pub invariant-loop-arc : goal.invariant-loop-arc
invariant-loop-arc l =
    (latest l.self.items l.self.times l.i (drop l.arc-index l.self.arcs) l.late ≡ latest l.self.items l.self.times l.i l.self.arcs l.initial.late)
    × (l.late ≤ 3000000)
