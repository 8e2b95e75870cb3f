use Rattle.std.proofs.Common.{◌≡◌, ℕ}
use Rattle.model.specs.declared.item.Item.{Item}
use Rattle.model.specs.Folds.{largest_to}
use Rattle.rules.specs.Figures.{Gives}
use Rattle.rules.specs.Sums.{figure_at}
use Rattle.rules.proofs.interference.largest_of_weaker.Given as goal

abbrev pub invariant-loop-other : goal.invariant-loop-other
invariant-loop-other g l = (f : Item → ℕ) → Gives g.F.Fn l.figure f → l.largest ≡ largest_to (figure_at f l.asked.items.now l.asked.i) l.other-index
