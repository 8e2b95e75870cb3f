use Rattle.std.proofs.Common.{◌≡◌, ◌+◌, slice_index_or, arith, rules}
use Rattle.model.specs.Items.{no_item, no_times}
use Rattle.rules.specs.SumBounds.{sum_of_parts_small}
use Rattle.rules.proofs.Sums.{stronger_yes, stronger_no}
use Rattle.rules.proofs.interference.over_stronger.Goals as goal

pub overflow_add-sum : goal.overflow_add-sum
overflow_add-sum g c =
    let asked = c.args.asked in
    let j = c.loop-j.j in
    let mine = c.mine-mine.ensures in
    let e = stronger_yes g.C.Contribution.part asked.items.now asked.times.now asked.i j (rw (← mine.item) c.if-is_stronger.ensures) in
    let part : c.part-sum.result ≡ g.C.Contribution.part (slice_index_or asked.items.now asked.i no_item) (slice_index_or asked.times.now asked.i no_times) (slice_index_or asked.items.now j no_item) (slice_index_or asked.times.now j no_times) =
    rw (← mine.item, ← mine.times) c.part-sum.ensures in
    let k = sum_of_parts_small _ _ g.met.C.Contribution.fair _ _ asked.i (j + 1) asked.handed asked.inside (omega arith) in
    omega arith

pub loop-j-preserved : goal.loop-j-preserved
loop-j-preserved g c = search (rules, stronger_yes, stronger_no)
