use Rattle.std.proofs.Common.{◌≡◌, true, false, slice_index_or, refl, ◌∙◌, rules}
use Rattle.model.specs.Items.{no_item}
use Rattle.rules.specs.Sums.{is_weaker}
use Rattle.rules.proofs.Sums.{weaker_yes, weaker_no}
use Rattle.rules.proofs.interference.largest_of_weaker.Goals as goal
use Rattle.rules.proofs.interference.largest_of_weaker.Goals.{then-is_weaker, else-is_weaker}

pub loop-other-preserved : goal.loop-other-preserved
loop-other-preserved g c = λ f gives.
    let asked = c.args.asked in
    let k = c.loop-other.other-index in
    let before = c.loop-other.invariant f gives in
    let mine = c.mine.ensures.item in
    elim c.if-is_weaker.branch [
      | then-is_weaker w ↦
          let is : true ≡ is_weaker (slice_index_or asked.items.now asked.i no_item) (slice_index_or asked.items.now k no_item) = rw (← mine) (search rules) in
          let of : w.figure.result ≡ f (slice_index_or asked.items.now k no_item) = gives _ _ (record { shown = _; shows = refl; says = record { met = w.figure.ensures } }) in
          let turn = weaker_yes f asked.items.now asked.i k is in
          let largest = w.largest-is ∙ w.max-largest.ensures in
          cc
      | else-is_weaker w ↦
          let is : false ≡ is_weaker (slice_index_or asked.items.now asked.i no_item) (slice_index_or asked.items.now k no_item) = rw (← mine) (search rules) in
          let turn = weaker_no f asked.items.now asked.i k is in
          cc
    ]
