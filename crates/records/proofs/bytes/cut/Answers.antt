use Rattle.std.proofs.Common.{◌≡◌, ◌+◌, ◌-◌, ◌≤◌, true, ◌&&◌, leb, length, take, drop, arith, rules, ap, ◌∙◌}
use Rattle.std.proofs.lemmas.List.{take_rest, length-drop, length-take}
use Rattle.std.proofs.lemmas.Bool.{and_from, le-leb}
use Rattle.records.specs.Bytes.{two}
use Rattle.records.proofs.bytes.cut.Goals as goal

pub returns : goal.returns
returns c =
    let bs = c.args.bytes.now in
    let n : 4 ≤ length bs = search rules in
    let size : c.from-length.result ≡ two bs 0 = c.from-length.ensures ∙ c.from_le_bytes.ensures in
    let body = simp (take_rest, length-drop, size) at c.in_ok-body.ensures.lookup in
    let enough = body.0.1 in
    let is : c.in_ok-body.body.now ≡ take (two bs 0) (drop 4 bs) =
    let all : two bs 0 - 0 ≡ two bs 0 = omega arith in
    body.0.2 ∙ ap (λ m. take m (drop 4 bs)) all in
    let t : (leb 4 (length bs) && leb (4 + two bs 0) (length bs)) ≡ true = and_from _ _ (le-leb 4 (length bs) n) (le-leb (4 + two bs 0) (length bs) (omega arith)) in
    record { value = rw (t, ← is) (search rules); within = rw is (simp (length-take, length-drop) (omega arith)) }
