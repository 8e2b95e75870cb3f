use Rattle.std.proofs.Common.{◌≡◌, ℕ, ◌≤◌, true, ◌&&◌, leb, List, length, arith, rules}
use Rattle.std.proofs.lemmas.List.{take_rest}
use Rattle.std.proofs.lemmas.Bool.{and_from, le-leb}
use Rattle.records.proofs.item.read_item.Goals as goal

right_length : (bs : List ℕ) → 27 ≤ length bs → length bs ≤ 42 → (leb 27 (length bs) && leb (length bs) 42) ≡ true
right_length bs lo hi = and_from _ _ (le-leb 27 (length bs) lo) (le-leb (length bs) 42 hi)

pub returns : goal.returns
returns c =
    let bs = c.args.body.now in
    let t = right_length bs (omega arith) (omega arith) in
    let e = simp take_rest at c.in_ok-name.ensures in
    let yes = e.0 in
    let name = e.1 in
    rw (t, yes) (cc)

pub returns-in_err-name : goal.returns-in_err-name
returns-in_err-name c =
    let bs = c.args.body.now in
    let t = right_length bs (omega arith) (omega arith) in
    let e = simp take_rest at c.in_err-name.ensures in
    let no = e.0 in
    rw (t, no) (search rules)
