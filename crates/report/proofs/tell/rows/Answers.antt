use Rattle.std.proofs.Common.{rules, ◌≡◌, ℕ, ◌<◌, List, [], length, map, take, get_or, sym, ap, ◌∙◌, arith, Bor}
use Rattle.std.proofs.lemmas.List.{get_or-map, take_more_set, length-set}
use Rattle.promise.specs.State.{State}
use Rattle.page.specs.Rows.{row_as}
use Rattle.files.specs.Process.{names_of}
use Rattle.report.specs.Pages.{row_of}
use Rattle.report.proofs.Rowing.{row_is, rows_more}
use Rattle.report.proofs.tell.rows.Goals as goal

pub loop-i-preserved : goal.loop-i-preserved
loop-i-preserved g c =
    let t : State = c.args.sheet.now.table in
    let names : List (List ℕ) = names_of c.args.process.now in
    let k : ℕ = c.loop-i.i in
    let inv = c.loop-i.invariant in
    let few : k < 64 = omega (arith, c.loop-i-test.true, inv.few) in
    let below : k < length t.items = omega (arith, c.loop-i-test.true, c.count-count.ensures.value) in
    let full : length c.names-names.result ≡ 64 = search rules in
    let no_name : Bor (List ℕ) = record { ref_ptr = (0, 0); now = [] } in
    let name : (get_or c.names-names.result k no_name).now ≡ get_or names k [] =
    sym (get_or-map (λ (n : Bor (List ℕ)). n.now) c.names-names.result k no_name [] (omega (arith, few, full))) ∙ c.names-names.ensures k few in
    let row = row_is names t k _ _ _ name (c.lines-lines.ensures k below) c.limit.ensures in
    let more = rows_more row_as (row_of names t) (take k c.loop-i.rows) c.new.result k inv.built (c.new.ensures ∙ row) in
    let step = take_more_set c.loop-i.rows k c.new.result (omega (arith, few, inv.full)) in
    record { full = length-set c.loop-i.rows k c.new.result ∙ inv.full; few = inv.few; built = ap (map row_as) step ∙ more }
