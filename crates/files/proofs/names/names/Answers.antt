use Rattle.std.proofs.Common.{◌≡◌, ℕ, ◌<◌, List, map, length, take, sym, refl, ap, ◌∙◌, arith, Bor, length-append}
use Rattle.std.proofs.lemmas.List.{length-map, length-set, map-set}
use Rattle.std.proofs.lemmas.List.FromFn.{length-enumerate_from}
use Rattle.std.proofs.lemmas.Iterator.{YieldsList, YieldsList-from_take}
use Rattle.std.proofs.lemmas.Iterator.Consumers.{YieldsList-from_first, YieldsList-from_enumerate, YieldsList-at, YieldsList-turn, YieldsList-end}
use Rattle.std.specs.declared.iter.Enumerate.{Enumerate}
use Rattle.std.specs.declared.iter.Take.{Take}
use Rattle.std.specs.Iterator.{YieldsFirstBy}
use Rattle.std.specs.Iterator.Adapters.{take_source, take_count, take_steps, enumerate_source, enumerate_count, enumerate_steps}
use Rattle.std.specs.List.{filter_map, enumerate_from}
use Rattle.records.specs.declared.rows.Rows.{Rows}
use Rattle.records.specs.Rows.{rows_in, rows_left}
use Rattle.records.specs.declared.fault.SourceFile.TheVariants.{Process}
use Rattle.files.specs.declared.names.ItemNames.{ItemNames}
use Rattle.files.specs.Names.{name_of, names_left}
use Rattle.files.specs.Process.{names_of}
use Rattle.files.proofs.Filling.{one_more, all_there, blank, turn}
use Rattle.files.proofs.Said.{names_rows}
use Rattle.files.proofs.names.names.Goals as goal

-- the first 64 names, each with its number
numbered : (bs : List ℕ) (rows : Rows) (t : Take ItemNames) (s : Enumerate (Take ItemNames)) → rows_left rows ≡ rows_in Process 0 0 bs → take_source t ≡ record { rows = rows } → take_count t ≡ 64 → enumerate_source s ≡ t → enumerate_count s ≡ 0 → YieldsList {B = ℕ × List ℕ} (enumerate_steps (take_steps (YieldsFirstBy {A = Bor (List ℕ)} (λ name. name.now) names_left))) (λ p. (p.0, p.1.now)) s (enumerate_from 0 (take 64 (names_of bs)))
numbered bs rows t s e source count of zero =
    let start = ap (filter_map name_of) e ∙ sym (names_rows 0 0 bs) in
    let all = YieldsList-from_first (λ (m : Bor (List ℕ)). m.now) names_left {s = record { rows = rows }} (names_of bs) start in
    YieldsList-from_enumerate (YieldsList-at of (YieldsList-from_take 64 (YieldsList-at source all) count)) zero

pub loop-place-init : goal.loop-place-init
loop-place-init c = (refl, blank 64 (names_of c.args.file.now))

pub loop-place-preserved : goal.loop-place-preserved
loop-place-preserved c =
    let names = names_of c.args.file.now in
    let f : Bor (List ℕ) → List ℕ = λ m. m.now in
    let road = YieldsList-at c.into_iter-place-iterator.ensures.into_iter_gives (numbered c.args.file.now c.new.result c.take.result c.enumerate-place-items.result c.new.ensures c.take.ensures.source c.take.ensures.count c.enumerate-place-items.ensures.source c.enumerate-place-items.ensures.count) in
    let step = YieldsList-turn road c.loop-place.yielded c.loop-place.place-iterator c.loop-place.yielded_by c.next.result c.next.new.self (c.in-Some.place, c.in-Some.name) c.in-Some.is c.next.ensures.steps in
    let k = length c.loop-place.yielded in
    let here = turn names k c.in-Some.place c.in-Some.name.now step.0 step.1 in
    let fits : k < length (map f c.loop-place.names) = omega (arith, here.fits, length-map c.loop-place.names f, c.loop-place.invariant.0) in
    let on = one_more (map f c.loop-place.names) names k c.in-Some.name.now fits c.loop-place.invariant.1 here.name in (
      length-set c.loop-place.names c.in-Some.place c.in-Some.name ∙ c.loop-place.invariant.0,
      rw (length-append, map-set f c.loop-place.names c.in-Some.place c.in-Some.name, here.place) on,
    )

pub returns : goal.returns
returns c = λ i l.
    let names = names_of c.args.file.now in
    let f : Bor (List ℕ) → List ℕ = λ m. m.now in
    let road = YieldsList-at c.into_iter-place-iterator.ensures.into_iter_gives (numbered c.args.file.now c.new.result c.take.result c.enumerate-place-items.result c.new.ensures c.take.ensures.source c.take.ensures.count c.enumerate-place-items.ensures.source c.enumerate-place-items.ensures.count) in
    let end = YieldsList-end road c.loop-place.yielded c.loop-place.place-iterator c.loop-place.yielded_by c.next.result c.next.new.self c.in-None.is c.next.ensures.steps in
    all_there (map f c.loop-place.names) names (length c.loop-place.yielded) i l (end.1 ∙ length-enumerate_from 0 (take 64 names)) c.loop-place.invariant.1
