use Rattle.std.proofs.Common.{◌≡◌, ◌<◌, length, arith}
use Rattle.std.proofs.lemmas.Bool.Decides.{nat_tests}
use Rattle.records.specs.Records.{said}
use Rattle.records.proofs.Follow.{rows_end, next_row, next_fault, fewer}
use Rattle.records.proofs.rows.RowsIterator.next.Goals as goal

pub returns-then-is_empty-clause-steps : goal.returns-then-is_empty-clause-steps
returns-then-is_empty-clause-steps c =
    let s = c.args.self.now in
    let none : length c.from_place-rest.result.now ≡ 0 = grind (arith, nat_tests) in
    let left = rows_end s.file s.place _ (rw c.from_place-rest.ensures at none) in
    (left, left)

pub returns-in-Ok : goal.returns-in-Ok
returns-in-Ok c =
    let s = c.args.self.now in
    let rest = c.from_place-rest.ensures in
    let v = rw rest at c.in-Ok.ensures.value in
    let w = rw rest at c.in-Ok.ensures.within in
    let first = next_row s.file s.place c.in-Ok.length s.bytes.now (said c.in-Ok.record) w.0 w.1 v in
    record { steps = first; goes = record { on = λ _. (tt, tt, fewer _ _ _ first); keeps = tt; rests = λ _. tt } }

pub returns-in-Err : goal.returns-in-Err
returns-in-Err c =
    let s = c.args.self.now in
    let rest = c.from_place-rest.ensures in
    let v = rw rest at c.in-Err.ensures.value in
    let some : 0 < length c.from_place-rest.result.now = grind (arith, nat_tests) in
    let last = next_fault s.file s.place s.bytes.now c.in-Err.refusal (rw rest at some) v in
    record { steps = last; goes = record { on = λ _. (tt, tt, fewer _ _ _ last); keeps = tt; rests = λ _. tt } }
