-- What the invariant says of lawful sets: the promise of one state, and of all of them.
use Rattle.std.proofs.Common.{◌≡◌, ℕ, ◌+◌, ◌-◌, ◌<◌, ◌≤◌, false, not, leb, List, length, get_or, Some, None, Ok, sum_by, Option, sym, refl, ap, ◌∙◌, subst, mul-le-mul_right, add-mul, one-mul, arith}
use Rattle.std.proofs.lemmas.List.{ext_get_or}
use Rattle.std.proofs.lemmas.Bool.{ltb-true, false_from_ne_true, not-true}
use Rattle.model.specs.declared.times.Times.{Times}
use Rattle.model.specs.Items.{no_item, no_times, is_there}
use Rattle.model.specs.Laws.{Below, Monotone, Law}
use Rattle.model.specs.Lawful.{late_at, wait_at, end_at}
use Rattle.model.proofs.Folds.{largest_to_rises, cond_rises}
use Rattle.promise.specs.declared.outcome.Became.{Became}
use Rattle.promise.specs.declared.outcome.Became.TheVariants.{Quiet}
use Rattle.promise.specs.declared.outcome.Ending.{Ending}
use Rattle.promise.specs.declared.outcome.Ending.TheVariants.{Settled, Spent, Broken}
use Rattle.promise.specs.declared.outcome.QueueBound.{QueueBound}
use Rattle.promise.specs.declared.outcome.Refusal.TheVariants.{ShortTable}
use Rattle.promise.specs.declared.outcome.RunResult.{RunResult}
use Rattle.promise.specs.State.{State, Meaning, empty, item_at, times_at}
use Rattle.promise.specs.Steps.{found, outcome, stepped, is_quiet}
use Rattle.promise.specs.Runs.{Ran, run_of}
use Rattle.promise.specs.Calls.{ask, step_ask, run_ask, settled_ask, run_answer, bound_to, Call, entry, arc, change, step, run, times, queue_bound, Made, AllMade, after, after_all}
use Rattle.promise.specs.Promise.{LawfulFor, IsSettled, room, enough, load_there, bound_of, Tells, Decided, RunKept, BoundKept, AnswerKept, Kept, Agree, Promised, Leaves}
use Rattle.promise.proofs.Latest.{end_mono}
use Rattle.promise.proofs.Judged.{Told, told}
use Rattle.promise.proofs.Invariant.{lawful_of, lawful_handed, here, quiet_lawful, lawful_quiet}
use Rattle.promise.proofs.Run.{slack, sum, bound, Ends, RanWell}
use Rattle.promise.proofs.Bounds.{Best, best}
use Rattle.promise.proofs.Whole.{Whole, ask_ok, then_ok, none_decides, quiet_is, after_whole, all_whole, empty_whole, step_low, run_is_well}

module _ (m : Meaning) (mono : Monotone m.wait) (loads : Monotone m.load) (s : State) (w : Whole m.wait s) where
  settled_lawful : IsSettled m s → LawfulFor m s s.times
  settled_lawful h =
      record {
        paired = w.inv.paired;
        each = λ i l.
            let quiet : outcome m.wait s i ≡ Quiet = quiet_is (outcome m.wait s i) ((none_decides (λ k. not (is_quiet (outcome m.wait s k))) (length s.items)).0 h.1 i l) in
            quiet_lawful m.wait mono s.items s.arcs s.times w.inv i l
            (subst (Told (item_at s i) (times_at s i) (found m.wait s i)) quiet (told (item_at s i) (times_at s i) (found m.wait s i)));
      }

  settled_is : settled_ask m s ≡ Ok tt → IsSettled m s
  settled_is e =
      let unbroken = ask_ok _ _ _ e in
      let quiet = ask_ok _ _ _ unbroken.1 in
      (not-true s.broken unbroken.0, quiet.0)

  lawful_settled : LawfulFor m s s.times → IsSettled m s
  lawful_settled h = (
    false_from_ne_true s.broken (λ e. w.none e s.times h),
    (none_decides (λ k. not (is_quiet (outcome m.wait s k))) (length s.items)).1
        (λ i l. ap (λ b. not (is_quiet b)) (lawful_quiet m.wait mono s.items s.arcs s.times w.inv i l (h.each i l))),
  )

  bounds_low : (ts : List Times) → LawfulFor m s ts → (class station queue : ℕ) → bound_of m s s.times class station queue ≤ bound_of m s ts class station queue
  bounds_low ts h class station queue =
      largest_to_rises (load_there m s s.times class station queue) (load_there m s ts class station queue) (length s.items)
      (λ i l. cond_rises (is_there class station queue (get_or s.items i no_item))
      (loads s.items s.times ts i (here m.wait mono s.items s.arcs s.times w.inv) (lawful_handed m.wait mono s.items s.arcs s.times w.inv ts h) (w.inv.low ts h) l))

  tells : (a : ℕ) (x : State) (e : Ending) → Ends m.wait s.items s.arcs (a + 0 < bound s.items s.times) x.times e → Tells m s a x e
  tells a x Settled h = h
  tells a x Spent h =
      let k : sum_by slack s.items - sum_by sum s.times ≤ sum_by slack s.items = omega arith in
      omega (arith, mul-le-mul_right (length s.items) k, add-mul (room s) 1 (length s.items), one-mul (length s.items))
  tells a x (Broken i c) h = h

  decides : (a : ℕ) (x : State) (e : Ending) → Tells m s a x e → enough s ≤ a → Decided m s x e
  decides a x Settled h le = h
  decides a x Spent h le = omega arith
  decides a x (Broken i c) h le = h

  run_kept : (a : ℕ) (r : RunResult) → run_answer m s a ≡ Ok r → RunKept m s a (run_of m.wait s a).state r
  run_kept a r e =
      let p = then_ok (run_ask s) (Ok (run_of m.wait s a).result) r e in
      let unbroken : s.broken ≡ false = not-true s.broken (ask_ok _ _ _ p.0).0 in
      let x : Ran = run_of m.wait s a in
      let h : RanWell m.wait s.items s.arcs (0 + a) (a + 0) (bound s.items s.times) x = run_is_well m.wait mono s w unbroken a in
      let t : Tells m s a x.state x.result.ending = tells a x.state x.result.ending h.ends in
      let is : x.result ≡ r = cc p.1 in
      subst (RunKept m s a x.state) is
      (record { tells = t; decides = decides a x.state x.result.ending t; raises = h.raises; steps = omega (arith, h.steps) })

  bound_kept : (class station queue : ℕ) (b : Option QueueBound) → Best (is_there class station queue) (m.load s.items s.times) s.items (length s.items) b → BoundKept m s class station queue b
  bound_kept class station queue None h = h
  bound_kept class station queue (Some b) h =
      record {
        bytes = h.bytes;
        least = λ ts l. omega (arith, h.bytes, bounds_low ts l class station queue);
        inside = h.inside;
        there = h.there;
        reached = h.reached;
        first = h.first;
      }

  answer_kept : (c : Call) → AnswerKept m s c
  answer_kept (entry x) = tt
  answer_kept (arc p i) = tt
  answer_kept (change i x) = tt
  answer_kept (step i) = λ b end e ts h.
      let mine : Became × ℕ = (outcome m.wait s i, end_at s.items (stepped m.wait s i).times i) in
      let x : Became × ℕ = (b, end) in
      let p = then_ok (step_ask s i) (Ok mine) x e in
      let pair : mine ≡ x = cc p.1 in
      let is : mine.1 ≡ end = ap (λ (v : Became × ℕ). v.1) pair in
      let low : mine.1 ≤ end_at s.items ts i = end_mono s.items (stepped m.wait s i).times ts (step_low m.wait mono s w i (ltb-true _ _ (ask_ok _ _ _ p.0).0) ts h) i in
      omega arith
  answer_kept (run a) = run_kept a
  answer_kept (times rows) = λ e.
      let p = then_ok (settled_ask m s) (ask (leb (length s.items) rows) ShortTable (Ok tt)) tt e in
      (settled_lawful (settled_is p.0), λ ts h. w.inv.low ts h)
  answer_kept (queue_bound class station queue) = λ b e.
      let mine : Option QueueBound = bound_to (is_there class station queue) (m.load s.items s.times) s.items (length s.items) in
      let p = then_ok (settled_ask m s) (Ok mine) b e in
      let is : mine ≡ b = cc p.1 in
      subst (BoundKept m s class station queue) is
      (bound_kept class station queue mine (best (is_there class station queue) (m.load s.items s.times) s.items (length s.items)))

  whole_kept : Kept m s
  whole_kept =
      record {
        late_low = λ ts h. (w.inv.low ts h).late;
        wait_low = λ ts h. (w.inv.low ts h).wait;
        end_low = λ ts h. end_mono s.items s.times ts (w.inv.low ts h);
        lawful = settled_lawful;
        settled = lawful_settled;
        least_bounds = λ _. bounds_low;
        hopeless = w.none;
        answers = answer_kept;
      }

agree : (m : Meaning) → Monotone m.wait → Monotone m.load → (s t : State) → Whole m.wait s → Whole m.wait t → Agree m s t
agree m mono loads s t ws wt xs arcs settled =
    let mine : LawfulFor m s s.times = settled_lawful m mono loads s ws settled in
    let theirs : ((us : List Times) → LawfulFor m s us → LawfulFor m t us) =
    λ us h. lawful_of us xs arcs h in
    let back : ((us : List Times) → LawfulFor m t us → LawfulFor m s us) =
    λ us h. lawful_of us (sym xs) (sym arcs) h in (
      false_from_ne_true t.broken (λ e. wt.none e s.times (theirs s.times mine)),
      λ also.
          let other : LawfulFor m s t.times = back t.times (settled_lawful m mono loads t wt also) in
          let up : Below s.times t.times = ws.inv.low t.times other in
          let down : Below t.times s.times = wt.inv.low s.times (theirs s.times mine) in
          ext_get_or no_times s.times t.times (mine.paired ∙ sym other.paired)
          (λ i l.
          let a : late_at s.times i ≡ late_at t.times i = omega (arith, up.late i, down.late i) in
          let b : wait_at s.times i ≡ wait_at t.times i = omega (arith, up.wait i, down.wait i) in
          let same : ◌≡◌ {A = Times} (record { late = late_at s.times i; wait = wait_at s.times i }) (get_or t.times i no_times) = rw (a, b) refl in
          same),
    )

pub promised : (m : Meaning) → Law m.wait m.load → Promised m
promised m law =
    let w : ((calls : List Call) → AllMade calls → Whole m.wait (after_all m empty calls)) = all_whole m law.wait_monotone empty (empty_whole m.wait) in
    record {
      kept = λ calls made. whole_kept m law.wait_monotone law.load_monotone _ (w calls made);
      agree = λ calls others made also. agree m law.wait_monotone law.load_monotone _ _ (w calls made) (w others also);
    }

pub leaves : (m : Meaning) → Law m.wait m.load → (s : State) (c : Call) (left : State) → Made c → left ≡ after m s c → Leaves m s c left
leaves m law s c left made e =
    record {
      state = e;
      kept = λ calls all is.
          let w : Whole m.wait s = subst (Whole m.wait) (sym is) (all_whole m law.wait_monotone empty (empty_whole m.wait) calls all) in
          let next : Kept m (after m s c) = whole_kept m law.wait_monotone law.load_monotone (after m s c) (after_whole m law.wait_monotone s w c made) in
          ((whole_kept m law.wait_monotone law.load_monotone s w).answers c, subst (Kept m) (sym e) next);
    }
