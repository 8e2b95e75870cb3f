-- What a run on a sheet that a file made says of the lawful sets.
use Rattle.std.proofs.Common.{◌≡◌, ℕ, List, length, Ok, sym, refl, ap, ◌∙◌, subst, arith}
use Rattle.model.specs.declared.times.Times.{Times}
use Rattle.promise.specs.declared.outcome.Ending.TheVariants.{Settled}
use Rattle.promise.specs.declared.outcome.RunResult.{RunResult}
use Rattle.promise.specs.State.{State, Meaning}
use Rattle.promise.specs.Runs.{run_of}
use Rattle.promise.specs.Calls.{run, run_ask, run_answer, left}
use Rattle.promise.specs.Promise.{LawfulFor, enough, Decided, RunKept, AnswerKept, Kept, Leaves}
use Rattle.promise.proofs.Invariant.{lawful_of}
use Rattle.promise.proofs.Keeps.{Has, run_keeps, Inside, run_inside}
use Rattle.promise.proofs.Whole.{then_ok}
use Rattle.report.specs.Verdicts.{Reached, Verdict}

module _ (m : Meaning) (s : State) (a : ℕ) (r : RunResult) (t : State) (reached : Reached m s) (enough-steps : a ≡ enough s) (answer : Ok r ≡ run_answer m s a) (leaves : Leaves m s (run a) t) where
  asked : run_ask s ≡ Ok tt
  asked = rw reached.unbroken refl

  result_is : r ≡ (run_of m.wait s (enough s)).result
  result_is =
      let p = then_ok (run_ask s) (Ok (run_of m.wait s a).result) r (sym answer) in
      cc p.1 ∙ ap (λ n. (run_of m.wait s n).result) enough-steps

  left_is : t ≡ (run_of m.wait s (enough s)).state
  left_is = leaves.state ∙ (ap (λ x. left x (run_of m.wait s a).state s) asked ∙ ap (λ n. (run_of m.wait s n).state) enough-steps)

  kept : AnswerKept m s (run a) × Kept m t
  kept = leaves.kept reached.calls reached.made reached.state

  decided : Decided m s t r.ending
  decided =
      let k : RunKept m s a (run_of m.wait s a).state r = kept.0 r (sym answer) in
      let d : Decided m s (run_of m.wait s a).state r.ending = k.decides (omega (arith, enough-steps)) in
      rw (left_is, ← enough-steps) d

  same : Has s.items s.arcs t
  same = subst (Has s.items s.arcs) (sym left_is) (run_keeps m.wait (enough s) s 0 0 0 0)

  there : ((us : List Times) → LawfulFor m s us → LawfulFor m t us)
  there us h = lawful_of us (sym same.items) (sym same.arcs_same) h

  inside : Inside (length s.items) r.ending
  inside = subst (λ (x : RunResult). Inside (length s.items) x.ending) (sym result_is) (run_inside m.wait (enough s) s 0 0 0 0 (λ l. l))

  lawful : r.ending ≡ Settled → LawfulFor m s t.times
  lawful e = subst (Decided m s t) e decided

  pub verdict : Verdict m s r t
  verdict =
      record {
        result = result_is;
        left = left_is;
        items = same.items;
        settled = λ e. kept.1.settled (there t.times (lawful e));
        least = λ e.
            record {
              lawful = lawful e;
              least = λ us h. record { late = kept.1.late_low us (there us h); wait = kept.1.wait_low us (there us h) };
            };
        hopeless = λ i c e. subst (Decided m s t) e decided;
        inside = λ i c e. subst (Inside (length s.items)) e inside;
        decided = λ e. subst (Decided m s t) e decided;
      }
