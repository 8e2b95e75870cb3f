-- A run: what it leaves keeps the invariant, and how it may end. The sum of all late times and waits rises
-- with each raising step and stays within the room, so only so many steps can raise; n quiet steps in a row
-- have looked at every item.
use Rattle.std.proofs.Common.{◌≡◌, ℕ, zero, suc, ◌+◌, ◌-◌, ◌*◌, ◌<◌, ◌≤◌, true, false, cond, ltb, leb, List, [], ◌∷◌, length, get_or, set, sum_by, sym, refl, ap, ◌∙◌, subst, ⊎_elim, mul-le-mul_right, add-mul, one-mul, arith}
use Rattle.std.proofs.lemmas.List.{set-get_or}
use Rattle.std.proofs.lemmas.List.Sums.{sum_by-cons, sum_by-set}
use Rattle.std.proofs.lemmas.Bool.{leb-true, leb-false, ltb-false, cond_both, both_ways}
use Rattle.std.proofs.lemmas.Bool.Decides.{nat_tests}
use Rattle.model.specs.declared.arc.Arc.{Arc}
use Rattle.model.specs.declared.item.Item.{Item}
use Rattle.model.specs.declared.times.Times.{Times}
use Rattle.model.specs.Items.{no_item, no_times}
use Rattle.model.specs.Laws.{Monotone, Reckoning}
use Rattle.model.specs.Lawful.{late_at, wait_at, end_at, LawfulAt, Lawful}
use Rattle.promise.specs.declared.outcome.Became.{Became}
use Rattle.promise.specs.declared.outcome.Became.TheVariants.{Raised, Quiet, Broke}
use Rattle.promise.specs.declared.outcome.Ending.{Ending}
use Rattle.promise.specs.declared.outcome.Ending.TheVariants.{Settled, Spent, Broken}
use Rattle.promise.specs.State.{State}
use Rattle.promise.specs.Steps.{outcome}
use Rattle.promise.specs.Runs.{Ran, ran, next, run_from}
use Rattle.promise.proofs.Judged.{Told, told, by_cases}
use Rattle.promise.proofs.Invariant.{new, late_new, Inv, no_hope, inv_step, quiet_lawful, quiet_same}

abbrev pub opened : List Item → List Arc → List Times → State
opened xs arcs ts = record { items = xs; arcs = arcs; times = ts; broken = false }

abbrev pub slack : Item → ℕ
slack x = x.deadline - x.duration

abbrev pub sum : Times → ℕ
sum t = t.late + t.wait

sum_le : (xs : List Item) (ts : List Times) → length ts ≡ length xs → ((i : ℕ) → i < length xs → end_at xs ts i ≤ (get_or xs i no_item).deadline) → sum_by sum ts ≤ sum_by slack xs
sum_le [] [] e h = omega arith
sum_le [] (t ∷ ts) e h = absurd (omega arith)
sum_le (x ∷ xs) [] e h = absurd (omega arith)
sum_le (x ∷ xs) (t ∷ ts) e h =
    omega (arith, sum_by-cons sum t ts, sum_by-cons slack x xs, sum_le xs ts (omega arith) (λ i l. h (suc i) (omega arith)), h 0 (omega arith))

-- the item after an item is one of the n
pub next_inside : (n i : ℕ) → 0 < n → cond (ltb (i + 1) n) (i + 1) 0 < n
next_inside n i some = grind (arith, nat_tests)

-- the items of the latest q steps before i have lawful times
pub record Covered (wait : Reckoning) (xs : List Item) (arcs : List Arc) (ts : List Times) (i q : ℕ) : Type 0 where
  pub before : (j : ℕ) → j < i → i ≤ j + q → LawfulAt wait xs arcs ts j
  pub behind : (j : ℕ) → i ≤ j → j < length xs → i + length xs ≤ j + q → LawfulAt wait xs arcs ts j

-- what an ending says, where a run that is spent gives B
abbrev pub Ends : Reckoning → List Item → List Arc → Type 0 → List Times → Ending → Type 0
Ends wait xs arcs B ts Settled = Lawful wait xs arcs ts
Ends wait xs arcs B ts Spent = B
Ends wait xs arcs B ts (Broken i c) = (us : List Times) → Lawful wait xs arcs us → ⊥

pub record RanWell (wait : Reckoning) (xs : List Item) (arcs : List Arc) (most a b : ℕ) (x : Ran) : Type 0 where
  pub items : x.state.items ≡ xs
  pub arcs_same : x.state.arcs ≡ arcs
  pub inv : Inv wait xs arcs x.state.times
  pub none : x.state.broken ≡ true → (us : List Times) → Lawful wait xs arcs us → ⊥
  pub raises : x.result.raises ≤ sum_by slack xs
  pub steps : x.result.steps ≤ most
  pub ends : Ends wait xs arcs (a < b) x.state.times x.result.ending

ends_map : (wait : Reckoning) (xs : List Item) (arcs : List Arc) (B C : Type 0) (ts : List Times) (e : Ending) → (B → C) → Ends wait xs arcs B ts e → Ends wait xs arcs C ts e
ends_map wait xs arcs B C ts Settled f h = h
ends_map wait xs arcs B C ts Spent f h = f h
ends_map wait xs arcs B C ts (Broken i c) f h = h

module _ (wait : Reckoning) (xs : List Item) (arcs : List Arc) where
  weaken : (m n a b c d : ℕ) (x : Ran) → m ≤ n → (a < b → c < d) → RanWell wait xs arcs m a b x → RanWell wait xs arcs n c d x
  weaken m n a b c d x le f h =
      record {
        items = h.items;
        arcs_same = h.arcs_same;
        inv = h.inv;
        none = h.none;
        raises = h.raises;
        steps = omega (arith, h.steps);
        ends = ends_map wait xs arcs (a < b) (c < d) x.state.times x.result.ending f h.ends;
      }

  all_lawful : (ts : List Times) (i q : ℕ) → Inv wait xs arcs ts → Covered wait xs arcs ts i q → (0 < length xs → i < length xs) → length xs ≤ q → Lawful wait xs arcs ts
  all_lawful ts i q inv cov small enough =
      record {
        paired = inv.paired;
        each = λ j l. let il : i < length xs = small (omega arith) in
            grind (arith, cov.before, cov.behind);
      }

  pub covered_none : (ts : List Times) (i : ℕ) → Covered wait xs arcs ts i 0
  covered_none ts i = record { before = λ j l h. absurd (omega arith); behind = λ j l lj h. absurd (omega arith) }

  covered_more : (ts : List Times) (i q : ℕ) → i < length xs → LawfulAt wait xs arcs ts i → Covered wait xs arcs ts i q → Covered wait xs arcs ts (cond (ltb (i + 1) (length xs)) (i + 1) 0) (q + 1)
  covered_more ts i q il here cov =
      let at : ((j : ℕ) → j ≡ i → LawfulAt wait xs arcs ts j) = λ j e. subst (λ k. LawfulAt wait xs arcs ts k) (sym e) here in
      cond_both (ltb (i + 1) (length xs)) (i + 1) 0 (λ k. Covered wait xs arcs ts k (q + 1))
      (λ e. record {
        before = λ j l h. grind (arith, cov.before, at);
        behind = λ j l lj h. cov.behind j (omega arith) lj (omega arith);
      })
      (λ e. let m : length xs ≤ i + 1 = ltb-false _ _ e in
      record {
        before = λ j l h. absurd (omega arith);
        behind = λ j l lj h. grind (arith, cov.before, at);
      })

  stopped : (ts : List Times) (most a b : ℕ) (e : Ending) (t r : ℕ) → Inv wait xs arcs ts → t ≤ most → r ≤ sum_by slack xs → Ends wait xs arcs (a < b) ts e → RanWell wait xs arcs most a b (ran (opened xs arcs ts) e t r)
  stopped ts most a b e t r inv steps raises ends =
      record { items = refl; arcs_same = refl; inv = inv; none = λ h. absurd (both_ways false refl h); raises = raises; steps = steps; ends = ends }

-- as many steps as can still be made before the run has to end
abbrev pub bound : List Item → List Times → ℕ
bound xs ts = (sum_by slack xs - sum_by sum ts) * length xs + length xs

falls : (a b n : ℕ) → b + 1 ≤ a → b * n + n ≤ a * n
falls a b n h = omega (arith, add-mul b 1 n, one-mul n, mul-le-mul_right n h)

module _ (wait : Reckoning) (mono : Monotone wait) (xs : List Item) (arcs : List Arc) where
  raised_more : (ts : List Times) (i : ℕ) → Inv wait xs arcs ts → i < length xs → Told (get_or xs i no_item) (get_or ts i no_times) (new wait xs arcs ts i) Raised → sum_by sum ts < sum_by sum (set ts i (new wait xs arcs ts i))
  raised_more ts i inv l t =
      let il : i < length ts = omega (arith, inv.paired) in
      let s = sum_by-set sum ts i (new wait xs arcs ts i) no_times il in
      let a = inv.late_up i l in
      let b = inv.wait_up i l in
      ⊎_elim (λ (h : late_at ts i < late_new xs arcs ts i). omega arith) (λ (h : wait_at ts i < wait xs ts i). omega arith) t.1

  pub run_well : (f : ℕ) (ts : List Times) (i q t r : ℕ) → Inv wait xs arcs ts → Covered wait xs arcs ts i q → (0 < length xs → i < length xs) → r ≤ sum_by sum ts → RanWell wait xs arcs (t + f) (f + q) (bound xs ts) (run_from wait f (opened xs arcs ts) i q t r)
  unfolding run_from
  run_well zero ts i q t r inv cov small few =
      let w : sum_by sum ts ≤ sum_by slack xs = sum_le xs ts inv.paired inv.fits in
      cond_both (leb (length xs) q) Settled Spent (λ e. RanWell wait xs arcs (t + 0) (0 + q) (bound xs ts) (ran (opened xs arcs ts) e t r))
      (λ e. stopped wait xs arcs ts (t + 0) (0 + q) (bound xs ts) Settled t r inv (omega arith) (omega arith) (all_lawful wait xs arcs ts i q inv cov small (leb-true _ _ e)))
      (λ e. stopped wait xs arcs ts (t + 0) (0 + q) (bound xs ts) Spent t r inv (omega arith) (omega arith) (omega (arith, leb-false _ _ e)))
  run_well (suc f) ts i q t r inv cov small few =
      let w : sum_by sum ts ≤ sum_by slack xs = sum_le xs ts inv.paired inv.fits in
      let s : State = opened xs arcs ts in
      let ts' : List Times = set ts i (new wait xs arcs ts i) in
      let P : Ran → Type 0 = RanWell wait xs arcs (t + suc f) (suc f + q) (bound xs ts) in
      let Q : Became → Type 0 = Told (get_or xs i no_item) (get_or ts i no_times) (new wait xs arcs ts i) in
      let tell : Q (outcome wait s i) = told (get_or xs i no_item) (get_or ts i no_times) (new wait xs arcs ts i) in
      cond_both (leb (length xs) q) _ _ P
      (λ e. stopped wait xs arcs ts (t + suc f) (suc f + q) (bound xs ts) Settled t r inv (omega arith) (omega arith) (all_lawful wait xs arcs ts i q inv cov small (leb-true _ _ e)))
      (λ e.
      let short : q < length xs = leb-false _ _ e in
      let il : i < length xs = small (omega arith) in
      by_cases (outcome wait s i) _ _ _ P
      (λ o. let h : Q Raised = subst Q o tell in
      let inv' : Inv wait xs arcs ts' = inv_step wait mono xs arcs ts inv i il h.0 in
      let up : sum_by sum ts < sum_by sum ts' = raised_more ts i inv il h in
      let w' : sum_by sum ts' ≤ sum_by slack xs = sum_le xs ts' inv'.paired inv'.fits in
      let fl = falls (sum_by slack xs - sum_by sum ts) (sum_by slack xs - sum_by sum ts') (length xs) (omega arith) in
      weaken wait xs arcs (t + 1 + f) (t + suc f) (f + 0) (bound xs ts') (suc f + q) (bound xs ts) _ (omega arith) (λ g. omega arith)
      (run_well f ts' (next s i) 0 (t + 1) (r + 1) inv' (covered_none wait xs arcs ts' (next s i)) (λ _. next_inside (length xs) i (omega arith)) (omega arith)))
      (λ o. let h : Q Quiet = subst Q o tell in
      let same : ts' ≡ ts = ap (set ts i) (quiet_same wait mono xs arcs ts inv i il h) ∙ set-get_or ts i no_times in
      let here : LawfulAt wait xs arcs ts i = quiet_lawful wait mono xs arcs ts inv i il h in
      subst (λ (u : List Times). P (run_from wait f (opened xs arcs u) (next s i) (q + 1) (t + 1) r)) (sym same)
      (weaken wait xs arcs (t + 1 + f) (t + suc f) (f + (q + 1)) (bound xs ts) (suc f + q) (bound xs ts) _ (omega arith) (λ g. omega arith)
      (run_well f ts (next s i) (q + 1) (t + 1) r inv (covered_more wait xs arcs ts i q il here cov) (λ _. next_inside (length xs) i (omega arith)) few)))
      (λ c o. let h : Q (Broke c) = subst Q o tell in
      let none : ((us : List Times) → Lawful wait xs arcs us → ⊥) = no_hope wait mono xs arcs ts inv c i il h in
      record { items = refl; arcs_same = refl; inv = inv; none = λ _. none; raises = omega arith; steps = omega arith; ends = none }))
