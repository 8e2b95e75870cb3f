-- What a sheet's times keep: they are at most what a step finds and at most every lawful set, and every end is
-- within its deadline.
use Rattle.std.proofs.Common.{◌≡◌, ℕ, ◌<◌, ◌≤◌, List, length, get_or, set, replicate, refl, ◌∙◌, arith}
use Rattle.std.proofs.lemmas.List.{length-set, length-replicate}
use Rattle.std.proofs.lemmas.Grind.{common_steps, elements}
use Rattle.model.specs.declared.arc.Arc.{Arc}
use Rattle.model.specs.declared.item.Item.{Item}
use Rattle.model.specs.declared.times.Times.{Times}
use Rattle.model.specs.Items.{no_item, no_times, end_of, Valid}
use Rattle.model.specs.Laws.{Below, Handed, Monotone, Reckoning}
use Rattle.model.specs.Lawful.{late_at, wait_at, end_at, LawfulAt, Lawful}
use Rattle.promise.specs.declared.outcome.Became.TheVariants.{Quiet, Broke}
use Rattle.promise.specs.declared.outcome.Cause.{Cause}
use Rattle.promise.specs.declared.outcome.Cause.TheVariants.{Input, Limit}
use Rattle.promise.specs.Steps.{latest, judge}
use Rattle.promise.proofs.Judged.{Told, quiet_if}
use Rattle.promise.proofs.Latest.{latest_start, latest_end, latest_least, latest_mono}

abbrev pub late_new : List Item → List Arc → List Times → ℕ → ℕ
late_new xs arcs ts i = latest xs ts i arcs (get_or xs i no_item).offset

abbrev pub new : Reckoning → List Item → List Arc → List Times → ℕ → Times
new wait xs arcs ts i = record { late = late_new xs arcs ts i; wait = wait xs ts i }

pub record Sound (xs : List Item) : Type 0 where
  pub few : length xs ≤ 64
  pub valid : (i : ℕ) → i < length xs → Valid (get_or xs i no_item)

pub record Inv (wait : Reckoning) (xs : List Item) (arcs : List Arc) (ts : List Times) : Type 0 where
  pub sound : Sound xs
  pub paired : length ts ≡ length xs
  pub late_up : (i : ℕ) → i < length xs → late_at ts i ≤ late_new xs arcs ts i
  pub wait_up : (i : ℕ) → i < length xs → wait_at ts i ≤ wait xs ts i
  pub fits : (i : ℕ) → i < length xs → end_at xs ts i ≤ (get_or xs i no_item).deadline
  pub low : (us : List Times) → Lawful wait xs arcs us → Below ts us

pub handed : (xs : List Item) (ts : List Times) → Sound xs → length ts ≡ length xs → ((i : ℕ) → i < length xs → end_at xs ts i ≤ (get_or xs i no_item).deadline) → Handed xs ts
handed xs ts sound paired fits =
    record {
      few = sound.few;
      paired = paired;
      valid = sound.valid;
      late_small = λ i l. omega (arith, fits i l, (sound.valid i l).deadline_high, (sound.valid i l).period_high);
      wait_small = λ i l. omega (arith, fits i l, (sound.valid i l).deadline_high, (sound.valid i l).period_high);
    }

pub inv_start : (wait : Reckoning) (xs : List Item) (arcs : List Arc) → Sound xs → Inv wait xs arcs (replicate (length xs) no_times)
inv_start wait xs arcs sound =
    record {
      sound = sound;
      paired = length-replicate _ _;
      late_up = λ i l. grind (arith, common_steps);
      wait_up = λ i l. grind (arith, common_steps);
      fits = λ i l. grind (arith, common_steps, (sound.valid i l).duration_high);
      low = λ us h. record { late = λ i. grind (arith, common_steps); wait = λ i. grind (arith, common_steps) };
    }

-- a set of times is lawful by the items and arcs alone
pub lawful_of : {wait : Reckoning} {xs ys : List Item} {arcs others : List Arc} (us : List Times) → xs ≡ ys → arcs ≡ others → Lawful wait xs arcs us → Lawful wait ys others us
lawful_of us same joined h = rw (← same, ← joined) h

module _ (wait : Reckoning) (mono : Monotone wait) (xs : List Item) (arcs : List Arc) (ts : List Times) (inv : Inv wait xs arcs ts) where
  pub lawful_handed : (us : List Times) → Lawful wait xs arcs us → Handed xs us
  lawful_handed us h = handed xs us inv.sound h.paired (λ i l. (h.each i l).in_time)

  pub here : Handed xs ts
  here = handed xs ts inv.sound inv.paired inv.fits

  -- what a step finds is at most what a lawful set has
  pub over_late : (us : List Times) → Lawful wait xs arcs us → (i : ℕ) → i < length xs → late_new xs arcs ts i ≤ late_at us i
  over_late us h i l =
      let a : late_new xs arcs ts i ≤ late_new xs arcs us i = latest_mono xs ts us i arcs (get_or xs i no_item).offset (inv.low us h) in
      let b : late_new xs arcs us i ≤ late_at us i = latest_least xs us i arcs (get_or xs i no_item).offset (late_at us i) (h.each i l).released (h.each i l).supplied in
      omega arith

  pub over_wait : (us : List Times) → Lawful wait xs arcs us → (i : ℕ) → i < length xs → wait xs ts i ≤ wait_at us i
  over_wait us h i l =
      let a : wait xs ts i ≤ wait xs us i = mono xs ts us i here (lawful_handed us h) (inv.low us h) l in
      let b : wait xs us i ≤ wait_at us i = (h.each i l).waited in
      omega arith

  -- a break says that no set is lawful
  pub no_hope : (c : Cause) (i : ℕ) → i < length xs → Told (get_or xs i no_item) (get_or ts i no_times) (new wait xs arcs ts i) (Broke c) → (us : List Times) → Lawful wait xs arcs us → ⊥
  no_hope Input i l t us h =
      let a : late_new xs arcs ts i ≤ late_at us i = over_late us h i l in
      let b : late_at us i ≤ (get_or xs i no_item).offset = (h.each i l).exact t.0 in
      omega (arith, t.1)
  no_hope Limit i l t us h =
      let a : late_new xs arcs ts i ≤ late_at us i = over_late us h i l in
      let w : wait xs ts i ≤ wait_at us i = over_wait us h i l in
      let b : end_at xs us i ≤ (get_or xs i no_item).deadline = (h.each i l).in_time in
      omega arith

  rises : (i : ℕ) → i < length xs → Below ts (set ts i (new wait xs arcs ts i))
  rises i l =
      record {
        late = λ j. grind (arith, elements, inv.paired, inv.late_up i l);
        wait = λ j. grind (arith, elements, inv.paired, inv.wait_up i l);
      }

  pub inv_step : (i : ℕ) → i < length xs → end_of (get_or xs i no_item) (new wait xs arcs ts i) ≤ (get_or xs i no_item).deadline → Inv wait xs arcs (set ts i (new wait xs arcs ts i))
  inv_step i l fit =
      let t : Times = new wait xs arcs ts i in
      let ts' : List Times = set ts i t in
      let il : i < length ts = omega (arith, inv.paired) in
      let paired : length ts' ≡ length xs = length-set ts i t ∙ inv.paired in
      let fits : ((j : ℕ) → j < length xs → end_at xs ts' j ≤ (get_or xs j no_item).deadline) =
      λ j lj. grind (arith, elements, il, fit, inv.fits j lj) in
      let there : Handed xs ts' = handed xs ts' inv.sound paired fits in
      let up : Below ts ts' = rises i l in
      record {
        sound = inv.sound;
        paired = paired;
        late_up = λ j lj.
            let m : late_new xs arcs ts j ≤ late_new xs arcs ts' j = latest_mono xs ts ts' j arcs (get_or xs j no_item).offset up in
            grind (arith, elements, il, m, inv.late_up j lj);
        wait_up = λ j lj.
            let m : wait xs ts j ≤ wait xs ts' j = mono xs ts ts' j here there up lj in
            grind (arith, elements, il, m, inv.wait_up j lj);
        fits = fits;
        low = λ us h. record {
          late = λ j. grind (arith, elements, il, over_late us h i l, (inv.low us h).late j);
          wait = λ j. grind (arith, elements, il, over_wait us h i l, (inv.low us h).wait j);
        };
      }

  -- an item on which a step is quiet has lawful times, and the other way round
  pub quiet_lawful : (i : ℕ) → i < length xs → Told (get_or xs i no_item) (get_or ts i no_times) (new wait xs arcs ts i) Quiet → LawfulAt wait xs arcs ts i
  quiet_lawful i l t =
      let a : late_new xs arcs ts i ≤ late_at ts i = t.2 in
      record {
        released = omega (arith, latest_start xs ts i arcs (get_or xs i no_item).offset);
        supplied = λ k lk e. omega (arith, latest_end xs ts i arcs (get_or xs i no_item).offset k lk e);
        waited = t.3;
        in_time = inv.fits i l;
        exact = λ m. omega (arith, t.1 m, inv.late_up i l);
      }

  pub lawful_quiet : (i : ℕ) → i < length xs → LawfulAt wait xs arcs ts i → judge (get_or xs i no_item) (get_or ts i no_times) (new wait xs arcs ts i) ≡ Quiet
  lawful_quiet i l h =
      let a : late_new xs arcs ts i ≤ late_at ts i = latest_least xs ts i arcs (get_or xs i no_item).offset (late_at ts i) h.released h.supplied in
      let b : wait xs ts i ≤ wait_at ts i = h.waited in
      quiet_if (get_or xs i no_item) (get_or ts i no_times) (new wait xs arcs ts i) (omega (arith, h.in_time)) (λ m. omega (arith, h.exact m)) a b

  -- a quiet step leaves the times as they are
  pub quiet_same : (i : ℕ) → i < length xs → Told (get_or xs i no_item) (get_or ts i no_times) (new wait xs arcs ts i) Quiet → new wait xs arcs ts i ≡ get_or ts i no_times
  quiet_same i l t =
      let a : late_new xs arcs ts i ≡ late_at ts i = omega (arith, t.2, inv.late_up i l) in
      let b : wait xs ts i ≡ wait_at ts i = omega (arith, t.3, inv.wait_up i l) in
      rw (a, b) refl
