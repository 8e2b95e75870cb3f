-- The promise, from the invariant over all lists of calls.
use Rattle.std.proofs.Common.{◌≡◌, ℕ, ◌+◌, ◌<◌, Bool, true, false, not, List, [], ◌∷◌, ◌++◌, length, set, Ok, Err, Result, sym, refl, subst, arith}
use Rattle.std.proofs.lemmas.List.{length_push, length-set}
use Rattle.std.proofs.lemmas.Bool.{ltb-true, eqb-true, and_parts, not-true, not_from_false}
use Rattle.std.specs.Bool.{Decides}
use Rattle.std.proofs.lemmas.Bool.Decides.{Decides-below_and}
use Rattle.std.proofs.lemmas.Grind.{elements}
use Rattle.std.proofs.Math.Bool.{and_comm}
use Rattle.model.specs.declared.arc.Arc.{Arc}
use Rattle.model.specs.declared.item.Item.{Item}
use Rattle.model.specs.declared.times.Times.{Times}
use Rattle.model.specs.Items.{Valid}
use Rattle.model.specs.Laws.{Below, Monotone, Reckoning}
use Rattle.model.specs.Lawful.{Lawful}
use Rattle.promise.proofs.Valid.{valid_from, valid_changed}
use Rattle.promise.specs.declared.outcome.Became.{Became}
use Rattle.promise.specs.declared.outcome.Became.TheVariants.{Quiet}
use Rattle.promise.specs.declared.outcome.Refusal.{Refusal}
use Rattle.promise.specs.State.{State, Meaning, fresh, empty, item_at, times_at}
use Rattle.promise.specs.Steps.{found, outcome, stepped, is_quiet}
use Rattle.promise.specs.Runs.{Ran, run_of}
use Rattle.promise.specs.Calls.{ask, then, none_to, entry_ask, arc_ask, change_ask, step_ask, run_ask, Call, entry, arc, change, step, run, times, queue_bound, Made, AllMade, left, after, after_all}
use Rattle.promise.proofs.Judged.{Told, told, by_cases}
use Rattle.promise.proofs.Invariant.{lawful_of, Sound, Inv, inv_start, no_hope, inv_step}
use Rattle.promise.proofs.Run.{bound, RanWell, run_well, covered_none}

pub record Whole (wait : Reckoning) (s : State) : Type 0 where
  pub inv : Inv wait s.items s.arcs s.times
  pub none : s.broken ≡ true → (us : List Times) → Lawful wait s.items s.arcs us → ⊥

-- questions: what follows from a grant, and that a refusal leaves what was
pub ask_ok : (b : Bool) (e : Refusal) (next : Result (Unit {0}) Refusal) → ask b e next ≡ Ok tt → (b ≡ true) × (next ≡ Ok tt)
ask_ok b e next h = grind arith

pub then_ok : {X : Type 0} (a : Result (Unit {0}) Refusal) (answer : Result X Refusal) (x : X) → then a answer ≡ Ok x → (a ≡ Ok tt) × (answer ≡ Ok x)
then_ok a answer x h = grind arith

left_cases : (r : Result (Unit {0}) Refusal) (a s : State) (P : State → Type 0) → P s → (r ≡ Ok tt → P a) → P (left r a s)
left_cases (Ok u) a s P p h = h refl
left_cases (Err e) a s P p h = p

pub none_decides : (f : ℕ → Bool) (n : ℕ) → Decides (none_to f n) ((i : ℕ) → i < n → f i ≡ false)
none_decides f n = Decides-below_and (λ k. not (f k)) (λ k. f k ≡ false) (none_to f) (λ k. (not-true (f k), not_from_false (f k))) refl (λ k. and_comm (none_to f k) (not (f k))) n

pub quiet_is : (b : Became) → not (is_quiet b) ≡ false → b ≡ Quiet
quiet_is b h = grind arith

pub sound_push : (xs : List Item) (x : Item) → Sound xs → length xs < 64 → Valid x → Sound (xs ++ (x ∷ []))
sound_push xs x s l v =
    record {
      few = omega (arith, length_push xs x);
      valid = λ i il. grind (arith, elements, s.valid);
    }

pub sound_set : (xs : List Item) (x : Item) (j : ℕ) → Sound xs → j < length xs → Valid x → Sound (set xs j x)
sound_set xs x j s l v =
    record {
      few = omega (arith, length-set xs j x, s.few);
      valid = λ i il. grind (arith, elements, s.valid);
    }

whole_fresh : (wait : Reckoning) (xs : List Item) (arcs : List Arc) → Sound xs → Whole wait (fresh xs arcs)
whole_fresh wait xs arcs s = record { inv = inv_start wait xs arcs s; none = λ h. absurd cc }

module _ (wait : Reckoning) (mono : Monotone wait) (s : State) (w : Whole wait s) where
  tell : (i : ℕ) → Told (item_at s i) (times_at s i) (found wait s i) (outcome wait s i)
  tell i = told (item_at s i) (times_at s i) (found wait s i)

  whole_step : (i : ℕ) → i < length s.items → Whole wait (stepped wait s i)
  whole_step i il =
      let Q : Became → Type 0 = Told (item_at s i) (times_at s i) (found wait s i) in
      by_cases (outcome wait s i) _ _ _ (Whole wait)
      (λ o. record { inv = inv_step wait mono s.items s.arcs s.times w.inv i il (subst Q o (tell i)).0; none = w.none })
      (λ o. record { inv = inv_step wait mono s.items s.arcs s.times w.inv i il (subst Q o (tell i)).0; none = w.none })
      (λ c o. record { inv = w.inv; none = λ _. no_hope wait mono s.items s.arcs s.times w.inv c i il (subst Q o (tell i)) })

  -- no time of the sheet after a step exceeds a lawful set of the sheet before it
  pub step_low : (i : ℕ) → i < length s.items → (us : List Times) → Lawful wait s.items s.arcs us → Below (stepped wait s i).times us
  step_low i il us h =
      (whole_step i il).inv.low us (by_cases (outcome wait s i) _ _ _ (λ (u : State). Lawful wait u.items u.arcs us) (λ _. h) (λ _. h) (λ c _. h))

  pub run_is_well : s.broken ≡ false → (a : ℕ) → RanWell wait s.items s.arcs (0 + a) (a + 0) (bound s.items s.times) (run_of wait s a)
  run_is_well unb a =
      subst (λ (b : Bool). RanWell wait s.items s.arcs (0 + a) (a + 0) (bound s.items s.times) (run_of wait (record { items = s.items; arcs = s.arcs; times = s.times; broken = b }) a)) (sym unb)
      (run_well wait mono s.items s.arcs a s.times 0 0 0 0 w.inv (covered_none wait s.items s.arcs s.times 0) (λ h. h) (omega arith))

  whole_run : s.broken ≡ false → (a : ℕ) → Whole wait (run_of wait s a).state
  whole_run unb a =
      let x : Ran = run_of wait s a in
      let h : RanWell wait s.items s.arcs (0 + a) (a + 0) (bound s.items s.times) x = run_is_well unb a in
      record {
        inv = rw (h.items, h.arcs_same) h.inv;
        none = λ b us law. h.none b us (lawful_of us h.items h.arcs_same law);
      }

pub after_whole : (m : Meaning) → Monotone m.wait → (s : State) → Whole m.wait s → (c : Call) → Made c → Whole m.wait (after m s c)
after_whole m mono s w (entry x) made =
    left_cases (entry_ask m s x) _ s (Whole m.wait) w (λ e.
    let few = ask_ok _ _ _ e in
    let period = ask_ok _ _ _ few.1 in
    let limits = ask_ok _ _ _ period.1 in
    let start = ask_ok _ _ _ limits.1 in
    whole_fresh m.wait _ _ (sound_push _ _ w.inv.sound (ltb-true _ _ few.0) (valid_from x period.0 limits.0 start.0 made)))
after_whole m mono s w (arc p i) made =
    left_cases (arc_ask s p i) _ s (Whole m.wait) w (λ _. whole_fresh m.wait _ _ w.inv.sound)
after_whole m mono s w (change i x) made =
    left_cases (change_ask m s i x) _ s (Whole m.wait) w (λ e.
    let exists = ask_ok _ _ _ e in
    let keeps = ask_ok _ _ _ exists.1 in
    let limits = ask_ok _ _ _ keeps.1 in
    let start = ask_ok _ _ _ limits.1 in
    let il : i < length s.items = ltb-true _ _ exists.0 in
    let same : (item_at s i).period ≡ x.period = eqb-true _ _ (and_parts _ _ keeps.0).1 in
    whole_fresh m.wait _ _ (sound_set _ _ i w.inv.sound il (valid_changed (item_at s i) x (w.inv.sound.valid i il) same limits.0 start.0 made)))
after_whole m mono s w (step i) made =
    left_cases (step_ask s i) _ s (Whole m.wait) w (λ e. whole_step m.wait mono s w i (ltb-true _ _ (ask_ok _ _ _ e).0))
after_whole m mono s w (run a) made =
    left_cases (run_ask s) _ s (Whole m.wait) w (λ e. whole_run m.wait mono s w (not-true s.broken (ask_ok _ _ _ e).0) a)
after_whole m mono s w (times rows) made = w
after_whole m mono s w (queue_bound class station queue) made = w

pub all_whole : (m : Meaning) → Monotone m.wait → (s : State) → Whole m.wait s → (cs : List Call) → AllMade cs → Whole m.wait (after_all m s cs)
all_whole m mono s w [] made = w
all_whole m mono s w (c ∷ cs) made = all_whole m mono (after m s c) (after_whole m mono s w c made.0) cs made.1

pub empty_whole : (wait : Reckoning) → Whole wait empty
empty_whole wait = whole_fresh wait [] [] (record { few = omega arith; valid = λ i l. absurd (omega arith) })
