-- Lists with blanks behind them, and what a table holds of its state.
use Rattle.std.proofs.Common.{◌≡◌, ℕ, zero, suc, ◌+◌, ◌<◌, ◌≤◌, Bool, false, List, [], ◌∷◌, ◌++◌, length, take, replicate, set, sym, refl, ap, ◌∙◌, subst, ⊎_elim, arith}
use Rattle.std.proofs.lemmas.List.{length-append, length-set, length_push, get_or_append_left, get_or_push}
use Rattle.std.proofs.lemmas.Bool.{cases_lt}
use Rattle.model.specs.declared.arc.Arc.{Arc}
use Rattle.model.specs.declared.item.Item.{Item}
use Rattle.model.specs.declared.times.Times.{Times}
use Rattle.model.specs.Items.{no_item, no_times, no_arc, Valid}
use Rattle.promise.specs.State.{State, fresh, empty}
use Rattle.promise.specs.Steps.{written}
use Rattle.promise.proofs.Invariant.{Sound, inv_start, handed}
use Rattle.promise.proofs.Whole.{sound_push}
use Rattle.sheet.specs.declared.table.Table.TheInside.{Inside}
use Rattle.sheet.specs.Tables.{state_of, padded, table_of, Linked, Fit, Whole}

padded_take : {X : Type 0} (n k : ℕ) (d : X) (xs : List X) → length xs ≡ k → take k (padded n d xs) ≡ xs
unfolding padded
padded_take n zero d [] e = refl
padded_take n (suc k) d [] e = absurd (omega (arith, e))
padded_take n zero d (x ∷ xs) e = absurd (omega (arith, e))
padded_take zero (suc k) d (x ∷ xs) e = ap (λ ys. x ∷ ys) (padded_take zero k d xs (omega (arith, e)))
padded_take (suc n) (suc k) d (x ∷ xs) e = ap (λ ys. x ∷ ys) (padded_take n k d xs (omega (arith, e)))

-- the first blank gives way to one more
padded_push : {X : Type 0} (n : ℕ) (d : X) (xs : List X) (x : X) → length xs < n → set (padded n d xs) (length xs) x ≡ padded n d (xs ++ (x ∷ []))
unfolding padded
padded_push zero d xs x l = absurd (omega (arith, l))
padded_push (suc n) d [] x l = refl
padded_push (suc n) d (y ∷ xs) x l = ap (λ ys. y ∷ ys) (padded_push n d xs x (omega (arith, l)))

padded_set : {X : Type 0} (n : ℕ) (d : X) (xs : List X) (i : ℕ) (x : X) → i < length xs → set (padded n d xs) i x ≡ padded n d (set xs i x)
unfolding padded
padded_set n d [] i x l = absurd (omega (arith, l))
padded_set zero d (y ∷ xs) i x l = refl
padded_set (suc n) d (y ∷ xs) zero x l = refl
padded_set (suc n) d (y ∷ xs) (suc i) x l = ap (λ ys. y ∷ ys) (padded_set n d xs i x (omega (arith, l)))

padded_blank : {X : Type 0} (n k : ℕ) (d : X) → k ≤ n → replicate n d ≡ padded n d (replicate k d)
unfolding padded
padded_blank zero zero d l = refl
padded_blank (suc n) zero d l = ap (λ ys. d ∷ ys) (padded_blank n zero d (omega arith))
padded_blank zero (suc k) d l = absurd (omega (arith, l))
padded_blank (suc n) (suc k) d l = ap (λ ys. d ∷ ys) (padded_blank n k d (omega (arith, l)))

state_back : (s : State) → Fit s → state_of (table_of s) ≡ s
state_back s f =
    let items = padded_take 64 (length s.items) no_item s.items refl in
    let arcs = padded_take 128 (length s.arcs) no_arc s.arcs refl in
    let times = padded_take 64 (length s.items) no_times s.times f.handed.paired in
    λ j. record { items = items j; arcs = arcs j; times = times j; broken = s.broken }

-- a table that is the one of a fit state holds that state, and is whole
pub holds : (t : Inside) (s : State) → Fit s → t ≡ table_of s → state_of t ≡ s
holds t s f e = ap state_of e ∙ state_back s f

pub whole : (t : Inside) (s : State) → Fit s → t ≡ table_of s → Whole t
whole t s f e = record { fit = subst Fit (sym (holds t s f e)) f; blank = ap table_of (holds t s f e) ∙ sym e }

same : (t u : Inside) → t.count ≡ u.count → t.items ≡ u.items → t.arc_count ≡ u.arc_count → t.arcs ≡ u.arcs → t.times ≡ u.times → t.broken ≡ u.broken → t ≡ u
same t u a b c d e f = λ j. record { count = a j; items = b j; arc_count = c j; arcs = d j; times = e j; broken = f j }

pub fresh_fit : (xs : List Item) (arcs : List Arc) → Sound xs → length arcs ≤ 128 → Linked xs arcs → Fit (fresh xs arcs)
fresh_fit xs arcs sound few joins =
    let inv = inv_start (λ _ _ _. 0) xs [] sound in
    record { handed = handed xs _ sound inv.paired inv.fits; few_arcs = few; linked = joins }

pub sound_of : (s : State) → Fit s → Sound s.items
sound_of s f = record { few = f.handed.few; valid = f.handed.valid }

linked_push : (xs : List Item) (arcs : List Arc) (a : Arc) → Linked xs arcs → a.from < length xs → Linked xs (arcs ++ (a ∷ []))
linked_push xs arcs a h l k lk =
    let n = length_push arcs a in
    let P : Arc → Type 0 = λ b. b.from < length xs in
    ⊎_elim (λ (g : k < length arcs). subst P (sym (get_or_append_left arcs (a ∷ []) no_arc k g)) (h k g))
    (λ (g : length arcs ≤ k). subst P (sym (get_or_push arcs a no_arc k (omega arith))) l) (cases_lt k (length arcs))

-- one item more behind those of a fresh table
pub pushed_is : (t : Inside) (xs : List Item) (arcs : List Arc) (x : Item) → t ≡ table_of (fresh xs arcs) → length xs < 64 →
    record { count = t.count + 1; items = set t.items t.count x; arc_count = t.arc_count; arcs = t.arcs; times = t.times; broken = t.broken } ≡ table_of (fresh (xs ++ (x ∷ [])) arcs)
pushed_is t xs arcs x e l =
    let k : t.count ≡ length xs = ap (λ (u : Inside). u.count) e in
    let m : length (xs ++ (x ∷ [])) ≡ length xs + 1 = length_push xs x in
    let n : t.count + 1 ≡ length (xs ++ (x ∷ [])) = omega (arith, k, m) in
    same _ _ n (ap (λ (u : Inside). set u.items u.count x) e ∙ padded_push 64 no_item xs x l)
    (ap (λ (u : Inside). u.arc_count) e) (ap (λ (u : Inside). u.arcs) e)
    (ap (λ (u : Inside). u.times) e ∙ (sym (padded_blank 64 (length xs) no_times (omega (arith, l))) ∙ padded_blank 64 (length (xs ++ (x ∷ []))) no_times (omega (arith, l, m)))) (ap (λ (u : Inside). u.broken) e)

pub pushed_fit : (s : State) (x : Item) → Fit s → length s.items < 64 → Valid x → Fit (fresh (s.items ++ (x ∷ [])) s.arcs)
pushed_fit s x f l v = fresh_fit _ _ (sound_push s.items x (sound_of s f) l v) f.few_arcs (λ j lj. omega (arith, f.linked j lj, length_push s.items x))

pub empty_is : (xs : List Item) (arcs : List Arc) (ts : List Times) → xs ≡ replicate 64 no_item → arcs ≡ replicate 128 no_arc → ts ≡ replicate 64 no_times →
    record { count = 0; items = xs; arc_count = 0; arcs = arcs; times = ts; broken = false } ≡ table_of empty
empty_is xs arcs ts a b c = same _ _ refl (a ∙ padded_blank 64 0 no_item (omega arith)) refl (b ∙ padded_blank 128 0 no_arc (omega arith)) (c ∙ padded_blank 64 0 no_times (omega arith)) refl

-- the table with one field changed is that of the state with the same change
module _ (t : Inside) (w : Whole t) where
  tells : t ≡ table_of (state_of t)
  tells = sym w.blank

  counted : t.count ≡ length (state_of t).items
  counted = ap (λ (u : Inside). u.count) tells

  arcs_counted : t.arc_count ≡ length (state_of t).arcs
  arcs_counted = ap (λ (u : Inside). u.arc_count) tells

  pub reset_is : (ts : List Times) (b : Bool) → ts ≡ replicate 64 no_times → b ≡ false →
      record { count = t.count; items = t.items; arc_count = t.arc_count; arcs = t.arcs; times = ts; broken = b } ≡ table_of (fresh (state_of t).items (state_of t).arcs)
  reset_is ts b e f = same _ _ counted (ap (λ (u : Inside). u.items) tells) arcs_counted (ap (λ (u : Inside). u.arcs) tells)
      (e ∙ padded_blank 64 (length (state_of t).items) no_times w.fit.handed.few) f

  abbrev pub joined : Arc → State
  joined a = record { items = (state_of t).items; arcs = (state_of t).arcs ++ (a ∷ []); times = (state_of t).times; broken = t.broken }

  pub joined_fit : (a : Arc) → length (state_of t).arcs < 128 → a.from < length (state_of t).items → Fit (joined a)
  joined_fit a l g = record { handed = w.fit.handed; few_arcs = omega (arith, l, length_push (state_of t).arcs a); linked = linked_push _ _ a w.fit.linked g }

  pub joined_is : (a : Arc) → length (state_of t).arcs < 128 →
      record { count = t.count; items = t.items; arc_count = t.arc_count + 1; arcs = set t.arcs t.arc_count a; times = t.times; broken = t.broken } ≡ table_of (joined a)
  joined_is a l =
      let n : t.arc_count + 1 ≡ length ((state_of t).arcs ++ (a ∷ [])) = omega (arith, arcs_counted, length-append (state_of t).arcs (a ∷ [])) in
      same _ _ counted (ap (λ (u : Inside). u.items) tells) n (ap (λ (u : Inside). set u.arcs u.arc_count a) tells ∙ padded_push 128 no_arc (state_of t).arcs a l)
      (ap (λ (u : Inside). u.times) tells) refl

  abbrev pub replaced : ℕ → Item → State
  replaced i x = record { items = set (state_of t).items i x; arcs = (state_of t).arcs; times = (state_of t).times; broken = t.broken }

  pub replaced_is : (i : ℕ) (x : Item) → i < length (state_of t).items →
      record { count = t.count; items = set t.items i x; arc_count = t.arc_count; arcs = t.arcs; times = t.times; broken = t.broken } ≡ table_of (replaced i x)
  replaced_is i x l = same _ _ (counted ∙ sym (length-set (state_of t).items i x)) (ap (λ (u : Inside). set u.items i x) tells ∙ padded_set 64 no_item (state_of t).items i x l)
      arcs_counted (ap (λ (u : Inside). u.arcs) tells) (ap (λ (u : Inside). u.times) tells) refl

  pub written_is : (i : ℕ) (x : Times) → i < length (state_of t).items →
      record { count = t.count; items = t.items; arc_count = t.arc_count; arcs = t.arcs; times = set t.times i x; broken = t.broken } ≡ table_of (written (state_of t) i x)
  written_is i x l = same _ _ counted (ap (λ (u : Inside). u.items) tells) arcs_counted (ap (λ (u : Inside). u.arcs) tells)
      (ap (λ (u : Inside). set u.times i x) tells ∙ padded_set 64 no_times (state_of t).times i x (omega (arith, l, w.fit.handed.paired))) refl
