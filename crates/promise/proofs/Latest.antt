-- The new late time of a step: at least the offset and every end with an arc to the item, and the least such.
use Rattle.std.proofs.Common.{◌≡◌, ℕ, zero, suc, ◌<◌, ◌≤◌, max, cond, eqb, List, [], ◌∷◌, length, get_or, arith}
use Rattle.std.proofs.lemmas.Bool.Decides.{nat_tests}
use Rattle.model.specs.declared.arc.Arc.{Arc}
use Rattle.model.specs.declared.item.Item.{Item}
use Rattle.model.specs.declared.times.Times.{Times}
use Rattle.model.specs.Items.{no_arc}
use Rattle.model.specs.Laws.{Below}
use Rattle.model.specs.Lawful.{end_at}
use Rattle.promise.specs.Steps.{latest}

module _ (xs : List Item) (ts : List Times) (i : ℕ) where
  pub latest_start : (arcs : List Arc) (m : ℕ) → m ≤ latest xs ts i arcs m
  latest_start [] m = omega arith
  latest_start (a ∷ arcs) m = grind (arith, nat_tests, latest_start arcs (cond (eqb a.to i) (max m (end_at xs ts a.from)) m))

  pub latest_end : (arcs : List Arc) (m k : ℕ) → k < length arcs → (get_or arcs k no_arc).to ≡ i → end_at xs ts (get_or arcs k no_arc).from ≤ latest xs ts i arcs m
  latest_end [] m k l e = absurd (omega arith)
  latest_end (a ∷ arcs) m zero l e = grind (arith, nat_tests, latest_start arcs (cond (eqb a.to i) (max m (end_at xs ts a.from)) m))
  latest_end (a ∷ arcs) m (suc k) l e = latest_end arcs (cond (eqb a.to i) (max m (end_at xs ts a.from)) m) k (omega arith) e

  pub latest_least : (arcs : List Arc) (m b : ℕ) → m ≤ b → ((k : ℕ) → k < length arcs → (get_or arcs k no_arc).to ≡ i → end_at xs ts (get_or arcs k no_arc).from ≤ b) → latest xs ts i arcs m ≤ b
  latest_least [] m b l h = l
  latest_least (a ∷ arcs) m b l h =
      latest_least arcs (cond (eqb a.to i) (max m (end_at xs ts a.from)) m) b
      (grind (arith, nat_tests, h 0))
      (λ k lk e. h (suc k) (omega arith) e)

pub end_mono : (xs : List Item) (ts us : List Times) → Below ts us → (i : ℕ) → end_at xs ts i ≤ end_at xs us i
end_mono xs ts us below i = omega (arith, below.late i, below.wait i)

pub latest_mono : (xs : List Item) (ts us : List Times) (i : ℕ) (arcs : List Arc) (m : ℕ) → Below ts us → latest xs ts i arcs m ≤ latest xs us i arcs m
latest_mono xs ts us i arcs m below =
    latest_least xs ts i arcs m (latest xs us i arcs m) (latest_start xs us i arcs m)
    (λ k l e. let f : end_at xs us (get_or arcs k no_arc).from ≤ latest xs us i arcs m = latest_end xs us i arcs m k l e in
    let g : end_at xs ts (get_or arcs k no_arc).from ≤ end_at xs us (get_or arcs k no_arc).from = end_mono xs ts us below (get_or arcs k no_arc).from in omega arith)
