-- One name more in a table of names.
use Rattle.std.proofs.Common.{◌≡◌, ℕ, ◌+◌, ◌<◌, List, [], length, get_or, take, set, replicate, sym, ap, ◌∙◌, arith}
use Rattle.std.proofs.lemmas.List.{get_or-take, get_or_default, get_or_past, length-take}
use Rattle.std.proofs.lemmas.List.FromFn.{length-enumerate_from, get_or-enumerate_from}
use Rattle.std.specs.List.{enumerate_from}
use Rattle.std.proofs.lemmas.Grind.{common_steps}

-- the table has the first k of the names, and nothing after them
abbrev pub HasFirst : List (List ℕ) → ℕ → List (List ℕ) → Type 0
HasFirst table k names = (i : ℕ) → get_or table i [] ≡ get_or (take k names) i []

pub one_more : (table names : List (List ℕ)) (k : ℕ) (n : List ℕ) → k < length table → HasFirst table k names → get_or names k [] ≡ n → HasFirst (set table k n) (k + 1) names
one_more table names k n l h there i = grind (arith, common_steps, h i)

-- the whole table, once it has as many names as there are or as it can have
pub all_there : (table names : List (List ℕ)) (k i : ℕ) → i < 64 → k ≡ length (take 64 names) → HasFirst table k names → get_or table i [] ≡ get_or names i []
all_there table names k i l whole h =
    grind (arith, h i, length-take 64 names, length-take k names, get_or-take k names i [], get_or_past names i [], get_or_past (take k names) i [])

-- what the name at one turn of the loop is
pub record Turn (names : List (List ℕ)) (k i : ℕ) (n : List ℕ) : Type 0 where
  pub place : i ≡ k
  pub fits : k < 64
  pub name : get_or names k [] ≡ n

pub turn : (names : List (List ℕ)) (k i : ℕ) (n : List ℕ) → k < length (enumerate_from 0 (take 64 names)) → (i, n) ≡ get_or (enumerate_from 0 (take 64 names)) k (i, n) → Turn names k i n
turn names k i n l e =
    let within : k < length (take 64 names) = rw length-enumerate_from at l in
    let is : ◌≡◌ {A = ℕ × List ℕ} (i, n) (0 + k, get_or (take 64 names) k n) = e ∙ get_or-enumerate_from 0 (take 64 names) k (i, n) within in
    let place : i ≡ 0 + k = ap (λ (p : ℕ × List ℕ). p.0) is in
    let name : n ≡ get_or (take 64 names) k n = ap (λ (p : ℕ × List ℕ). p.1) is in
    let fits : k < 64 = omega (arith, within, length-take 64 names) in
    record { place = omega (arith, place); fits = fits; name = sym (name ∙ (get_or_default (take 64 names) k n [] within ∙ get_or-take 64 names k [] fits)) }

pub blank : (n : ℕ) (names : List (List ℕ)) → HasFirst (replicate n []) 0 names
blank n names i = grind (arith, common_steps)
