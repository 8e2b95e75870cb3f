-- The rows of a sheet, one by one, and the times that they have.
use Rattle.std.proofs.Common.{◌≡◌, ℕ, ◌+◌, List, [], ◌∷◌, ◌++◌, map, length, slice_index_or, sym, refl, ap, ◌∙◌, subst, arith}
use Rattle.std.specs.List.{range_with_len}
use Rattle.std.proofs.lemmas.List.FromFn.{fill_by_all, map-range_with_len_more}
use Rattle.std.proofs.lemmas.List.{map-append}
use Rattle.std.proofs.lemmas.Simd.{map-map}
use Rattle.model.specs.declared.item.Item.{Item}
use Rattle.model.specs.Items.{no_times}
use Rattle.promise.specs.declared.outcome.Line.{Line}
use Rattle.promise.specs.State.{State, Meaning, item_at, times_at}
use Rattle.promise.specs.Calls.{line_at}
use Rattle.page.specs.Pages.{Row, Page, settled, rows_to}
use Rattle.page.specs.Rows.{row_with}
use Rattle.report.specs.Pages.{row_of}
use Rattle.report.specs.Truth.{Least, Truth, times_in}

-- a row made of an item's line and deadline is its row
pub row_is : (names : List (List ℕ)) (t : State) (k : ℕ) (name : List ℕ) (line : Line) (limit : ℕ) → name ≡ slice_index_or names k [] → line ≡ line_at t k → limit ≡ (item_at t k).deadline → row_with name line limit ≡ row_of names t k
row_is names t k name line limit named lined limited =
    let late = ap (λ (l : Line). l.late) lined in
    let wait = ap (λ (l : Line). l.wait) lined in
    let end = ap (λ (l : Line). l.end) lined in
    cc

-- one row more
pub rows_more : {A : Type 0} (as_row : A → Row) (row : ℕ → Row) (rows : List A) (r : A) (k : ℕ) → map as_row rows ≡ rows_to row k → as_row r ≡ row k → map as_row (rows ++ (r ∷ [])) ≡ rows_to row (k + 1)
rows_more as_row row rows r k so_far same =
    let more = map-append as_row rows (r ∷ []) in
    let last = map-range_with_len_more row 0 k k (omega arith) in
    cc

-- the rows of a sheet have the sheet's times
pub times_of_rows : (names : List (List ℕ)) (t : State) → length t.times ≡ length t.items → times_in (rows_to (row_of names t) (length t.items)) ≡ t.times
times_of_rows names t paired =
    let all : t.times ≡ map (times_at t) (range_with_len 0 (length t.items)) = fill_by_all (times_at t) t.times (length t.items) no_times paired (λ k h. refl) in
    map-map _ _ _ ∙ sym all

-- a settled page of those rows says what the least lawful set is
pub truth_of_rows : (m : Meaning) (s : State) (names : List (List ℕ)) (t : State) (page : Page) (steps : ℕ) → page ≡ settled (rows_to (row_of names t) (length t.items)) steps → t.items ≡ s.items → Least m s t.times → Truth m s page
truth_of_rows m s names t page steps told items least =
    let paired : length t.times ≡ length t.items = least.lawful.paired ∙ ap (λ (xs : List Item). length xs) (sym items) in
    let same = times_of_rows names t paired in
    rw told (subst (Least m s) (sym same) least)
