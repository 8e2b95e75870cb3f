-- A figure of items that code reckons by a closure.
use Rattle.std.specs.Prelude.{◌≡◌, ℕ}
use Rattle.std.specs.Borrow.{Bor}
use Rattle.std.specs.Fn.{Shared, FnReturnsAt}
use Rattle.model.specs.declared.item.Item.{Item}

-- the closure answers f of each item
abbrev pub Gives : {F : Type 0} → Shared F (Bor Item × Unit {0}) ℕ → F → (Item → ℕ) → Type 0
Gives call closure f = (x : Item) (r : ℕ) → FnReturnsAt call closure x r → r ≡ f x
