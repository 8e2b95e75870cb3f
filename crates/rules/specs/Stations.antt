-- The stations of one class, by number.
use Rattle.std.specs.Prelude.{ℕ, Bool, cond, not, ◌&&◌, List, is_some, None, Option, nat_lt, slice_index_or}

-- the figures of a station, if the cell has it
abbrev pub station_at : {T : Type 0} → List (Option T) → ℕ → Option T
station_at figures n = cond (nat_lt n 8) (slice_index_or figures n None) None

-- a number that a station may have, and that none has yet
abbrev pub is_free : {T : Type 0} → List (Option T) → ℕ → Bool
is_free figures n = nat_lt n 8 && not (is_some (station_at figures n))
