-- How records lie in a file: body length (2 bytes), kind (2 bytes), body; the low byte first.
use Rattle.std.specs.Prelude.{ℕ, ◌+◌, ◌*◌, cond, ◌&&◌, List, length, take, drop, Some, None, Option, nat_le, slice_index}
use Rattle.records.specs.declared.bytes.Raw.{Raw}

-- the two and the four bytes from place i on
abbrev pub two : List ℕ → ℕ → ℕ
two bs i = slice_index bs i + slice_index bs (i + 1) * 256

abbrev pub four : List ℕ → ℕ → ℕ
four bs i = slice_index bs i + slice_index bs (i + 1) * 256 + slice_index bs (i + 2) * 65536 + slice_index bs (i + 3) * 16777216

-- a record as a list of bytes
pub record Cut : Type 0 where
  pub kind : ℕ
  pub body : List ℕ

-- the record in front, if it is whole
abbrev pub cut_of : List ℕ → Option Cut
cut_of bs = cond (nat_le 4 (length bs) && nat_le (4 + two bs 0) (length bs)) (Some (record { kind = two bs 2; body = take (two bs 0) (drop 4 bs) })) None

abbrev pub seen : Option Raw → Option Cut
seen None = None
seen (Some raw) = Some (record { kind = raw.kind; body = raw.body.now })
