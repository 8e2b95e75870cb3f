use Rattle.std.proofs.Common.{◌≡◌, ℕ, ◌<◌, true, List, [], ◌∷◌, sym, arith}
use Rattle.std.proofs.lemmas.Bool.{and_parts}
use Rattle.std.proofs.lemmas.Bool.Decides.{nat_tests}
use Rattle.std.proofs.lemmas.Str.Ascii.{IsAscii-nil, IsAscii-cons}
use Rattle.std.proofs.lemmas.Str.{IsUtf8-from_ascii}
use Rattle.std.specs.Str.{IsAscii}
use Rattle.records.specs.Items.{is_name, is_letter}
use Rattle.records.proofs.item.text.Goals as goal

small : (b : ℕ) → is_letter b ≡ true → b < 128
small b h = grind (arith, nat_tests)

ascii : (bs : List ℕ) → is_name bs ≡ true → IsAscii bs
ascii [] h = IsAscii-nil
ascii (b ∷ bs) h =
    let parts = and_parts (is_letter b) (is_name bs) h in
    IsAscii-cons b bs (small b parts.0) (ascii bs parts.1)

pub from_utf8_unchecked-requires : goal.from_utf8_unchecked-requires
from_utf8_unchecked-requires c = IsUtf8-from_ascii c.args.bytes.now (ascii c.args.bytes.now (sym c.if-is_name.ensures))
