use Rattle.std.proofs.Common.{◌≡◌, ℕ, ◌&&◌, List, [], ◌∷◌, refl, ap, ◌∙◌, rules, tests}
use Rattle.std.proofs.lemmas.Iterator.{YieldsList-from_slice}
use Rattle.std.proofs.lemmas.Iterator.Search.{all_from_yields_List}
use Rattle.std.specs.List.{list_all}
use Rattle.records.specs.Items.{is_name, is_letter}
use Rattle.records.proofs.item.is_name.Goals as goal

all_letters : (bs : List ℕ) → list_all is_letter bs ≡ is_name bs
all_letters [] = refl
all_letters (b ∷ bs) = ap (λ v. is_letter b && v) (all_letters bs)

pub returns : goal.returns
returns c =
    let bs = c.args.bytes.now in
    let all : c.all.result ≡ list_all is_letter bs = all_from_yields_List is_letter _ _ c.all.result c.all.ensures.ran (YieldsList-from_slice bs cc) (λ x b q k. search (rules, tests)) in
    all ∙ all_letters bs
