use Rattle.std.proofs.Common.{◌≡◌, List, [], ◌∷◌, sym, ap, ◌∙◌, subst, rules}
use Rattle.model.specs.Items.{Bytes}
use Rattle.promise.specs.State.{State, Meaning, empty}
use Rattle.promise.specs.Calls.{Call, after, after_all}
use Rattle.promise.specs.Promise.{Kept}
use Rattle.flat.specs.declared.flat.Flat.{Flat}
use Rattle.flat.specs.Flatly.{flatly}
use Rattle.flat.proofs.alone.alone.Goals as goal

meant : Flat → Meaning
meant r = flatly r.stretch

pub returns : goal.returns
unfolding meant
returns c =
    let m : Meaning = meant c.args.rule in
    let x = c.args.item in
    let calls : List Call = Call.entry x ∷ Call.run c.args.allowance ∷ [] in
    let bytes : Bytes x = search rules in
    let rule = c.new-sheet.ensures.rule in
    let still = c.entry.ensures.rule ∙ rule in
    let entered : c.entry.new.self.table ≡ after m empty (Call.entry x) =
    c.entry.ensures.leaves.state ∙ (ap (λ (r : Flat). after (meant r) c.new-sheet.result.table (Call.entry x)) rule ∙ ap (λ (s : State). after m s (Call.entry x)) c.new-sheet.ensures.state) in
    let made : c.run.new.self.table ≡ after_all m empty calls =
    c.run.ensures.leaves.state ∙ (ap (λ (r : Flat). after (meant r) c.entry.new.self.table (Call.run c.args.allowance)) still ∙ ap (λ (s : State). after m s (Call.run c.args.allowance)) entered) in
    subst (Kept m) (sym made) (c.new-sheet.ensures.promise.kept calls (bytes, (tt, tt)))
