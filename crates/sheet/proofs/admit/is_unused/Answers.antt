use Rattle.std.proofs.Common.{length, sym, arith, rules}
use Rattle.sheet.proofs.None.{none_hit, none_miss}
use Rattle.sheet.proofs.admit.is_unused.Goals as goal

pub returns-then-rivals : goal.returns-then-rivals
returns-then-rivals c = sym (none_hit _ (length c.args.items.now) c.loop-j.j c.loop-j-test.true (search rules))

pub returns : goal.returns
returns c = sym (none_miss _ (length c.args.items.now) (λ k l. c.loop-j.invariant k (omega (arith, c.loop-j-test.false, l))))
