use Rattle.std.proofs.Common.{sym, ap, ℕ}
use native.Mathlib.Omega.{arith}
use Rattle.text_append.specs.Added.{moved}
use Rattle.text_append.proofs.AddedLaws.{moved_on}
use Rattle.text_append.proofs.reach.Goals as goal

pub returns-then-more-eq0 : goal.returns-then-more-eq0
unfolding moved
returns-then-more-eq0 c = sym (ap (λ (n : ℕ). moved c.args.at n) c.if-more-eq0.true)

pub returns-else-more-eq0 : goal.returns-else-more-eq0
returns-else-more-eq0 c = omega (arith, moved_on c.args.at c.args.more c.if-more-eq0.false)
