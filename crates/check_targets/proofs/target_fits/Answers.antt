-- `target_fits` meets its contract.
use native.Mathlib.Omega.{arith}
use mathlib.Core.Path.{◌∙◌}
use borrow.Author.Tests.{lt-ltb, le-ltb}
use Rattle.actions.proofs.Tests.{true-not-false}
use Rattle.check_targets.proofs.TargetLaws.{target-outside, target-later, target-back}
use Rattle.check_targets.proofs.target_fits.Goals as goal

pub returns-else-t-count : goal.returns-else-t-count
returns-else-t-count c =
    let out = le-ltb c.args.t c.args.count c.if-t-count.false in
    record { value = λ code size are. out ∙ target-outside code _ _ _ size c.if-t-count.false; t_lt_count = λ e. true-not-false e out }

pub returns-then-o-t : goal.returns-then-o-t
returns-then-o-t c =
    record { value = λ code size are. lt-ltb c.args.o c.args.t c.if-o-t.true ∙ target-later code _ _ _ size c.if-t-count.true c.if-o-t.true; t_lt_count = λ e. c.if-t-count.true }

pub has_bit-requires : goal.has_bit-requires
has_bit-requires c = omega (arith, c.if-t-count.true, c.requires)

pub returns-else-o-t : goal.returns-else-o-t
returns-else-o-t c = record { value = λ code size are. c.has_bit.ensures ∙ target-back code _ _ _ size _ are c.if-t-count.true c.if-o-t.false; t_lt_count = λ e. c.if-t-count.true }
