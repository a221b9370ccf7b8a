-- `one_more` meets its contract.
use native.Mathlib.Omega.{arith}
use Rattle.std.proofs.lemmas.Bool.Decides.{nat_tests}
use Rattle.spec_trace.specs.Counts.{more}
use Rattle.turn_tally.proofs.one_more.Goals as goal

pub returns : goal.returns
unfolding more
returns c = grind (arith, nat_tests)
