-- The nodes from i on have their spreads, the leaves before i the numbers of their ins steps, and the first of the nodes from i on that is too wide is found.
use mathlib.Core.Path.{◌≡◌}
use Rattle.faults.specs.Meaning.{spot_of}
use Rattle.check_leaves.specs.Leaves.{inserts_in, LeafValues}
use Rattle.check_spread.specs.Spreads.{KeptFrom}
use Rattle.check_spread.proofs.SpreadLaws.{wide_from}
use Rattle.check_spread.proofs.wrong10.Given as goal

abbrev pub invariant-loop-i : goal.invariant-loop-i
invariant-loop-i l =
    LeafValues inserts_in l.file.policy.now l.i l.spreads × KeptFrom l.file.policy.now l.file.n l.i l.spreads × (spot_of l.found ≡ wide_from l.file.policy.now l.file.n l.i)
