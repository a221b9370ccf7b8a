-- The nodes from i on have their sets, the leaves before i their effect sets, and the first of the nodes from i on whose sides interfere is found.
use mathlib.Core.Path.{◌≡◌}
use Rattle.spec_check.specs.Interference.{leaf_effects}
use Rattle.faults.specs.Meaning.{spot_of}
use Rattle.check_leaves.specs.Leaves.{LeafValues}
use Rattle.check_interference.specs.Sets.{RegulatedFrom, EffectsFrom}
use Rattle.check_interference.proofs.TreeSets.{crossed_from}
use Rattle.check_interference.proofs.wrong9.Given as goal

abbrev pub invariant-loop-i : goal.invariant-loop-i
invariant-loop-i l =
    RegulatedFrom l.file.policy.now l.i l.file.n l.regulated × EffectsFrom l.file.policy.now l.i l.file.n l.effects × LeafValues leaf_effects l.file.policy.now l.i l.effects
    × (spot_of l.found ≡ crossed_from l.file.policy.now l.file.n l.i)
