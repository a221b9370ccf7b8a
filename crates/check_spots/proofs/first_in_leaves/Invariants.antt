-- The number of the node's first step, and that nothing is found before it, whatever is looked for.
use Prim.Native.Nat.{ℕ}
use mathlib.Core.Path.{◌≡◌}
use Rattle.std.specs.Prelude.{Option}
use Rattle.actions.specs.declared.ActionSet.{ActionSet}
use Rattle.spec_policy.specs.Tree.{first_step}
use Rattle.file_records.specs.Code.{code_at}
use Rattle.faults.specs.Meaning.{spot_of}
use Rattle.check_spots.specs.Leaf.{Search}
use Rattle.check_spots.proofs.AllLeaves.{first_of, off_from}
use Rattle.check_spots.proofs.first_in_leaves.Given as goal

abbrev pub invariant-loop-i : goal.invariant-loop-i
invariant-loop-i g l =
    (l.first ≡ first_step l.file.policy.now l.i)
    × ((off : Search) → ((at count : ℕ) (set : ActionSet) (r : Option ℕ) → goal.F-post g l.in_leaf at count set r → spot_of r ≡ off set.bits (code_at l.file.policy.now at count))
    → first_of off l.file.policy.now ≡ off_from off l.file.policy.now l.i)
