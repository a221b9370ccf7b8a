-- The sum is what the nodes before i own, at most 64 each.
use Prim.Native.Nat.{◌*◌, ◌≤◌}
use mathlib.Core.Path.{◌≡◌}
use Rattle.spec_policy.specs.Tree.{first_step}
use Rattle.check_leaves.proofs.all_owned.Given as goal

abbrev pub invariant-loop-i : goal.invariant-loop-i
invariant-loop-i l = (l.i ≤ l.file.n) × (l.sum ≡ first_step l.file.policy.now l.i) × (l.sum ≤ 64 * l.i)
