-- The loop's invariant: `first` is the number of the first step of the nodes from i on, `fit` is known of those nodes, and `leaves` of them are leaves
-- that run.
use Prim.Native.Nat.{◌≤◌}
use mathlib.Core.Path.{◌≡◌}
use lib.ListN.{length}
use Rattle.spec_policy.specs.Tree.{first_step}
use Rattle.spec_turns.specs.Saved.{cells}
use Rattle.call_fits.proofs.CountLaws.{LeavesFrom}
use Rattle.call_fits.proofs.TreeLaws.{Known}
use Rattle.call_fits.proofs.tree_fits.Given as goal

abbrev pub invariant-loop-i : goal.invariant-loop-i
invariant-loop-i l =
    (l.i ≤ l.n)
    × (l.first ≡ first_step l.policy l.i)
    × (length l.fit ≡ 31)
    × Known l.policy (cells l.state) l.n l.fit l.i
    × LeavesFrom l.policy (cells l.state) l.n l.leaves l.i
