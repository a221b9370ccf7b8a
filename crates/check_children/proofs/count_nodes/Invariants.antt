use Prim.Native.Nat.{◌≤◌}
use mathlib.Core.Path.{◌≡◌}
use lib.ListN.{length}
use Rattle.spec_policy.specs.Records.{node_at, node_place}
use Rattle.check_children.proofs.Counted.{Counting}
use Rattle.check_children.proofs.count_nodes.Given as goal

abbrev pub invariant-loop-i : goal.invariant-loop-i
invariant-loop-i l = (l.i ≤ l.n) × ((length l.count ≡ length l.initial.count) × Counting (λ j. node_at l.policy (node_place j)) l.n l.count l.i)
