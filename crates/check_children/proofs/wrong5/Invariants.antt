use Prim.Native.Nat.{ℕ}
use mathlib.Core.Bool.{Bool, ◌&&◌}
use Rattle.spec_policy.specs.Bytes.{Bytes}
use Rattle.spec_policy.specs.Records.{Node, node_at, node_place, nodes}
use Rattle.spec_check.specs.Children.{later, one_parent}
use Rattle.check_children.proofs.Search.{Looking}
use Rattle.check_children.proofs.wrong5.Given as goal

abbrev pub node_of : Bytes → ℕ → Node
node_of file i = node_at file (node_place i)

abbrev pub test : Bytes → ℕ → ℕ → Node → Bool
test file n i x = later n i x && one_parent (nodes file) i

abbrev pub invariant-loop-i : goal.invariant-loop-i
invariant-loop-i l = Looking (test l.file.policy.now l.file.n) (node_of l.file.policy.now) l.file.n l.i
