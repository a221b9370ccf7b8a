use Prim.Native.Nat.{ℕ}
use Rattle.spec_policy.specs.Bytes.{Bytes}
use Rattle.spec_policy.specs.Records.{Node, node_at, node_place}
use Rattle.check_children.proofs.Namings.{Naming}
use Rattle.check_children.proofs.named.Given as goal

abbrev pub node_of : Bytes → ℕ → Node
node_of file i = node_at file (node_place i)

abbrev pub invariant-loop-i : goal.invariant-loop-i
invariant-loop-i l = Naming (node_of l.file.policy.now) l.file.n l.k l.sum l.i
