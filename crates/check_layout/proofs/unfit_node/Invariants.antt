use Prim.Native.Nat.{ℕ}
use mathlib.Core.Bool.{Bool}
use Rattle.spec_policy.specs.Bytes.{Bytes}
use Rattle.spec_policy.specs.Records.{Node, node_at, node_place}
use Rattle.spec_policy.specs.Tree.{node_kind}
use Rattle.spec_check.specs.Layout.{node_fits}
use Rattle.spec_policy.proofs.FirstLoop.{Left}
use Rattle.check_layout.proofs.unfit_node.Given as goal

abbrev pub test : Node → Bool
test x = node_fits (node_kind x.kind) x

abbrev pub numbered : ℕ → Node → Bool
numbered i x = test x

abbrev pub node_of : Bytes → ℕ → Node
node_of file i = node_at file (node_place i)

abbrev pub invariant-loop-i : goal.invariant-loop-i
invariant-loop-i l = Left numbered (node_of l.policy) 0 l.n l.i
