-- `all_owned` meets its contract: a node's count is what it owns, at most 64.
use Prim.Native.Nat.{ℕ}
use native.Mathlib.Omega.{arith}
use mathlib.Core.Path.{ap, ◌∙◌}
use lib.Dec.{eqb}
use Rattle.spec_policy.proofs.NodeLaws.{first-none, first-over}
use Rattle.check_layout.proofs.Frame.{node-inside}
use Rattle.check_leaves.proofs.LeafLaws.{counted}
use Rattle.check_leaves.proofs.all_owned.Goals as goal

pub loop-i-init : goal.loop-i-init
loop-i-init c = omega (arith, first-none c.args.file.policy.now)

pub node_count-requires : goal.node_count-requires
node_count-requires c = omega (arith, c.node_place.ensures, node-inside c.args.file.framed c.loop-i.i c.loop-i-test.true)

-- at most 64 for each of 31 nodes
pub overflow_add-sum : goal.overflow_add-sum
overflow_add-sum c =
    omega (arith, c.from-sum.ensures, (counted c.args.file.framed c.requires.policy_value _ _ _ c.loop-i-test.true c.node_place.ensures c.node_count.ensures).few)

pub loop-i-preserved : goal.loop-i-preserved
loop-i-preserved c =
    omega (arith, c.from-sum.ensures, counted c.args.file.framed c.requires.policy_value _ _ _ c.loop-i-test.true c.node_place.ensures c.node_count.ensures)

pub returns : goal.returns
returns c =
    ap (λ (k : ℕ). eqb k c.args.file.m) (c.loop-i.invariant.1 ∙ first-over _ _ (omega arith))
