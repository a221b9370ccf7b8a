-- `named` meets its contract: the loop carries along what is left to count.
use native.Mathlib.Omega.{arith}
use Prim.Native.Nat.{ℕ}
use mathlib.Core.Path.{sym, ap, ◌∙◌}
use mathlib.Core.List.{List}
use Rattle.spec_policy.specs.Lists.{occurs}
use Rattle.spec_policy.specs.Records.{Node, node_at, node_place}
use Rattle.spec_check.specs.Children.{children}
use Rattle.spec_check.proofs.Numbers.{kids}
use Rattle.check_layout.proofs.Frame.{node-list}
use Rattle.check_children.proofs.Namings.{naming-start, naming-next, naming-end}
use Rattle.check_children.proofs.named.Goals as goal

pub loop-i-init : goal.loop-i-init
loop-i-init c = naming-start _ _ _

pub node_place-requires : goal.node_place-requires
node_place-requires c = omega (arith, c.loop-i-test.true)

pub names-sum-requires : goal.names-sum-requires
unfolding node_place
names-sum-requires c = omega (arith, c.loop-i-test.true, c.node_place.ensures)

pub overflow_add-sum : goal.overflow_add-sum
overflow_add-sum c = omega (arith, c.loop-i.invariant.few, c.loop-i-test.true, c.names-sum.ensures.1)

pub loop-i-preserved : goal.loop-i-preserved
unfolding kids
loop-i-preserved c =
    naming-next _ _ _ c.loop-i.sum c.loop-i.i c.names-sum.result c.loop-i-test.true c.loop-i.invariant
    (c.names-sum.ensures.0 ∙ ap (λ (p : ℕ). kids c.args.k (node_at c.args.file.policy.now p)) c.node_place.ensures) c.names-sum.ensures.1

pub returns : goal.returns
unfolding node_place
returns c = naming-end _ _ _ _ c.loop-i.i c.loop-i-test.false c.loop-i.invariant ∙ ap (λ (xs : List Node). occurs c.args.k (children xs)) (sym (node-list c.args.file.framed))
