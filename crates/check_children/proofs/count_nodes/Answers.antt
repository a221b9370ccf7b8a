-- `count_nodes` meets its contract. The loop carries what is left of the test and of the counts.
use mathlib.Core.Path.{◌≡◌, sym, ap}
use mathlib.Core.Bool.{true}
use native.Mathlib.Omega.{arith}
use borrow.Author.Rules.{rules}
use Rattle.actions.proofs.Tests.{of-yes}
use Rattle.spec_policy.specs.Records.{node_at, node_place}
use Rattle.spec_check.proofs.Numbers.{kids}
use Rattle.check_children.proofs.Counted.{counting-start, counting-next, counting-no, counting-end}
use Rattle.check_children.proofs.count_nodes.Goals as goal

pub loop-i-init : goal.loop-i-init
loop-i-init c = (search rules, (search rules, counting-start _ _ _ c.requires.by_index))

pub count_node-requires : goal.count_node-requires
unfolding node_place
count_node-requires c = record { node_size_in_bounds = omega arith; i_lt_n = omega arith; n_in_bounds = omega arith; by_index = c.loop-i.invariant.1.1.few }

pub returns-then-not-count_node : goal.returns-then-not-count_node
returns-then-not-count_node c =
    record {
      value = sym (counting-no _ _ _ _ c.loop-i.invariant.1.1 (ap (node_at _) c.node_place.ensures) c.loop-i-test.true
          c.count_node.ensures.value c.if-not-count_node.true);
      k_after = λ t. absurd t;
    }

pub loop-i-preserved : goal.loop-i-preserved
unfolding kids
loop-i-preserved c =
    let yes : c.count_node.result ≡ true = c.if-not-count_node.false in (
      omega arith,
      (
        search rules,
        counting-next _ _ _ _ c.loop-i.invariant.1.1 (ap (node_at _) c.node_place.ensures) c.loop-i-test.true
            c.count_node.ensures.value yes _ (c.count_node.ensures.k_after (of-yes _ yes)),
      ),
    )

pub returns : goal.returns
returns c =
    let p = counting-end _ _ _ _ c.loop-i.invariant.1.1 c.loop-i-test.false in
    record { value = sym p.0; k_after = λ t. p.1 }
