-- `broken5` meets its contract: the rule by the two passes, over counts that begin at 0.
use Prim.Native.Nat.{◌≤◌}
use lib.ListN.{length}
use mathlib.Core.Path.{◌≡◌, sym, ap, ◌∙◌}
use mathlib.Core.Bool.{true, not}
use native.Mathlib.Omega.{arith}
use Rattle.actions.proofs.Tests.{of-yes}
use Rattle.spec_policy.specs.Lists.{listed}
use Rattle.spec_policy.specs.Records.{node_place}
use Rattle.check_children.proofs.Counted.{once-all, broken-child, broken-count}
use Rattle.spec_policy.proofs.ListLaws.{all-zero}
use Rattle.check_children.proofs.broken5.Goals as goal

pub count_nodes-requires : goal.count_nodes-requires
unfolding node_place listed
count_nodes-requires c = record { n_in_bounds = omega (arith, c.args.file.framed); n_in_bounds_2 = omega (arith, c.args.file.framed); by_index = all-zero 31 0 }

pub returns-then-not-count_nodes : goal.returns-then-not-count_nodes
returns-then-not-count_nodes c =
    ap not c.if-not-count_nodes.true ∙ sym (broken-child c.args.file.framed (sym c.count_nodes.ensures.value ∙ c.if-not-count_nodes.true))

pub returns-else-not-count_nodes : goal.returns-else-not-count_nodes
unfolding listed
returns-else-not-count_nodes c =
    let yes : c.count_nodes.result ≡ true = c.if-not-count_nodes.false in
    let inside : c.args.file.n ≤ length c.count_nodes.new.count = omega (arith, c.count_nodes.auto.count, c.args.file.framed.few-nodes) in
    ap not (c.each_once.ensures ∙ once-all c.count_nodes.new.count c.args.file.n c.args.file.framed.some-node inside)
    ∙ sym (broken-count c.args.file.framed (sym c.count_nodes.ensures.value ∙ yes) c.count_nodes.new.count (c.count_nodes.ensures.k_after (of-yes _ yes)))
