-- `check_records` meets its contract: rules 4 to 8 in order, and the rest of the check.
use native.Mathlib.Omega.{arith}
use mathlib.Core.Path.{◌≡◌, refl, sym, ap, ◌∙◌}
use mathlib.Core.Bool.{true}
use Rattle.std.specs.Prelude.{Some}
use Rattle.actions.specs.Sets.{EMPTY}
use Rattle.spec_policy.specs.Records.{node_place}
use Rattle.spec_check.specs.Check.{refused}
use Rattle.faults.specs.Meaning.{spot_of}
use Rattle.check_layout.specs.Fits.{nodes_fit}
use Rattle.check_layout.proofs.Unfit.{nodes-all}
use Rattle.check_policy.specs.Answers.{answered}
use Rattle.check_policy.proofs.InOrder.{refused-node, told-leaf, leaves_kept}
use Rattle.check_policy.proofs.NoStep.{no-step}
use Rattle.check_policy.proofs.check_records.Goals as goal

pub unfit_node-requires : goal.unfit_node-requires
unfolding node_place
unfit_node-requires c = (c.args.file.framed.nodes, c.args.file.framed.few-nodes, omega (arith, c.args.file.framed.long))

pub returns-in-Some : goal.returns-in-Some
returns-in-Some c =
    refused-node _ c.requires c.at.result (Some c.in-Some.node) c.at.ensures c.in-Some.ensures refl

pub tree_kept-requires-clause-nodes_value : goal.tree_kept-requires-clause-nodes_value
unfolding spot_of
tree_kept-requires-clause-nodes_value c = sym (nodes-all _ (sym (ap spot_of c.in_default.is) ∙ c.unfit_node.ensures))

pub returns-in-Err : goal.returns-in-Err
unfolding answered
returns-in-Err c = ap refused c.told.ensures ∙ c.in-Err.ensures.answer

-- no step, and so no leaf
pub returns-then-file-eq0 : goal.returns-then-file-eq0
unfolding answered EMPTY spot_of
returns-then-file-eq0 c =
    let nodes-kept : nodes_fit c.args.file.policy.now ≡ true = sym (nodes-all _ (sym (ap spot_of c.in_default.is) ∙ c.unfit_node.ensures)) in
    no-step _ c.requires nodes-kept c.in_default-tree_kept.ensures.0 c.in_default-tree_kept.ensures.1 c.if-file-eq0.true

pub walk_leaves-requires-clause-policy_value : goal.walk_leaves-requires-clause-policy_value
unfolding spot_of
walk_leaves-requires-clause-policy_value c = sym (nodes-all _ (sym (ap spot_of c.in_default.is) ∙ c.unfit_node.ensures))

pub told-requires-in-Err-walk_leaves : goal.told-requires-in-Err-walk_leaves
unfolding spot_of
told-requires-in-Err-walk_leaves c =
    let nodes-kept : nodes_fit c.args.file.policy.now ≡ true = sym (nodes-all _ (sym (ap spot_of c.in_default.is) ∙ c.unfit_node.ensures)) in
    (told-leaf _ c.requires nodes-kept c.in_default-tree_kept.ensures.0 c.in_default-tree_kept.ensures.1 c.walk_leaves.ensures c.in-Err-walk_leaves.is).sought

pub returns-in-Err-walk_leaves : goal.returns-in-Err-walk_leaves
unfolding answered spot_of
returns-in-Err-walk_leaves c =
    let nodes-kept : nodes_fit c.args.file.policy.now ≡ true = sym (nodes-all _ (sym (ap spot_of c.in_default.is) ∙ c.unfit_node.ensures)) in
    ap refused c.told-in-Err-walk_leaves.ensures
    ∙ (told-leaf _ c.requires nodes-kept c.in_default-tree_kept.ensures.0 c.in_default-tree_kept.ensures.1 c.walk_leaves.ensures c.in-Err-walk_leaves.is).answer

pub check_tree-requires-clause-leaves_kept : goal.check_tree-requires-clause-leaves_kept
unfolding spot_of
check_tree-requires-clause-leaves_kept c =
    let nodes-kept : nodes_fit c.args.file.policy.now ≡ true = sym (nodes-all _ (sym (ap spot_of c.in_default.is) ∙ c.unfit_node.ensures)) in
    leaves_kept _ c.requires nodes-kept c.in_default-tree_kept.ensures.0 c.in_default-tree_kept.ensures.1 c.walk_leaves.ensures c.in_default-walk_leaves.is
