-- `spread_of` meets its contract.
use mathlib.Core.Path.{refl, ap}
use Rattle.std.specs.Prelude.{is_ok}
use Rattle.guardcheck.proofs.SpreadLaws.{has-front, nodes-fit, walked-well, inserts-held, frame, owned, spread-is}
use Rattle.guardcheck.proofs.spread_of.Goals as goal

pub nodes_of-requires : goal.nodes_of-requires
nodes_of-requires c = has-front c.args.policy.now c.requires

pub steps_of-requires : goal.steps_of-requires
steps_of-requires c = has-front c.args.policy.now c.requires

pub invariant_of-file : goal.invariant_of-file
invariant_of-file c = record { framed = frame c.args.policy.now c.requires _ _ c.nodes_of.ensures.0 c.steps_of.ensures.0 }

pub walk_leaves-requires : goal.walk_leaves-requires
walk_leaves-requires c = record { policy_value = nodes-fit c.args.policy.now c.requires; policy_value_2 = owned c.args.policy.now c.requires _ _ c.nodes_of.ensures.0 c.steps_of.ensures.0; effects_len = (refl, refl) }

pub unwrap-requires : goal.unwrap-requires
unwrap-requires c = ap is_ok (walked-well c.args.policy.now c.requires c.walk_leaves.ensures)

pub root_spread-requires : goal.root_spread-requires
root_spread-requires c = record { policy_value = c.requires.kept4; policy_value_2 = c.requires.kept5; policy_value_3 = c.requires.kept6; leaf_values = inserts-held c.args.policy.now c.requires c.walk_leaves.ensures }

pub returns : goal.returns
returns c = spread-is c.args.policy.now c.requires c.root_spread.ensures
