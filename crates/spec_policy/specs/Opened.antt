-- The definitions of this crate that computing opens, by one name: a proof that computes with them says `unfolding opened`.
use Rattle.spec_policy.specs.Lists.{listed, summed, one, occurs, among, every, every_at}
use Rattle.spec_policy.specs.Spots.{somewhere, or_else, counted_from, first_off}
use Rattle.spec_policy.specs.Bytes.{spelt, number, spell, put}
use Rattle.spec_policy.specs.Records.{length_field, version_field, node_count, step_count, node_at, step_record_at, node_place, step_place, nodes, step_records, node_bytes, step_bytes}
use Rattle.spec_policy.specs.Steps.{step_of, targets, is_next, is_ins}
use Rattle.spec_policy.specs.Tree.{node_kind, steps_owned, with_steps, no_node_steps, nodes_with_steps, number_of, tree_under, tree, tree_at, regulated}

unfoldable pub opened : Unit {0}
unfolding listed summed one occurs among every every_at somewhere or_else counted_from first_off spelt number spell put length_field version_field node_count step_count node_at step_record_at node_place step_place nodes step_records node_bytes step_bytes step_of targets is_next is_ins node_kind steps_owned with_steps no_node_steps nodes_with_steps number_of tree_under tree tree_at regulated
opened = tt
