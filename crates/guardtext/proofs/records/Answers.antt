use Rattle.std.proofs.Common.{◌≡◌, ◌∙◌, ap}
use Rattle.spec_policy.specs.Records.{node_count, node_place}
use Rattle.text_print.proofs.FileLaws.{has-front, few-nodes, after_front, in-file, nodes-are, steps-are}
use Rattle.guardtext.proofs.records.Goals as goal
use Rattle.guardtext.proofs.records.Goals.{After-node_place-end}

-- where the code lets the steps begin
end-is : (c : After-node_place-end) → c.node_place-end.result ≡ node_place (node_count c.args.policy.now)
end-is c = c.node_place-end.ensures ∙ ap node_place c.nodes_of.ensures.0

pub nodes_of-requires : goal.nodes_of-requires
nodes_of-requires c = has-front _ c.requires

pub node_place-end-requires : goal.node_place-end-requires
node_place-end-requires c = few-nodes _ c.requires _ c.nodes_of.ensures.0

pub slice_bounds-result-count : goal.slice_bounds-result-count
slice_bounds-result-count c = after_front _ c.requires _ (end-is (goal.at.slice_bounds-result-count c).After-node_place-end)

pub slice_bounds-result-start : goal.slice_bounds-result-start
slice_bounds-result-start c = after_front _ c.requires _ (end-is (goal.at.slice_bounds-result-start c).After-node_place-end)

pub slice_bounds-result-end : goal.slice_bounds-result-end
slice_bounds-result-end c = in-file _ c.requires _ (end-is (goal.at.slice_bounds-result-end c).After-node_place-end)

pub slice_bounds-result-count-2 : goal.slice_bounds-result-count-2
slice_bounds-result-count-2 c = in-file _ c.requires _ (end-is (goal.at.slice_bounds-result-count-2 c).After-node_place-end)

pub slice_bounds-result-start-2 : goal.slice_bounds-result-start-2
slice_bounds-result-start-2 c = in-file _ c.requires _ (end-is (goal.at.slice_bounds-result-start-2 c).After-node_place-end)

pub returns-clause-nodes : goal.returns-clause-nodes
returns-clause-nodes c = nodes-are _ c.requires _ (end-is (goal.at.returns-clause-nodes c).After-node_place-end)

pub returns-clause-steps : goal.returns-clause-steps
returns-clause-steps c = steps-are _ c.requires _ (end-is (goal.at.returns-clause-steps c).After-node_place-end)
