-- Of the step's number, what the nodes passed own is taken off.
use Rattle.std.proofs.Common.{◌∙◌}
use Rattle.text_spot.proofs.SpotLaws.{passed_none, in_leaf, passed-more, in-none}
use Rattle.text_spot.proofs.leaf_of.Goals as goal

pub loop-i-init : goal.loop-i-init
loop-i-init c = passed_none c.args.nodes.now c.args.s

pub returns-then-left-count : goal.returns-then-left-count
returns-then-left-count c = in_leaf c.args.nodes.now c.args.s _ c.loop-i.left c.loop-i.i c.loop-i.invariant c.loop-i-test.true _ (c.from-count.ensures ∙ c.node_count.ensures) c.if-left-count.true

pub loop-i-preserved : goal.loop-i-preserved
loop-i-preserved c = passed-more c.args.nodes.now c.args.s _ c.loop-i.left c.loop-i.i c.loop-i.invariant c.loop-i-test.true _ (c.from-count.ensures ∙ c.node_count.ensures) c.if-left-count.false

pub returns : goal.returns
returns c = in-none c.args.nodes.now c.args.s _ c.loop-i.left c.loop-i.i c.loop-i.invariant c.loop-i-test.false
