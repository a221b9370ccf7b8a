-- `prepare` meets its contract. The invariant: the sides of the nodes before i are entered.
use mathlib.Core.Path.{◌∙◌}
use Rattle.turn_tables.proofs.LinkLaws.{linking-none, linking-more, linking-all}
use Rattle.turn_tables.proofs.prepare.Goals as goal

pub loop-i-init : goal.loop-i-init
loop-i-init c = linking-none c.requires.passed.0 c.requires.passed.1.0 c.enter_sets.ensures

pub loop-i-preserved : goal.loop-i-preserved
loop-i-preserved c = linking-more c.requires.passed.0 c.loop-i.invariant c.loop-i-test.true c.link_node.ensures

pub returns : goal.returns
returns c = (linking-all c.loop-i.invariant c.loop-i-test.false, (c.loop-i.invariant.kept.0, λ k h. c.loop-i.invariant.kept.1 k h ∙ c.enter_sets.ensures.kept.1 k h))
