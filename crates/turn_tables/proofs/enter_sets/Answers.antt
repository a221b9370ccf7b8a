-- `enter_sets` meets its contract. The invariant: the nodes from i on are entered.
use native.Mathlib.Omega.{arith}
use mathlib.Core.Path.{refl, ◌∙◌}
use Rattle.actions.specs.Sets.{EMPTY}
use Rattle.turn_tables.proofs.FileNodes.{node-in}
use Rattle.turn_tables.proofs.FillLaws.{filled_none, steps-some, filled_more}
use Rattle.turn_tables.proofs.enter_sets.Goals as goal

pub loop-i-init : goal.loop-i-init
loop-i-init c = filled_none c.requires.passed.0 c.requires.passed.1.0 c.requires.passed.1.1 c.requires.mem_len

pub steps_owned-requires : goal.steps_owned-requires
steps_owned-requires c = node-in c.requires.passed.0 _ (omega (arith, c.loop-i.invariant.below, c.loop-i.invariant.nodes, c.loop-i-test.true))

pub overflow_sub-first : goal.overflow_sub-first
overflow_sub-first c = steps-some c.loop-i.invariant c.loop-i-test.true _ _ refl (c.from-first.ensures ∙ c.steps_owned.ensures)

pub loop-i-preserved : goal.loop-i-preserved
unfolding EMPTY
loop-i-preserved c =
    filled_more c.loop-i.invariant c.loop-i-test.true _ _ _ _ c.regulated-set.ensures refl (c.from-first.ensures ∙ c.steps_owned.ensures) refl c.link.ensures
