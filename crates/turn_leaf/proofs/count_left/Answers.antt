-- `count_left` meets its contract.
use mathlib.Core.Path.{◌∙◌}
use Rattle.turn_leaf.proofs.LeafStarts.{left_after, left-else}
use Rattle.turn_leaf.proofs.count_left.Goals as goal

pub returns-then-phase-eq-AFTER : goal.returns-then-phase-eq-AFTER
returns-then-phase-eq-AFTER c = left_after _ _ _ _ c.if-phase-eq-AFTER.true

pub returns : goal.returns
returns c = c.count_step.ensures ∙ left-else _ _ _ _ c.if-phase-eq-AFTER.false
