-- `begin` meets its contract.
use mathlib.Core.Path.{◌∙◌}
use Rattle.turn_leaf.proofs.LeafStarts.{begins-after, begins-left}
use Rattle.turn_leaf.proofs.begin.Goals as goal

pub returns-then-phase-eq-AFTER : goal.returns-then-phase-eq-AFTER
returns-then-phase-eq-AFTER c = begins-after _ _ _ c.if-phase-eq-AFTER.true

pub returns : goal.returns
returns c = c.leaving.ensures ∙ begins-left _ _ _ c.if-phase-eq-AFTER.false
