-- `drop_sides` meets its contract.
use mathlib.Core.Path.{◌∙◌}
use Rattle.turn_rest.proofs.RestLaws.{sides-kept, sides-over}
use Rattle.turn_rest.proofs.tidy.drop_sides.Goals as goal

pub returns-then-status-eq-RUNNING : goal.returns-then-status-eq-RUNNING
returns-then-status-eq-RUNNING c = sides-kept _ _ _ c.if-status-eq-RUNNING.true

pub returns : goal.returns
returns c =
    sides-over _ _ _ c.if-status-eq-RUNNING.false (c.from.ensures ∙ c.view_left.ensures)
    (c.from-2.ensures ∙ c.view_right.ensures) c.put.ensures c.put-2.ensures
