-- `waits` meets its contract: an offset past the leaf is no step, and of any other step the kind tells a next.
use mathlib.Core.Path.{◌∙◌}
use Rattle.call_fits.proofs.FileLaws.{waits-past, waits-here}
use Rattle.call_fits.proofs.waits.Goals as goal

pub returns-then-count-offset : goal.returns-then-count-offset
returns-then-count-offset c = waits-past _ _ _ _ _ _ _ (c.from-offset.ensures ∙ c.saved_offset.ensures) c.if-count-offset.true

pub returns : goal.returns
returns c = waits-here _ _ _ _ _ _ _ (c.from-offset.ensures ∙ c.saved_offset.ensures) _ _ c.if-count-offset.false c.view_step_kind-kind.ensures c.saved_counter-counter.ensures
