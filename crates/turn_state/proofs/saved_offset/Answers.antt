-- `saved_offset` meets its contract.
use mathlib.Core.Path.{◌∙◌}
use Rattle.spec_turns.specs.Saved.{offset_at}
use Rattle.turn_state.proofs.PlaceLaws.{cell-part}
use Rattle.turn_state.proofs.saved_offset.Goals as goal

pub returns : goal.returns
unfolding offset_at
returns c = c.byte.ensures ∙ cell-part _ _ _ c.cell_place.ensures 1 1
