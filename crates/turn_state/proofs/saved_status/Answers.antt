-- `saved_status` meets its contract.
use mathlib.Core.Path.{◌∙◌}
use Rattle.spec_turns.specs.Saved.{status_at}
use Rattle.turn_state.proofs.PlaceLaws.{cell-word}
use Rattle.turn_state.proofs.saved_status.Goals as goal

pub returns : goal.returns
unfolding status_at
returns c = c.byte.ensures ∙ cell-word _ _ _ c.cell_place.ensures 1
