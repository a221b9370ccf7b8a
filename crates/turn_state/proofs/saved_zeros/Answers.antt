-- `saved_zeros` meets its contract.
use mathlib.Core.Path.{◌∙◌}
use Rattle.spec_turns.specs.Saved.{zeros_at}
use Rattle.turn_state.proofs.PlaceLaws.{cell-part}
use Rattle.turn_state.proofs.saved_zeros.Goals as goal

pub returns : goal.returns
unfolding zeros_at
returns c = c.word16.ensures.0 ∙ cell-part _ _ _ c.cell_place.ensures 2 2
