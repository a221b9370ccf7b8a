-- `saved_counter` meets its contract.
use mathlib.Core.Path.{◌∙◌}
use Rattle.spec_turns.specs.Saved.{counter_at}
use Rattle.turn_state.proofs.PlaceLaws.{cell-part}
use Rattle.turn_state.proofs.saved_counter.Goals as goal

pub returns : goal.returns
unfolding counter_at
returns c = c.word32.ensures.0 ∙ cell-part _ _ _ c.cell_place.ensures 4 4
