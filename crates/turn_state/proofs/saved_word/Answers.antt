-- `saved_word` meets its contract.
use mathlib.Core.Path.{◌∙◌}
use Rattle.spec_turns.specs.Saved.{cell_size}
use Rattle.turn_state.proofs.PlaceLaws.{cell-word}
use Rattle.turn_state.proofs.saved_word.Goals as goal

pub returns : goal.returns
returns c = c.word64.ensures ∙ cell-word _ _ _ c.cell_place.ensures cell_size
