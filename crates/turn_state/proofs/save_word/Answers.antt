-- `save_word` meets its contract.
use Rattle.turn_state.proofs.PlaceLaws.{word-saved}
use Rattle.turn_state.proofs.save_word.Goals as goal

pub returns : goal.returns
returns c = word-saved _ _ _ _ c.requires.0 c.requires.1 c.cell_place.ensures c.put_word.ensures
