-- `save_count` meets its contract.
use mathlib.Core.Path.{◌∙◌}
use Rattle.turn_state.proofs.PlaceLaws.{put-ahead}
use Rattle.turn_state.proofs.save_count.Goals as goal

pub returns : goal.returns
returns c = c.put_word.ensures ∙ put-ahead _ _ c.requires.1
