-- `put_word` meets its contract: eight bytes in the place of eight.
use native.Mathlib.Omega.{arith}
use mathlib.Core.Path.{◌∙◌}
use Rattle.turn_state.proofs.WordLaws.{word-put}
use Rattle.turn_state.proofs.put_word.Goals as goal

pub returns : goal.returns
returns c = word-put _ _ _ _ _ (c.copy_from_slice.ensures.after ∙ c.to_be_bytes.ensures) (omega arith)
