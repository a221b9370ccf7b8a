-- `saved_count` meets its contract.
use Rattle.spec_turns.specs.Saved.{count_at}
use Rattle.turn_state.proofs.saved_count.Goals as goal

pub returns : goal.returns
unfolding count_at
returns c = c.byte.ensures
