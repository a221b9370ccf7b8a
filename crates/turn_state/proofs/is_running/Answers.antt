-- `is_running` meets its contract.
use Rattle.spec_turns.proofs.StatusLaws.{running-one}
use Rattle.turn_state.proofs.is_running.Goals as goal

pub returns : goal.returns
returns c = running-one _
