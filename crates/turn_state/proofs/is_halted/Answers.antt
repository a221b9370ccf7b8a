-- `is_halted` meets its contract.
use Rattle.spec_turns.proofs.StatusLaws.{halted-five}
use Rattle.turn_state.proofs.is_halted.Goals as goal

pub returns : goal.returns
returns c = halted-five _
