-- `has_ended` meets its contract.
use Rattle.spec_turns.proofs.StatusLaws.{ended-between}
use Rattle.turn_state.proofs.has_ended.Goals as goal

pub returns : goal.returns
returns c = ended-between _
