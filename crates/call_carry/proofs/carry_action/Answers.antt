-- `carry_action` meets its contract: the same with no counts.
use Rattle.call_carry.proofs.carry_action.Goals as goal

pub returns : goal.returns
returns c = c.carry_action_counting.ensures.gave
