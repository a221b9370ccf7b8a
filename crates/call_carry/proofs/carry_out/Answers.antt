-- `carry_out` meets its contract: the same with no counts.
use Rattle.call_carry.proofs.carry_out.Goals as goal

pub returns : goal.returns
returns c = c.carry_out_counting.ensures.gave
