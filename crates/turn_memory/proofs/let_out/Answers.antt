-- `let_out` meets its contract.
use Rattle.turn_memory.specs.Words.{pushed}
use Rattle.turn_memory.proofs.let_out.Goals as goal

pub returns : goal.returns
unfolding pushed
returns c = rw c.wide.ensures.0
