-- `finish` meets its contract: the state saved, the root's status its first byte.
use Rattle.call_answer.proofs.EndLaws.{ended}
use Rattle.call_answer.proofs.finish.Goals as goal

pub returns : goal.returns
returns c = ended c.requires.passed.0 c.args.count c.tidy.ensures.state_after c.saved_status.ensures
