-- `tell` meets its contract: an answer's events are few and in the buffer.
use Rattle.call_answer.proofs.Heard.{few}
use Rattle.laws_turns.proofs.Answered.{refused-small}
use Rattle.guardrun.proofs.SpokenLaws.{spoke-answered, spoke-refused}
use Rattle.guardrun.proofs.calls.tell.Goals as goal

pub answered-requires : goal.answered-requires
answered-requires c = few _ _ _ _ c.ask.ensures c.in-Ok.is

pub returns-in-Ok : goal.returns-in-Ok
returns-in-Ok c = spoke-answered c.ask.ensures c.in-Ok.is c.answered.ensures

pub returns-in-Err : goal.returns-in-Err
returns-in-Err c = spoke-refused c.ask.ensures (refused-small _ _ _ _) _ c.in-Err.is (c.refused.ensures _)
