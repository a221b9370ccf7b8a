-- `answer_next` is safe: a call that was read is placed.
use native.Mathlib.Omega.{arith}
use Rattle.trials.proofs.CallLaws.{taken-placed}
use Rattle.trials.proofs.answer_next.Goals as goal

pub answer-requires : goal.answer-requires
answer-requires g c = (taken-placed _ _ _ c.in-Ok.is c.read_call.ensures, omega arith, omega arith)
