-- `enter` meets its contract.
use native.Mathlib.Omega.{arith}
use Rattle.spec_turns.specs.Entries.{opens, offers, closes}
use Rattle.call_answer.proofs.Heard.{gave-as}
use Rattle.trials.proofs.CallLaws.{request-open, request-offer, request-close}
use Rattle.trials.proofs.answers.enter.Goals as goal

pub returns-in-1 : goal.returns-in-1
unfolding opens
returns-in-1 c = gave-as _ _ _ (request-open _ _ c.in-1.is) c.«open».ensures

pub returns-in-2 : goal.returns-in-2
unfolding offers
returns-in-2 c = gave-as _ _ _ (request-offer _ _ c.in-2.is) c.offer.ensures

pub returns-in_default : goal.returns-in_default
unfolding closes
returns-in_default c = gave-as _ _ _ (request-close _ _ (λ e. omega arith) (λ e. omega arith)) c.close.ensures
