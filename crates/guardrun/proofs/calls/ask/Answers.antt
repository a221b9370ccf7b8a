-- `ask` meets its contract.
use mathlib.Core.Path.{sym, ap}
use Rattle.spec_turns.specs.Entries.{opens, offers, closes}
use Rattle.call_answer.specs.Requests.{asked}
use Rattle.call_answer.proofs.Heard.{gave-as}
use Rattle.guardrun.proofs.calls.ask.Goals as goal

pub returns-in-Open : goal.returns-in-Open
unfolding asked opens
returns-in-Open c = gave-as _ _ _ (sym (ap asked c.in-Open.is)) c.«open».ensures

pub returns-in-Offer : goal.returns-in-Offer
unfolding asked offers
returns-in-Offer c = gave-as _ _ _ (sym (ap asked c.in-Offer.is)) c.offer.ensures

pub returns-in-Close : goal.returns-in-Close
unfolding asked closes
returns-in-Close c = gave-as _ _ _ (sym (ap asked c.in-Close.is)) c.close.ensures
