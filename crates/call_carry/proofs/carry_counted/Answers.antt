-- `carry_counted` meets its contract: each call is its own function's.
use Rattle.call_answer.specs.Requests.{asked}
use Rattle.call_carry.proofs.CallLaws.{runs_as, gave-as, steps-as}
use Rattle.call_carry.proofs.carry_counted.Goals as goal

pub carry_open-requires : goal.carry_open-requires
carry_open-requires c = (c.requires.0, runs_as c.in-Open.is c.requires.1)

pub carry_offer-requires : goal.carry_offer-requires
carry_offer-requires c = (c.requires.0, runs_as c.in-Offer.is c.requires.1)

pub carry_close-requires : goal.carry_close-requires
carry_close-requires c = (c.requires.0, runs_as c.in-Close.is c.requires.1)

pub returns-in-Open : goal.returns-in-Open
unfolding asked
returns-in-Open c = record { gave = gave-as c.args.policy.now c.args.state.now c.args.events.now c.in-Open.is c.carry_open.ensures.gave; counts_after = steps-as c.args.counting c.args.policy.now c.args.counts.now c.args.state.now c.in-Open.is c.carry_open.ensures.counts_after }

pub returns-in-Offer : goal.returns-in-Offer
unfolding asked
returns-in-Offer c = record { gave = gave-as c.args.policy.now c.args.state.now c.args.events.now c.in-Offer.is c.carry_offer.ensures.gave; counts_after = steps-as c.args.counting c.args.policy.now c.args.counts.now c.args.state.now c.in-Offer.is c.carry_offer.ensures.counts_after }

pub returns-in-Close : goal.returns-in-Close
unfolding asked
returns-in-Close c = record { gave = gave-as c.args.policy.now c.args.state.now c.args.events.now c.in-Close.is c.carry_close.ensures.gave; counts_after = steps-as c.args.counting c.args.policy.now c.args.counts.now c.args.state.now c.in-Close.is c.carry_close.ensures.counts_after }
