-- `fretmere_offer` meets its contract.
use Rattle.spec_turns.specs.Turn.{offer}
use Rattle.spec_turns.specs.Entries.{offers}
use Rattle.fretmere.proofs.WordLaws.{few-answer}
use Rattle.fretmere.proofs.fretmere_offer.Goals as goal

pub packed-requires : goal.packed-requires
unfolding offers
packed-requires c = few-answer _ (offer _) _ _ _ c.offer.ensures.answer

pub returns : goal.returns
returns c = record { answer = c.packed.ensures _ c.offer.ensures.answer; state = c.offer.ensures.state; events = c.offer.ensures.events }
