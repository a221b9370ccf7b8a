-- `fretmere_close` meets its contract.
use Rattle.spec_turns.specs.Turn.{close}
use Rattle.spec_turns.specs.Entries.{closes}
use Rattle.fretmere.proofs.WordLaws.{few-answer}
use Rattle.fretmere.proofs.fretmere_close.Goals as goal

pub packed-requires : goal.packed-requires
unfolding closes
packed-requires c = few-answer _ close _ _ _ c.close.ensures.answer

pub returns : goal.returns
returns c = record { answer = c.packed.ensures _ c.close.ensures.answer; state = c.close.ensures.state; events = c.close.ensures.events }
