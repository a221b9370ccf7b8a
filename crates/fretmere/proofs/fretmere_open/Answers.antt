-- `fretmere_open` meets its contract.
use Rattle.spec_turns.specs.Turn.{opening}
use Rattle.spec_turns.specs.Entries.{opens}
use Rattle.fretmere.proofs.WordLaws.{few-answer}
use Rattle.fretmere.proofs.fretmere_open.Goals as goal

pub packed-requires : goal.packed-requires
unfolding opens
packed-requires c = few-answer _ opening _ _ _ c.«open».ensures.answer

pub returns : goal.returns
returns c = record { answer = c.packed.ensures _ c.«open».ensures.answer; state = c.«open».ensures.state; events = c.«open».ensures.events }
