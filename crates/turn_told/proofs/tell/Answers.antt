-- `tell` meets its contract. The invariant: the first k inserts are still in the words, and the others stand in the room.
use mathlib.Core.Path.{refl}
use Rattle.turn_told.proofs.TellLaws.{popped-none, popped-more, emptied, sent}
use Rattle.turn_told.proofs.tell.Goals as goal

pub loop-k-init : goal.loop-k-init
loop-k-init c = popped-none _ _ _ _ refl

pub loop-k-preserved : goal.loop-k-preserved
loop-k-preserved c = popped-more c.loop-k.invariant c.loop-k-test.true c.requires.mem_len.1 c.requires.mem_len.0 c.requires.count_place_in_bounds

pub returns : goal.returns
returns c = record { kept = emptied c.loop-k.invariant c.loop-k-test.false c.requires.mem_len.0; sent = sent c.loop-k.invariant c.loop-k-test.false c.requires.mem_len.0 }
