-- `fretmere_write` meets its contract.
use Rattle.fretmere.proofs.fretmere_write.Goals as goal

pub returns : goal.returns
returns c = record { answer = c.packed_size.ensures _ c.write.ensures.answer; out = c.write.ensures.out }
