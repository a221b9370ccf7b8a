-- Three texts, one after the other.
use Rattle.std.proofs.Common.{ap}
use Rattle.spec_text.specs.Words.{ascii}
use Rattle.spec_text.specs.Numerals.{decimal}
use Rattle.spec_text.specs.Where.{fault_says}
use Rattle.faults.specs.Meaning.{fault_of}
use Rattle.text_append.proofs.AddedLaws.{joined, named}
use Rattle.text_spot.proofs.append_fault.Goals as goal

pub returns : goal.returns
unfolding fault_says fault_of ascii
returns c = joined c.append-named.ensures (joined (named c.append_number-numbered.ensures (ap decimal c.from.ensures)) c.append_place.ensures)
