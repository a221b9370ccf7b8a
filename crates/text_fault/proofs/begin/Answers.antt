-- `begin` meets its contract: three texts, one after the other.
use Rattle.spec_text.specs.Words.{ascii}
use Rattle.text_append.proofs.AddedLaws.{joined}
use Rattle.text_fault.specs.Expected.{heading}
use Rattle.text_fault.proofs.begin.Goals as goal

pub returns : goal.returns
unfolding heading ascii
returns c = joined c.append-named.ensures (joined c.append_number-numbered.ensures c.append.ensures)
