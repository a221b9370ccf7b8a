-- `head` meets its contract: three texts, one after another.
use Rattle.spec_text.specs.Words.{ascii}
use Rattle.text_append.proofs.AddedLaws.{joined}
use Rattle.guardtext.specs.Shown.{heading}
use Rattle.guardtext.proofs.head.Goals as goal

pub returns : goal.returns
unfolding heading ascii
returns c = joined c.append-begun.ensures (joined c.append_fault-end.ensures c.append.ensures)
