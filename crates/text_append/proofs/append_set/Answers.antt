-- `append_set` meets its contract.
use Rattle.spec_text.specs.Printing.{argument}
use Rattle.text_append.proofs.AddedLaws.{joined}
use Rattle.text_append.proofs.append_set.Goals as goal

pub returns : goal.returns
unfolding argument
returns c = joined c.append-opened.ensures (joined c.append_members-end.ensures c.append.ensures)
