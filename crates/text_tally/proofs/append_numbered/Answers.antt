-- `append_numbered` meets its contract: two texts, one after the other.
use Rattle.text_append.proofs.AddedLaws.{joined}
use Rattle.text_tally.specs.Lines.{numbered}
use Rattle.text_tally.proofs.append_numbered.Goals as goal

pub returns : goal.returns
unfolding numbered
returns c = joined c.append-told.ensures c.append_number.ensures
