-- Two texts, one after the other.
use Rattle.text_append.proofs.AddedLaws.{joined}
use Rattle.text_tally.specs.Lines.{tally_text}
use Rattle.text_tally.proofs.print_tally.Goals as goal

pub returns : goal.returns
unfolding tally_text
returns c = joined c.record_lines-told.ensures.told c.action_lines.ensures
