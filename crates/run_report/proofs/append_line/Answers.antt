-- `append_line` meets its contract: three texts, one after the other.
use Rattle.spec_text.specs.Words.{ascii}
use Rattle.text_append.proofs.AddedLaws.{joined}
use Rattle.run_report.specs.Lines.{line}
use Rattle.run_report.proofs.append_line.Goals as goal

pub returns : goal.returns
unfolding ascii line
returns c = joined c.append-named.ensures (joined c.append_status-end.ensures c.append.ensures)
