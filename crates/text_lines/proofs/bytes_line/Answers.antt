-- `bytes_line` meets its contract: six texts, one after another.
use Rattle.spec_text.specs.Words.{ascii}
use Rattle.spec_text.specs.Printing.{bytes_text}
use Rattle.text_append.proofs.AddedLaws.{joined}
use Rattle.text_lines.proofs.bytes_line.Goals as goal

pub returns : goal.returns
unfolding bytes_text ascii
returns c = joined c.begin-begun.ensures (joined c.mark-marked.ensures (joined c.append_number-numbered.ensures (joined c.append-named.ensures (joined c.append_bytes-end.ensures c.append.ensures))))
