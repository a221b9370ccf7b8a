-- `line_at` meets its contract: the line ends with a newline, or with the text.
use Rattle.text_measure.proofs.LineLaws.{reads}
use Rattle.text_measure.proofs.line_at.Goals as goal

pub returns : goal.returns
returns c = reads c.args.text.now c.args.at c.line_end-end.result c.read_line.result c.requires c.line_end-end.ensures c.read_line.ensures.inside c.read_line.ensures.is c.min.result c.min.ensures
