use Rattle.std.proofs.Common.{ap₂}
use Rattle.spec_text.specs.Printing.{shown_records}
use Rattle.text_append.proofs.AddedLaws.{named}
use Rattle.guardtext.specs.Shown.{records_text}
use Rattle.guardtext.proofs.print_records.Goals as goal

pub returns : goal.returns
unfolding records_text
returns c = named c.print.ensures (ap₂ shown_records c.records.ensures.nodes c.records.ensures.steps)
