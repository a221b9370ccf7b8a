-- `append_event` meets its contract: three texts, one after the other.
use mathlib.Core.Path.{ap}
use Rattle.spec_text.specs.Numerals.{decimal}
use Rattle.spec_text.specs.Words.{ascii}
use Rattle.text_append.proofs.AddedLaws.{joined, named}
use Rattle.run_report.specs.Lines.{line}
use Rattle.run_report.proofs.append_event.Goals as goal

pub returns : goal.returns
unfolding ascii line
returns c =
    let numbered = named c.append_number-end.ensures (ap decimal c.from.ensures) in
    joined (named c.append-named.ensures c.kind.ensures) (joined numbered c.append.ensures)
