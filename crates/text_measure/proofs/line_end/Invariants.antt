use mathlib.Core.Path.{◌≡◌}
use lib.ListN.{drop}
use lib.Seq.{slice}
use Rattle.spec_text.specs.Words.{lines_from, lines}
use Rattle.text_measure.proofs.line_end.Given as goal

abbrev pub invariant-loop-i : goal.invariant-loop-i
invariant-loop-i l = lines (drop l.at l.text) ≡ lines_from (slice l.at l.i l.text) (drop l.i l.text)
