use Rattle.text_append.specs.Added.{Added}
use Rattle.run_report.specs.Lines.{lines}
use Rattle.run_report.proofs.append_events.Given as goal

abbrev pub invariant-loop-i : goal.invariant-loop-i
invariant-loop-i l = Added l.initial.out l.at (lines l.i l.events) l.out l.end
