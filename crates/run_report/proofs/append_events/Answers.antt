-- `append_events` meets its contract: what is put is the lines of the events passed.
use Rattle.text_append.proofs.AddedLaws.{nothing, joined, named}
use Rattle.run_report.specs.Lines.{lines}
use Rattle.run_report.proofs.LineLaws.{line-more}
use Rattle.run_report.proofs.append_events.Goals as goal

pub loop-i-init : goal.loop-i-init
unfolding lines
loop-i-init c = nothing _ _

pub loop-i-preserved : goal.loop-i-preserved
loop-i-preserved c = named (joined c.loop-i.invariant c.append_event-end.ensures) (line-more _ _)
