-- `stop_fault` meets its contract.
use mathlib.Core.Path.{sym, ◌∙◌}
use Rattle.trials.proofs.RunLaws.{stop-none, stop-some}
use Rattle.trials.proofs.answers.stop_fault.Goals as goal

pub returns-in-None : goal.returns-in-None
returns-in-None c z e = c.bare_fault.ensures ∙ stop-none z (sym c.in-None.is ∙ e)

pub returns-in-Some : goal.returns-in-Some
returns-in-Some c z e = stop-some _ z (sym c.in-Some.is ∙ e)
