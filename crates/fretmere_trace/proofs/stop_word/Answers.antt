-- `stop_word` meets its contract.
use mathlib.Core.Path.{◌∙◌, sym}
use Rattle.fretmere_trace.proofs.WordLaws.{unrefused-word, refused-word}
use Rattle.fretmere_trace.proofs.stop_word.Goals as goal

pub returns-in-None : goal.returns-in-None
returns-in-None c z e = unrefused-word z (sym c.in-None.is ∙ e)

pub returns-in-Some : goal.returns-in-Some
returns-in-Some c z e = c.fault_word.ensures ∙ refused-word _ z (sym c.in-Some.is ∙ e)
