-- `fretmere_running_leaves` meets its contract.
use mathlib.Core.Path.{ap, ◌∙◌}
use Rattle.faults.specs.Meaning.{fault_word}
use Rattle.fretmere.proofs.WordLaws.{count-word, no-count}
use Rattle.fretmere.proofs.fretmere_running_leaves.Goals as goal

pub returns-then-state-ne-STATE_SIZE : goal.returns-then-state-ne-STATE_SIZE
returns-then-state-ne-STATE_SIZE c = c.fault_word.ensures ∙ ap fault_word c.bare.ensures ∙ no-count _ c.if-state-ne-STATE_SIZE.true

pub returns : goal.returns
returns c = c.from.ensures ∙ c.saved_count.ensures ∙ count-word _ c.if-state-ne-STATE_SIZE.false
