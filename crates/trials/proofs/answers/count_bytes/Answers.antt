-- `count_bytes` meets its contract.
use mathlib.Core.Path.{◌∙◌}
use Rattle.trials.proofs.SpellLaws.{four}
use Rattle.trials.proofs.answers.count_bytes.Goals as goal

pub returns : goal.returns
returns c = c.to_be_bytes.ensures ∙ four _
