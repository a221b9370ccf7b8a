-- `check_bytes` meets its contract: what `spell` gives is the answer in bytes, in each of its two cases.
use mathlib.Core.Path.{sym, ap, ◌∙◌}
use Rattle.check_policy.specs.Answers.{answered}
use Rattle.trials.specs.Calls.{answer_bytes}
use Rattle.trials.proofs.CallLaws.{passed-bytes}
use Rattle.trials.proofs.answers.check_bytes.Goals as goal

pub returns-in-Ok : goal.returns-in-Ok
unfolding answered
returns-in-Ok c =
    passed-bytes c.bare_fault.result _ _ c.bare_fault.ensures c.spell.ensures
    (ap answered (sym c.in-Ok.is) ∙ c.check.ensures)

pub returns-in-Err : goal.returns-in-Err
unfolding answered answer_bytes
returns-in-Err c = c.spell-in-Err.ensures ∙ ap answer_bytes (ap answered (sym c.in-Err.is) ∙ c.check.ensures)
