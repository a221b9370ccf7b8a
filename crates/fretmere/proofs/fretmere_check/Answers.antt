-- `fretmere_check` meets its contract.
use mathlib.Core.Path.{◌∙◌, sym, ap}
use Rattle.check_policy.specs.Answers.{answered}
use Rattle.fretmere.proofs.WordLaws.{passed-says, refused_says}
use Rattle.fretmere.proofs.fretmere_check.Goals as goal

pub returns-in-Ok : goal.returns-in-Ok
unfolding answered
returns-in-Ok c = let e = ap answered (sym c.in-Ok.is) ∙ c.check.ensures in passed-says _ _ _ e

pub returns-in-Err : goal.returns-in-Err
unfolding answered
returns-in-Err c = let e = ap answered (sym c.in-Err.is) ∙ c.check.ensures in refused_says _ _ _ c.fault_word.ensures e
