-- `steps_kept` meets its contract: all step records fit where none is found that does not.
use mathlib.Core.Path.{sym, ap, ◌∙◌}
use Rattle.faults.specs.Meaning.{spot_of}
use Rattle.check_layout.specs.Fits.{kept_or4}
use Rattle.check_layout.proofs.Unfit.{steps_all, steps-not}
use Rattle.check_layout.proofs.steps_kept.Goals as goal

pub returns-in-None : goal.returns-in-None
unfolding spot_of kept_or4
returns-in-None c = ap kept_or4 (steps_all _ (sym (ap spot_of c.in-None.is) ∙ c.unfit_step.ensures))

pub returns-in-Some : goal.returns-in-Some
unfolding spot_of kept_or4
returns-in-Some c = ap kept_or4 (steps-not _ (sym (ap spot_of c.in-Some.is) ∙ c.unfit_step.ensures))
