-- `step_fits` meets its contract: the step is no error where the record fits.
use mathlib.Core.Path.{◌≡◌, refl, ap, ◌∙◌}
use mathlib.Core.Bool.{Bool, true, false}
use Rattle.std.proofs.Common.{is_ok}
use Rattle.file_records.specs.declared.Step.{Step}
use Rattle.check_layout.specs.Fits.{kept_if, read_as}
use Rattle.check_layout.proofs.step_fits.Goals as goal

kept-is : (b : Bool) (s : Step) → is_ok (kept_if b s) ≡ b
unfolding kept_if
kept-is true s = refl
kept-is false s = refl

pub returns : goal.returns
unfolding read_as
returns c = c.is_ok.ensures.value ∙ ap is_ok c.read_step.ensures ∙ kept-is _ _
