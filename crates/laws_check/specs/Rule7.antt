-- Rule 7 of one step, in the words of "Mode rule" and with no pass that computes it.
use Rattle.std.specs.Prelude.{ℕ, ◌≡◌, List, T, get_or}
use Rattle.spec_policy.specs.Steps.{Step, halt}
use Rattle.spec_check.specs.Modes.{Mode, stands, Reached}

-- "Refused: a step reached in two modes or in one where its kind may not stand, .. a step never reached.": not so, of the step at offset o. It is
-- reached in a mode, may stand in it, and is reached in no other. `rule-7-exact`: the check keeps rule 7 of a leaf just where this holds of each step.
pub record OneMode (code : List Step) (o : ℕ) : Type 0 where
  pub mode : Mode
  pub reached : Reached code mode o
  pub may-stand : T (stands (get_or code o halt) mode)
  pub only : (m : Mode) → Reached code m o → m ≡ mode
