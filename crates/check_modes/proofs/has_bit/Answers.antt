-- `has_bit` meets its contract.
use native.Mathlib.Omega.{arith}
use mathlib.Core.Path.{sym}
use Rattle.actions.proofs.SetLaws.{has-action}
use Rattle.check_modes.proofs.has_bit.Goals as goal

pub returns : goal.returns
returns c = sym (has-action _ _ (omega arith))
