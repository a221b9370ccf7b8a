-- `standing` meets its contract.
use native.Mathlib.Omega.{arith}
use Rattle.turn_rest.proofs.RecordLaws.{number-kept, number-none, number_past}
use Rattle.turn_rest.proofs.tidy.standing.Goals as goal

pub returns-in-1-to-6 : goal.returns-in-1-to-6
returns-in-1-to-6 c = number-kept _ (λ e. omega arith) (omega arith)

pub returns-in_default : goal.returns-in_default
returns-in_default c = number-none _ (omega arith)

pub returns-in_default-2 : goal.returns-in_default-2
returns-in_default-2 c = number_past _ (omega arith)
