-- `policy_part` meets its contract: an input of fewer than two bytes is all policy.
use native.Mathlib.Omega.{arith}
use Rattle.spec_policy.specs.Bytes.{number}
use Rattle.run_input.proofs.EndLaws.{end-from}
use Rattle.run_input.proofs.policy_part.Goals as goal

pub returns-then-input-lt-LENGTH_SIZE : goal.returns-then-input-lt-LENGTH_SIZE
returns-then-input-lt-LENGTH_SIZE c = omega (arith, end-from (number c.args.input.now 0 2), c.if-input-lt-LENGTH_SIZE.true)
