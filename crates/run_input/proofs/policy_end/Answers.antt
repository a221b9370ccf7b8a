-- `policy_end` meets its contract.
use native.Mathlib.Omega.{arith}
use Rattle.spec_policy.specs.Bytes.{number}
use Rattle.run_input.proofs.EndLaws.{end-clamped}
use Rattle.run_input.proofs.policy_end.Goals as goal

pub returns : goal.returns
returns c =
    let clamped = end-clamped (number c.args.policy.now 0 2) in
    (omega (arith, clamped), omega arith, omega arith)
