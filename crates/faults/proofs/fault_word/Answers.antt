-- `fault_word` meets its contract.
use native.Mathlib.Omega.{arith}
use Rattle.faults.specs.Meaning.{fault_of}
use Rattle.faults.proofs.fault_word.Goals as goal

pub overflow_add-result : goal.overflow_add-result
overflow_add-result c = omega (arith, c.spot_code.ensures.1)

pub returns : goal.returns
unfolding fault_of
returns c = omega (arith, c.spot_code.ensures.0)
