-- `word32` meets its contract.
use native.Mathlib.Omega.{arith}
use Rattle.file_records.proofs.Words.{four}
use Rattle.file_records.proofs.word32.Goals as goal

pub returns : goal.returns
returns c = omega (arith, four c.args.s.now c.args.at c.requires)
