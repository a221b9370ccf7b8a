-- `word16` meets its contract.
use native.Mathlib.Omega.{arith}
use Rattle.file_records.proofs.Words.{two}
use Rattle.file_records.proofs.word16.Goals as goal

pub returns : goal.returns
returns c = omega (arith, two c.args.s.now c.args.at c.requires)
