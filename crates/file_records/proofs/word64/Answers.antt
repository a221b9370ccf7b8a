-- `word64` meets its contract.
use native.Mathlib.Omega.{arith}
use Rattle.file_records.proofs.Words.{eight}
use Rattle.file_records.proofs.word64.Goals as goal

pub returns : goal.returns
returns c = omega (arith, eight c.args.s.now c.args.at c.requires)
