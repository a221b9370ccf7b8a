-- `size` meets its contract.
use native.Mathlib.Omega.{arith}
use Rattle.spec_writer.proofs.Files.{written-length}
use Rattle.file_writer.proofs.size.Goals as goal

pub returns : goal.returns
returns c = let w = written-length c.args.nodes.now c.args.steps.now in (omega arith, omega arith)
