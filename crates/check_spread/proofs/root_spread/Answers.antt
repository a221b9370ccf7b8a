-- `root_spread` meets its contract: there is a node 0.
use native.Mathlib.Omega.{arith}
use Rattle.check_spread.proofs.root_spread.Goals as goal

pub bounds-spreads-0 : goal.bounds-spreads-0
bounds-spreads-0 c = omega (arith, c.wrong10.ensures.kept_from.size)

pub returns : goal.returns
returns c = c.wrong10.ensures.kept_from.is 0 (omega arith) (omega (arith, c.args.file.framed.some-node))
