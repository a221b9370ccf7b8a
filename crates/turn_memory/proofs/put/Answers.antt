-- `put` meets its contract.
use mathlib.Core.Path.{ap}
use lib.ListN.{set}
use Rattle.turn_memory.proofs.put.Goals as goal

pub returns : goal.returns
returns c = ap (set c.args.mem.now c.args.node) c.cell.ensures
