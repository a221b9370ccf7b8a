-- `awaken` meets its contract. The invariant: the nodes below i are not yet opened.
use native.Mathlib.Omega.{arith}
use mathlib.Core.Path.{refl}
use Rattle.turn_tables.proofs.FileNodes.{room, node-in}
use Rattle.turn_rest.proofs.Awakened.{filled_more, filled-words, opens-here, opens}
use Rattle.turn_rest.proofs.awaken.awaken.Goals as goal

pub view_start-requires : goal.view_start-requires
view_start-requires c = node-in c.requires.passed.0 _ (omega (arith, c.requires.passed.1, c.loop-i-test.true))

pub put-requires : goal.put-requires
put-requires c =
    let r = room c.requires.passed.0 in
    (omega (arith, c.requires.passed.1, c.loop-i-test.true), c.view_start.ensures.1)

pub loop-i-preserved : goal.loop-i-preserved
loop-i-preserved c =
    let r = room c.requires.passed.0 in
    filled_more c.loop-i.invariant c.loop-i-test.true (omega (arith, c.loop-i-test.true, c.requires.passed.1, c.requires.mem_len))
    (opens-here _ _ refl c.view_start.ensures) c.put.ensures

pub returns-clause-mem_after : goal.returns-clause-mem_after
returns-clause-mem_after c = opens _ c.requires.passed.0 c.requires.passed.1 (filled-words c.loop-i.invariant c.loop-i-test.false)
