-- `sweep` meets its contract. The invariant: the records of the nodes below i are written, and their leaves that run are counted.
use native.Mathlib.Omega.{arith}
use Rattle.laws_turns.proofs.Cells.{cells-size}
use Rattle.turn_tables.proofs.FileNodes.{room, node-in}
use Rattle.turn_rest.proofs.SweepLaws.{worth-read, count-few, swept_none, swept-more}
use Rattle.turn_rest.proofs.tidy.sweep.Goals as goal

pub loop-i-init : goal.loop-i-init
loop-i-init c = (c.requires.mem_len.1, swept_none c.requires.passed.0 _ _ c.requires.mem_len.0 (cells-size _ c.requires.mem_len.1))

pub status_at-requires : goal.status_at-requires
status_at-requires c = let r = room c.requires.passed.0 in omega (arith, c.loop-i-test.true, c.requires.passed.1)

pub running_leaf-leaves-requires : goal.running_leaf-leaves-requires
running_leaf-leaves-requires c = node-in c.requires.passed.0 _ (omega (arith, c.loop-i-test.true, c.requires.passed.1))

pub overflow_add-leaves : goal.overflow_add-leaves
overflow_add-leaves c =
    let r = room c.requires.passed.0 in
    let w = worth-read c.requires.passed.0 _ (omega (arith, c.loop-i-test.true, c.requires.passed.1)) c.status_at.ensures c.running_leaf-leaves.ensures in
    omega (arith, c.loop-i-test.true, c.requires.passed.1, count-few c.requires.passed.0 c.loop-i.invariant.1 w)

pub rest-word-requires : goal.rest-word-requires
rest-word-requires c = ((c.requires.passed.0, omega (arith, c.loop-i-test.true, c.requires.passed.1)), c.loop-i.invariant.1.words)

pub save_word-requires : goal.save_word-requires
save_word-requires c =
    let r = room c.requires.passed.0 in
    (c.loop-i.invariant.0, omega (arith, c.loop-i-test.true, c.requires.passed.1))

pub loop-i-preserved : goal.loop-i-preserved
loop-i-preserved c =
    let w = worth-read c.requires.passed.0 _ (omega (arith, c.loop-i-test.true, c.requires.passed.1)) c.status_at.ensures c.running_leaf-leaves.ensures in
    (c.save_word.ensures.0, swept-more c.requires.passed.0 _ c.loop-i.invariant.1 (omega (arith, c.loop-i-test.true, c.requires.passed.1)) w c.rest-word.ensures.under c.rest-word.ensures.word c.save_word.ensures.1)
