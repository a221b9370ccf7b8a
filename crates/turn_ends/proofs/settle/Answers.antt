-- `settle` meets its contract.
use native.Mathlib.Omega.{arith}
use Rattle.turn_sides.proofs.Nodes.{sides}
use Rattle.turn_ends.proofs.EndLaws.{settled_at}
use Rattle.turn_ends.proofs.settle.Goals as goal

pub put-requires : goal.put-requires
put-requires c = let s = sides c.requires.0 in (omega (arith, s.left-later, s.left_below, s.few), omega arith)

pub returns : goal.returns
returns c =
    let s = sides c.requires.0 in
    settled_at _ _ _ _ _ _ _ (omega (arith, s.left-later, s.left_below, s.few), omega (arith, s.left-later, s.left_below, s.few, c.requires.1)) (omega arith) c.mark_of.ensures.1
    c.joined_at-status.ensures c.mark_of.ensures.0 c.put.ensures
