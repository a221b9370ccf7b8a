-- `leave` meets its contract.
use native.Mathlib.Omega.{arith}
use Rattle.turn_leaf.proofs.LeafCells.{holds-put, left-held}
use Rattle.turn_leaf.proofs.leave.Goals as goal

pub overflow_add-first : goal.overflow_add-first
overflow_add-first c = omega (arith, c.requires.steps_in.0.1, c.offset_at-offset.type_inv)

pub returns : goal.returns
returns c =
    λ r k asks.
    left-held _ r k _ _ c.requires.mem_len.1 asks c.offset_at-offset.ensures c.counter_at-counter.ensures.0 c.begin-to.ensures
    (holds-put c.requires.mem_len.0 c.requires.mem_len.1 (omega arith) (omega (arith, c.begin-to.type_inv)) (omega arith) c.counter_at-counter.ensures.1 c.put.ensures) c.requires.steps_in.1 c.count_left.ensures
