-- `run` meets its contract: each last move by its law.
use native.Mathlib.Omega.{arith}
use Rattle.turn_leaf.proofs.LeafCells.{holds-put, ran-stays, ran-stops, ran-inserts, ran_over}
use Rattle.turn_leaf.proofs.run.Goals as goal

pub returns-in-Stay : goal.returns-in-Stay
returns-in-Stay c =
    λ r k.
    ran-stays _ r k _ _ c.requires.mem_len.1 c.requires.steps_in.0.1 c.pending.ensures c.offset_at-offset.ensures c.counter_at-counter.ensures.0 c.go_on-x.ensures c.in-Stay.is
    (holds-put c.requires.mem_len.0 c.requires.mem_len.1 (omega arith) (omega (arith, c.go_on-x.type_inv)) (omega arith) (omega (arith, c.counter_at-counter.ensures.1, c.go_on-x.ensures.less)) c.put.ensures)

pub returns-in-Stops : goal.returns-in-Stops
returns-in-Stops c =
    λ r k.
    ran-stops _ r k _ _ c.requires.mem_len.1 c.requires.steps_in.0.1 c.pending.ensures c.offset_at-offset.ensures c.counter_at-counter.ensures.0 c.go_on-x.ensures c.in-Stops.is
    (holds-put c.requires.mem_len.0 c.requires.mem_len.1 (omega arith) (omega (arith, c.in-Stops.known_told-1-own.given)) (omega arith) (omega (arith, c.counter_at-counter.ensures.1, c.go_on-x.ensures.less)) c.put-in-Stops.ensures)

pub returns-in-Inserts : goal.returns-in-Inserts
returns-in-Inserts c =
    λ r k.
    ran-inserts _ r k _ _ c.requires.mem_len.1 c.requires.steps_in.0.1 c.pending.ensures c.offset_at-offset.ensures c.counter_at-counter.ensures.0 c.go_on-x.ensures c.in-Inserts.is
    (holds-put c.requires.mem_len.0 c.requires.mem_len.1 (omega arith) (omega (arith, c.in-Inserts.known_told-in-Inserts-1-own.given)) (omega arith) (omega (arith, c.counter_at-counter.ensures.1, c.go_on-x.ensures.less)) c.put-in-Inserts.ensures)

pub returns-in-Over : goal.returns-in-Over
returns-in-Over c =
    λ r k.
    ran_over _ r k _ _ c.requires.mem_len.1 c.requires.steps_in.0.1 c.pending.ensures c.offset_at-offset.ensures c.counter_at-counter.ensures.0 c.go_on-x.ensures c.in-Over.is
    (holds-put c.requires.mem_len.0 c.requires.mem_len.1 (omega (arith, c.in-Over.known_told-in-Over-1-own.given)) (omega arith) (omega arith) (omega arith) c.put-in-Over.ensures)
