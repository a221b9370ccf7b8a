-- `reread` meets its contract.
use Prim.Native.Nat.{ℕ}
use native.Mathlib.Omega.{arith}
use mathlib.Core.Path.{refl, sym, ap, ◌∙◌}
use Rattle.spec_turns.specs.Status.{status_of}
use Rattle.turn_memory.specs.Words.{memory_of}
use Rattle.turn_sides.proofs.Nodes.{sides, placed-here}
use Rattle.turn_sides.proofs.StatusBytes.{joins}
use Rattle.turn_memory.proofs.CellLaws.{status-read}
use Rattle.turn_ends.proofs.EndLaws.{goes-on, stops}
use Rattle.turn_ends.proofs.reread.Goals as goal

pub right_of-requires : goal.right_of-requires
right_of-requires c = placed-here c.requires.0

pub status_at-right-requires : goal.status_at-right-requires
status_at-right-requires c = let s = sides c.requires.0 in omega (arith, c.right_of.ensures, s.right-below, s.few)

pub join_of-requires : goal.join_of-requires
join_of-requires c = placed-here c.requires.0

pub returns-then-is_running : goal.returns-then-is_running
unfolding status_of
returns-then-is_running c =
    let s = sides c.requires.0 in
    goes-on _ _ _ c.join-status.result
    (joins c.join-status.ensures refl (status-read c.args.mem.now _ (omega (arith, c.right_of.ensures, s.right-below, s.few)) c.status_at-right.ensures ∙ ap (λ (i : ℕ). (memory_of c.args.mem.now i).status) c.right_of.ensures) c.join_of.ensures)
    (sym c.is_running.ensures ∙ c.if-is_running.true)

pub put-requires : goal.put-requires
put-requires c = let s = sides c.requires.0 in (omega (arith, s.left-later, s.left_below, s.few), omega arith)

pub overflow_add-result : goal.overflow_add-result
overflow_add-result c = let s = sides c.requires.0 in omega (arith, s.left-later, s.left_below, s.few)

pub returns : goal.returns
unfolding status_of
returns c =
    let s = sides c.requires.0 in
    stops _ _ _ _ c.join-status.result (omega (arith, s.left-later, s.left_below, s.few), omega (arith, s.left-later, s.left_below, s.few, c.requires.1)) (omega arith)
    (joins c.join-status.ensures refl (status-read c.args.mem.now _ (omega (arith, c.right_of.ensures, s.right-below, s.few)) c.status_at-right.ensures ∙ ap (λ (i : ℕ). (memory_of c.args.mem.now i).status) c.right_of.ensures) c.join_of.ensures)
    (sym c.is_running.ensures ∙ c.if-is_running.false) c.put.ensures
