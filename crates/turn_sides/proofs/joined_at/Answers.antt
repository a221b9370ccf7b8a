-- `joined_at` meets its contract.
use native.Mathlib.Omega.{arith}
use Prim.Native.Nat.{ℕ}
use mathlib.Core.Path.{ap, ◌∙◌}
use Rattle.turn_sides.proofs.StatusBytes.{joins}
use Rattle.turn_memory.proofs.CellLaws.{status-read}
use Rattle.turn_sides.proofs.Nodes.{sides, placed-here}
use Rattle.turn_memory.specs.Words.{memory_of}
use Rattle.turn_sides.proofs.joined_at.Goals as goal

pub left_of-requires : goal.left_of-requires
left_of-requires c = placed-here c.requires

pub status_at-left-requires : goal.status_at-left-requires
status_at-left-requires c = let s = sides c.requires in omega (arith, c.left_of.ensures, s.left_below, s.few)

pub right_of-requires : goal.right_of-requires
right_of-requires c = placed-here c.requires

pub status_at-right-requires : goal.status_at-right-requires
status_at-right-requires c = let s = sides c.requires in omega (arith, c.right_of.ensures, s.right-below, s.few)

pub join_of-requires : goal.join_of-requires
join_of-requires c = placed-here c.requires

pub returns : goal.returns
returns c =
    let s = sides c.requires in
    joins c.join.ensures (status-read c.args.mem.now _ (omega (arith, c.left_of.ensures, s.left_below, s.few)) c.status_at-left.ensures ∙ ap (λ (i : ℕ). (memory_of c.args.mem.now i).status) c.left_of.ensures)
    (status-read c.args.mem.now _ (omega (arith, c.right_of.ensures, s.right-below, s.few)) c.status_at-right.ensures ∙ ap (λ (i : ℕ). (memory_of c.args.mem.now i).status) c.right_of.ensures) c.join_of.ensures
