-- `lets_on` meets its contract.
use Prim.Native.Nat.{ℕ}
use native.Mathlib.Omega.{arith}
use mathlib.Core.Path.{ap, ap₂, ◌∙◌}
use lib.Dec.{eqb}
use Rattle.spec_policy.specs.Tree.{Join}
use Rattle.spec_turns.specs.Status.{Status}
use Rattle.turn_paths.specs.Choices.{emits}
use Rattle.turn_memory.specs.Words.{memory_of}
use Rattle.turn_sides.proofs.Nodes.{sides, placed-here}
use Rattle.turn_memory.proofs.CellLaws.{status-read}
use Rattle.turn_place.proofs.lets_on.Goals as goal

pub right_of-requires : goal.right_of-requires
right_of-requires c = placed-here c.requires

pub status_at-status-requires : goal.status_at-status-requires
status_at-status-requires c = let s = sides c.requires in omega (arith, c.right_of.ensures, s.right-below, s.few)

pub join_of-requires : goal.join_of-requires
join_of-requires c = placed-here c.requires

pub returns : goal.returns
returns c =
    let s = sides c.requires in
    c.emits.ensures
    ∙ ap₂ (λ (j : Join) (s : Status). emits j s (eqb c.args.x 1)) c.join_of.ensures
    (status-read c.args.mem.now _ (omega (arith, c.right_of.ensures, s.right-below, s.few)) c.status_at-status.ensures ∙ ap (λ (i : ℕ). (memory_of c.args.mem.now i).status) c.right_of.ensures)
