-- `lead_if` meets its contract: the entry's marks, or none.
use mathlib.Core.Path.{subst}
use Prim.Native.Nat.{ℕ}
use Rattle.check_modes.specs.Table.{led_by}
use Rattle.check_modes.specs.Marks.{Adds, only_if}
use Rattle.check_modes.proofs.ModeSteps.{adds-nothing, room-as}
use Rattle.check_modes.proofs.lead_if.Goals as goal

pub lead_in-requires : goal.lead_in-requires
lead_in-requires c = room-as _ _ c.entry.ensures c.requires.t

pub returns-then-reached : goal.returns-then-reached
unfolding only_if
returns-then-reached c =
    rw c.if-reached.true
    (subst (λ (e : ℕ). Adds c.args.seen c.lead_in.result.marks (led_by e c.args.row.first c.args.row.second)) c.entry.ensures c.lead_in.ensures.adds)

pub returns-else-reached : goal.returns-else-reached
unfolding only_if
returns-else-reached c = rw c.if-reached.false (adds-nothing c.args.seen)
