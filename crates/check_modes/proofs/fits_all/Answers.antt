-- `fits_all` meets its contract: the mode in which the step is reached, and its entry there.
use Prim.Native.Nat.{ℕ}
use mathlib.Core.Path.{◌≡◌, ap, ◌∙◌}
use mathlib.Core.Bool.{Bool, ◌&&◌, not}
use Rattle.check_modes.specs.Table.{entry_at, may_stand}
use Rattle.check_modes.proofs.ModeSteps.{fits-pending, fits-closing, fits-idle, fits-law}
use Rattle.check_modes.proofs.fits_all.Goals as goal

-- an entry that was read may stand as the table says
stood : (k m : ℕ) {e : ℕ} {b : Bool} → e ≡ entry_at k m → b ≡ may_stand e → b ≡ may_stand (entry_at k m)
stood k m p q = q ∙ ap may_stand p

pub returns-then-here : goal.returns-then-here
returns-then-here c s ks tells g =
    (λ i. (not c.reached-here.result.idle && not c.reached-here.result.closing) && stood _ _ c.entry.ensures c.stands.ensures i)
    ∙ fits-pending (entry_at c.args.row.kind 0) (entry_at c.args.row.kind 1) (entry_at c.args.row.kind 2) _ _ c.if-here.true
    ∙ fits-law s c.args.row.kind c.args.row.first c.args.row.second tells c.args.o ks _ _ _ (c.reached-here.ensures ks g)

pub returns-then-here-2 : goal.returns-then-here-2
returns-then-here-2 c s ks tells g =
    (λ i. not c.reached-here.result.idle && stood _ _ c.entry-then-here-2.ensures c.stands-then-here-2.ensures i)
    ∙ fits-closing (entry_at c.args.row.kind 0) (entry_at c.args.row.kind 1) (entry_at c.args.row.kind 2) _ _ c.if-here.false c.if-here-2.true
    ∙ fits-law s c.args.row.kind c.args.row.first c.args.row.second tells c.args.o ks _ _ _ (c.reached-here.ensures ks g)

pub returns : goal.returns
returns c s ks tells g =
    (λ i. c.reached-here.result.idle && stood _ _ c.entry-2.ensures c.stands-2.ensures i)
    ∙ fits-idle (entry_at c.args.row.kind 0) (entry_at c.args.row.kind 1) (entry_at c.args.row.kind 2) _ _ c.if-here.false c.if-here-2.false
    ∙ fits-law s c.args.row.kind c.args.row.first c.args.row.second tells c.args.o ks _ _ _ (c.reached-here.ensures ks g)
