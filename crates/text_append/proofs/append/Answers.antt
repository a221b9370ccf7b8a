use Rattle.std.proofs.Common.{ap, ◌∙◌, ◌+◌, ◌-◌}
use borrow.Rule.Slice.PartMut.{put_mid}
use native.Mathlib.Omega.{arith}
use Rattle.text_append.proofs.AddedLaws.{copied-part, placed, unwritten}
use Rattle.text_append.proofs.append.Goals as goal

pub returns-then-at-room : goal.returns-then-at-room
returns-then-at-room c =
    placed c.args.out.now c.args.text.now _ c.args.at _ (omega arith) c.reach-end.ensures
    (ap (λ z. put_mid c.args.at (c.args.at + c.min-part.result - c.args.at) c.args.out.now z) c.copy_from_slice.ensures.after
    ∙ copied-part c.args.out.now c.args.text.now c.args.at c.min-part.result (grind arith) (grind arith))

pub returns-else-at-room : goal.returns-else-at-room
returns-else-at-room c =
    placed c.args.out.now c.args.text.now _ c.args.at _ (omega arith) c.reach-end.ensures
    (unwritten c.args.out.now c.args.text.now c.args.at (grind arith))
