use Rattle.std.proofs.Common.{arith}
use Rattle.text_append.proofs.AddedLaws.{nothing, joined, named}
use Rattle.text_tally.proofs.LineLaws.{actions-next, actions-over}
use Rattle.text_tally.proofs.action_lines.Goals as goal

pub loop-a-preserved : goal.loop-a-preserved
loop-a-preserved c = λ x r h. c.loop-a.invariant x r (named (joined c.action_line-end.ensures h) (actions-next _ c.loop-a.a (omega arith)))

pub returns : goal.returns
returns c = c.loop-a.invariant _ _ (named (nothing _ _) (actions-over _ c.loop-a.a (omega arith)))
