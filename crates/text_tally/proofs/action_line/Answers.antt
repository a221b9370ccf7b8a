-- No count, or a line.
use Rattle.text_append.proofs.AddedLaws.{nothing, named}
use Rattle.text_tally.proofs.LineLaws.{action-none, action-some}
use Rattle.text_tally.proofs.action_line.Goals as goal

pub returns-then-accepted-suppressed-eq0 : goal.returns-then-accepted-suppressed-eq0
returns-then-accepted-suppressed-eq0 c = named (nothing _ _) (action-none c.args.counts.now c.args.a _ _ _ c.count_at-accepted.ensures.0 c.count_at-suppressed.ensures.0 c.count_at-inserted.ensures.0 c.if-accepted-suppressed-eq0.true)

pub returns-else-accepted-suppressed-eq0 : goal.returns-else-accepted-suppressed-eq0
returns-else-accepted-suppressed-eq0 c = named c.say_action.ensures (action-some c.args.counts.now c.args.a _ _ _ c.count_at-accepted.ensures.0 c.count_at-suppressed.ensures.0 c.count_at-inserted.ensures.0 c.if-accepted-suppressed-eq0.false)
