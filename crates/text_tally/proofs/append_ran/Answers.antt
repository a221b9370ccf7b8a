use Rattle.spec_text.specs.Words.{ascii}
use Rattle.text_append.proofs.AddedLaws.{joined, named}
use Rattle.text_tally.proofs.LineLaws.{ran-never, ran-some}
use Rattle.text_tally.proofs.append_ran.Goals as goal

pub returns-then-count-eq0 : goal.returns-then-count-eq0
unfolding ascii
returns-then-count-eq0 c = named c.append.ensures (ran-never c.args.count c.if-count-eq0.true)

pub returns-else-count-eq0 : goal.returns-else-count-eq0
unfolding ascii
returns-else-count-eq0 c = named (joined c.append-told.ensures c.append_number.ensures) (ran-some c.args.count c.if-count-eq0.false)
