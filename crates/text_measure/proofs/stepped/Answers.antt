-- `stepped` meets its contract: a step astray, or one more.
use Rattle.text_measure.proofs.CountLaws.{counted-astray, counted_step}
use Rattle.text_measure.proofs.stepped.Goals as goal

pub returns-then-t-eq0 : goal.returns-then-t-eq0
returns-then-t-eq0 c = λ form xs l h. counted-astray c.args.t form xs l h c.if-t-eq0.true

pub returns : goal.returns
returns c = λ form xs l h. counted_step c.args.t form xs l h c.if-t-eq0.false
