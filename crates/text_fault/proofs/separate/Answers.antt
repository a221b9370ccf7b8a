-- `separate` meets its contract: before the first form, before the last, or before another.
use Rattle.spec_text.specs.Words.{ascii}
use Rattle.text_append.proofs.AddedLaws.{nothing, named}
use Rattle.text_fault.specs.Places.{between}
use Rattle.text_fault.proofs.UsageLaws.{between_first, between-last, between-others}
use Rattle.text_fault.proofs.separate.Goals as goal

pub returns-then-i-eq0 : goal.returns-then-i-eq0
unfolding between
returns-then-i-eq0 c = named (nothing c.args.out.now c.args.at) (between_first c.args.i c.if-i-eq0.true)

pub returns-then-i-eq-FORM_COUNT : goal.returns-then-i-eq-FORM_COUNT
unfolding ascii
returns-then-i-eq-FORM_COUNT c = named c.append.ensures (between-last c.args.i c.if-i-eq0.false c.if-i-eq-FORM_COUNT.true)

pub returns-else-i-eq-FORM_COUNT : goal.returns-else-i-eq-FORM_COUNT
unfolding ascii
returns-else-i-eq-FORM_COUNT c = named c.append-else-i-eq-FORM_COUNT.ensures (between-others c.args.i c.if-i-eq0.false c.if-i-eq-FORM_COUNT.false)
