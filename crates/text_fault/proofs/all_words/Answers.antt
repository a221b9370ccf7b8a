use Rattle.text_append.proofs.AddedLaws.{nothing, joined, named}
use Rattle.text_fault.specs.Places.{words_to}
use Rattle.text_fault.proofs.UsageLaws.{words_more}
use Rattle.text_fault.proofs.all_words.Goals as goal

pub loop-i-init : goal.loop-i-init
unfolding words_to
loop-i-init c = nothing _ _

pub loop-i-preserved : goal.loop-i-preserved
loop-i-preserved c = named (joined c.loop-i.invariant (joined c.separate-begun.ensures c.append-end.ensures)) (words_more c.loop-i.i _ c.form_at.ensures.name)
