-- Three texts one after the other, or four.
use Rattle.std.proofs.Common.{ap}
use Rattle.spec_text.specs.Words.{ascii}
use Rattle.spec_text.specs.Where.{step_words}
use Rattle.text_append.proofs.AddedLaws.{joined, named}
use Rattle.text_spot.proofs.append_step.Goals as goal

pub returns-in-None : goal.returns-in-None
unfolding step_words ascii
returns-in-None c = named (joined c.append-begun.ensures (joined c.append_number-numbered.ensures c.append.ensures)) (ap (step_words c.args.s) c.in-None.ensures)

pub returns-in-Some : goal.returns-in-Some
unfolding step_words ascii
returns-in-Some c =
    named (joined c.append-begun.ensures (joined c.append_number-numbered-in-Some.ensures (joined c.append-owned.ensures c.append_number.ensures)))
    (ap (step_words c.args.s) c.in-Some.ensures)
