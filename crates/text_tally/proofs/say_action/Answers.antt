-- `say_action` meets its contract: five texts, one after another.
use Rattle.spec_text.specs.Words.{ascii}
use Rattle.text_append.proofs.AddedLaws.{joined}
use Rattle.text_tally.specs.Lines.{action_says}
use Rattle.text_tally.proofs.say_action.Goals as goal

pub returns : goal.returns
unfolding ascii action_says
returns c =
    joined c.append_numbered-first.ensures
    (joined c.append_numbered-second.ensures
    (joined c.append_numbered-third.ensures
    (joined c.append_numbered-end.ensures c.append.ensures)))
