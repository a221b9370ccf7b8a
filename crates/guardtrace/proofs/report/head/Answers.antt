-- `head` meets its contract: five texts, one after another.
use Rattle.spec_text.specs.Words.{ascii}
use Rattle.text_append.proofs.AddedLaws.{joined}
use Rattle.guardtrace.specs.Shown.{heading}
use Rattle.guardtrace.proofs.report.head.Goals as goal

pub returns : goal.returns
unfolding heading ascii
returns c =
    joined c.append_numbered-first.ensures
    (joined c.append_numbered-second.ensures
    (joined c.append-third.ensures
    (joined c.append_status-end.ensures c.append_stop.ensures)))
