-- `tell_passed` meets its contract: two lines of sets, and that of the spread.
use Rattle.spec_text.specs.Words.{ascii}
use Rattle.text_append.proofs.AddedLaws.{joined}
use Rattle.guardcheck.specs.Shown.{passed_text}
use Rattle.guardcheck.proofs.ShownLaws.{spread-named}
use Rattle.guardcheck.proofs.tell_passed.Goals as goal

pub returns : goal.returns
unfolding passed_text ascii
returns c = spread-named _ _ (joined c.append_named-first.ensures (joined c.append_named-second.ensures (joined c.append-third.ensures (joined c.append_number-end.ensures c.append.ensures)))) c.from.ensures
