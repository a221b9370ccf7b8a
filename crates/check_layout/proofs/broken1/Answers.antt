-- `broken1` meets its contract: a file shorter than its front is broken, and of a longer one the length field is read.
use borrow.Author.Rules.{rules}
use Rattle.check_layout.proofs.Fields.{front-short, front_read}
use Rattle.check_layout.proofs.broken1.Goals as goal

pub returns-then-policy-lt-FRONT_SIZE : goal.returns-then-policy-lt-FRONT_SIZE
returns-then-policy-lt-FRONT_SIZE c = front-short _ (search rules)

pub returns : goal.returns
returns c = front_read _ _ (search rules) c.word16.ensures.0
