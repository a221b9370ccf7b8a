-- `byte_mark` meets its contract.
use borrow.Author.Rules.{rules}
use Rattle.text_words.specs.Scanned.{mark_of}
use Rattle.text_words.proofs.MarkLaws.{mark-blank, mark-brace, mark-hash, mark-letter}
use Rattle.text_words.proofs.byte_mark.Goals as goal

pub returns-in-9 : goal.returns-in-9
unfolding mark_of
returns-in-9 c = mark-blank c.args.b c.in-9.is

pub returns-in-123 : goal.returns-in-123
unfolding mark_of
returns-in-123 c = mark-brace c.args.b c.in-123.is

pub returns-in-35 : goal.returns-in-35
unfolding mark_of
returns-in-35 c = mark-hash c.args.b c.in-35.is

pub returns-in_default : goal.returns-in_default
unfolding mark_of
returns-in_default c = mark-letter c.args.b (search rules) (search rules) (search rules)
