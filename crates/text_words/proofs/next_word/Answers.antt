-- `next_word` meets its contract: none, a remark, a brace, or letters.
use Prim.Native.Nat.{◌<◌}
use native.Mathlib.Omega.{arith}
use lib.ListN.{length}
use mathlib.Core.Path.{sym, ap, ◌∙◌}
use Rattle.text_words.specs.Scanned.{mark_of, word_and}
use Rattle.text_words.proofs.MarkLaws.{hash-left}
use Rattle.text_words.proofs.ScanLaws.{next-none, next-remark, next-brace, next-letters}
use Rattle.text_words.proofs.next_word.Goals as goal

pub returns-then-start-line-clause-is : goal.returns-then-start-line-clause-is
unfolding word_and mark_of
returns-then-start-line-clause-is c = next-none c.args.line.now c.args.at c.run_end-start.result c.run_end-start.ensures (omega arith)

pub returns-in-Brace-clause-is : goal.returns-in-Brace-clause-is
unfolding word_and mark_of
returns-in-Brace-clause-is c = next-brace c.args.line.now c.args.at c.run_end-start.result c.run_end-start.ensures (omega arith) (sym c.byte_mark.ensures ∙ ap mark_of c.in-Brace.is)

pub returns-in-Letter-clause-is : goal.returns-in-Letter-clause-is
unfolding word_and mark_of
returns-in-Letter-clause-is c =
    next-letters c.args.line.now c.args.at c.run_end-start.result c.run_end-start.ensures (omega arith) (sym c.byte_mark.ensures ∙ ap mark_of c.in-Letter.is)
    c.run_end.result c.run_end.ensures

pub returns-in-Hash-clause-is : goal.returns-in-Hash-clause-is
unfolding word_and mark_of
returns-in-Hash-clause-is c =
    let l : c.run_end-start.result < length c.args.line.now = omega arith in
    next-remark c.args.line.now c.args.at c.run_end-start.result c.run_end-start.ensures l (hash-left c.in-Hash.is c.byte_mark.ensures (c.run_end-start.ensures.stops l))
