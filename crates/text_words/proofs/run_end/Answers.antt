-- `run_end` meets its contract.
use native.Mathlib.Omega.{arith}
use Rattle.std.proofs.Common.{below_more}
use mathlib.Core.Path.{sym, ◌∙◌}
use Rattle.text_words.proofs.MarkLaws.{marks_same, marks-differ}
use Rattle.text_words.proofs.run_end.Goals as goal

pub returns-then-ne : goal.returns-then-ne
returns-then-ne c = record {
  after = omega arith;
  inside = omega arith;
  each = c.loop-i.invariant;
  stops = λ l e. marks-differ _ _ (sym c.ne.ensures ∙ c.if-ne.true) (c.byte_mark.ensures ∙ e);
}

pub loop-i-preserved : goal.loop-i-preserved
loop-i-preserved c = below_more _ _ c.loop-i.invariant (λ l. sym c.byte_mark.ensures ∙ marks_same _ _ (sym c.ne.ensures ∙ c.if-ne.false))

pub returns : goal.returns
returns c = record { after = omega arith; inside = omega arith; each = λ k p q. c.loop-i.invariant k (omega arith) q; stops = λ l e. omega arith }
