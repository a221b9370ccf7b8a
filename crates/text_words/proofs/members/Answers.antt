-- `members` meets its contract: the words that are left are read after the actions that were.
use native.Mathlib.Omega.{arith}
use mathlib.Core.Path.{refl, sym, ap, ◌∙◌}
use lib.ListN.{drop}
use Rattle.actions.specs.Sets.{ActionSet, EMPTY, union}
use Rattle.spec_text.specs.Words.{words}
use Rattle.spec_text.specs.Reading.{members}
use Rattle.text_words.specs.Scanned.{word_and, value_of, taken_of}
use Rattle.text_words.proofs.ScanLaws.{word-first}
use Rattle.text_words.proofs.TakenLaws.{same_as, numeral-bound, members-none, members-end, members-bad, members-more}
use Rattle.text_words.proofs.members.Goals as goal

pub loop-word-init : goal.loop-word-init
unfolding EMPTY
loop-word-init c = (omega arith, refl)

pub returns-then-eq-clause-is : goal.returns-then-eq-clause-is
unfolding taken_of
returns-then-eq-clause-is c =
    let f = word-first c.args.line.now c.loop-word.i c.in-Some.word c.in-Some.ensures.is c.in-Some.ensures.inside.1 in
    sym (c.loop-word.invariant.1 ∙ members-end c.loop-word.set.bits _ _ _ f (same_as _ _ c.eq.ensures c.as_slice.ensures ∙ c.if-eq.true))

pub returns-in_err-action-clause-is : goal.returns-in_err-action-clause-is
unfolding taken_of value_of
returns-in_err-action-clause-is c =
    let f = word-first c.args.line.now c.loop-word.i c.in-Some.word c.in-Some.ensures.is c.in-Some.ensures.inside.1 in
    ap (taken_of c.args.line.now) c.from_residual.ensures
    ∙ sym (c.loop-word.invariant.1 ∙ members-bad c.loop-word.set.bits _ _ _ f (same_as _ _ c.eq.ensures c.as_slice.ensures ∙ c.if-eq.false) (sym c.in_err-action.ensures))

pub overflow_cast-action : goal.overflow_cast-action
unfolding value_of
overflow_cast-action c = omega (arith, numeral-bound 63 _ _ (sym c.in_ok-action.ensures))

pub loop-word-preserved : goal.loop-word-preserved
unfolding value_of
loop-word-preserved c =
    let f = word-first c.args.line.now c.loop-word.i c.in-Some.word c.in-Some.ensures.is c.in-Some.ensures.inside.1 in (
      c.in-Some.ensures.inside.2,
      c.loop-word.invariant.1 ∙ members-more c.loop-word.set.bits _ _ _ f (same_as _ _ c.eq.ensures c.as_slice.ensures ∙ c.if-eq.false) _ (sym c.in_ok-action.ensures)
          ∙ ap (λ (s : ActionSet). members s (words (drop c.in-Some.word.end c.args.line.now))) (sym (c.union-set.ensures ∙ ap (union c.loop-word.set.bits) c.single.ensures)),
    )

pub returns-clause-is : goal.returns-clause-is
unfolding taken_of word_and
returns-clause-is c = sym (c.loop-word.invariant.1 ∙ members-none c.loop-word.set.bits _ c.in_default.ensures.is)
