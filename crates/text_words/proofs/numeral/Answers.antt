-- `numeral` meets its contract: what is left of the number is read after what was read of it.
use Prim.Native.Nat.{ℕ, ◌+◌, ◌*◌}
use native.Mathlib.Omega.{arith}
use mathlib.Core.Path.{refl, sym, ap, ◌∙◌}
use Rattle.spec_text.specs.Numerals.{numeral}
use Rattle.text_words.specs.Scanned.{value_of}
use Rattle.text_words.proofs.NumberLaws.{not-digit, too_large, digit-more, all_digits}
use Rattle.text_words.proofs.numeral.Goals as goal

pub loop-b-init : goal.loop-b-init
unfolding numeral
loop-b-init c = (omega arith, refl)

pub returns-then-not-is_ascii_digit : goal.returns-then-not-is_ascii_digit
unfolding value_of
returns-then-not-is_ascii_digit c =
    sym (c.loop-b.invariant.1 ∙ not-digit c.args.word.now c.args.most c.loop-b.n c.loop-b.b-index c.loop-b-test.true (sym c.is_ascii_digit.ensures.value ∙ c.if-not-is_ascii_digit.true))

pub returns-then-n-most : goal.returns-then-n-most
unfolding value_of
returns-then-n-most c =
    sym (c.loop-b.invariant.1
    ∙ too_large c.args.word.now c.args.most c.loop-b.n c.loop-b.b-index c.loop-b-test.true (sym c.is_ascii_digit.ensures.value ∙ c.if-not-is_ascii_digit.false) (c.loop-b.n * 10 + c.from.result)
    (ap (λ (x : ℕ). c.loop-b.n * 10 + x) c.from.ensures) c.if-n-most.true)

pub loop-b-preserved : goal.loop-b-preserved
loop-b-preserved c = (
  c.if-n-most.false,
  c.loop-b.invariant.1
      ∙ digit-more c.args.word.now c.args.most c.loop-b.n c.loop-b.b-index c.loop-b-test.true (sym c.is_ascii_digit.ensures.value ∙ c.if-not-is_ascii_digit.false) (c.loop-b.n * 10 + c.from.result)
      (ap (λ (x : ℕ). c.loop-b.n * 10 + x) c.from.ensures) c.if-n-most.false,
)

pub returns : goal.returns
unfolding value_of
returns c = sym (c.loop-b.invariant.1 ∙ all_digits c.args.word.now c.args.most c.loop-b.n c.loop-b.b-index c.loop-b-test.false)
