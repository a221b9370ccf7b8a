-- `measure` meets its contract and ends: what was counted, with what is left to read, is the whole.
use native.Mathlib.Omega.{arith}
use mathlib.Core.Path.{◌≡◌, refl, subst}
use Rattle.std.specs.Prelude.{Option, Some, None, Ok, Err}
use Rattle.std.specs.Option.{ok_or}
use Rattle.std.proofs.lemmas.Result.{err_from_is_err_and}
use Rattle.text_line.specs.Lines.{line_meant}
use Rattle.text_measure.specs.declared.Tally.{Tally}
use Rattle.text_measure.specs.declared.BadLine.{BadLine}
use Rattle.text_measure.specs.Measures.{Counted, measured}
use Rattle.text_measure.proofs.CountLaws.{tallied-none, tallied-more, tallied-wrong, tallied-all}
use Rattle.text_measure.proofs.measure.Goals as goal

pub loop-at-init : goal.loop-at-init
loop-at-init c = tallied-none c.args.text.now

pub overflow_add-line : goal.overflow_add-line
overflow_add-line c = omega (arith, c.loop-at.invariant.lines)

pub loop-at-smaller : goal.loop-at-smaller
loop-at-smaller c = omega (arith, c.line_at-read.ensures.after, c.line_at-read.ensures.inside)

no-tally : (o : Option Tally) (e d : BadLine) → Err d ≡ ok_or o e → (o ≡ None) × (d ≡ e)
no-tally None e d q = (refl, cc)
no-tally (Some t) e d q = absurd (cc)

some-tally : (o : Option Tally) (e : BadLine) (t : Tally) → Ok t ≡ ok_or o e → o ≡ Some t
some-tally None e t q = absurd (cc)
some-tally (Some u) e t q = cc

pub returns-in_err-tally : goal.returns-in_err-tally
unfolding measured
returns-in_err-tally c =
    let p = err_from_is_err_and c.from_residual.result c.from_residual.ensures.1 in
    let q = no-tally c.counted.result (record { 0 = c.loop-at.line }) c.in_err-tally.field-0.0 c.in_err-tally.ensures.value in
    rw (p.1, p.2, q.1)
    (tallied-wrong c.args.text.now c.loop-at.tally c.loop-at.at c.loop-at.line c.loop-at.invariant c.line_at-read.result.line c.line_at-read.result.next c.line_at-read.ensures
    (subst (λ (r : Option Tally). Counted (line_meant c.line_at-read.result.line) c.loop-at.tally r) q.0 c.counted.ensures))

pub loop-at-preserved : goal.loop-at-preserved
loop-at-preserved c =
    let q = some-tally c.counted.result (record { 0 = c.loop-at.line }) c.in_ok-tally.tally c.in_ok-tally.ensures.value in
    tallied-more c.args.text.now c.loop-at.tally c.loop-at.at c.loop-at.line c.loop-at.invariant c.line_at-read.result.line c.line_at-read.result.next c.line_at-read.ensures c.in_ok-tally.tally
    (subst (λ (r : Option Tally). Counted (line_meant c.line_at-read.result.line) c.loop-at.tally r) q c.counted.ensures)

pub returns : goal.returns
unfolding measured
returns c = tallied-all c.args.text.now c.loop-at.tally c.loop-at.at c.loop-at.line c.loop-at.invariant (omega arith)
