use Rattle.std.proofs.Common.{◌≡◌, ◌+◌, ◌-◌, ℕ, [], refl, ap, ◌∙◌, get_or, drop, arith}
use Rattle.spec_text.specs.Words.{lines}
use Rattle.text_fault.specs.Expected.{line_number}
use Rattle.text_fault.proofs.StartLaws.{start-on, start-end}
use Rattle.text_fault.proofs.line_start.Goals as goal

pub loop-line-init : goal.loop-line-init
unfolding line_number
loop-line-init c = (omega arith, refl)

pub returns-then-end-text : goal.returns-then-end-text
returns-then-end-text c = record {
  inside = c.line_end-end.ensures.inside;
  is = c.loop-line.invariant.1 ∙ start-end c.args.text.now c.loop-line.at c.line_end-end.result c.line_end-end.ensures (c.args.n - c.loop-line._line) (omega arith) c.if-end-text.true;
}

pub loop-line-preserved : goal.loop-line-preserved
loop-line-preserved c =
    let k = c.args.n - c.loop-line._line in
    let e : k - 1 ≡ c.args.n - (c.loop-line._line + 1) = omega arith in
    let l = c.line_end-end.ensures.inside in (
      omega (arith, l),
      c.loop-line.invariant.1 ∙ start-on c.args.text.now c.loop-line.at c.line_end-end.result c.line_end-end.ensures k (omega arith) (omega (arith, l))
          ∙ ap (λ (j : ℕ). get_or (lines (drop (c.line_end-end.result + 1) c.args.text.now)) j []) e,
    )
