-- `lead` meets its contract and ends: the steps counted, and those that are left before the next node.
use native.Mathlib.Omega.{arith}
use lib.ListN.{drop}
use Rattle.spec_text.specs.Reading.{read_lines}
use Rattle.text_read.specs.Written.{leads}
use Rattle.text_read.proofs.LeadLaws.{lead-on, lead-end}
use Rattle.text_read.proofs.lead.Goals as goal

pub loop-i-init : goal.loop-i-init
loop-i-init c = (omega arith, omega arith, omega arith)

pub returns-in_default : goal.returns-in_default
unfolding leads
returns-in_default c =
    let e = lead-on c.args.text.now c.loop-i.i c.line_at-read.result.line c.line_at-read.result.next c.line_at-read.ensures in
    omega (arith, c.loop-i.invariant.2, e, c.in_default.ensures.is (read_lines (drop c.line_at-read.result.next c.args.text.now)))

pub overflow_add-count : goal.overflow_add-count
overflow_add-count c = omega (arith, c.loop-i.invariant.1, c.in-Some.ensures.few)

pub loop-i-smaller : goal.loop-i-smaller
loop-i-smaller c = omega (arith, c.line_at-read.ensures.after, c.line_at-read.ensures.inside)

pub loop-i-preserved : goal.loop-i-preserved
unfolding leads
loop-i-preserved c =
    let e = lead-on c.args.text.now c.loop-i.i c.line_at-read.result.line c.line_at-read.result.next c.line_at-read.ensures in (
      c.line_at-read.ensures.inside,
      omega (arith, c.loop-i.invariant.1, c.in-Some.ensures.few, c.line_at-read.ensures.after),
      omega (arith, c.loop-i.invariant.2, e, c.in-Some.ensures.is (read_lines (drop c.line_at-read.result.next c.args.text.now))),
    )

pub returns : goal.returns
returns c = omega (arith, c.loop-i.invariant.2, lead-end c.args.text.now c.loop-i.i (omega arith))
