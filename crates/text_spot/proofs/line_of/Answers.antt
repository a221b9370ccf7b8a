-- `line_of` meets its contract and ends: the text is read line by line, and each record of the sort is one fewer to pass.
use Prim.Native.Nat.{ℕ, ◌+◌}
use native.Mathlib.Omega.{arith}
use mathlib.Core.Path.{sym, ◌∙◌, subst}
use Rattle.text_forms.specs.Meant.{sort_of}
use Rattle.text_spot.proofs.LineLaws.{Sought, sought-none, not_there, there, sought-next, sought-other}
use Rattle.text_spot.proofs.line_of.Goals as goal
use Rattle.text_spot.proofs.line_of.Goals.{then-is_of+else-left-eq0, else-is_of}

pub loop-at-init : goal.loop-at-init
loop-at-init c = sought-none c.args.text.now (sort_of c.args.sought.sort) c.args.sought.number

pub is_of-requires : goal.is_of-requires
is_of-requires c = c.line_at-read.ensures.in_table

pub returns-then-left-eq0 : goal.returns-then-left-eq0
returns-then-left-eq0 c =
    there c.args.text.now (sort_of c.args.sought.sort) c.args.sought.number c.loop-at.left c.loop-at.at c.loop-at.line c.loop-at.invariant c.line_at-read.result.line c.line_at-read.result.next c.line_at-read.ensures
    (sym c.is_of.ensures ∙ c.if-is_of.true) c.if-left-eq0.true

pub overflow_add-line : goal.overflow_add-line
overflow_add-line c = omega (arith, c.loop-at.invariant.lines)

pub loop-at-smaller : goal.loop-at-smaller
loop-at-smaller c = omega (arith, c.line_at-read.ensures.after, c.line_at-read.ensures.inside)

pub loop-at-preserved : goal.loop-at-preserved
loop-at-preserved c =
    let r = c.is_of.ensures in
    let Next : ℕ → Type 0 = λ left. Sought c.args.text.now (sort_of c.args.sought.sort) c.args.sought.number left c.line_at-read.result.next (c.loop-at.line + 1) in
    elim c.if-is_of.branch [
      | then-is_of+else-left-eq0 w ↦ subst Next (sym w.left-is) (sought-next c.args.text.now (sort_of c.args.sought.sort) c.args.sought.number c.loop-at.left c.loop-at.at c.loop-at.line c.loop-at.invariant c.line_at-read.result.line c.line_at-read.result.next c.line_at-read.ensures
          (sym r ∙ w.if-is_of.true) w.if-left-eq0.false)
      | else-is_of w ↦ subst Next (sym w.left-is) (sought-other c.args.text.now (sort_of c.args.sought.sort) c.args.sought.number c.loop-at.left c.loop-at.at c.loop-at.line c.loop-at.invariant c.line_at-read.result.line c.line_at-read.result.next c.line_at-read.ensures
          (sym r ∙ w.if-is_of.false))
    ]

pub returns : goal.returns
returns c = not_there c.args.text.now (sort_of c.args.sought.sort) c.args.sought.number c.loop-at.left c.loop-at.at c.loop-at.line c.loop-at.invariant (omega arith)
