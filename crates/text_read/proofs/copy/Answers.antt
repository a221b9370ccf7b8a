-- `copy` meets its contract and ends: what is left to be written is what was to be written.
use native.Mathlib.Omega.{arith}
use mathlib.Core.Path.{refl, ◌∙◌}
use Rattle.text_read.proofs.ReadLaws.{ready, written_on, written-end}
use Rattle.text_read.proofs.copy.Goals as goal

pub loop-at-init : goal.loop-at-init
loop-at-init c = (omega arith, refl, refl, refl, c.requires)

pub copy_line-p-requires : goal.copy_line-p-requires
copy_line-p-requires c = ready c.args.text.now c.loop-at.at c.line_at-read.result.line c.line_at-read.result.next c.line_at-read.ensures c.loop-at.p.nodes c.loop-at.p.steps c.loop-at.nodes c.loop-at.steps c.loop-at.invariant.4

pub loop-at-smaller : goal.loop-at-smaller
loop-at-smaller c = omega (arith, c.line_at-read.ensures.after, c.line_at-read.ensures.inside)

pub loop-at-preserved : goal.loop-at-preserved
loop-at-preserved c = (
  c.line_at-read.ensures.inside,
  c.copy_line-p.auto.nodes ∙ c.loop-at.invariant.1,
  c.copy_line-p.auto.steps ∙ c.loop-at.invariant.2,
  c.loop-at.invariant.3
      ∙ written_on c.args.text.now c.loop-at.at c.line_at-read.result.line c.line_at-read.result.next c.line_at-read.ensures c.loop-at.p.nodes c.loop-at.p.steps c.loop-at.nodes c.loop-at.steps
      ∙ c.copy_line-p.ensures.same,
  c.copy_line-p.ensures.roomy,
)

pub shape_of-nodes : goal.shape_of-nodes
shape_of-nodes c = c.loop-at.invariant.1

pub shape_of-steps : goal.shape_of-steps
shape_of-steps c = c.loop-at.invariant.2

pub returns : goal.returns
returns c = c.loop-at.invariant.3 ∙ written-end c.args.text.now c.loop-at.at c.loop-at.p.nodes c.loop-at.p.steps c.loop-at.nodes c.loop-at.steps (omega arith)
