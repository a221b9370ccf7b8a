-- `unfit_step` meets its contract: the loop carries along what is left of the search.

use native.Mathlib.Omega.{arith}
use mathlib.Core.Path.{refl, sym, ◌∙◌}
use Rattle.spec_policy.specs.Records.{node_place}
use Rattle.spec_policy.proofs.FirstLoop.{all_left, one_less, one_found, none_left}
use Rattle.faults.specs.Meaning.{spot_of}
use Rattle.check_layout.proofs.Unfit.{step-list}
use Rattle.check_layout.proofs.unfit_step.Invariants.{record-of, numbered}
use Rattle.check_layout.proofs.unfit_step.Goals as goal

pub loop-i-init : goal.loop-i-init
loop-i-init c = all_left numbered (record-of _ _) _ _

pub overflow_add-at : goal.overflow_add-at
unfolding node_place
overflow_add-at c = omega (arith, c.node_place-at.ensures)

pub step_fits-requires : goal.step_fits-requires
unfolding node_place
step_fits-requires c = omega (arith, c.node_place-at.ensures)

pub returns-then-not-step_fits : goal.returns-then-not-step_fits
returns-then-not-step_fits c =
    c.on_record.ensures
    ∙ one_found numbered (record-of _ _) _ _ c.loop-i.i _ refl (omega arith) c.loop-i.invariant (sym c.step_fits.ensures ∙ c.if-not-step_fits.true)
    ∙ step-list _ c.args.file.framed _ c.node_place-at.ensures

pub loop-i-preserved : goal.loop-i-preserved
loop-i-preserved c = one_less numbered (record-of _ _) _ _ c.loop-i.i (omega arith) c.loop-i.invariant (sym c.step_fits.ensures ∙ c.if-not-step_fits.false)

pub returns : goal.returns
unfolding spot_of
returns c =
    none_left numbered (record-of _ _) _ _ c.loop-i.i (omega arith) c.loop-i.invariant
    ∙ step-list _ c.args.file.framed _ c.node_place-at.ensures
