-- `all_marks` meets its contract: the loop carries along the marks that are made and what is left to walk.
use native.Mathlib.Omega.{arith}
use mathlib.Core.Path.{refl}
use Rattle.spec_policy.specs.Steps.{step_of}
use Rattle.spec_policy.specs.Records.{step_record_at}
use Rattle.check_modes.proofs.ModeSteps.{room-met}
use Rattle.check_spots.proofs.LeafLoops.{wider, marking-start, marking-next, marking-end}
use Rattle.check_spots.proofs.all_marks.Goals as goal

pub loop-o-init : goal.loop-o-init
loop-o-init c = marking-start _ _ _ _ c.first_mark-seen.ensures

pub lead_all-seen-requires : goal.lead_all-seen-requires
lead_all-seen-requires c = (
  omega (arith, c.requires.count_in_bounds),
  record {
    low = c.row_at.ensures.le_kind.0;
    high = c.row_at.ensures.le_kind.1;
    room = λ m.
        room-met (step_of (step_record_at _ _)) c.row_at.result.kind c.row_at.result.first c.row_at.result.second c.row_at.ensures.row (wider c.args.count 64 c.requires.count_in_bounds.1 _ (c.requires.targets_in c.loop-o.o c.loop-o-test.true)) m _ refl;
  },
)

pub loop-o-preserved : goal.loop-o-preserved
loop-o-preserved c = marking-next _ _ _ c.loop-o.o c.loop-o.seen _ c.loop-o-test.true c.loop-o.invariant (c.lead_all-seen.ensures _ c.loop-o.invariant.ks c.row_at.ensures.row c.loop-o.invariant.agrees)

pub returns : goal.returns
returns c = marking-end _ _ _ c.loop-o.o c.loop-o.seen c.loop-o-test.false c.loop-o.invariant
