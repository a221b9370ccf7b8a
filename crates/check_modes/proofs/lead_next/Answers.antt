-- `lead_next` meets its contract: a next counts as reached idle.
use mathlib.Core.Path.{sym, ap, ◌∙◌, subst}
use mathlib.Core.List.{List, ◌++◌}
use lib.Dec.{lit<, lit≤}
use Prim.Native.Nat.{ℕ}
use Rattle.spec_policy.specs.Steps.{next, targets}
use Rattle.spec_check.specs.Modes.{idle, Mark}
use Rattle.check_modes.specs.Table.{mode_number, led_by}
use Rattle.check_modes.specs.Marks.{Agrees}
use Rattle.check_modes.proofs.Table.{tells-next}
use Rattle.check_modes.proofs.ModeSteps.{two-inside, room-met, adds-agree, aside-by, next-led}
use Rattle.check_modes.proofs.lead_next.Goals as goal

pub entry-requires : goal.entry-requires
entry-requires c = (lit≤ tt, lit≤ tt, lit< tt)

pub lead_in-requires : goal.lead_in-requires
unfolding mode_number targets
lead_in-requires c = room-met (next c.args.take c.args.done) 1 c.args.take c.args.done (tells-next c.args.take c.args.done) (two-inside _ _ c.requires.1 c.requires.2) idle _ c.entry.ensures

pub returns : goal.returns
unfolding mode_number
returns c =
    record {
      agrees = λ ks g. next-led c.args.take c.args.done c.args.o ks _ (subst (λ (l : List Mark). Agrees c.lead_in.result.marks (l ++ ks))
          (ap (λ (x : ℕ). led_by x c.args.take c.args.done) c.entry.ensures ∙ sym (tells-next c.args.take c.args.done idle).led) (adds-agree _ _ _ ks c.lead_in.ensures.adds g));
      aside = aside-by (next c.args.take c.args.done) 1 c.args.take c.args.done (tells-next c.args.take c.args.done) idle c.entry.ensures _ _ c.lead_in.ensures.adds;
    }
