-- `branches_taken` meets its contract: only a case is tested.
use mathlib.Core.Path.{ap, ◌∙◌}
use mathlib.Core.Bool.{◌&&◌, not}
use mathlib.Core.List.{[], ◌∷◌}
use Rattle.actions.specs.Sets.{is_empty, common, difference}
use Rattle.actions.specs.declared.ActionSet.{ActionSet}
use Rattle.spec_policy.specs.Steps.{Step}
use Rattle.spec_check.specs.Possible.{branches_taken}
use Rattle.check_spots.proofs.ByKind.{asks, others-taken}
use Rattle.check_spots.proofs.branches_taken.Goals as goal

pub returns-in-Acase : goal.returns-in-Acase
unfolding branches_taken
returns-in-Acase c =
    let a = asks _ c.in-Acase.ensures in
    let set = c.set_in-asked.ensures a.set a.operand in
    (λ i. not ((c.is_empty.ensures ∙ ap is_empty (c.common.ensures ∙ ap (λ (s : ActionSet). common c.args.here.bits s.bits) set)) i) && not ((c.is_empty-in-Acase.ensures ∙ ap is_empty (c.difference.ensures ∙ ap (λ (s : ActionSet). difference c.args.here.bits s.bits) set)) i))
    ∙ ap (λ (k : Step). branches_taken (c.args.here.bits ∷ []) 0 k) a.step

pub returns-in_default : goal.returns-in_default
returns-in_default c = others-taken _ 0 _ c.step_at.ensures c.in_default.not-Acase
