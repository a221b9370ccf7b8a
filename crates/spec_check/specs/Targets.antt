-- Rule 6: where the steps lead.
use Rattle.std.specs.Prelude.{ℕ, Bool, true, false, ◌&&◌, ◌||◌, List, map, eqb, ltb, length, get_or}
use Rattle.actions.specs.Sets.{ActionSet, within}
use Rattle.spec_policy.specs.Bytes.{Bytes}
use Rattle.spec_policy.specs.Lists.{summed, every, every_at}
use Rattle.spec_policy.specs.Records.{step_count, nodes}
use Rattle.spec_policy.specs.Spots.{Spot, on_record, somewhere, first_off}
use Rattle.spec_policy.specs.Steps.{Step, next, ok, sup, ins, acase, spend, end, halt, targets, is_next}
use Rattle.spec_policy.specs.Tree.{steps_owned, nodes_with_steps}
use Rattle.spec_check.specs.Leaves.{first_in_leaves}

-- "a target is outside its leaf; or a target is not later than its own step and is no next": not so, of target t of the step at o
unfoldable pub target_fits : List Step → ℕ → ℕ → Bool
target_fits code o t = ltb t (length code) && (ltb o t || is_next (get_or code t halt))

-- "or an acase set isn't inside the leaf's set": not so, of a step
unfoldable pub asks_within : ActionSet → Step → Bool
asks_within r (next t d) = true
asks_within r (ok t) = true
asks_within r (sup t) = true
asks_within r (ins b t) = true
asks_within r (acase s y z) = within s r
asks_within r (spend m y z) = true
asks_within r end = true
asks_within r halt = true

-- all of this, of the step k at o
unfoldable pub leads_well : ActionSet → List Step → ℕ → Step → Bool
leads_well r code o k = asks_within r k && every (target_fits code o) (targets k)

unfoldable pub targets_fit : ActionSet → List Step → Bool
unfolding target_fits leads_well
targets_fit r code = every_at (leads_well r code) 0 code

-- 6: "leaf step counts don't sum to m; or ..". Where: the step, counted over the whole file; "for 6 with a wrong sum it is 0", whatever else is wrong.
unfoldable pub wrong6 : Bytes → Spot
wrong6 file = elim (eqb (summed (map steps_owned (nodes file))) (step_count file)) [
  | true ↦ first_in_leaves (λ r code. first_off (leads_well r code) 0 code) 0 (nodes_with_steps file)
  | false ↦ on_record 0
]

unfoldable pub broken6 : Bytes → Bool
broken6 file = somewhere (wrong6 file)
