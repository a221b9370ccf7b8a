-- Possible actions, and rule 8.
use Rattle.std.specs.Prelude.{ℕ, suc, ◌≡◌, Bool, true, ◌&&◌, not, List, [], ◌∷◌, T, length, get_or, set, replicate}
use Rattle.actions.specs.Sets.{Action, ActionSet, EMPTY, union, common, difference, has, is_empty}
use Rattle.spec_policy.specs.Bytes.{Bytes}
use Rattle.spec_policy.specs.Lists.{every_at}
use Rattle.spec_policy.specs.Spots.{Spot, somewhere, first_off}
use Rattle.spec_policy.specs.Steps.{Step, next, ok, sup, ins, acase, spend, end, halt}
use Rattle.spec_policy.specs.Tree.{nodes_with_steps}
use Rattle.spec_check.specs.Leaves.{first_in_leaves}

-- What the paper says, as it says it: an action is possible at an offset by a chain of steps from a take target. `laws_check/proofs/Possible`
-- shows that the walk below finds just these.
pub data CanBe (r : ActionSet) (code : List Step) : ℕ → Action → Type 0 where
  -- "At a take target: the leaf's set."
  taken : {a : Action} {t d : ℕ} (o : ℕ) → get_or code o halt ≡ next t d → T (has r a) → CanBe r code t a
  -- "Ins and spend pass the set on,"
  past-ins : {a : Action} {o b t : ℕ} → get_or code o halt ≡ ins b t → CanBe r code o a → CanBe r code t a
  spent : {a : Action} {o n y z : ℕ} → get_or code o halt ≡ spend n y z → CanBe r code o a → CanBe r code y a
  unspent : {a : Action} {o n y z : ℕ} → get_or code o halt ≡ spend n y z → CanBe r code o a → CanBe r code z a
  -- "acase passes the common part to yes and the rest to no."
  in-case : {a : Action} {o s y z : ℕ} → get_or code o halt ≡ acase s y z → T (has s a) → CanBe r code o a → CanBe r code y a
  off-case : {a : Action} {o s y z : ℕ} → get_or code o halt ≡ acase s y z → T (not (has s a)) → CanBe r code o a → CanBe r code z a

-- the set at one offset, with more joined to it
unfoldable pub join_at : List ActionSet → ℕ → ActionSet → List ActionSet
join_at ps o s = set ps o (union (get_or ps o EMPTY) s)

-- What a step whose possible set is p adds to the sets of its targets. "A step's possible set is the union over the steps that
-- lead to it."
unfoldable pub pass_on : ActionSet → Step → ActionSet → List ActionSet → List ActionSet
pass_on r (next t d) p ps = join_at ps t r
pass_on r (ok t) p ps = ps
pass_on r (sup t) p ps = ps
pass_on r (ins b t) p ps = join_at ps t p
pass_on r (acase s y z) p ps = join_at (join_at ps y (common p s)) z (difference p s)
pass_on r (spend n y z) p ps = join_at (join_at ps y p) z p
pass_on r end p ps = ps
pass_on r halt p ps = ps

-- As with the modes, one walk through the steps is enough: a next does not hand on what is possible at it.
unfoldable pub passed_on : ActionSet → ℕ → List Step → List ActionSet → List ActionSet
passed_on r o [] ps = ps
passed_on r o (s ∷ ss) ps = passed_on r (suc o) ss (pass_on r s (get_or ps o EMPTY) ps)

-- a set for each offset of the leaf
unfoldable pub possible : ActionSet → List Step → List ActionSet
possible r code = passed_on r 0 code (replicate (length code) EMPTY)

unfoldable pub possible_at : ActionSet → List Step → ℕ → ActionSet
possible_at r code o = get_or (possible r code) o EMPTY

-- "an acase has a branch that no possible action takes": not so, of the step at o
unfoldable pub branches_taken : List ActionSet → ℕ → Step → Bool
branches_taken ps o (next t d) = true
branches_taken ps o (ok t) = true
branches_taken ps o (sup t) = true
branches_taken ps o (ins b t) = true
branches_taken ps o (acase s y z) = not (is_empty (common (get_or ps o EMPTY) s)) && not (is_empty (difference (get_or ps o EMPTY) s))
branches_taken ps o (spend n y z) = true
branches_taken ps o end = true
branches_taken ps o halt = true

unfoldable pub all_taken : ActionSet → List Step → Bool
all_taken r code = every_at (branches_taken (possible r code)) 0 code

-- 8: "an acase has a branch that no possible action takes". Where: the acase.
unfoldable pub wrong8 : Bytes → Spot
wrong8 file = first_in_leaves (λ r code. first_off (branches_taken (possible r code)) 0 code) 0 (nodes_with_steps file)

unfoldable pub broken8 : Bytes → Bool
broken8 file = somewhere (wrong8 file)
