-- Steps: "A step holds its kind, and with it where it goes on".
use Rattle.std.specs.Prelude.{ℕ, Bool, true, false, List, [], ◌∷◌, get_or}
use Rattle.actions.specs.Sets.{ActionSet}
use Rattle.spec_policy.specs.Records.{StepRecord}

-- "Targets are offsets within the leaf."
pub data Step : Type 0 where
  next : (take done : ℕ) → Step
  ok : (to : ℕ) → Step
  sup : (to : ℕ) → Step
  ins : (action to : ℕ) → Step
  acase : (set : ActionSet) (yes otherwise : ℕ) → Step
  spend : (amount yes otherwise : ℕ) → Step
  end : Step
  halt : Step

-- The table of kinds: "Uses are listed first target first." Of a kind that is none of these rule 4 says the rest.
unfoldable pub step_of : StepRecord → Step
step_of r =
    get_or (halt
    ∷ next r.first r.second
    ∷ ok r.first
    ∷ sup r.first
    ∷ ins r.action r.first
    ∷ acase r.operand r.first r.second
    ∷ spend r.operand r.first r.second
    ∷ end
    ∷ halt
    ∷ []) r.kind halt

unfoldable pub targets : Step → List ℕ
targets (next t d) = t ∷ d ∷ []
targets (ok t) = t ∷ []
targets (sup t) = t ∷ []
targets (ins b t) = t ∷ []
targets (acase s y z) = y ∷ z ∷ []
targets (spend m y z) = y ∷ z ∷ []
targets end = []
targets halt = []

unfoldable pub is_next : Step → Bool
is_next (next t d) = true
is_next (ok t) = false
is_next (sup t) = false
is_next (ins b t) = false
is_next (acase s y z) = false
is_next (spend m y z) = false
is_next end = false
is_next halt = false

unfoldable pub is_ins : Step → Bool
is_ins (next t d) = false
is_ins (ok t) = false
is_ins (sup t) = false
is_ins (ins b t) = true
is_ins (acase s y z) = false
is_ins (spend m y z) = false
is_ins end = false
is_ins halt = false
