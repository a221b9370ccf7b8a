-- The states of a policy within a call: between the two phases of a turn, and at its end.
use Prim.Native.Nat.{ℕ, ◌≤◌}
use mathlib.Core.Path.{◌≡◌}
use mathlib.Core.Bool.{true, false}
use mathlib.Core.List.{List}
use lib.Dec.{T}
use Rattle.actions.specs.Sets.{ActionSet}
use Rattle.spec_policy.specs.Steps.{Step}
use Rattle.spec_policy.specs.Tree.{Way, Join, Tree, leaf, trivial, unsatisfiable, node}
use Rattle.spec_check.specs.Modes.{idle}
use Rattle.spec_check.specs.Lawful.{reached_in}
use Rattle.spec_turns.specs.Status.{running, is_running, joined}
use Rattle.spec_turns.specs.State.{State, leaf_state, pair_state, status}
use Rattle.spec_turns.specs.Rest.{AtRest}

-- Between the phases, or about to be opened: a marked node owes the phase after the verdict.
pub data Mid : Tree → State → Type 0 where
  rests : {t : Tree} {s : State} → AtRest t s → Mid t s
  leaf-owes : {i c₀ o c : ℕ} {r : ActionSet} {code : List Step} → T (reached_in code idle o) → c ≤ c₀ → Mid (leaf i r c₀ code) (leaf_state running true o c)
  trivial-owes : {i : ℕ} → Mid (trivial i) (leaf_state running true 0 0)
  unsatisfiable-owes : {i : ℕ} → Mid (unsatisfiable i) (leaf_state running true 0 0)
  pair-owes : {w : Way} {j : Join} {i : ℕ} {l r : Tree} {a b : State}
      → Mid l a → Mid r b → joined j (status a) (status b) ≡ running → Mid (node w j i l r) (pair_state running true a b)

-- at rest, and decided
pub record Over (t : Tree) (s : State) : Type 0 where
  pub rest : AtRest t s
  pub decided : is_running (status s) ≡ false
