-- What the walk through a leaf finds at one step.
use Rattle.std.specs.Prelude.{ℕ, ◌+◌, ◌≤◌, ◌<◌, ◌≡◌, true, false, ◌&&◌, ◌||◌, List, [], ◌∷◌, Option, Some, None, T, eqb, length, get_or}
use Rattle.actions.specs.Sets.{ActionSet, has, EMPTY, union}
use Rattle.spec_policy.specs.Lists.{one, every}
use Rattle.spec_policy.specs.Steps.{Step, halt, targets, is_next, is_ins}
use Rattle.spec_check.specs.Targets.{target_fits, asks_within}
use Rattle.spec_check.specs.Modes.{Mark, stepped, mode_fits}
use Rattle.spec_check.specs.Possible.{pass_on, branches_taken}
use Rattle.spec_check.specs.Interference.{step_effects}
use Rattle.check_modes.specs.Marks.{Agrees, Aside, once_at, NextsBefore}
use Rattle.check_modes.specs.declared.Led.{Led}
use Rattle.check_steps.specs.declared.Walk.{Walk}

-- what is asked: the walk stands at an offset of a leaf of so many steps
abbrev pub Asks : Walk → ℕ → ℕ → Type 0
Asks w o count = (o < count) × ((count ≤ 64) × (w.inserts ≤ 64))

abbrev pub AsksAll : Walk → ℕ → ℕ → List ActionSet → Type 0
AsksAll w o count sets = Asks w o count × (length sets ≡ 64)

-- The walk w stands at offset o of the code, whose step is s.
pub record Stands (code : List Step) (o count : ℕ) (s : Step) (w : Walk) : Type 0 where
  pub size : length code ≡ count
  pub here : get_or code o halt ≡ s
  pub nexts : NextsBefore o w.nexts code

-- a next, or by the words reached in one mode
abbrev pub Settled : Walk → ℕ → Step → Type 0
Settled w o s = T (is_next s || once_at w.marks o s)

-- What the walk has after a step that keeps rule 6. Where its words say the marks ks, and it is settled: rule 7 of it, unless it is a next, and the
-- marks. In any case: no mark but at its targets; rule 8; its effects and whether it is an ins; the nexts; and what is possible then.
pub record Went (r : ActionSet) (o : ℕ) (s : Step) (ks : List Mark) (w w' : Walk) (sets sets' : List ActionSet) : Type 0 where
  pub modes : Agrees w.marks ks → Settled w o s → w'.modes ≡ (w.modes && (is_next s || mode_fits ks o s))
  pub marks : Agrees w.marks ks → Settled w o s → Agrees w'.marks (stepped o s ks)
  pub aside : Aside s w.marks w'.marks
  pub taken : w'.taken ≡ (w.taken && branches_taken (get_or sets o EMPTY ∷ []) 0 s)
  pub effects : w'.effects.bits ≡ union w.effects.bits (step_effects (get_or sets o EMPTY) s)
  pub inserts : w'.inserts ≡ w.inserts + one (is_ins s)
  pub nexts : (q : ℕ) → has w'.nexts q ≡ (has w.nexts q || (is_next s && eqb q o))
  pub possible : sets' ≡ pass_on r s (get_or sets o EMPTY) sets

-- There is a walk after the step where it keeps rule 6.
abbrev pub Met : List Step → ActionSet → ℕ → Step → List Mark → Walk → Option Walk → List ActionSet → List ActionSet → Type 0
Met code r o s ks w None sets sets' = (asks_within r s && every (target_fits code o) (targets s)) ≡ false
Met code r o s ks w (Some w') sets sets' = ((asks_within r s && every (target_fits code o) (targets s)) ≡ true) × Went r o s ks w w' sets sets'

abbrev pub Meets : ActionSet → ℕ → ℕ → Step → Walk → Option Walk → List ActionSet → List ActionSet → Type 0
Meets r o count s w found sets sets' = (code : List Step) (ks : List Mark) → Stands code o count s w → Met code r o s ks w found sets sets'

-- the walk after a step, as far as its marks go
pub record LedOn (w : Walk) (led : Led) (w' : Walk) : Type 0 where
  pub modes : w'.modes ≡ (w.modes && led.fits)
  pub marks : w'.marks ≡ led.marks
  pub taken : w'.taken ≡ w.taken
  pub nexts : w'.nexts ≡ w.nexts
  pub effects : w'.effects ≡ w.effects
  pub inserts : w'.inserts ≡ w.inserts
