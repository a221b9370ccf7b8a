-- What the walk through a leaf finds.
use Rattle.std.specs.Prelude.{◌≡◌, Bool, true, false, List, Result, Ok, Err}
use Rattle.actions.specs.Sets.{ActionSet, EMPTY}
use Rattle.check_modes.specs.Table.{reaching}
use Rattle.check_modes.specs.Marks.{Agrees}
use Rattle.check_steps.specs.declared.Walk.{Walk}
use Rattle.faults.specs.declared.Refusal.{Refusal}
use Rattle.faults.specs.declared.Refusal.TheVariants as refusals
use Rattle.spec_policy.specs.Steps.{Step}
use Rattle.spec_check.specs.Targets.{targets_fit}
use Rattle.spec_check.specs.Modes.{modes_fit}
use Rattle.spec_check.specs.Possible.{all_taken}
use Rattle.spec_check.specs.Interference.{leaf_effects}
use Rattle.spec_check.specs.Spread.{ins_count}
use Rattle.check_leaf.specs.declared.Walked.{Walked}

-- Of a leaf with the set r that keeps rules 4 and 6: rules 7 and 8, the effect set and the number of ins steps.
pub record LeafKept (w : Walked) (r : ActionSet) (steps-fit : Bool) (code : List Step) : Type 0 where
  pub step_records : steps-fit ≡ true
  pub targets : targets_fit r code ≡ true
  pub modes : w.modes ≡ modes_fit code
  pub taken : w.taken ≡ all_taken r code
  pub effects : w.effects.bits ≡ leaf_effects r code
  pub inserts : w.inserts ≡ ins_count code

-- The walk ends at a step that breaks rule 4 or rule 6, and tells one of the two.
abbrev pub LeafFound : Result Walked Refusal → ActionSet → Bool → List Step → Type 0
LeafFound (Ok w) r steps-fit code = LeafKept w r steps-fit code
LeafFound (Err refusals.Fields) r steps-fit code = steps-fit ≡ false
LeafFound (Err refusals.Targets) r steps-fit code = targets_fit r code ≡ false
LeafFound (Err _) r steps-fit code = ⊥

-- a walk that has found nothing yet: offset 0 is reached idle
pub record Begun (w : Walk) : Type 0 where
  pub modes : w.modes ≡ true
  pub taken : w.taken ≡ true
  pub marks : Agrees w.marks (reaching 0 0)
  pub nexts : w.nexts ≡ 0
  pub effects : w.effects.bits ≡ EMPTY
  pub inserts : w.inserts ≡ 0
