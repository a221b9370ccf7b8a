-- What breaks each rule from 4 to 10, said of one record and with no scan that finds it, and what is promised of a refusal's spot: it is that of "the
-- lowest-numbered node or step that breaks that rule". Proved in proofs/Spots.
use Rattle.std.specs.Prelude.{ℕ, ◌+◌, ◌<◌, ◌≡◌, ◌⊎◌, true, false, List, map, T, length, get_or}
use Rattle.actions.specs.Sets.{ActionSet, common, difference, is_empty}
use Rattle.spec_policy.specs.Bytes.{Bytes}
use Rattle.spec_policy.specs.Lists.{summed}
use Rattle.spec_policy.specs.Records.{most_nodes, most_steps, node_at, node_place, step_record_at, step_place, node_count, step_count, nodes}
use Rattle.spec_policy.specs.Spots.{on_record, Fault, fault_on}
use Rattle.spec_policy.specs.Steps.{Step, acase, halt}
use Rattle.spec_policy.specs.Tree.{aLeaf, node_kind, steps_owned, first_step, nodes_with_steps, tree_at}
use Rattle.spec_check.specs.Layout.{node_fits, step_fits}
use Rattle.spec_check.specs.Children.{later, one_parent}
use Rattle.spec_check.specs.Targets.{leads_well}
use Rattle.spec_check.specs.Possible.{possible_at}
use Rattle.spec_check.specs.Interference.{crossed}
use Rattle.spec_check.specs.Spread.{spread}
use Rattle.spec_check.specs.Numbers.{node_steps_in, node_in, kind_in}
use Rattle.spec_check.specs.Check.{refused, check}
use Rattle.laws_check.specs.Rule7.{OneMode}

-- "the lowest-numbered node or step that breaks that rule": p breaks it, and nothing below p does
pub record LowestOf (Offends : ℕ → Type 0) (p : ℕ) : Type 0 where
  pub offends : Offends p
  pub below : (q : ℕ) → q < p → Offends q → ⊥

-- 4: "nodes come before steps, and step i counts as n + i."
pub data Offends4 (file : Bytes) : ℕ → Type 0 where
  node-off : (i : ℕ) → i < node_count file → node_fits (node_kind (node_at file (node_place i)).kind) (node_at file (node_place i)) ≡ false → Offends4 file i
  step-off : (i : ℕ) → i < step_count file → step_fits (step_record_at file (step_place file i)) ≡ false → Offends4 file (node_count file + i)

-- 5: "the lowest node that has a bad child or, 0 apart, isn't a child exactly once"
pub record Offends5 (file : Bytes) (i : ℕ) : Type 0 where
  pub inside : i < node_count file
  pub off : (later (node_count file) i (node_at file (node_place i)) ≡ false) ⊎ (one_parent (nodes file) i ≡ false)

-- 6 to 8: "Steps are numbered over the whole file". Step s is the one at an offset of a leaf; Off says what is wrong at an offset of a leaf with this
-- regulated set and these steps.
pub record StepOff (file : Bytes) (Off : ActionSet → List Step → ℕ → Type 0) (s : ℕ) : Type 0 where
  pub leaf : ℕ
  pub offset : ℕ
  pub is-leaf : kind_in (nodes_with_steps file) leaf ≡ aLeaf
  pub inside : offset < length (node_steps_in (nodes_with_steps file) leaf).steps
  pub number : s ≡ first_step file leaf + offset
  pub off : Off (node_in (nodes_with_steps file) leaf).set (node_steps_in (nodes_with_steps file) leaf).steps offset

-- 6: a target of the step is bad, or its acase set
unfoldable pub Off6 : ActionSet → List Step → ℕ → Type 0
Off6 r code o = leads_well r code o (get_or code o halt) ≡ false

-- "for 6 with a wrong sum it is 0"
pub data Offends6 (file : Bytes) : ℕ → Type 0 where
  sum-off : (summed (map steps_owned (nodes file)) ≡ step_count file → ⊥) → Offends6 file 0
  leads-off : {s : ℕ} → summed (map steps_owned (nodes file)) ≡ step_count file → StepOff file Off6 s → Offends6 file s

-- 7: the step is reached in no mode, or in two, or in one where its kind may not stand
unfoldable pub Off7 : ActionSet → List Step → ℕ → Type 0
Off7 r code o = OneMode code o → ⊥

-- 8: "an acase has a branch that no possible action takes". `possible-exact`: these are the possible actions.
pub record Off8 (r : ActionSet) (code : List Step) (o : ℕ) : Type 0 where
  pub set : ActionSet
  pub yes : ℕ
  pub no : ℕ
  pub asks : get_or code o halt ≡ acase set yes no
  pub untaken : T (is_empty (common (possible_at r code o) set)) ⊎ T (is_empty (difference (possible_at r code o) set))

-- "For 9 and 10 it is the node."
pub record Offends9 (file : Bytes) (i : ℕ) : Type 0 where
  pub inside : i < node_count file
  pub off : crossed (tree_at file i) ≡ true

pub record Offends10 (file : Bytes) (i : ℕ) : Type 0 where
  pub inside : i < node_count file
  pub off : 255 < spread (tree_at file i)

-- "Refusals 4 to 10 shall also carry a place: the lowest-numbered node or step that breaks that rule." `spots-lowest` of proofs/Spots, of every file.
-- That each of these refusals has a spot, and no other, is `refused-carries` of spec_check/proofs/Passed.
pub record SpotsLowest (file : Bytes) : Type 0 where
  pub four : (p : ℕ) → check file ≡ refused (fault_on 4 p) → LowestOf (Offends4 file) p
  pub five : (p : ℕ) → check file ≡ refused (fault_on 5 p) → LowestOf (Offends5 file) p
  pub six : (p : ℕ) → check file ≡ refused (fault_on 6 p) → LowestOf (Offends6 file) p
  pub seven : (p : ℕ) → check file ≡ refused (fault_on 7 p) → LowestOf (StepOff file Off7) p
  pub eight : (p : ℕ) → check file ≡ refused (fault_on 8 p) → LowestOf (StepOff file Off8) p
  pub nine : (p : ℕ) → check file ≡ refused (fault_on 9 p) → LowestOf (Offends9 file) p
  pub ten : (p : ℕ) → check file ≡ refused (fault_on 10 p) → LowestOf (Offends10 file) p

-- So a spot is a record of the file, and there are at most 31 nodes and 512 steps. `spots-inside` of proofs/Inside, of every file.
pub record Inside (file : Bytes) (p : ℕ) : Type 0 where
  pub of-file : p < node_count file + step_count file
  pub small : p < most_nodes + most_steps

-- So what a refusal tells is short: its number has at most two digits, and its record's at most three. `small-fault` of proofs/Inside, of the check's
-- refusals; `refused-small` of laws_turns, of every call's.
pub record SmallFault (f : Fault) : Type 0 where
  pub number_small : f.number < 100
  pub spot-small : (p : ℕ) → f.spot ≡ on_record p → p < 1000
