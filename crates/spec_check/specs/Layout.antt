-- Rules 1 to 4: the file's front, and the layout of its records.
use Rattle.std.specs.Prelude.{◌≤◌, ◌≡◌, Bool, false, ◌&&◌, ◌||◌, not, [], ◌∷◌, eqb, leb, ltb, length, get_or}
use Rattle.actions.specs.Sets.{is_action, is_empty}
use Rattle.spec_policy.specs.Bytes.{Bytes}
use Rattle.spec_policy.specs.Records.{front_size, most_nodes, most_steps, most_leaf_steps, length_field, version_field, node_count, step_count, Node, StepRecord, step_place, nodes, step_records}
use Rattle.spec_policy.specs.Spots.{Spot, somewhere, or_else, first_off}
use Rattle.spec_policy.specs.Tree.{NodeKind, aLeaf, aTrivial, an_unsatisfiable, aPair, no_node, node_kind}

-- 1: "fewer than 6 bytes, or the length field differs from the bytes given"
unfoldable pub broken1 : Bytes → Bool
broken1 file = ltb (length file) front_size || not (eqb (length_field file) (length file))

-- 2: "version is not 1"
unfoldable pub broken2 : Bytes → Bool
broken2 file = not (eqb (version_field file) 1)

-- 3: "n or m out of range, or length is not 6 + 16n + 12m": the place of a step after the last
unfoldable pub broken3 : Bytes → Bool
broken3 file =
    not (leb 1 (node_count file) && leb (node_count file) most_nodes && leb (step_count file) most_steps)
    || not (eqb (length file) (step_place file (step_count file)))

-- Rule 3 kept: "nodes n, 1 to 31 .. steps m, 0 to 512 .. Length is 6 + 16n + 12m". `counts-fit` of proofs/Rows.
pub record CountsFit (file : Bytes) : Type 0 where
  pub some-node : 1 ≤ node_count file
  pub few-nodes : node_count file ≤ most_nodes
  pub few-steps : step_count file ≤ most_steps
  pub long : length file ≡ step_place file (step_count file)

-- "A leaf has step count 1 to 64 and a set that isn't empty; its left and right are zero, its counter start is free. Kinds 2 and
-- 3 have zeros in all other fields. Kinds 4 to 7 have zeros in step count, counter and set."
unfoldable pub node_fits : NodeKind → Node → Bool
node_fits aLeaf x = eqb x.left 0 && eqb x.right 0 && leb 1 x.count && leb x.count most_leaf_steps && not (is_empty x.set)
node_fits aTrivial x = eqb x.left 0 && eqb x.right 0 && eqb x.count 0 && eqb x.start 0 && eqb x.set 0
node_fits an_unsatisfiable x = eqb x.left 0 && eqb x.right 0 && eqb x.count 0 && eqb x.start 0 && eqb x.set 0
node_fits (aPair w j) x = eqb x.count 0 && eqb x.start 0 && eqb x.set 0
node_fits no_node x = false

-- "Fields not used are zero."
unfoldable pub no_action : StepRecord → Bool
no_action r = eqb r.action 0

unfoldable pub no_first : StepRecord → Bool
no_first r = eqb r.first 0

unfoldable pub no_second : StepRecord → Bool
no_second r = eqb r.second 0

unfoldable pub no_operand : StepRecord → Bool
no_operand r = eqb r.operand 0

-- The table of kinds, by the fields that each uses. "An action is at most 63, n at most 4,294,967,295."
unfoldable pub step_fits : StepRecord → Bool
step_fits r =
    get_or (false
    -- next: take, done
    ∷ (no_action r && no_operand r)
    -- ok, sup: to
    ∷ (no_action r && no_second r && no_operand r)
    ∷ (no_action r && no_second r && no_operand r)
    -- ins: action, to
    ∷ (is_action r.action && no_second r && no_operand r)
    -- acase: yes, no, operand = set
    ∷ no_action r
    -- spend: yes, no, operand = n
    ∷ (no_action r && leb r.operand 4_294_967_295)
    -- end, halt: none
    ∷ (no_action r && no_first r && no_second r && no_operand r)
    ∷ (no_action r && no_first r && no_second r && no_operand r)
    ∷ []) r.kind false

-- 4: "a field of a node or step breaks the layout above (child numbers apart)". Where: "for 4, nodes come before steps, and step i counts as n + i."
unfoldable pub wrong4 : Bytes → Spot
wrong4 file = or_else (first_off (λ i x. node_fits (node_kind x.kind) x) 0 (nodes file)) (first_off (λ i r. step_fits r) (node_count file) (step_records file))

-- A rule from 4 on is broken where a record breaks it.
unfoldable pub broken4 : Bytes → Bool
broken4 file = somewhere (wrong4 file)
