-- The nodes of a passed policy, read where they lie: the tree under each, and where a leaf's steps are.
use Prim.Native.Nat.{ℕ, ◌+◌, ◌*◌, ◌≤◌, ◌<◌}
use native.Mathlib.Omega.{arith}
use mathlib.Core.Path.{◌≡◌, refl, sym, ap, ap₂, ◌∙◌}
use mathlib.Core.List.{List}
use lib.ListN.{length}
use Rattle.actions.specs.Sets.{EMPTY, union}
use Rattle.spec_policy.specs.Bytes.{Bytes}
use Rattle.spec_policy.specs.Records.{node_size, node_count, step_count, node_place, step_place, Node, node_at}
use Rattle.spec_policy.specs.Steps.{Step}
use Rattle.spec_policy.specs.Tree.{aLeaf, node_kind, steps_owned, first_step, nodes_with_steps, leaf, tree_at, regulated}
use Rattle.spec_policy.proofs.NodeLaws.{first-over, first-in}
use Rattle.spec_check.specs.Numbers.{node_steps_in, shaped}
use Rattle.spec_check.proofs.Numbers as numbers
use Rattle.spec_check.proofs.Numbers.{ChildrenLater, node-read, children-read}
use Rattle.spec_check.specs.Passed.{Passed}
use Rattle.spec_check.proofs.Rows.{counts-fit, leaf-owned, all-owned}
use Rattle.spec_check.specs.Layout.{CountsFit}
use Rattle.file_records.specs.Kinds.{kind_of}
use Rattle.file_records.specs.declared.Kind.{Kind}
use Rattle.file_records.specs.declared.Kind.TheVariants as kinds
use Rattle.file_records.specs.declared.Way as declared
use Rattle.file_records.specs.declared.Join as joins
use Rattle.file_records.specs.Code.{code_at}
use Rattle.file_records.proofs.CodeLaws.{node-code}

-- ---- the room of a node and of its steps

pub record Room (file : Bytes) : Type 0 where
  pub some : 1 ≤ node_count file
  pub few : node_count file ≤ 31
  pub steps : step_count file ≤ 512
  pub long : length file ≡ 6 + 16 * node_count file + 12 * step_count file

pub room : {file : Bytes} → Passed file → Room file
unfolding step_place node_place
room {file} ok =
    let c : CountsFit file = counts-fit file ok.kept3 in
    record { some = c.some-node; few = c.few-nodes; steps = c.few-steps; long = c.long }

pub node-room : {file : Bytes} → Passed file → (i at : ℕ) → i < node_count file → at ≡ node_place i → at + node_size ≤ length file
unfolding node_place
node-room ok i at h e = let r = room ok in omega arith

-- what the view asks of a node
pub node-in : {file : Bytes} → Passed file → (i : ℕ) → i < node_count file → (i ≤ 255) × (node_place i + node_size ≤ length file)
node-in ok i h = (omega (arith, (room ok).few), node-room ok i _ h refl)

module _ (file : Bytes) (at : ℕ) (k : Kind) (read : kind_of k ≡ node_kind (node_at file at).kind) where
  kind-is : {x : Kind} → k ≡ x → node_kind (node_at file at).kind ≡ kind_of x
  kind-is e = sym read ∙ ap kind_of e

-- ---- the tree under a node, by the kind that the code read

module _ {file : Bytes} (ok : Passed file) (i : ℕ) (h : i < node_count file) {at : ℕ} (place : at ≡ node_place i) (k : Kind)
    (read : kind_of k ≡ node_kind (node_at file at).kind) where
  -- the tree, with the children that the code reads
  pub tree-read : {x : Kind} → k ≡ x
      → tree_at file i ≡ shaped (kind_of x) i (node_steps_in (nodes_with_steps file) i) (tree_at file (node_at file at).left) (tree_at file (node_at file at).right)
  tree-read e = numbers.tree-read file h place ok.kept5 (kind-is file at k read e)

  pub set-leaf : k ≡ kinds.Leaf → {b : ℕ} → b ≡ (node_at file at).set → b ≡ regulated (tree_at file i)
  unfolding kind_of shaped regulated
  set-leaf e f = f ∙ ap (λ (y : Node). y.set) (sym (node-read file h place)) ∙ sym (ap regulated (tree-read e))

  pub set-none : (k ≡ kinds.Leaf → ⊥) → ((w : declared.Way) (j : joins.Join) → k ≡ kinds.Pair w j → ⊥) → 0 ≡ regulated (tree_at file i)
  unfolding kind_of shaped regulated EMPTY
  set-none no-leaf no-pair = go k refl
    where
      go : (x : Kind) → k ≡ x → 0 ≡ regulated (tree_at file i)
      go kinds.Leaf e = absurd (no-leaf e)
      go kinds.Trivial e = sym (ap regulated (tree-read e))
      go kinds.Unsatisfiable e = sym (ap regulated (tree-read e))
      go (kinds.Pair w j) e = absurd (no-pair w j e)
      go kinds.Unknown e = sym (ap regulated (tree-read e))

  pub kids : {w : declared.Way} {j : joins.Join} → k ≡ kinds.Pair w j → ChildrenLater (node_count file) i (node_at file at)
  unfolding kind_of
  kids e = children-read file h place ok.kept5 (kind-is file at k read e)

  pub set_pair : {w : declared.Way} {j : joins.Join} → k ≡ kinds.Pair w j → {a b d : ℕ} → a ≡ regulated (tree_at file (node_at file at).left)
      → b ≡ regulated (tree_at file (node_at file at).right) → d ≡ union a b → d ≡ regulated (tree_at file i)
  unfolding kind_of shaped regulated
  set_pair e f g l = l ∙ ap₂ union f g ∙ sym (ap regulated (tree-read e))

-- ---- where a leaf's steps lie

pub steps_all : {file : Bytes} → Passed file → first_step file (node_count file) ≡ step_count file
steps_all {file} ok = first-over file (node_count file) (omega arith) ∙ all-owned file ok.kept6

pub steps-inside : {file : Bytes} → Passed file → (i : ℕ) → i < node_count file → first_step file i + steps_owned (node_at file (node_place i)) ≤ step_count file
steps-inside {file} ok i h = omega (arith, first-in file i h, all-owned file ok.kept6)

-- a leaf, with its steps where the file has them
pub tree-leaf : {file : Bytes} → Passed file → (i : ℕ) → i < node_count file → node_kind (node_at file (node_place i)).kind ≡ aLeaf
    → tree_at file i ≡ leaf i (node_at file (node_place i)).set (node_at file (node_place i)).start (code_at file (step_place file (first_step file i)) (node_at file (node_place i)).count)
unfolding shaped
tree-leaf {file} ok i h e =
    numbers.tree-read file h refl ok.kept5 e
    ∙ ap (λ (x : Node). leaf i x.set x.start (node_steps_in (nodes_with_steps file) i).steps) (node-read file h refl)
    ∙ ap (λ (ss : List Step). leaf i (node_at file (node_place i)).set (node_at file (node_place i)).start ss)
    (node-code file (all-owned file ok.kept6) i h ∙ ap (λ (k : ℕ). code_at file (step_place file (first_step file i)) k) (leaf-owned (node_at file (node_place i)) e))

pub leaf_room : {file : Bytes} → Passed file → (i : ℕ) → i < node_count file → node_kind (node_at file (node_place i)).kind ≡ aLeaf
    → step_place file (first_step file i) + 12 * (node_at file (node_place i)).count ≤ length file
unfolding step_place node_place
leaf_room {file} ok i h e = let r = room ok in omega (arith, steps-inside ok i h, leaf-owned (node_at file (node_place i)) e)
