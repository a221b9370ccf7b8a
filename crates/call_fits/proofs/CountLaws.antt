-- The running leaves, counted from the last node to the first, and the count that a state says it has.
use Prim.Native.Nat.{ℕ, ◌+◌, ◌-◌, ◌≤◌}
use native.Mathlib.Omega.{arith}
use mathlib.Core.Path.{◌≡◌, refl, ap, ◌∙◌}
use mathlib.Core.Bool.{Bool, true, false, ◌&&◌}
use lib.Dec.{eqb}
use Rattle.std.specs.Int.{from_bool}
use Rattle.spec_policy.specs.Bytes.{Bytes, number}
use Rattle.spec_policy.specs.Lists.{one}
use Rattle.spec_policy.specs.Records.{node_count, node_at, node_place}
use Rattle.spec_policy.specs.Tree.{NodeKind, aLeaf, aTrivial, an_unsatisfiable, aPair, no_node, node_kind, tree}
use Rattle.spec_check.specs.Passed.{Passed}
use Rattle.spec_turns.specs.Status.{status_of, is_running}
use Rattle.spec_turns.proofs.StatusLaws.{running-one}
use Rattle.check_leaves.proofs.LeafLaws.{Counted}
use Rattle.spec_turns.specs.Saved.{count_place, cells, status_at, is_running_at, count_at, count_fits}
use Rattle.laws_turns.specs.Leaves.{is_leaf, leaf_worth, leaves_below}
use Rattle.laws_turns.proofs.Leaves.{leaves-few, leaves-more, counted}

-- so many of the n nodes from i on are leaves that run
abbrev pub LeavesFrom : Bytes → Bytes → ℕ → ℕ → ℕ → Type 0
LeavesFrom file bs n count i = count + leaves_below file (is_running_at bs) i ≡ leaves_below file (is_running_at bs) n

module _ (file bs : Bytes) (n : ℕ) where
  abbrev below : ℕ → ℕ
  below = leaves_below file (is_running_at bs)

  pub leaves-from-none : LeavesFrom file bs n 0 n
  leaves-from-none = omega arith

  pub leaves-from-few : (count i : ℕ) → LeavesFrom file bs n count i → count ≤ n
  leaves-from-few count i h = omega (arith, h, leaves-few file (is_running_at bs) n)

  -- the node before i, its status read as s
  pub leaves-from-more : (count i s r : ℕ) → 1 ≤ i → LeavesFrom file bs n count i → s ≡ status_at bs (i - 1)
      → r ≡ one (is_leaf (node_kind (node_at file (node_place (i - 1))).kind) && is_running (status_of s)) → LeavesFrom file bs n (count + r) (i - 1)
  unfolding is_running_at leaf_worth
  leaves-from-more count i s r l h e f =
      let w : r ≡ leaf_worth file (is_running_at bs) (i - 1) = f ∙ ap (λ (k : ℕ). one (is_leaf (node_kind (node_at file (node_place (i - 1))).kind) && is_running (status_of k))) e in
      let z : i - 1 + 1 ≡ i = omega arith in
      let m : below (i - 1) + leaf_worth file (is_running_at bs) (i - 1) ≡ below i = leaves-more file (is_running_at bs) (i - 1) ∙ ap below z in
      omega (arith, h, w, m)

-- ---- a node's part

pub runs-one : (s : ℕ) → from_bool (eqb s 1) ≡ one (is_running (status_of s))
unfolding one
runs-one s = as-number (eqb s 1) ∙ ap one (running-one s)
  where
    as-number : (b : Bool) → from_bool b ≡ one b
    as-number true = refl
    as-number false = refl

-- by the number of its steps: a leaf has steps, and no other node has
module _ {file : Bytes} {i count : ℕ} (c : Counted file i count) (runs : Bool) where
  pub leaf-adds : 1 ≤ count → one runs ≡ one (is_leaf (node_kind (node_at file (node_place i)).kind) && runs)
  unfolding is_leaf
  leaf-adds h = ap (λ (k : NodeKind). one (is_leaf k && runs)) (c.leaf h)

  pub other-adds : count ≤ 0 → 0 ≡ one (is_leaf (node_kind (node_at file (node_place i)).kind) && runs)
  unfolding is_leaf one
  other-adds h = go (node_kind (node_at file (node_place i)).kind) (c.other (omega (arith, h)))
    where
      go : (k : NodeKind) → (k ≡ aLeaf → ⊥) → 0 ≡ one (is_leaf k && runs)
      go aLeaf h = absurd (h refl)
      go aTrivial h = refl
      go an_unsatisfiable h = refl
      go (aPair w j) h = refl
      go no_node h = refl

-- all of them
pub leaves-counted : {file : Bytes} → Passed file → (state : Bytes) (n count i : ℕ) → n ≡ node_count file → i ≤ 0 → LeavesFrom file (cells state) n count i
    → (eqb (number state 0 count_place) 0 && eqb (count_at state) count) ≡ count_fits (tree file) state
unfolding count_fits leaves_below
leaves-counted {file} ok state n count i e l h =
    let z : i ≡ 0 = omega arith in
    let b : leaves_below file (is_running_at (cells state)) i ≡ 0 = ap (leaves_below file (is_running_at (cells state))) z in
    let w : count ≡ leaves_below file (is_running_at (cells state)) n = omega (arith, h, b) in
    ap (λ (k : ℕ). eqb (number state 0 count_place) 0 && eqb (count_at state) k) (w ∙ ap (leaves_below file (is_running_at (cells state))) e ∙ counted ok (cells state))

-- the order in which the code tests
pub and_last : (a b c d : Bool) → (a && d && b && c) ≡ (a && b && c && d)
and_last true true true true = refl
and_last true true true false = refl
and_last true true false true = refl
and_last true true false false = refl
and_last true false c true = refl
and_last true false c false = refl
and_last false b c d = refl
