-- The leaves that run, counted number by number: each number below n is one node's, so the sum over the numbers is the count over the tree.
use Prim.Native.Nat.{ℕ, zero, suc, ◌+◌, ◌≤◌, ◌<◌}
use native.Mathlib.Omega.{arith}
use native.Mathlib.Numerals.{add-one}
use native.Mathlib.Nat.{eq-or-lt_of_le}
use mathlib.Core.Path.{◌≡◌, refl, sym, ap, ap₂, ◌∙◌, subst}
use mathlib.Core.Logic.{⊎_elim}
use mathlib.Core.Bool.{Bool, true, false, ◌&&◌, ◌||◌}
use lib.Dec.{T, eqb, eqb_refl}
use lib.ListN.{length}
use borrow.Author.Tests.{ne_eqb, eqb-true}
use Rattle.actions.proofs.Tests.{yes_of, true-not-false}
use Rattle.spec_policy.specs.Bytes.{Bytes}
use Rattle.spec_policy.specs.Lists.{one}
use Rattle.spec_policy.specs.Records.{most_nodes, Node, node_count, node_at, node_place}
use Rattle.spec_policy.specs.Tree.{Way, Join, NodeKind, aLeaf, aTrivial, an_unsatisfiable, aPair, no_node, node_kind, NodeSteps, Tree, leaf, trivial, unsatisfiable, node, tree_at, tree}
use Rattle.spec_check.specs.Lawful.{holds, Disjoint, Numbered}
use Rattle.spec_check.specs.Numbers.{Distinct, shaped}
use Rattle.spec_check.specs.Passed.{Passed}
use Rattle.spec_check.proofs.Numbers.{ChildrenLater, tree-read, children-read, tree-top, all_held}
use Rattle.spec_check.proofs.Rows.{counts-fit}
use Rattle.laws_check.proofs.LawfulTree.{lawful, numbers-below-nodes}
use Rattle.spec_turns.specs.Status.{Status, status_of, is_running}
use Rattle.spec_turns.specs.State.{State, status, left_of, right_of}
use Rattle.spec_turns.specs.Saved.{cells_size, is_running_at, load, running_leaves}
use Rattle.laws_turns.specs.Cells.{Below}
use Rattle.laws_turns.specs.Leaves.{is_leaf, leaf_worth, leaves_below}
use Rattle.laws_turns.proofs.Cells.{lawful-apart, below-here, below_left, below_right, status-is, status-back, Kept}

-- ---- sums over numbers

-- f 0 + .. + f (n - 1)
unfoldable total : (ℕ → ℕ) → ℕ → ℕ
total f zero = 0
total f (suc n) = total f n + f n

total-same : (f g : ℕ → ℕ) (n : ℕ) → ((i : ℕ) → i < n → f i ≡ g i) → total f n ≡ total g n
unfolding total
total-same f g zero h = refl
total-same f g (suc n) h = ap₂ ◌+◌ (total-same f g n (λ i l. h i (omega arith))) (h n (omega arith))

total-zero : (n : ℕ) → total (λ i. 0) n ≡ 0
unfolding total
total-zero zero = refl
total-zero (suc n) = omega (arith, total-zero n)

total-sum : (f g : ℕ → ℕ) (n : ℕ) → total (λ i. f i + g i) n ≡ total f n + total g n
unfolding total
total-sum f g zero = refl
total-sum f g (suc n) = omega (arith, total-sum f g n)

-- n where the test holds
unfoldable only_if : Bool → ℕ → ℕ
only_if true n = n
only_if false n = 0

-- of all numbers one
total-one : (f : ℕ → ℕ) (j n : ℕ) → j < n → total (λ i. only_if (eqb j i) (f i)) n ≡ f j
unfolding total only_if
total-one f j zero h = absurd (omega arith)
total-one f j (suc n) h = ⊎_elim last (λ l. before l (total-one f j n l)) (eq-or-lt_of_le (let v : j ≤ n = omega arith in v))
  where
    none : (m : ℕ) → m ≤ j → total (λ i. only_if (eqb j i) (f i)) m ≡ 0
    none m l = total-same (λ i. only_if (eqb j i) (f i)) (λ i. 0) m (λ i k. rw (ne_eqb j i (λ z. omega arith), only_if)) ∙ total-zero m

    last : j ≡ n → total (λ i. only_if (eqb j i) (f i)) (suc n) ≡ f j
    last e =
        let own : only_if (eqb j n) (f n) ≡ f j = subst (λ (k : ℕ). only_if (eqb j k) (f k) ≡ f j) e (ap (λ (b : Bool). only_if b (f j)) (yes_of (eqb j j) (eqb_refl j))) in
        omega (arith, none n (omega arith), own)

    before : j < n → total (λ i. only_if (eqb j i) (f i)) n ≡ f j → total (λ i. only_if (eqb j i) (f i)) (suc n) ≡ f j
    before l e = omega (arith, e, ap (λ (b : Bool). only_if b (f n)) (ne_eqb j n (λ z. omega arith)))

-- ---- sums over a tree

unfoldable over : (ℕ → ℕ) → Tree → ℕ
over f (leaf i s c code) = f i
over f (trivial i) = f i
over f (unsatisfiable i) = f i
over f (node w j i l r) = f i + (over f l + over f r)

-- a number of a pair is its own, or one of one side
split : (f : ℕ → ℕ) (w : Way) (j : Join) (k : ℕ) (l r : Tree) → Numbered k l r → (i : ℕ)
    → only_if (holds (node w j k l r) i) (f i) ≡ only_if (eqb k i) (f i) + (only_if (holds l i) (f i) + only_if (holds r i) (f i))
unfolding holds only_if Disjoint
split f w j k l r d i = go (eqb k i) refl (holds l i) refl (holds r i) refl
  where
    go : (a : Bool) → eqb k i ≡ a → (b : Bool) → holds l i ≡ b → (c : Bool) → holds r i ≡ c
        → only_if (eqb k i || (holds l i || holds r i)) (f i) ≡ only_if (eqb k i) (f i) + (only_if (holds l i) (f i) + only_if (holds r i) (f i))
    go true p b q c s =
        let e : k ≡ i = eqb-true k i p in
        let x : holds l i ≡ false = subst (λ (n : ℕ). holds l n ≡ false) e d.not_left in
        let y : holds r i ≡ false = subst (λ (n : ℕ). holds r n ≡ false) e d.not_right in
        rw (p, x, y, only_if) (omega arith)
    go false p true q true s = absurd (⊎_elim (λ z. true-not-false q z) (λ z. true-not-false s z) (d.sides i))
    go false p true q false s = rw (p, q, s, only_if) (omega arith)
    go false p false q true s = rw (p, q, s, only_if) (omega arith)
    go false p false q false s = rw (p, q, s, only_if) refl

total-over : (f : ℕ → ℕ) (n : ℕ) (t : Tree) → Distinct t → Below n t → total (λ i. only_if (holds t i) (f i)) n ≡ over f t
unfolding over holds Distinct
total-over f n (leaf i s c code) d b = total-one f i n (b i (eqb_refl i))
total-over f n (trivial i) d b = total-one f i n (b i (eqb_refl i))
total-over f n (unsatisfiable i) d b = total-one f i n (b i (eqb_refl i))
total-over f n (node w j i l r) d b =
    total-same (λ k. only_if (holds (node w j i l r) k) (f k)) (λ k. only_if (eqb i k) (f k) + (only_if (holds l k) (f k) + only_if (holds r k) (f k))) n (λ k h. split f w j i l r d.2 k)
    ∙ total-sum (λ k. only_if (eqb i k) (f k)) (λ k. only_if (holds l k) (f k) + only_if (holds r k) (f k)) n
    ∙ ap₂ ◌+◌ (total-one f i n (below-here n w j i l r b))
    (total-sum (λ k. only_if (holds l k) (f k)) (λ k. only_if (holds r k) (f k)) n
    ∙ ap₂ ◌+◌ (total-over f n l d.0 (below_left n w j i l r b)) (total-over f n r d.1 (below_right n w j i l r b)))

-- ---- the leaves of a tree

unfoldable leaves_in : (ℕ → Bool) → Tree → ℕ
leaves_in runs (leaf i s c code) = one (runs i)
leaves_in runs (trivial i) = 0
leaves_in runs (unsatisfiable i) = 0
leaves_in runs (node w j i l r) = leaves_in runs l + leaves_in runs r

leaves-loaded : (bs : Bytes) (t : Tree) → leaves_in (is_running_at bs) t ≡ running_leaves t (load t bs)
unfolding leaves_in is_running_at running_leaves load status left_of right_of
leaves-loaded bs (leaf i s c code) = refl
leaves-loaded bs (trivial i) = refl
leaves-loaded bs (unsatisfiable i) = refl
leaves-loaded bs (node w j i l r) = ap₂ ◌+◌ (leaves-loaded bs l) (leaves-loaded bs r)

-- cells that hold a state have its leaves
pub kept_leaves : (t : Tree) (s : State) (bs : Bytes) → Below most_nodes t → length bs ≡ cells_size → Kept t s bs → running_leaves t s ≡ running_leaves t (load t bs)
unfolding Kept holds running_leaves load status left_of right_of
kept_leaves (leaf i r c code) s bs below size k =
    sym (ap (λ (x : Status). one (is_running x)) (ap status_of (status-is bs i size (below i (eqb_refl i)) s k) ∙ status-back (status s)))
kept_leaves (trivial i) s bs below size k = refl
kept_leaves (unsatisfiable i) s bs below size k = refl
kept_leaves (node w j i l r) s bs below size k =
    ap₂ ◌+◌ (kept_leaves l (left_of s) bs (below_left most_nodes w j i l r below) size k.1) (kept_leaves r (right_of s) bs (below_right most_nodes w j i l r below) size k.2)

-- ---- the nodes of a passed policy

below_total : (file : Bytes) (runs : ℕ → Bool) (n : ℕ) → leaves_below file runs n ≡ total (leaf_worth file runs) n
unfolding leaves_below total
below_total file runs zero = refl
below_total file runs (suc n) = ap (λ (m : ℕ). m + leaf_worth file runs n) (below_total file runs n)

pub leaves-few : (file : Bytes) (runs : ℕ → Bool) (n : ℕ) → leaves_below file runs n ≤ n
unfolding leaves_below leaf_worth one
leaves-few file runs zero = omega arith
leaves-few file runs (suc n) = go (is_leaf (node_kind (node_at file (node_place n)).kind) && runs n) (leaves-few file runs n)
  where
    go : (b : Bool) → leaves_below file runs n ≤ n → leaves_below file runs n + one b ≤ suc n
    go true h = omega arith
    go false h = omega arith

-- one node more, as code counts up
pub leaves-more : (file : Bytes) (runs : ℕ → Bool) (i : ℕ) → leaves_below file runs i + leaf_worth file runs i ≡ leaves_below file runs (i + 1)
unfolding leaves_below
leaves-more file runs i = ap (leaves_below file runs) (sym (add-one i))

-- told alike, counted alike
pub leaves-same : (file : Bytes) (p q : ℕ → Bool) (n : ℕ) → ((i : ℕ) → i < n → p i ≡ q i) → leaves_below file p n ≡ leaves_below file q n
unfolding leaves_below leaf_worth
leaves-same file p q zero h = refl
leaves-same file p q (suc n) h =
    ap₂ (λ (m : ℕ) (b : Bool). m + one (is_leaf (node_kind (node_at file (node_place n)).kind) && b)) (leaves-same file p q n (λ i l. h i (omega arith))) (h n (omega arith))

module _ {file : Bytes} (ok : Passed file) (runs : ℕ → Bool) where
  abbrev n : ℕ
  n = node_count file

  abbrev record_of : ℕ → Node
  record_of i = node_at file (node_place i)

  abbrev left_tree : ℕ → Tree
  left_tree i = tree_at file (record_of i).left

  abbrev right_tree : ℕ → Tree
  right_tree i = tree_at file (record_of i).right

  over-step : (i : ℕ) (k : NodeKind) → node_kind (record_of i).kind ≡ k → (x : NodeSteps)
      → ((w : Way) (j : Join) → k ≡ aPair w j
      → (over (leaf_worth file runs) (left_tree i) ≡ leaves_in runs (left_tree i)) × (over (leaf_worth file runs) (right_tree i) ≡ leaves_in runs (right_tree i)))
      → over (leaf_worth file runs) (shaped k i x (left_tree i) (right_tree i)) ≡ leaves_in runs (shaped k i x (left_tree i) (right_tree i))
  unfolding over leaves_in shaped leaf_worth is_leaf one
  over-step i aLeaf e x h = rw (e, is_leaf)
  over-step i aTrivial e x h = rw (e, is_leaf)
  over-step i an_unsatisfiable e x h = rw (e, is_leaf)
  over-step i no_node e x h = rw (e, is_leaf)
  over-step i (aPair w j) e x h = let z = h w j refl in rw (e, is_leaf) (omega (arith, z.0, z.1))

  over-leaves : (fuel i : ℕ) → i < n → n ≤ fuel + i → over (leaf_worth file runs) (tree_at file i) ≡ leaves_in runs (tree_at file i)
  over-leaves zero i h l = absurd (omega arith)
  over-leaves (suc fuel) i h l =
      subst (λ (t : Tree). over (leaf_worth file runs) t ≡ leaves_in runs t) (sym (tree-read file h refl ok.kept5 refl))
      (over-step i (node_kind (record_of i).kind) refl _ (λ w j e.
      let c : ChildrenLater n i (record_of i) = children-read file h refl ok.kept5 e in
      (over-leaves fuel (record_of i).left c.left_below (omega (arith, c.left-later)), over-leaves fuel (record_of i).right c.right-below (omega (arith, c.right-later)))))

  over-tree : over (leaf_worth file runs) (tree file) ≡ leaves_in runs (tree file)
  over-tree =
      subst (λ (t : Tree). over (leaf_worth file runs) t ≡ leaves_in runs t) (sym (tree-top file))
      (over-leaves n 0 (omega (arith, (counts-fit file ok.kept3).some-node)) (omega arith))

  below-leaves : leaves_below file runs n ≡ leaves_in runs (tree file)
  unfolding only_if
  below-leaves =
      below_total file runs n
      ∙ total-same (leaf_worth file runs) (λ i. only_if (holds (tree file) i) (leaf_worth file runs i)) n
      (λ i h. sym (ap (λ (b : Bool). only_if b (leaf_worth file runs i)) (yes_of (holds (tree file) i) (all_held file ok.kept5 i h))))
      ∙ total-over (leaf_worth file runs) n (tree file) (lawful-apart (tree file) (lawful file ok)) (numbers-below-nodes file ok)
      ∙ over-tree

-- The leaves that run in the state that cells hold.
pub counted : {file : Bytes} → Passed file → (bs : Bytes) → leaves_below file (is_running_at bs) (node_count file) ≡ running_leaves (tree file) (load (tree file) bs)
counted {file} ok bs = below-leaves ok (is_running_at bs) ∙ leaves-loaded bs (tree file)
