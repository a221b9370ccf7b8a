-- Rule 5, the tree rule: each number below the number of nodes stands in the tree exactly once (`all_held`, `distinct`), and no other number
-- does (`numbers-below`); the fuel of `tree` is enough; one step down the tree as the code reads the node's record.
use Prim.Native.Nat.{ℕ, zero, suc, ◌+◌, ◌-◌, ◌≤◌, ◌<◌}
use native.Mathlib.Nat.{le_refl, zero-lt-suc}
use native.Mathlib.Omega.{arith}
use mathlib.Core.Path.{◌≡◌, refl, sym, ◌∙◌, ap, subst}
use mathlib.Core.Logic.{◌⊎◌, inl, inr, ⊎_elim}
use mathlib.Core.Bool.{Bool, true, false, ◌&&◌, ◌||◌, not}
use mathlib.Core.List.{List, [], ◌∷◌, map}
use lib.Dec.{T, eqb, eqb→eq, eqb_refl, ltb, ltb→lt}
use lib.ListN.{length, get_or, drop}
use Rattle.actions.proofs.Tests.{yes_of, and_left, and_right, or_left, or_right, or_cases, bool_cases, no_of, not-not, or-false-left, or-false-right}
use Rattle.spec_policy.proofs.ListLaws.{every_at-from-0}
use Rattle.spec_policy.proofs.NodeLaws.{no_n, nodes-length, node_of}
use Rattle.spec_policy.specs.Bytes.{Bytes}
use Rattle.spec_policy.specs.Lists.{one, occurs, every_at}
use Rattle.spec_policy.specs.Records.{Node, node_at, node_place, node_count, nodes, step_records}
use Rattle.spec_policy.specs.Steps.{Step, step_of}
use Rattle.spec_policy.specs.Tree.{Way, Join, NodeKind, aLeaf, aTrivial, an_unsatisfiable, aPair, no_node, node_kind, steps_owned, no_node_steps, with_steps, nodes_with_steps, Tree, leaf, trivial, unsatisfiable, node, tree_under, tree_at, tree, number_of}
use Rattle.spec_check.specs.Children.{later, children, one_parent, broken5}
use Rattle.spec_check.specs.Lawful.{holds, Disjoint, Numbered}
use Rattle.spec_check.proofs.Kept.{broken5-is}
use Rattle.spec_check.proofs.Under.{shaped-same, under-suc, under-is}
use Rattle.spec_check.specs.Numbers.{node_steps_in, node_in, kind_in, shaped, Distinct}

-- ---- how often n is a child

-- how often n is a child of x
unfoldable pub kids : ℕ → Node → ℕ
kids n x = occurs n (children (x ∷ []))

pub kids-cons : (n : ℕ) (x : Node) (xs : List Node) → occurs n (children (x ∷ xs)) ≡ kids n x + occurs n (children xs)
unfolding kids children occurs
kids-cons n x xs = by (node_kind x.kind) refl
  where
    by : (k : NodeKind) → node_kind x.kind ≡ k → occurs n (children (x ∷ xs)) ≡ occurs n (children (x ∷ [])) + occurs n (children xs)
    by aLeaf e = rw (e, children) (omega arith)
    by aTrivial e = rw (e, children) (omega arith)
    by an_unsatisfiable e = rw (e, children) (omega arith)
    by no_node e = rw (e, children) (omega arith)
    by (aPair w j) e = rw (e, children) (omega arith)

pub kids-pair : (n : ℕ) (x : Node) (w : Way) (j : Join) → node_kind x.kind ≡ aPair w j → kids n x ≡ one (eqb x.left n) + one (eqb x.right n)
unfolding kids children occurs
kids-pair n x w j e = rw (e, children) (omega arith)

kids-none : (n : ℕ) → kids n no_n ≡ 0
unfolding kids children occurs no_node_steps node_kind
kids-none n = refl

module _ (n : ℕ) where
  kids-one : (xs : List Node) (p : ℕ) → kids n (get_or xs p no_n) ≤ occurs n (children xs)
  kids-one [] p = omega (arith, kids-none n)
  kids-one (x ∷ xs) zero = omega (arith, kids-cons n x xs)
  kids-one (x ∷ xs) (suc p) = omega (arith, kids-cons n x xs, kids-one xs p)

  kids-two : (xs : List Node) (p q : ℕ) → (p ≡ q → ⊥) → kids n (get_or xs p no_n) + kids n (get_or xs q no_n) ≤ occurs n (children xs)
  kids-two [] p q d = omega (arith, kids-none n)
  kids-two (x ∷ xs) zero zero d = absurd (d refl)
  kids-two (x ∷ xs) zero (suc q) d = omega (arith, kids-cons n x xs, kids-one xs q)
  kids-two (x ∷ xs) (suc p) zero d = omega (arith, kids-cons n x xs, kids-one xs p)
  kids-two (x ∷ xs) (suc p) (suc q) d = omega (arith, kids-cons n x xs, kids-two xs p q (λ e. d (ap suc e)))

is_one : (c n : ℕ) → c ≡ n → one (eqb c n) ≡ 1
unfolding one
is_one c n e = ap one (yes_of (eqb c n) (subst (λ (m : ℕ). T (eqb c m)) e (eqb_refl c)))

-- ---- children and paths

data Side : Type 0 where
  on-left on-right : Side

child : Side → Node → ℕ
child on-left x = x.left
child on-right x = x.right

module _ (xs : List Node) where
  -- n is the child on side s of node p
  record Kid (p : ℕ) (s : Side) (n : ℕ) : Type 0 where
    way : Way
    join : Join
    pair : node_kind (get_or xs p no_n).kind ≡ aPair way join
    is : child s (get_or xs p no_n) ≡ n

  -- n is a, or below it
  data Reach (a : ℕ) : ℕ → Type 0 where
    here : Reach a a
    up : {p n : ℕ} (s : Side) → Kid p s n → Reach a p → Reach a n

  kid-kids : (n p : ℕ) (s : Side) → Kid p s n → 1 ≤ kids n (get_or xs p no_n)
  unfolding child
  kid-kids n p on-left k = omega (arith, kids-pair n (get_or xs p no_n) k.way k.join k.pair, is_one (get_or xs p no_n).left n k.is)
  kid-kids n p on-right k = omega (arith, kids-pair n (get_or xs p no_n) k.way k.join k.pair, is_one (get_or xs p no_n).right n k.is)

  module _ (once : (n p : ℕ) (s : Side) → Kid p s n → occurs n (children xs) ≡ 1) (ordered : (n p : ℕ) (s : Side) → Kid p s n → p < n) where
    same-parent : (n p q : ℕ) (s t : Side) → Kid p s n → Kid q t n → p ≡ q
    same-parent n p q s t k l = go (eqb p q) refl
      where
        go : (b : Bool) → eqb p q ≡ b → p ≡ q
        go true e = eqb→eq p q (subst T (sym e) tt)
        go false e =
            absurd (omega (
              arith,
              once n p s k,
              kid-kids n p s k,
              kid-kids n q t l,
              kids-two n xs p q (λ d. subst T e (subst (λ (m : ℕ). T (eqb p m)) d (eqb_refl p))),
            ))

    not-both : (n p : ℕ) → Kid p on-left n → Kid p on-right n → ⊥
    unfolding child
    not-both n p k l =
        omega (
          arith,
          once n p on-left k,
          kids-one n xs p,
          kids-pair n (get_or xs p no_n) k.way k.join k.pair,
          is_one (get_or xs p no_n).left n k.is,
          is_one (get_or xs p no_n).right n l.is,
        )

    reach-le : {a n : ℕ} → Reach a n → a ≤ n
    reach-le {a} here = le_refl a
    reach-le (up {p = p} {n = n} s k r) = omega (arith, ordered n p s k, reach-le r)

    reach-trans : {a b n : ℕ} → Reach a b → Reach b n → Reach a n
    reach-trans r here = r
    reach-trans r (up s k u) = up s k (reach-trans r u)

    comparable : {a b n : ℕ} → Reach a n → Reach b n → Reach a b ⊎ Reach b a
    comparable here u = inr u
    comparable (up s k r) here = inl (up s k r)
    comparable {b = b} (up {p = p} {n = n} s k r) (up {p = q} t l u) = comparable r (subst (λ (x : ℕ). Reach b x) (same-parent n q p t s l k) u)

    -- no path leads from one child of i to the other
    no-path : (i : ℕ) (s t : Side) {a b : ℕ} → Kid i s a → Kid i t b → (a ≡ b → ⊥) → Reach a b → ⊥
    no-path i s t k l d here = d refl
    no-path i s t {a = a} k l d (up {p = p} {n = b} s' k' r) = omega (arith, same-parent b i p t s' l k', reach-le r, ordered a i s k)

    apart-paths : (i a b n : ℕ) → Kid i on-left a → Kid i on-right b → Reach a n → Reach b n → ⊥
    apart-paths i a b n k l r u =
        let d : a ≡ b → ⊥ = λ e. not-both a i k (subst (λ (x : ℕ). Kid i on-right x) (sym e) l) in
        ⊎_elim (λ w. no-path i on-left on-right k l d w) (λ w. no-path i on-right on-left l k (λ e. d (sym e)) w) (comparable r u)

-- ---- the nodes of the places

placed-node : (xs : List Node) (ss : List Step) (i : ℕ) → node_in (with_steps xs ss) i ≡ get_or xs i no_n
unfolding with_steps
placed-node [] ss i = refl
placed-node (x ∷ xs) ss zero = refl
placed-node (x ∷ xs) ss (suc i) = placed-node xs (drop (steps_owned x) ss) i

pub same-node : (file : Bytes) (i : ℕ) → node_in (nodes_with_steps file) i ≡ get_or (nodes file) i no_n
unfolding nodes_with_steps
same-node file i = placed-node (nodes file) (map step_of (step_records file)) i

-- a place's node is the record that the file holds there
pub node-in : (file : Bytes) (i : ℕ) → i < node_count file → node_in (nodes_with_steps file) i ≡ node_at file (node_place i)
node-in file i h = same-node file i ∙ node_of file i h

-- past the list there are no nodes
pub node-inside : (xs : List Node) (i : ℕ) → (node_kind (get_or xs i no_n).kind ≡ no_node → ⊥) → i < length xs
unfolding no_node_steps node_kind
node-inside [] i h = absurd (h refl)
node-inside (x ∷ xs) zero h = zero-lt-suc (length xs)
node-inside (x ∷ xs) (suc i) h = omega (arith, node-inside xs i h)

-- ---- rule 5

-- where the children of a pair at i lie, of n nodes
pub record ChildrenLater (n i : ℕ) (x : Node) : Type 0 where
  pub left-later : i < x.left
  pub left_below : x.left < n
  pub right-later : i < x.right
  pub right-below : x.right < n

later-pair : (n i : ℕ) (x : Node) (w : Way) (j : Join) → node_kind x.kind ≡ aPair w j → T (later n i x) → ChildrenLater n i x
unfolding later
later-pair n i x w j e h =
    let u : T (ltb i x.left && ltb x.left n && ltb i x.right && ltb x.right n) = rw (e, later) at h in
    let u₁ : T (ltb i x.left && ltb x.left n && ltb i x.right) = and_left (ltb i x.left && ltb x.left n && ltb i x.right) (ltb x.right n) u in
    let u₂ : T (ltb i x.left && ltb x.left n) = and_left (ltb i x.left && ltb x.left n) (ltb i x.right) u₁ in
    record {
      left-later = ltb→lt i x.left (and_left (ltb i x.left) (ltb x.left n) u₂);
      left_below = ltb→lt x.left n (and_right (ltb i x.left) (ltb x.left n) u₂);
      right-later = ltb→lt i x.right (and_right (ltb i x.left && ltb x.left n) (ltb i x.right) u₁);
      right-below = ltb→lt x.right n (and_right (ltb i x.left && ltb x.left n && ltb i x.right) (ltb x.right n) u);
    }

module _ (file : Bytes) (five : broken5 file ≡ false) where
  all-later : T (every_at (later (node_count file)) 0 (nodes file))
  all-later =
      not-not (every_at (later (node_count file)) 0 (nodes file))
      (or-false-left (not (every_at (later (node_count file)) 0 (nodes file))) (not (every_at (λ i x. one_parent (nodes file) i) 0 (nodes file))) (sym (broken5-is file) ∙ five))

  all-once : T (every_at (λ i x. one_parent (nodes file) i) 0 (nodes file))
  all-once =
      not-not (every_at (λ i x. one_parent (nodes file) i) 0 (nodes file))
      (or-false-right (not (every_at (later (node_count file)) 0 (nodes file))) (not (every_at (λ i x. one_parent (nodes file) i) 0 (nodes file))) (sym (broken5-is file) ∙ five))

  nodes-later : (p : ℕ) (w : Way) (j : Join) → node_kind (get_or (nodes file) p no_n).kind ≡ aPair w j → ChildrenLater (node_count file) p (get_or (nodes file) p no_n)
  nodes-later p w j e =
      later-pair (node_count file) p (get_or (nodes file) p no_n) w j e
      (every_at-from-0 (later (node_count file)) (nodes file) no_n all-later p (node-inside (nodes file) p (λ n. let z : ◌≡◌ {A = ℕ} 0 1 = cc in omega arith)))

  -- "A child's number is greater than its parent's and less than n"
  pub children-later : (i : ℕ) (w : Way) (j : Join) → kind_in (nodes_with_steps file) i ≡ aPair w j → ChildrenLater (node_count file) i (node_in (nodes_with_steps file) i)
  children-later i w j e =
      subst (λ (x : Node). ChildrenLater (node_count file) i x) (sym (same-node file i))
      (nodes-later i w j (subst (λ (x : Node). node_kind x.kind ≡ aPair w j) (same-node file i) e))

  ordered : (n p : ℕ) (s : Side) → Kid (nodes file) p s n → p < n
  unfolding child
  ordered n p on-left k = omega (arith, (nodes-later p k.way k.join k.pair).left-later, k.is)
  ordered n p on-right k = omega (arith, (nodes-later p k.way k.join k.pair).right-later, k.is)

  below : (n p : ℕ) (s : Side) → Kid (nodes file) p s n → n < node_count file
  unfolding child
  below n p on-left k = omega (arith, (nodes-later p k.way k.join k.pair).left_below, k.is)
  below n p on-right k = omega (arith, (nodes-later p k.way k.join k.pair).right-below, k.is)

  once : (n p : ℕ) (s : Side) → Kid (nodes file) p s n → occurs n (children (nodes file)) ≡ 1
  unfolding one_parent
  once n p s k =
      let l : n < length (nodes file) = omega (arith, below n p s k, nodes-length file) in
      ⊎_elim (λ z. absurd (omega (arith, eqb→eq n 0 z, ordered n p s k))) (λ u. eqb→eq (occurs n (children (nodes file))) 1 u)
      (or_cases (eqb n 0) (eqb (occurs n (children (nodes file))) 1)
      (every_at-from-0 (λ i x. one_parent (nodes file) i) (nodes file) no_n all-once n l))

  kid_of : (i : ℕ) (s : Side) (w : Way) (j : Join) → kind_in (nodes_with_steps file) i ≡ aPair w j → Kid (nodes file) i s (child s (node_in (nodes_with_steps file) i))
  kid_of i s w j e =
      record {
        way = w;
        join = j;
        pair = subst (λ (x : Node). node_kind x.kind ≡ aPair w j) (same-node file i) e;
        is = sym (ap (λ (x : Node). child s x) (same-node file i));
      }

  -- what the tree of node i holds is reached from i
  Under : ℕ → Tree → Type 0
  Under i t = (n : ℕ) → T (holds t n) → Reach (nodes file) i n

  under_one : (i n : ℕ) → T (eqb i n) → Reach (nodes file) i n
  under_one i n h = subst (λ (x : ℕ). Reach (nodes file) i x) (eqb→eq i n h) here

  under-pair : (w : Way) (j : Join) (i : ℕ) (l r : Tree) → kind_in (nodes_with_steps file) i ≡ aPair w j
      → Under (node_in (nodes_with_steps file) i).left l → Under (node_in (nodes_with_steps file) i).right r → Under i (node w j i l r)
  unfolding Under holds child
  under-pair w j i l r e x y n h =
      ⊎_elim (under_one i n)
      (λ u. ⊎_elim (λ v. reach-trans (nodes file) once ordered (up on-left (kid_of i on-left w j e) here) (x n v))
      (λ v. reach-trans (nodes file) once ordered (up on-right (kid_of i on-right w j e) here) (y n v)) (or_cases (holds l n) (holds r n) u))
      (or_cases (eqb i n) (holds l n || holds r n) h)

  under : (fuel i : ℕ) → Under i (tree_under fuel (nodes_with_steps file) i)
  unfolding Under holds
  under = under-is (nodes_with_steps file) Under (λ i. under_one i) (λ i. under_one i) (λ i e. under_one i) under-pair

  numbered-over : (i : ℕ) (w : Way) (j : Join) (l r : Tree) → kind_in (nodes_with_steps file) i ≡ aPair w j
      → Under (node_in (nodes_with_steps file) i).left l → Under (node_in (nodes_with_steps file) i).right r → Numbered i l r
  unfolding Under Disjoint child
  numbered-over i w j l r e x y =
      let a : ℕ = (node_in (nodes_with_steps file) i).left in
      let b : ℕ = (node_in (nodes_with_steps file) i).right in
      let c : ChildrenLater (node_count file) i (node_in (nodes_with_steps file) i) = children-later i w j e in
      record {
        sides = λ n.
            ⊎_elim (λ u. ⊎_elim (λ v. absurd (apart-paths (nodes file) once ordered i a b n (kid_of i on-left w j e) (kid_of i on-right w j e) (x n u) (y n v)))
            (λ v. inr v) (bool_cases (holds r n))) (λ u. inl u) (bool_cases (holds l n));
        not_left = no_of (holds l i) (λ u. omega (arith, reach-le (nodes file) once ordered (x i u), c.left-later));
        not_right = no_of (holds r i) (λ u. omega (arith, reach-le (nodes file) once ordered (y i u), c.right-later));
      }

  -- Both sides of a pair hold other numbers than the pair and than each other.
  numbered : (i : ℕ) (w : Way) (j : Join) → kind_in (nodes_with_steps file) i ≡ aPair w j
      → Numbered i (tree_at file (node_in (nodes_with_steps file) i).left) (tree_at file (node_in (nodes_with_steps file) i).right)
  unfolding tree_at
  numbered i w j e =
      let a : ℕ = (node_in (nodes_with_steps file) i).left in
      let b : ℕ = (node_in (nodes_with_steps file) i).right in
      numbered-over i w j (tree_at file a) (tree_at file b) e (under (node_count file - a) a) (under (node_count file - b) b)

  -- the same of the whole tree
  pub distinct : Distinct (tree file)
  unfolding tree Distinct Under holds
  distinct =
      (under-is (nodes_with_steps file) (λ i t. Under i t × Distinct t) (λ i. (under_one i, tt)) (λ i. (under_one i, tt)) (λ i e. (under_one i, tt))
      (λ w j i l r e x y. (under-pair w j i l r e x.0 y.0, (x.1, y.1, numbered-over i w j l r e x.0 y.0)))
      (node_count file) 0).1

  -- every number that is reached from a node of the file is a node of the file
  reach-below : {a n : ℕ} → Reach (nodes file) a n → a < node_count file → n < node_count file
  reach-below here h = h
  reach-below (up {p = p} {n = n} s k r) h = below n p s k

  pub numbers-below : 1 ≤ node_count file → (k : ℕ) → T (holds (tree file) k) → k < node_count file
  unfolding tree Under
  numbers-below h k u = reach-below (under (node_count file) 0 k u) h

  -- ---- the fuel

  -- The fuel of `tree` does not run out: more fuel than there are nodes from i on gives the same tree.
  pub under-enough : (fuel i : ℕ) → i < node_count file → node_count file ≤ fuel + i → tree_under (suc fuel) (nodes_with_steps file) i ≡ tree_under fuel (nodes_with_steps file) i
  under-enough zero i h l = absurd (omega arith)
  under-enough (suc fuel) i h l =
      let a : ℕ = (node_in (nodes_with_steps file) i).left in
      let b : ℕ = (node_in (nodes_with_steps file) i).right in
      under-suc (nodes_with_steps file) (suc fuel) i
      ∙ shaped-same (kind_in (nodes_with_steps file) i) i (node_steps_in (nodes_with_steps file) i)
      (tree_under (suc fuel) (nodes_with_steps file) a) (tree_under fuel (nodes_with_steps file) a) (tree_under (suc fuel) (nodes_with_steps file) b) (tree_under fuel (nodes_with_steps file) b)
      (λ w j e. (
        under-enough fuel a (children-later i w j e).left_below (omega (arith, (children-later i w j e).left-later)),
        under-enough fuel b (children-later i w j e).right-below (omega (arith, (children-later i w j e).right-later)),
      ))
      ∙ sym (under-suc (nodes_with_steps file) fuel i)

  under_more : (d fuel i : ℕ) → i < node_count file → node_count file ≤ fuel + i → tree_under (d + fuel) (nodes_with_steps file) i ≡ tree_under fuel (nodes_with_steps file) i
  under_more zero fuel i h l = ap (λ (n : ℕ). tree_under n (nodes_with_steps file) i) (omega arith)
  under_more (suc d) fuel i h l =
      let z : suc d + fuel ≡ suc (d + fuel) = omega arith in
      ap (λ (n : ℕ). tree_under n (nodes_with_steps file) i) z ∙ under-enough (d + fuel) i h (omega arith) ∙ under_more d fuel i h l

  under-tree : (fuel i : ℕ) → i < node_count file → node_count file ≤ fuel + i → tree_under fuel (nodes_with_steps file) i ≡ tree_at file i
  unfolding tree_at
  under-tree fuel i h l =
      let z : fuel ≡ (fuel - (node_count file - i)) + (node_count file - i) = omega arith in
      ap (λ (n : ℕ). tree_under n (nodes_with_steps file) i) z ∙ under_more (fuel - (node_count file - i)) (node_count file - i) i h (omega arith)

  -- One step down the tree, with no fuel to be seen.
  pub tree-at : (i : ℕ) → i < node_count file
      → tree_at file i ≡ shaped (kind_in (nodes_with_steps file) i) i (node_steps_in (nodes_with_steps file) i) (tree_at file (node_in (nodes_with_steps file) i).left) (tree_at file (node_in (nodes_with_steps file) i).right)
  tree-at i h =
      let a : ℕ = (node_in (nodes_with_steps file) i).left in
      let b : ℕ = (node_in (nodes_with_steps file) i).right in
      let fuel : ℕ = node_count file - suc i in
      sym (under-tree (suc fuel) i h (omega arith)) ∙ under-suc (nodes_with_steps file) fuel i
      ∙ shaped-same (kind_in (nodes_with_steps file) i) i (node_steps_in (nodes_with_steps file) i)
      (tree_under fuel (nodes_with_steps file) a) (tree_at file a) (tree_under fuel (nodes_with_steps file) b) (tree_at file b)
      (λ w j e. (
        under-tree fuel a (children-later i w j e).left_below (omega (arith, (children-later i w j e).left-later)),
        under-tree fuel b (children-later i w j e).right-below (omega (arith, (children-later i w j e).right-later)),
      ))

-- ---- node i, as the code reads it: its record begins at `place`

module _ (file : Bytes) {i place : ℕ} (h : i < node_count file) (p : place ≡ node_place i) where
  abbrev x : Node
  x = node_at file place

  pub node-read : node_in (nodes_with_steps file) i ≡ x
  node-read = node-in file i h ∙ ap (node_at file) (sym p)

  pub kind-read : {k : NodeKind} → node_kind x.kind ≡ k → kind_in (nodes_with_steps file) i ≡ k
  kind-read e = ap (λ (y : Node). node_kind y.kind) node-read ∙ e

  module _ (five : broken5 file ≡ false) where
    pub tree-read : {k : NodeKind} → node_kind x.kind ≡ k → tree_at file i ≡ shaped k i (node_steps_in (nodes_with_steps file) i) (tree_at file x.left) (tree_at file x.right)
    tree-read e =
        tree-at file five i h ∙ λ j. shaped (kind-read e j) i (node_steps_in (nodes_with_steps file) i) (tree_at file (node-read j).left) (tree_at file (node-read j).right)

    pub children-read : {w : Way} {j : Join} → node_kind x.kind ≡ aPair w j → ChildrenLater (node_count file) i x
    children-read {w} {j} e = subst (λ (y : Node). ChildrenLater (node_count file) i y) node-read (children-later file five i w j (kind-read e))

    pub numbered-read : {w : Way} {j : Join} → node_kind x.kind ≡ aPair w j → Numbered i (tree_at file x.left) (tree_at file x.right)
    numbered-read {w} {j} e = subst (λ (y : Node). Numbered i (tree_at file y.left) (tree_at file y.right)) node-read (numbered file five i w j (kind-read e))

-- n is a child of node p
abbrev pub Child : Bytes → ℕ → ℕ → Type 0
Child file p n = ((node_at file (node_place p)).left ≡ n) ⊎ ((node_at file (node_place p)).right ≡ n)

kid-read : (file : Bytes) {p n : ℕ} → p < node_count file → {w : Way} {j : Join} → node_kind (node_at file (node_place p)).kind ≡ aPair w j
    → (s : Side) → child s (node_at file (node_place p)) ≡ n → Kid (nodes file) p s n
kid-read file {p} h {w} {j} e s z =
    record { way = w; join = j; pair = ap (λ (y : Node). node_kind y.kind) (node_of file p h) ∙ e; is = ap (λ (y : Node). child s y) (node_of file p h) ∙ z }

module _ (file : Bytes) (five : broken5 file ≡ false) {p : ℕ} (h : p < node_count file) {w : Way} {j : Join} (e : node_kind (node_at file (node_place p)).kind ≡ aPair w j) where
  pub two-children : (node_at file (node_place p)).left ≡ (node_at file (node_place p)).right → ⊥
  unfolding child
  two-children z = not-both (nodes file) (once file five) (ordered file five) (node_at file (node_place p)).right p (kid-read file h e on-left z) (kid-read file h e on-right refl)

  pub one-parent : {q n : ℕ} → q < node_count file → {v : Way} {k : Join} → node_kind (node_at file (node_place q)).kind ≡ aPair v k → Child file p n → Child file q n → p ≡ q
  unfolding child
  one-parent {q} {n} g f c d = ⊎_elim (λ y. from on-left (kid-read file h e on-left y)) (λ y. from on-right (kid-read file h e on-right y)) c
    where
      from : (s : Side) → Kid (nodes file) p s n → p ≡ q
      from s a =
          ⊎_elim (λ z. same-parent (nodes file) (once file five) (ordered file five) n p q s on-left a (kid-read file g f on-left z))
          (λ z. same-parent (nodes file) (once file five) (ordered file five) n p q s on-right a (kid-read file g f on-right z)) d

-- `tree` is the one at node 0
pub tree-top : (file : Bytes) → tree file ≡ tree_at file 0
unfolding tree tree_at
tree-top file = ap (λ (n : ℕ). tree_under n (nodes_with_steps file) 0) (omega arith)

-- a tree carries the number that it was looked up by
pub number_at : (file : Bytes) (i : ℕ) → number_of (tree_at file i) ≡ i
unfolding tree_at number_of
number_at file i = under-is (nodes_with_steps file) (λ k t. number_of t ≡ k) (λ k. refl) (λ k. refl) (λ k e. refl) (λ w j k l r e x y. refl) (node_count file - i) i

pub root-number : (file : Bytes) → number_of (tree file) ≡ 0
root-number file = ap number_of (tree-top file) ∙ number_at file 0

-- ---- every node of the file is in the tree

-- a child of some node
record Parent (xs : List Node) (n : ℕ) : Type 0 where
  place : ℕ
  side : Side
  kid : Kid xs place side n

record Counted (n : ℕ) (xs : List Node) : Type 0 where
  place : ℕ
  counted : 1 ≤ kids n (get_or xs place no_n)

first-or-rest : (n : ℕ) (x : Node) (xs : List Node) → 1 ≤ occurs n (children (x ∷ xs)) → (1 ≤ occurs n (children xs) → Counted n xs) → Counted n (x ∷ xs)
first-or-rest n x xs h rest = go (kids n x) refl
  where
    go : (k : ℕ) → kids n x ≡ k → Counted n (x ∷ xs)
    go zero e = let r = rest (omega (arith, h, kids-cons n x xs, e)) in record { place = suc r.place; counted = r.counted }
    go (suc k) e = record { place = 0; counted = omega (arith, e) }

some-counted : (n : ℕ) (xs : List Node) → 1 ≤ occurs n (children xs) → Counted n xs
unfolding children occurs
some-counted n [] h = absurd (omega (arith, h))
some-counted n (x ∷ xs) h = first-or-rest n x xs h (λ k. some-counted n xs k)

counted-kid : (n : ℕ) (xs : List Node) (p : ℕ) → 1 ≤ kids n (get_or xs p no_n) → Parent xs n
unfolding kids children occurs child one
counted-kid n xs p h = by (node_kind (get_or xs p no_n).kind) refl
  where
    pick : (w : Way) (j : Join) → node_kind (get_or xs p no_n).kind ≡ aPair w j → (b : Bool) → eqb (get_or xs p no_n).left n ≡ b → (c : Bool) → eqb (get_or xs p no_n).right n ≡ c
        → Parent xs n
    pick w j e true f c g =
        record { place = p; side = on-left; kid = record { way = w; join = j; pair = e; is = eqb→eq (get_or xs p no_n).left n (subst T (sym f) tt) } }
    pick w j e false f true g =
        record { place = p; side = on-right; kid = record { way = w; join = j; pair = e; is = eqb→eq (get_or xs p no_n).right n (subst T (sym g) tt) } }
    pick w j e false f false g = absurd (omega (arith, h, kids-pair n (get_or xs p no_n) w j e, ap one f, ap one g))

    by : (k : NodeKind) → node_kind (get_or xs p no_n).kind ≡ k → Parent xs n
    by aLeaf e = absurd (let z : kids n (get_or xs p no_n) ≡ 0 = rw (e, children) in omega (arith, h, z))
    by aTrivial e = absurd (let z : kids n (get_or xs p no_n) ≡ 0 = rw (e, children) in omega (arith, h, z))
    by an_unsatisfiable e = absurd (let z : kids n (get_or xs p no_n) ≡ 0 = rw (e, children) in omega (arith, h, z))
    by no_node e = absurd (let z : kids n (get_or xs p no_n) ≡ 0 = rw (e, children) in omega (arith, h, z))
    by (aPair w j) e = pick w j e (eqb (get_or xs p no_n).left n) refl (eqb (get_or xs p no_n).right n) refl

holds-self : (t : Tree) → T (holds t (number_of t))
unfolding holds number_of
holds-self (leaf i r c code) = eqb_refl i
holds-self (trivial i) = eqb_refl i
holds-self (unsatisfiable i) = eqb_refl i
holds-self (node w j i l r) = or_left (eqb i i) (holds l i || holds r i) (eqb_refl i)

module _ (file : Bytes) (five : broken5 file ≡ false) where
  parent_of : (n : ℕ) → n < node_count file → (n ≡ 0 → ⊥) → Parent (nodes file) n
  unfolding one_parent
  parent_of n h d =
      let l : n < length (nodes file) = omega (arith, h, nodes-length file) in
      let c : occurs n (children (nodes file)) ≡ 1 =
      ⊎_elim (λ z. absurd (d (eqb→eq n 0 z))) (λ u. eqb→eq (occurs n (children (nodes file))) 1 u)
      (or_cases (eqb n 0) (eqb (occurs n (children (nodes file))) 1)
      (every_at-from-0 (λ i x. one_parent (nodes file) i) (nodes file) no_n (all-once file five) n l)) in
      let s = some-counted n (nodes file) (omega (arith, c)) in
      counted-kid n (nodes file) s.place s.counted

  -- what a child's tree holds, its parent's does
  lift : (p n : ℕ) (s : Side) → Kid (nodes file) p s n → p < node_count file → (k : ℕ) → T (holds (tree_at file n) k) → T (holds (tree_at file p) k)
  unfolding shaped holds child
  lift p n s kd l k u =
      let a : ℕ = (node_in (nodes_with_steps file) p).left in
      let b : ℕ = (node_in (nodes_with_steps file) p).right in
      let e : kind_in (nodes_with_steps file) p ≡ aPair kd.way kd.join =
      subst (λ (x : Node). node_kind x.kind ≡ aPair kd.way kd.join) (sym (same-node file p)) kd.pair in
      let z : tree_at file p ≡ node kd.way kd.join p (tree_at file a) (tree_at file b) =
      tree-at file five p l ∙ ap (λ (x : NodeKind). shaped x p (node_steps_in (nodes_with_steps file) p) (tree_at file a) (tree_at file b)) e in
      subst (λ (t : Tree). T (holds t k)) (sym z) (or_right (eqb p k) (holds (tree_at file a) k || holds (tree_at file b) k) (on s kd))
    where
      on : (s : Side) → Kid (nodes file) p s n → T (holds (tree_at file (node_in (nodes_with_steps file) p).left) k || holds (tree_at file (node_in (nodes_with_steps file) p).right) k)
      on on-left kd =
          or_left (holds (tree_at file (node_in (nodes_with_steps file) p).left) k) (holds (tree_at file (node_in (nodes_with_steps file) p).right) k)
          (subst (λ (x : ℕ). T (holds (tree_at file x) k)) (sym (ap (λ (x : Node). x.left) (same-node file p) ∙ kd.is)) u)
      on on-right kd =
          or_right (holds (tree_at file (node_in (nodes_with_steps file) p).left) k) (holds (tree_at file (node_in (nodes_with_steps file) p).right) k)
          (subst (λ (x : ℕ). T (holds (tree_at file x) k)) (sym (ap (λ (x : Node). x.right) (same-node file p) ∙ kd.is)) u)

  Within : ℕ → Type 0
  Within i = (k : ℕ) → T (holds (tree_at file i) k) → T (holds (tree file) k)

  within_by : (i : ℕ) → i < node_count file → ((p : ℕ) → p < i → Within p) → Within i
  unfolding Within
  within_by i h rec = go (eqb i 0) refl
    where
      go : (b : Bool) → eqb i 0 ≡ b → (k : ℕ) → T (holds (tree_at file i) k) → T (holds (tree file) k)
      go true e k u =
          subst (λ (t : Tree). T (holds t k)) (sym (tree-top file)) (subst (λ (x : ℕ). T (holds (tree_at file x) k)) (eqb→eq i 0 (subst T (sym e) tt)) u)
      go false e k u =
          let q = parent_of i h (λ z. subst T e (subst (λ (x : ℕ). T (eqb i x)) z (eqb_refl i))) in
          let o : q.place < i = ordered file five i q.place q.side q.kid in
          rec q.place o k (lift q.place i q.side q.kid (omega (arith, o, h)) k u)

  within : (m i : ℕ) → i < m → i < node_count file → Within i
  within zero i h l = absurd (omega (arith, h))
  within (suc m) i h l = within_by i l (λ p o. within m p (omega (arith, o, h)) (omega (arith, o, l)))

  -- every node's number is in the tree
  pub all_held : (k : ℕ) → k < node_count file → T (holds (tree file) k)
  unfolding Within
  all_held k h = within (suc k) k (omega arith) h k (subst (λ (x : ℕ). T (holds (tree_at file k) x)) (number_at file k) (holds-self (tree_at file k)))
