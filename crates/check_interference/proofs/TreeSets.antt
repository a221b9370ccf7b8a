-- The two sets of a node, and rule 9 of it, by its kind and from what its children have.
use Prim.Native.Nat.{ℕ, ◌+◌, ◌≤◌, ◌<◌}
use native.Mathlib.Omega.{arith}
use mathlib.Core.Path.{◌≡◌, refl, sym, ap, ap₂, ◌∙◌, subst}
use mathlib.Core.Bool.{Bool, true, false, ◌&&◌, ◌||◌, not}
use mathlib.Core.List.{List}
use lib.Dec.{eqb}
use lib.ListN.{length, get_or, set, length-set}
use lib.Seq.{get_or-set_same, get_or-set_other}
use borrow.Author.Tests.{eqb-true, eqb-false}
use Rattle.actions.specs.Sets.{ActionSet, EMPTY, union, meets}
use Rattle.spec_policy.specs.Bytes.{Bytes}
use Rattle.spec_policy.specs.Steps.{Step}
use Rattle.spec_policy.specs.Records.{most_nodes, Node, node_at, node_place, node_count}
use Rattle.spec_policy.specs.Tree.{Way, parallel, sequential, node_kind, NodeSteps, nodes_with_steps, Tree, leaf, node, tree, regulated}
use Rattle.spec_policy.specs.Spots.{Spot, nowhere, on_record, first_off}
use Rattle.spec_policy.proofs.FirstLoop.{first_from, none_from, found_from, kept_from, all_from}
use Rattle.spec_check.specs.Interference.{leaf_effects, effects, interfere, crossed, wrong9}
use Rattle.spec_check.specs.Numbers.{node_steps_in, shaped}
use Rattle.spec_check.proofs.Numbers.{ChildrenLater, node-read, kind-read, tree-read, children-read, tree-top}
use Rattle.spec_policy.specs.Tree.{tree_at}
use Rattle.file_records.specs.Kinds.{way_of, join_of, kind_of}
use Rattle.file_records.specs.declared.Way.{Way as ReadWay}
use Rattle.file_records.specs.declared.Join.{Join}
use Rattle.file_records.specs.declared.Kind.{Kind}
use Rattle.file_records.specs.declared.Kind.TheVariants.{Leaf, Trivial, Unsatisfiable, Pair, Unknown}
use Rattle.check_layout.specs.Frame.{Framed}
use Rattle.check_layout.proofs.Frame.{node-list}
use Rattle.check_leaves.specs.Leaves.{LeafValues}
use Rattle.check_interference.specs.Sets.{Treed, Filled, RegulatedFrom, EffectsFrom, is_parallel, clash}

-- ---- tests, one after the other

pub or-stop : (p q a : Bool) → a ≡ p → a ≡ true → a ≡ (p || q)
or-stop p q a e t = t ∙ ap (λ (x : Bool). x || q) (sym t ∙ e)

pub or-go : (p q a b : Bool) → a ≡ p → a ≡ false → b ≡ q → b ≡ (p || q)
or-go p q a b e f h = h ∙ ap (λ (x : Bool). x || q) (sym f ∙ e)

-- ---- one node more

module _ {A : Type 0} {f : ℕ → A} {none : A} where
  -- from node i on, by another name of i
  pub filled-as : {i j n : ℕ} {xs : List A} → i ≡ j → Filled f none i n xs → Filled f none j n xs
  filled-as {n = n} {xs = xs} e s = subst (λ (k : ℕ). Filled f none k n xs) e s

  -- at first no node has its entry
  pub filled_none : (n : ℕ) {xs : List A} → length xs ≡ most_nodes → Filled f none n n xs
  filled_none n r = record { room = r; at = λ k l b. absurd (omega arith) }

  pub filled_more : {i n : ℕ} {xs : List A} {v : A} → i < n → n ≤ most_nodes → Filled f none (i + 1) n xs → v ≡ f i → Filled f none i n (set xs i v)
  filled_more {i} {n} {xs} {v} h few s new = record { room = simp length-set s.room; at = λ k l b. go k l b (eqb k i) refl }
    where
      go : (k : ℕ) → i ≤ k → k < n → (x : Bool) → eqb k i ≡ x → get_or (set xs i v) k none ≡ f k
      go k l b true e =
          let z : i ≡ k = sym (eqb-true k i e) in
          subst (λ (j : ℕ). get_or (set xs i v) j none ≡ f j) z (get_or-set_same xs i v none (omega (arith, s.room)) ∙ new)
      go k l b false e =
          let z : k ≡ i → ⊥ = eqb-false k i e in
          get_or-set_other xs i k v none z ∙ s.at k (omega arith) b

module _ {f : ActionSet → List Step → ℕ} {file : Bytes} where
  -- the leaves before node i, by another name of i
  pub held-as : {i j : ℕ} {xs : List ℕ} → i ≡ j → LeafValues f file i xs → LeafValues f file j xs
  held-as {xs = xs} e s = subst (λ (k : ℕ). LeafValues f file k xs) e s

  -- node i's entry is written: those before it have what they had
  pub held-less : {i : ℕ} {xs : List ℕ} (v : ℕ) → LeafValues f file (i + 1) xs → LeafValues f file i (set xs i v)
  held-less {i} {xs} v s = record {
    room = simp length-set s.room;
    at = λ k h e. get_or-set_other xs i k v 0 (λ z. omega arith) ∙ s.at k (omega arith) e;
  }

-- ---- a node by its kind

-- node i of n, whose record begins at `place`, and of which the code has read the kind q
pub record Read (file : Bytes) (n m i place : ℕ) (q : Kind) : Type 0 where
  pub treed : Treed file n m
  pub below : i < n
  pub begins : place ≡ node_place i
  pub kind : kind_of q ≡ node_kind (node_at file place).kind

module _ {file : Bytes} {n m i place : ℕ} {q : Kind} (d : Read file n m i place q) where
  abbrev t : Treed file n m
  t = d.treed

  abbrev x : Node
  x = node_at file place

  abbrev here : NodeSteps
  here = node_steps_in (nodes_with_steps file) i

  inside : i < node_count file
  inside = omega (arith, d.below, t.frame.nodes)

  kind-told : {y : Kind} → q ≡ y → node_kind x.kind ≡ kind_of y
  kind-told told = sym d.kind ∙ ap kind_of told

  tree-here : {y : Kind} → q ≡ y → tree_at file i ≡ shaped (kind_of y) i here (tree_at file x.left) (tree_at file x.right)
  tree-here told = tree-read file inside d.begins t.five (kind-told told)

  module _ (told : q ≡ Leaf) where
    leaf-tree : leaf i here.node.set here.node.start here.steps ≡ tree_at file i
    unfolding kind_of shaped
    leaf-tree = sym (tree-here told)

    pub leaf-regulated : {s : ActionSet} → s ≡ x.set → s ≡ regulated (tree_at file i)
    unfolding regulated
    leaf-regulated e = e ∙ ap (λ (y : Node). y.set) (sym (node-read file inside d.begins)) ∙ ap regulated leaf-tree

    -- as the walk through the leaf has found it
    pub leaf-affects : {held : List ActionSet} → LeafValues leaf_effects file (i + 1) held → get_or held i 0 ≡ effects (tree_at file i)
    unfolding effects kind_of
    leaf-affects h = h.at i (omega arith) (kind-read file inside d.begins (kind-told told)) ∙ ap effects leaf-tree

    pub leaf_apart : false ≡ crossed (tree_at file i)
    unfolding crossed
    leaf_apart = ap crossed leaf-tree

  module _ {w : ReadWay} {j : Join} (told : q ≡ Pair w j) {l r : ℕ} (el : l ≡ x.left) (er : r ≡ x.right) where
    pub sides : (i < l) × (l < n) × (i < r) × (r < n)
    unfolding kind_of
    sides =
        let c : ChildrenLater (node_count file) i x = children-read file inside d.begins t.five (kind-told told) in
        let f = t.frame.nodes in
        (omega (arith, c.left-later), omega (arith, c.left_below), omega (arith, c.right-later), omega (arith, c.right-below))

    pair-tree : node (way_of w) (join_of j) i (tree_at file l) (tree_at file r) ≡ tree_at file i
    unfolding kind_of shaped
    pair-tree = (λ u. node (way_of w) (join_of j) i (tree_at file (el u)) (tree_at file (er u))) ∙ sym (tree-here told)

    -- both sides have their entries
    of-sides : {A : Type 0} {f : ℕ → A} {none : A} {o : ℕ} {xs : List A} → o ≤ i + 1 → Filled f none o n xs → (get_or xs l none ≡ f l) × (get_or xs r none ≡ f r)
    of-sides h s = (s.at l (omega (arith, sides)) (omega (arith, sides)), s.at r (omega (arith, sides)) (omega (arith, sides)))

    pub pair-regulated : {regs : List ActionSet} → RegulatedFrom file (i + 1) n regs → union (get_or regs l 0) (get_or regs r 0) ≡ regulated (tree_at file i)
    unfolding regulated
    pair-regulated s = (let p = of-sides (omega arith) s in ap₂ union p.0 p.1) ∙ ap regulated pair-tree

    pub pair-affects : {effs : List ActionSet} → EffectsFrom file (i + 1) n effs → union (get_or effs l 0) (get_or effs r 0) ≡ effects (tree_at file i)
    unfolding effects
    pair-affects s = (let p = of-sides (omega arith) s in ap₂ union p.0 p.1) ∙ ap effects pair-tree

    crossed-node : (v : Way) (a b : Tree) → (is_parallel v && interfere a b) ≡ crossed (node v (join_of j) i a b)
    unfolding crossed is_parallel
    crossed-node parallel a b = refl
    crossed-node sequential a b = refl

    -- c is whether the sides interfere
    pub pair-crossed : {regs effs : List ActionSet} → RegulatedFrom file (i + 1) n regs → EffectsFrom file (i + 1) n effs
        → (c : Bool) → c ≡ (is_parallel (way_of w) && clash regs effs l r) → c ≡ crossed (tree_at file i)
    unfolding interfere clash
    pair-crossed a b c ec =
        let p = of-sides (omega arith) a in
        let q = of-sides (omega arith) b in
        ec ∙ (λ u. is_parallel (way_of w) && (meets (q.0 u) (p.1 u) || meets (q.1 u) (p.0 u))) ∙ crossed-node (way_of w) (tree_at file l) (tree_at file r) ∙ ap crossed pair-tree

  -- neither a leaf nor a pair
  pub no-sets : (q ≡ Leaf → ⊥) → ((w : ReadWay) → (j : Join) → q ≡ Pair w j → ⊥) → (EMPTY ≡ regulated (tree_at file i)) × (EMPTY ≡ effects (tree_at file i)) × (false ≡ crossed (tree_at file i))
  unfolding kind_of shaped regulated effects crossed
  no-sets is_leaf is_pair = go q refl (tree-here refl)
    where
      go : (y : Kind) → q ≡ y → tree_at file i ≡ shaped (kind_of y) i here (tree_at file x.left) (tree_at file x.right)
          → (EMPTY ≡ regulated (tree_at file i)) × (EMPTY ≡ effects (tree_at file i)) × (false ≡ crossed (tree_at file i))
      go Trivial e u = (sym (ap regulated u), sym (ap effects u), sym (ap crossed u))
      go Unsatisfiable e u = (sym (ap regulated u), sym (ap effects u), sym (ap crossed u))
      go Unknown e u = (sym (ap regulated u), sym (ap effects u), sym (ap crossed u))
      go Leaf e u = absurd (is_leaf e)
      go (Pair w j) e u = absurd (is_pair w j e)

-- ---- rule 9

abbrev pub spared_at : Bytes → ℕ → Node → Bool
spared_at file i x = not (crossed (tree_at file i))

-- the first node from i on whose sides interfere
abbrev pub crossed_from : Bytes → ℕ → ℕ → Spot
crossed_from file n i = first_from (spared_at file) (λ i. node_at file (node_place i)) n i

module _ (file : Bytes) (n : ℕ) where
  module _ {i : ℕ} {c : Bool} (h : i < n) (e : c ≡ crossed (tree_at file i)) where
    pub crossed-found : c ≡ true → on_record i ≡ crossed_from file n i
    crossed-found t = found_from (spared_at file) (λ i. node_at file (node_place i)) n i h (ap not (sym e ∙ t))

    pub crossed-kept : c ≡ false → crossed_from file n (i + 1) ≡ crossed_from file n i
    crossed-kept t = kept_from (spared_at file) (λ i. node_at file (node_place i)) n i h (ap not (sym e ∙ t))

  pub crossed-none : nowhere ≡ crossed_from file n n
  crossed-none = none_from (spared_at file) (λ i. node_at file (node_place i)) n n (omega arith)

pub crossed-all : {file : Bytes} {n m : ℕ} → Framed file n m → crossed_from file n 0 ≡ wrong9 file
unfolding wrong9 node_place
crossed-all {file} {n} f = all_from (spared_at file) (λ i. node_at file (node_place i)) n ∙ ap (λ (l : List Node). first_off (spared_at file) 0 l) (sym (node-list f))

-- ---- the root

-- entry 0 is of the whole tree
pub top-is : {A : Type 0} {file : Bytes} {n m : ℕ} (g : Tree → A) {none : A} {xs : List A} → Framed file n m → Filled (λ k. g (tree_at file k)) none 0 n xs
    → get_or xs 0 none ≡ g (tree file)
top-is {file = file} g f s = s.at 0 (omega arith) (omega (arith, f.some-node)) ∙ sym (ap g (tree-top file))
