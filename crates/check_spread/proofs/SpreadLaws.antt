-- Spreads cut off at 256: a pair's is made of its children's, and each tells rule 10 of its node.
--
use Prim.Native.Nat.{ℕ, suc, min, ◌+◌, ◌*◌, ◌≤◌, ◌<◌}
use native.Mathlib.Nat.{add-mul, mul-suc}
use native.Mathlib.Omega.{arith}
use mathlib.Core.Path.{◌≡◌, refl, sym, ap, ap₂, ◌∙◌, subst}
use mathlib.Core.Bool.{Bool, true, false, not}
use mathlib.Core.List.{List, [], ◌∷◌}
use lib.Dec.{leb, eqb}
use lib.ListN.{length, get_or, set, length-set}
use lib.Seq.{get_or-set_same, get_or-set_other}
use borrow.Author.Tests.{leb-true, leb-false, le-leb, lt-leb, eqb-true, eqb-false, eq-eqb, ne_eqb}
use Rattle.spec_policy.specs.Bytes.{Bytes}
use Rattle.spec_policy.specs.Records.{Node, node_at, most_nodes, node_place, node_count}
use Rattle.spec_policy.specs.Steps.{Step, is_ins}
use Rattle.spec_policy.specs.Tree.{Way, parallel, sequential, NodeKind, aLeaf, node_kind, nodes_with_steps}
use Rattle.spec_policy.specs.Spots.{Spot, nowhere, on_record, first_off}
use Rattle.spec_policy.proofs.FirstLoop.{first_from, none_from, found_from, kept_from, all_from}
use Rattle.spec_check.specs.Spread.{ins_count, spread_of, spread, wrong10}
use Rattle.spec_check.specs.Layout.{broken4}
use Rattle.spec_check.specs.Children.{broken5}
use Rattle.spec_check.specs.Targets.{broken6}
use Rattle.spec_check.specs.Numbers.{node_steps_in, shaped}
use Rattle.spec_check.proofs.Numbers.{ChildrenLater, kind-read, tree-read, children-read}
use Rattle.spec_check.proofs.Rows.{leaf-steps}
use Rattle.spec_policy.specs.Tree.{tree_at}
use Rattle.file_records.specs.Kinds.{way_of, kind_of}
use Rattle.file_records.specs.declared.Way.{Way as ReadWay}
use Rattle.file_records.specs.declared.Join.{Join}
use Rattle.file_records.specs.declared.Kind.{Kind}
use Rattle.file_records.specs.declared.Kind.TheVariants.{Leaf, Trivial, Unsatisfiable, Pair, Unknown}
use Rattle.check_layout.specs.Frame.{Framed}
use Rattle.check_layout.proofs.Frame.{node-list}
use Rattle.check_leaves.specs.Leaves.{inserts_in, LeafValues}
use Rattle.check_spread.specs.Spreads.{cap, capped, KeptFrom}
use Rattle.spec_policy.proofs.ListLaws.{one-most}

-- ---- numbers

cap-low : (s : ℕ) → s ≤ 255 → cap s ≡ s
unfolding cap
cap-low s h = rw (le-leb s 255 h, cap)

cap-high : (s : ℕ) → 255 < s → cap s ≡ 256
unfolding cap
cap-high s h = rw (lt-leb s 255 h, cap)

-- by the two cases
cap-by : {A : Type 0} (s : ℕ) → (s ≤ 255 → cap s ≡ s → A) → (255 < s → cap s ≡ 256 → A) → A
cap-by {A} s f g = go (leb s 255) refl
  where
    go : (b : Bool) → leb s 255 ≡ b → A
    go true e = let h : s ≤ 255 = leb-true s 255 e in f h (cap-low s h)
    go false e = let h : 255 < s = leb-false s 255 e in g h (cap-high s h)

-- which is the lesser of it and 256
pub cap-min : (s : ℕ) → min s 256 ≡ cap s
cap-min s = cap-by s (λ h e. omega arith) (λ h e. omega arith)

cap-most : (s : ℕ) → cap s ≤ 256
cap-most s = cap-by s (λ h e. omega arith) (λ h e. omega arith)

product : (l r : ℕ) → (1 + l) * (1 + r) ≡ 1 + l + r + l * r
product l r =
    let e : 1 + r ≡ suc r = omega arith in
    ap (λ (x : ℕ). (1 + l) * x) e ∙ omega (arith, add-mul 1 l (suc r), mul-suc l r)

-- a pair's spread is at least its children's
grows : (w : Way) (l r : ℕ) → (l ≤ spread_of w l r) × (r ≤ spread_of w l r)
unfolding spread_of
grows parallel l r = (omega arith, omega arith)
grows sequential l r = (omega (arith, product l r), omega (arith, product l r))

-- so it may be taken from what is kept of its children
cap-pair : (w : Way) (l r : ℕ) → cap (spread_of w (cap l) (cap r)) ≡ cap (spread_of w l r)
cap-pair w l r =
    cap-by l
    (λ h e. cap-by r (λ k f. ap₂ (λ (x y : ℕ). cap (spread_of w x y)) e f)
    (λ k f. over (omega (arith, (grows w (cap l) (cap r)).1)) (omega (arith, (grows w l r).1))))
    (λ h e. over (omega (arith, (grows w (cap l) (cap r)).0)) (omega (arith, (grows w l r).0)))
  where
    over : 255 < spread_of w (cap l) (cap r) → 255 < spread_of w l r → cap (spread_of w (cap l) (cap r)) ≡ cap (spread_of w l r)
    over h k = cap-high (spread_of w (cap l) (cap r)) h ∙ sym (cap-high (spread_of w l r) k)

-- ---- rule 10

-- what is kept of a node tells whether it is too wide
wide_test : (s : ℕ) → eqb (cap s) 256 ≡ not (leb s 255)
wide_test s =
    cap-by s (λ h e. ne_eqb (cap s) 256 (λ z. omega arith) ∙ sym (ap not (le-leb s 255 h)))
    (λ h e. eq-eqb (cap s) 256 e ∙ sym (ap not (lt-leb s 255 h)))

abbrev pub narrow_at : Bytes → ℕ → Node → Bool
narrow_at file i x = leb (spread (tree_at file i)) 255

-- the first node from i on that is too wide
abbrev pub wide_from : Bytes → ℕ → ℕ → Spot
wide_from file n i = first_from (narrow_at file) (λ i. node_at file (node_place i)) n i

module _ (file : Bytes) (n : ℕ) where
  module _ {i v : ℕ} (h : i < n) (e : v ≡ capped (tree_at file i)) where
    test : (b : Bool) → eqb v 256 ≡ b → leb (spread (tree_at file i)) 255 ≡ not b
    unfolding capped
    test b t = swap (leb (spread (tree_at file i)) 255) b (sym (wide_test (spread (tree_at file i))) ∙ ap (λ (x : ℕ). eqb x 256) (sym e) ∙ t)
      where
        swap : (x b : Bool) → not x ≡ b → x ≡ not b
        swap true b t = ap not t
        swap false b t = ap not t

    pub wide-found : v ≡ 256 → on_record i ≡ wide_from file n i
    wide-found t = found_from (narrow_at file) (λ i. node_at file (node_place i)) n i h (test true (eq-eqb v 256 t))

    pub wide-kept : (v ≡ 256 → ⊥) → wide_from file n (i + 1) ≡ wide_from file n i
    wide-kept t = kept_from (narrow_at file) (λ i. node_at file (node_place i)) n i h (test false (ne_eqb v 256 t))

  pub wide-none : nowhere ≡ wide_from file n n
  wide-none = none_from (narrow_at file) (λ i. node_at file (node_place i)) n n (omega arith)

pub wide-all : {file : Bytes} {n m : ℕ} → Framed file n m → wide_from file n 0 ≡ wrong10 file
unfolding wrong10 node_place
wide-all {file} {n} f = all_from (narrow_at file) (λ i. node_at file (node_place i)) n ∙ ap (λ (l : List Node). first_off (narrow_at file) 0 l) (sym (node-list f))

-- ---- a leaf

ins-few : (code : List Step) → ins_count code ≤ length code
unfolding ins_count
ins-few [] = omega arith
ins-few (s ∷ ss) = omega (arith, one-most (is_ins s), ins-few ss)

-- ---- entries

-- what is kept of a node is at most 256
pub kept-most : {file : Bytes} {n i : ℕ} {caps : List ℕ} → KeptFrom file n i caps → (k : ℕ) → i ≤ k → k < n → get_or caps k 0 ≤ 256
unfolding capped
kept-most {file} kept k g l = omega (arith, kept.is k g l, cap-most (spread (tree_at file k)))

-- before the first of them nothing is kept
pub none_kept : {file : Bytes} {n : ℕ} {caps : List ℕ} → length caps ≡ most_nodes → KeptFrom file n n caps
none_kept e = record { size = e; is = λ k g h. absurd (omega arith) }

-- node i's entry is written
pub kept_more : (file : Bytes) (n i v : ℕ) (caps : List ℕ) → i < most_nodes → v ≡ capped (tree_at file i) → KeptFrom file n (i + 1) caps → KeptFrom file n i (set caps i v)
kept_more file n i v caps h e kept = record { size = length-set caps i v ∙ kept.size; is = λ k g l. go k g l (eqb k i) refl }
  where
    go : (k : ℕ) → i ≤ k → k < n → (b : Bool) → eqb k i ≡ b → get_or (set caps i v) k 0 ≡ capped (tree_at file k)
    go k g l true d =
        let p : i ≡ k = sym (eqb-true k i d) in
        subst (λ (j : ℕ). get_or (set caps i v) j 0 ≡ capped (tree_at file j)) p (get_or-set_same caps i v 0 (omega (arith, kept.size)) ∙ e)
    go k g l false d =
        let p : k ≡ i → ⊥ = eqb-false k i d in
        get_or-set_other caps i k v 0 p ∙ kept.is k (omega arith) l

-- or has its spread already
pub kept-as-is : {file : Bytes} {n i : ℕ} {caps : List ℕ} → get_or caps i 0 ≡ capped (tree_at file i) → KeptFrom file n (i + 1) caps → KeptFrom file n i caps
kept-as-is {file} {n} {i} {caps} e kept = record { size = kept.size; is = λ k g l. go k g l (eqb k i) refl }
  where
    go : (k : ℕ) → i ≤ k → k < n → (b : Bool) → eqb k i ≡ b → get_or caps k 0 ≡ capped (tree_at file k)
    go k g l true d = subst (λ (j : ℕ). get_or caps j 0 ≡ capped (tree_at file j)) (sym (eqb-true k i d)) e
    go k g l false d = let p : k ≡ i → ⊥ = eqb-false k i d in kept.is k (omega arith) l

-- the leaves before node i have what they had
pub leaves-less : {file : Bytes} {i : ℕ} {xs : List ℕ} → LeafValues inserts_in file (i + 1) xs → LeafValues inserts_in file i xs
leaves-less s = record { room = s.room; at = λ k h e. s.at k (omega arith) e }

pub leaves-written : {file : Bytes} {i : ℕ} {xs : List ℕ} (v : ℕ) → LeafValues inserts_in file (i + 1) xs → LeafValues inserts_in file i (set xs i v)
leaves-written {i = i} {xs = xs} v s = record {
  room = simp length-set s.room;
  at = λ k h e. get_or-set_other xs i k v 0 (λ z. omega arith) ∙ s.at k (omega arith) e;
}

-- ---- one node of the file

-- node i of n, whose record begins at `place`, and of which the code has read the kind q
pub record Read (file : Bytes) (n m i place : ℕ) (q : Kind) : Type 0 where
  pub frame : Framed file n m
  pub four : broken4 file ≡ false
  pub five : broken5 file ≡ false
  pub six : broken6 file ≡ false
  pub below : i < n
  pub begins : place ≡ node_place i
  pub kind : kind_of q ≡ node_kind (node_at file place).kind

module _ {file : Bytes} {n m i place : ℕ} {q : Kind} (d : Read file n m i place q) where
  abbrev x : Node
  x = node_at file place

  abbrev steps : List Step
  steps = (node_steps_in (nodes_with_steps file) i).steps

  inside : i < node_count file
  inside = omega (arith, d.below, d.frame.nodes)

  is-kind : {y : Kind} → q ≡ y → node_kind x.kind ≡ kind_of y
  is-kind told = sym d.kind ∙ ap kind_of told

  tree_is : {k : NodeKind} → node_kind x.kind ≡ k → tree_at file i ≡ shaped k i (node_steps_in (nodes_with_steps file) i) (tree_at file x.left) (tree_at file x.right)
  tree_is e = tree-read file inside d.begins d.five e

  -- a leaf's entry has the number of its ins steps, of which there are at most 64
  module _ (told : q ≡ Leaf) {held : List ℕ} (counts : LeafValues inserts_in file (i + 1) held) where
    a-leaf : node_kind x.kind ≡ aLeaf
    unfolding kind_of
    a-leaf = is-kind told

    pub leaf-kept : get_or held i 0 ≡ capped (tree_at file i)
    unfolding capped spread shaped inserts_in
    leaf-kept =
        counts.at i (omega arith) (kind-read file inside d.begins a-leaf)
        ∙ sym (cap-low (ins_count steps) (omega (arith, ins-few steps, (leaf-steps file d.four d.six i (kind-read file inside d.begins a-leaf)).few)))
        ∙ ap capped (sym (tree_is a-leaf))

    pub leaf-narrow : get_or held i 0 ≡ 256 → ⊥
    unfolding inserts_in
    leaf-narrow e =
        omega (
          arith,
          e,
          counts.at i (omega arith) (kind-read file inside d.begins a-leaf),
          ins-few steps,
          (leaf-steps file d.four d.six i (kind-read file inside d.begins a-leaf)).few,
        )

  module _ {w : ReadWay} {j : Join} (told : q ≡ Pair w j) {caps : List ℕ} (kept : KeptFrom file n (i + 1) caps) where
    children : ChildrenLater (node_count file) i x
    unfolding kind_of
    children = children-read file inside d.begins d.five (is-kind told)

    pub sides-in : (x.left < length caps) × (x.right < length caps)
    sides-in =
        let y = children in
        let f = d.frame in
        (omega (arith, y.left_below, f.nodes, f.few-nodes, kept.size), omega (arith, y.right-below, f.nodes, f.few-nodes, kept.size))

    pub sides-most : (get_or caps x.left 0 ≤ 256) × (get_or caps x.right 0 ≤ 256)
    sides-most =
        let y = children in
        let f = d.frame in (
          kept-most kept x.left (omega (arith, y.left-later)) (omega (arith, y.left_below, f.nodes)),
          kept-most kept x.right (omega (arith, y.right-later)) (omega (arith, y.right-below, f.nodes)),
        )

    pub pair-kept : {v : ℕ} → v ≡ cap (spread_of (way_of w) (get_or caps x.left 0) (get_or caps x.right 0)) → v ≡ capped (tree_at file i)
    unfolding capped spread shaped kind_of
    pair-kept e =
        let y = children in
        let f = d.frame in
        e
        ∙ ap₂ (λ (l r : ℕ). cap (spread_of (way_of w) l r)) (kept.is x.left (omega (arith, y.left-later)) (omega (arith, y.left_below, f.nodes)))
        (kept.is x.right (omega (arith, y.right-later)) (omega (arith, y.right-below, f.nodes)))
        ∙ cap-pair (way_of w) (spread (tree_at file x.left)) (spread (tree_at file x.right)) ∙ ap capped (sym (tree_is (is-kind told)))

  -- neither a leaf nor a pair
  pub other-kept : (q ≡ Leaf → ⊥) → ((w : ReadWay) → (j : Join) → q ≡ Pair w j → ⊥) → 0 ≡ capped (tree_at file i)
  unfolding capped cap spread shaped kind_of
  other-kept leaf pair = go q refl (tree_is (is-kind refl))
    where
      go : (y : Kind) → q ≡ y
          → tree_at file i ≡ shaped (kind_of y) i (node_steps_in (nodes_with_steps file) i) (tree_at file x.left) (tree_at file x.right) → 0 ≡ capped (tree_at file i)
      go Trivial e u = ap capped (sym u)
      go Unsatisfiable e u = ap capped (sym u)
      go Unknown e u = ap capped (sym u)
      go Leaf e u = absurd (leaf e)
      go (Pair w j) e u = absurd (pair w j e)
