-- The tree rule over counts: what a node adds to them, what is left to count, and the rule by the counts.
use Prim.Native.Nat.{ℕ, zero, suc, ◌+◌, ◌-◌, ◌*◌, ◌≤◌, ◌<◌}
use native.Mathlib.Nat.{not-suc-le-zero}
use native.Mathlib.Omega.{arith}
use mathlib.Core.Path.{◌≡◌, refl, sym, ap, ap₂, ◌∙◌, subst}
use mathlib.Core.Bool.{Bool, true, false, ◌&&◌, ◌||◌, not}
use mathlib.Core.List.{List, [], ◌∷◌}
use lib.Dec.{T, eqb, ltb, ltb→lt, eqb-suc-zero}
use Rattle.actions.proofs.Tests.{of-yes, and_left, and_right}
use lib.ListN.{length, get_or, take, drop, set, length-set}
use Rattle.std.specs.List.{list_all}
use Rattle.std.specs.Prelude.{slice_range}
use lib.Seq.{drop-cons, get_or-set_same, get_or-set_other}
use borrow.Author.Tests.{eqb-true, eqb-false}
use Rattle.spec_policy.specs.Bytes.{Bytes}
use Rattle.spec_policy.specs.Lists.{listed, every, every_at, one, occurs}
use Rattle.spec_policy.specs.Records.{Node, node_count, node_at, node_place, nodes}
use Rattle.spec_policy.specs.Tree.{NodeKind, aLeaf, aTrivial, an_unsatisfiable, aPair, no_node, node_kind}
use Rattle.spec_policy.proofs.ListLaws.{listed-rest, listed-over, every_at-rest, every_at-over, one-most}
use Rattle.spec_check.specs.Children.{later, children, one_parent, broken5}
use Rattle.spec_check.proofs.Kept.{broken5-is}
use Rattle.spec_check.proofs.Numbers.{kids, kids-cons, kids-pair}
use Rattle.file_records.specs.Kinds.{kind_of}
use Rattle.file_records.specs.declared.Way.{Way}
use Rattle.file_records.specs.declared.Join.{Join}
use Rattle.file_records.specs.declared.Kind.{Kind}
use Rattle.file_records.specs.declared.Kind.TheVariants.{Leaf, Trivial, Unsatisfiable, Pair, Unknown}
use Rattle.check_layout.specs.Frame.{Framed}
use Rattle.check_layout.proofs.Frame.{node-list}

-- ---- one node

-- its children as the code has read them
pub pair-read : (x : Node) {q : Kind} {w : Way} {j : Join} {l r : ℕ} → q ≡ Pair w j → kind_of q ≡ node_kind x.kind → l ≡ x.left → r ≡ x.right
    → l ∷ r ∷ [] ≡ children (x ∷ [])
unfolding children kind_of
pair-read x told e el er = rw (el, er) (let k = sym e ∙ ap kind_of told in rw (k, children) refl)

pub none-read : (x : Node) (q : Kind) → ((w : Way) (j : Join) → q ≡ Pair w j → ⊥) → kind_of q ≡ node_kind x.kind → [] ≡ children (x ∷ [])
unfolding children kind_of
none-read x Leaf d e = rw (sym e, children) refl
none-read x Trivial d e = rw (sym e, children) refl
none-read x Unsatisfiable d e = rw (sym e, children) refl
none-read x Unknown d e = rw (sym e, children) refl
none-read x (Pair w j) d e = absurd (d w j refl)

module _ (n i : ℕ) (x : Node) where
  not-none : {l r : ℕ} {xs : List ℕ} → xs ≡ [] → l ∷ r ∷ [] ≡ xs → ⊥
  not-none e p = cc

  pub later-pair : {l r : ℕ} → l ∷ r ∷ [] ≡ children (x ∷ []) → later n i x ≡ (ltb i l && ltb l n && ltb i r && ltb r n)
  unfolding later children
  later-pair {l} {r} = go (node_kind x.kind) refl
    where
      go : (k : NodeKind) → node_kind x.kind ≡ k → l ∷ r ∷ [] ≡ children (x ∷ []) → later n i x ≡ (ltb i l && ltb l n && ltb i r && ltb r n)
      go aLeaf e p = absurd (not-none (rw (e, children) refl) p)
      go aTrivial e p = absurd (not-none (rw (e, children) refl) p)
      go an_unsatisfiable e p = absurd (not-none (rw (e, children) refl) p)
      go no_node e p = absurd (not-none (rw (e, children) refl) p)
      go (aPair w j) e p =
          let both : l ∷ r ∷ [] ≡ x.left ∷ x.right ∷ [] = p ∙ rw (e, children) refl in
          let el : l ≡ x.left = cc in
          let er : r ≡ x.right = cc in
          rw (el, er, e, later)

  pub later-none : [] ≡ children (x ∷ []) → later n i x ≡ true
  unfolding later children
  later-none = go (node_kind x.kind) refl
    where
      go : (k : NodeKind) → node_kind x.kind ≡ k → [] ≡ children (x ∷ []) → later n i x ≡ true
      go aLeaf e p = rw (e, later)
      go aTrivial e p = rw (e, later)
      go an_unsatisfiable e p = rw (e, later)
      go no_node e p = rw (e, later)
      go (aPair w j) e p = absurd (not-none {l = x.left} {r = x.right} (sym p) (rw (e, children) refl))

  -- both children are below n where the test has passed
  pub both-below : {l r : ℕ} → l ∷ r ∷ [] ≡ children (x ∷ []) → true ≡ later n i x → (l < n) × (r < n)
  both-below {l} {r} p t =
      let u : T (ltb i l && ltb l n && ltb i r && ltb r n) = of-yes _ (sym (later-pair p) ∙ sym t) in (
        ltb→lt l n (and_right (ltb i l) (ltb l n) (and_left (ltb i l && ltb l n) (ltb i r) (and_left (ltb i l && ltb l n && ltb i r) (ltb r n) u))),
        ltb→lt r n (and_right (ltb i l && ltb l n && ltb i r) (ltb r n) u),
      )

-- a node has at most two children
pub at_most_two : (k : ℕ) (x : Node) → kids k x ≤ 2
unfolding kids children occurs
at_most_two k x = go (node_kind x.kind) refl
  where
    go : (q : NodeKind) → node_kind x.kind ≡ q → kids k x ≤ 2
    go aLeaf e = rw (e, children) (omega arith)
    go aTrivial e = rw (e, children) (omega arith)
    go an_unsatisfiable e = rw (e, children) (omega arith)
    go no_node e = rw (e, children) (omega arith)
    go (aPair w j) e = omega (arith, kids-pair k x w j e, one-most (eqb x.left k), one-most (eqb x.right k))

-- one more at place l
pub one_more : (xs : List ℕ) (l k : ℕ) → l < length xs → get_or (set xs l (get_or xs l 0 + 1)) k 0 ≡ one (eqb l k) + get_or xs k 0
unfolding one
one_more xs l k h = go (eqb l k) refl
  where
    go : (b : Bool) → eqb l k ≡ b → get_or (set xs l (get_or xs l 0 + 1)) k 0 ≡ one b + get_or xs k 0
    go true e =
        let p : l ≡ k = eqb-true l k e in
        subst (λ (j : ℕ). get_or (set xs l (get_or xs l 0 + 1)) j 0 ≡ 1 + get_or xs j 0) p (get_or-set_same xs l (get_or xs l 0 + 1) 0 h ∙ omega arith)
    go false e = get_or-set_other xs l k (get_or xs l 0 + 1) 0 (λ p. eqb-false l k e (sym p)) ∙ omega arith

pub two-more : (xs : List ℕ) (l r k : ℕ) → l < length xs → r < length xs
    → get_or (set (set xs l (get_or xs l 0 + 1)) r (get_or (set xs l (get_or xs l 0 + 1)) r 0 + 1)) k 0 ≡ one (eqb l k) + one (eqb r k) + get_or xs k 0
two-more xs l r k h g =
    omega (arith, one_more xs l k h, one_more (set xs l (get_or xs l 0 + 1)) r k (simp length-set g))

-- ---- the pass over the nodes f 0, f 1, .. below f n

module _ (f : ℕ → Node) (n : ℕ) where
  -- before node i: what is left of the test and of the counts
  pub record Counting (count : List ℕ) (i : ℕ) : Type 0 where
    pub tested : every_at (later n) 0 (listed f 0 n) ≡ every_at (later n) i (listed f i (n - i))
    pub counted : (k : ℕ) → occurs k (children (listed f 0 n)) ≡ get_or count k 0 + occurs k (children (listed f i (n - i)))
    pub few : (k : ℕ) → get_or count k 0 ≤ 2 * i

  pub counting-start : (count : List ℕ) → ((k : ℕ) → get_or count k 0 ≡ 0) → Counting count 0
  counting-start count h =
      let z : n ≡ n - 0 = omega arith in
      record {
        tested = ap (λ (m : ℕ). every_at (later n) 0 (listed f 0 m)) z;
        counted = λ k. omega (arith, h k, ap (λ (m : ℕ). occurs k (children (listed f 0 m))) z);
        few = λ k. omega (arith, h k);
      }

  module _ (count : List ℕ) (i : ℕ) (c : Counting count i) where
    -- node i is tested: r is the answer
    module _ {x : Node} (same : x ≡ f i) (h : i < n) {r : Bool} (told : r ≡ later n i x) where
      all_from : every_at (later n) 0 (listed f 0 n) ≡ (r && every_at (later n) (i + 1) (listed f (i + 1) (n - (i + 1))))
      all_from =
          c.tested ∙ every_at-rest (later n) f i n h
          ∙ ap (λ (b : Bool). b && every_at (later n) (i + 1) (listed f (i + 1) (n - (i + 1)))) (sym (told ∙ ap (later n i) same))

      pub counting-no : r ≡ false → every_at (later n) 0 (listed f 0 n) ≡ false
      counting-no t = all_from ∙ ap (λ (b : Bool). b && every_at (later n) (i + 1) (listed f (i + 1) (n - (i + 1)))) t

      pub counting-next : r ≡ true → (more : List ℕ) → ((k : ℕ) → get_or more k 0 ≡ kids k x + get_or count k 0) → Counting more (i + 1)
      counting-next t more g =
          record {
            tested = all_from ∙ ap (λ (b : Bool). b && every_at (later n) (i + 1) (listed f (i + 1) (n - (i + 1)))) t;
            counted = λ k. omega (arith, c.counted k, g k, rest k);
            few = λ k. omega (arith, c.few k, g k, at_most_two k x);
          }
        where
          rest : (k : ℕ) → occurs k (children (listed f i (n - i))) ≡ kids k x + occurs k (children (listed f (i + 1) (n - (i + 1))))
          rest k =
              ap (λ (l : List Node). occurs k (children l)) (listed-rest f i n h) ∙ kids-cons k (f i) (listed f (i + 1) (n - (i + 1)))
              ∙ ap (λ (y : Node). kids k y + occurs k (children (listed f (i + 1) (n - (i + 1))))) (sym same)

    pub counting-end : n ≤ i → (every_at (later n) 0 (listed f 0 n) ≡ true) × ((k : ℕ) → get_or count k 0 ≡ occurs k (children (listed f 0 n)))
    unfolding children occurs
    counting-end h =
        (c.tested ∙ every_at-over (later n) f i n h, λ k. omega (arith, c.counted k, ap (λ (l : List Node). occurs k (children l)) (listed-over f i n h)))

-- ---- the pass over the counts

-- every number from i on and below n is counted once
abbrev pub once : List ℕ → ℕ → ℕ → Bool
once count i n = every (λ k. eqb (get_or count k 0) 1) (listed (λ k. k) i (n - i))

all-listed : (p : ℕ → Bool) (xs : List ℕ) (i m : ℕ) → i + m ≤ length xs → list_all p (take m (drop i xs)) ≡ every (λ k. p (get_or xs k 0)) (listed (λ k. k) i m)
unfolding every listed
all-listed p xs i zero h = refl
all-listed p xs i (suc m) h =
    ap (λ (ys : List ℕ). list_all p (take (suc m) ys)) (drop-cons xs i 0 (omega arith))
    ∙ ap (λ (b : Bool). p (get_or xs i 0) && b) (all-listed p xs (suc i) m (omega arith))

pub once-all : (count : List ℕ) (n : ℕ) → 1 ≤ n → n ≤ length count → list_all (λ k. eqb k 1) (slice_range count 1 n) ≡ once count 1 n
once-all count n h g = all-listed (λ k. eqb k 1) count 1 (n - 1) (omega arith)

-- ---- the rule by the two passes

module _ (xs : List Node) (count : List ℕ) (h : (k : ℕ) → get_or count k 0 ≡ occurs k (children xs)) where
  from_one : (f : ℕ → Node) (i n : ℕ) → every_at (λ i x. one_parent xs i) (suc i) (listed f (suc i) n) ≡ every (λ k. eqb (get_or count k 0) 1) (listed (λ k. k) (suc i) n)
  unfolding every_at every listed one_parent
  from_one f i zero = refl
  from_one f i (suc n) =
      ap₂ ◌&&◌
      (ap (λ (b : Bool). b || eqb (occurs (suc i) (children xs)) 1) (eqb-suc-zero i) ∙ ap (λ (z : ℕ). eqb z 1) (sym (h (suc i))))
      (from_one f (suc i) n)

  by-counts : (f : ℕ → Node) (n : ℕ) → 1 ≤ n → every_at (λ i x. one_parent xs i) 0 (listed f 0 n) ≡ once count 1 n
  unfolding every_at listed one_parent
  by-counts f zero p = absurd (not-suc-le-zero p)
  by-counts f (suc n) p =
      let z : n ≡ suc n - 1 = omega arith in
      from_one f 0 n ∙ ap (λ (m : ℕ). every (λ k. eqb (get_or count k 0) 1) (listed (λ k. k) 1 m)) z

module _ {file : Bytes} {n m : ℕ} (frame : Framed file n m) where
  abbrev pub here : List Node
  here = listed (λ i. node_at file (node_place i)) 0 n

  are-nodes : nodes file ≡ here
  unfolding node_place
  are-nodes = node-list frame

  later_same : every_at (later (node_count file)) 0 (nodes file) ≡ every_at (later n) 0 here
  later_same = ap₂ (λ (k : ℕ) (l : List Node). every_at (later k) 0 l) (sym frame.nodes) are-nodes

  pub broken-child : every_at (later n) 0 here ≡ false → broken5 file ≡ true
  broken-child t = broken5-is file ∙ ap (λ (b : Bool). not b || not (every_at (λ i x. one_parent (nodes file) i) 0 (nodes file))) (later_same ∙ t)

  pub broken-count : every_at (later n) 0 here ≡ true → (count : List ℕ) → ((k : ℕ) → get_or count k 0 ≡ occurs k (children here)) → broken5 file ≡ not (once count 1 n)
  broken-count t count h =
      broken5-is file
      ∙ ap (λ (b : Bool). not b || not (every_at (λ i x. one_parent (nodes file) i) 0 (nodes file))) (later_same ∙ t)
      ∙ ap not (ap (λ (l : List Node). every_at (λ i x. one_parent l i) 0 l) are-nodes ∙ by-counts here count h (λ i. node_at file (node_place i)) n frame.some-node)
