-- The records of the nodes, one after another: what is dropped under a decided node changes nothing of the state that the words hold.
--
use Prim.Native.Nat.{ℕ, zero, suc, ◌+◌, ◌≤◌, ◌<◌}
use native.Mathlib.Omega.{arith}
use native.Mathlib.Nat.{eq-or-lt_of_le}
use mathlib.Core.Path.{◌≡◌, refl, sym, ap, ap₂, ◌∙◌, subst}
use mathlib.Core.Bool.{Bool, true, false, ◌&&◌, ◌||◌}
use mathlib.Core.Logic.{◌⊎◌, inl, inr, ⊎_elim}
use lib.Dec.{T, eqb, eqb→eq}
use lib.ListN.{length, get_or, set, length-set}
use borrow.Author.Tests.{ne_eqb}
use Rattle.actions.proofs.Tests.{no_of, or_cases, true-not-false}
use Rattle.spec_policy.specs.Bytes.{Bytes, put}
use Rattle.spec_policy.specs.Lists.{one}
use Rattle.spec_policy.specs.Records.{most_nodes, node_count}
use Rattle.spec_policy.specs.Tree.{Way, Join, NodeKind, aLeaf, aTrivial, an_unsatisfiable, aPair, no_node, NodeSteps, Tree, node, tree_at, tree}
use Rattle.spec_check.specs.Lawful.{holds, Numbered}
use Rattle.spec_check.specs.Passed.{Passed}
use Rattle.spec_check.specs.Numbers.{shaped, Distinct}
use Rattle.spec_check.proofs.Numbers.{ChildrenLater, tree-read, children-read, tree-top, number_at, all_held}
use Rattle.laws_check.proofs.LawfulTree.{lawful}
use Rattle.spec_turns.specs.Status.{Status, dropped, status_of, is_running}
use Rattle.spec_turns.specs.State.{State, pair_state, pair_with}
use Rattle.spec_turns.specs.Saved.{cells_size, cell_place, cell}
use Rattle.laws_turns.proofs.Cells.{lawful-apart, holds-left, holds-right, put-size, put-cell, put-elsewhere}
use Rattle.laws_turns.specs.Cells.{cell_at}
use Rattle.laws_turns.specs.Leaves.{is_leaf, leaf_worth, leaves_below}
use Rattle.laws_turns.proofs.Leaves.{leaves-few, leaves-more, leaves-same}
use Rattle.turn_paths.specs.Memory.{Cell, Mem, held}
use Rattle.turn_paths.proofs.Begin.{drop-held, pair-with-over}
use Rattle.turn_paths.proofs.Frames.{same_or_not, own-number, held_same, not-left-of-right, not-right-of-left}
use Rattle.turn_memory.specs.Words.{Words, word_count, status_in, celled, memory_of}
use Rattle.turn_memory.proofs.CellLaws.{view-here, view-other, status-read}
use Rattle.turn_tables.proofs.FileNodes.{room}
use Rattle.turn_rest.specs.Rest.{own_of, dropped_word, sides_over, under_of, record_at, kind_at, runs_at}
use Rattle.turn_rest.specs.Swept.{SidesDropped, Swept}

-- ---- a node's tree in a tree

data Has : Tree → Tree → Type 0 where
  here : {t : Tree} → Has t t
  in-left : {w : Way} {j : Join} {i : ℕ} {l r t : Tree} → Has l t → Has (node w j i l r) t
  in-right : {w : Way} {j : Join} {i : ℕ} {l r t : Tree} → Has r t → Has (node w j i l r) t

has-holds : {t s : Tree} → Has t s → (k : ℕ) → T (holds s k) → T (holds t k)
has-holds here k u = u
has-holds (in-left {w} {j} {i} {l} {r} h) k u = holds-left w j i l r k (has-holds h k u)
has-holds (in-right {w} {j} {i} {l} {r} h) k u = holds-right w j i l r k (has-holds h k u)

-- What lies under a node that does not run has no part in the state.
module _ (w : Way) (j : Join) (i : ℕ) (a b : Tree) (m m' : Mem) (stops : is_running (m i).status ≡ false)
    (kept : (k : ℕ) → holds a k ≡ false → holds b k ≡ false → m' k ≡ m k) where
  kept-outside : {t : Tree} → Has t (node w j i a b) → (k : ℕ) → holds t k ≡ false → m' k ≡ m k
  kept-outside h k e =
      kept k (no_of (holds a k) (λ u. subst T e (has-holds h k (holds-left w j i a b k u)))) (no_of (holds b k) (λ u. subst T e (has-holds h k (holds-right w j i a b k u))))

  held-here : Numbered i a b → held (node w j i a b) m' ≡ held (node w j i a b) m
  unfolding held
  held-here sd =
      let own : m' i ≡ m i = kept i sd.not_left sd.not_right in
      ap (λ (x : Cell). pair_with x.status x.asked (held a m') (held b m')) own
      ∙ pair-with-over (m i).status (m i).asked (held a m') (held b m') stops
      ∙ ap₂ (pair_state (m i).status false) (drop-held a m' ∙ sym (drop-held a m)) (drop-held b m' ∙ sym (drop-held b m))
      ∙ sym (pair-with-over (m i).status (m i).asked (held a m) (held b m) stops)

  noded-same : (n : ℕ) {x y x' y' : State} → m' n ≡ m n → x' ≡ x → y' ≡ y → pair_with (m' n).status (m' n).asked x' y' ≡ pair_with (m n).status (m n).asked x y
  noded-same n {x} {y} e p q = ap₂ (pair_with (m' n).status (m' n).asked) p q ∙ ap (λ (c : Cell). pair_with c.status c.asked x y) e

  held-under : {t : Tree} → Has t (node w j i a b) → Distinct t → held t m' ≡ held t m
  unfolding Distinct held
  held-under here ap = held-here ap.2
  held-under (in-left {i = n} {l} {r} h) ap =
      noded-same n (kept-outside h n ap.2.not_left) (held-under h ap.0)
      (held_same r m m' (λ k e. kept-outside h k (not-left-of-right ap.2 k e)))
  held-under (in-right {i = n} {l} {r} h) ap =
      noded-same n (kept-outside h n ap.2.not_right) (held_same l m m' (λ k e. kept-outside h k (not-right-of-left ap.2 k e)))
      (held-under h ap.1)

-- ---- the tree of a passed policy, node by node

module _ {file : Bytes} (ok : Passed file) where
  abbrev n : ℕ
  n = node_count file

  abbrev pub left_tree : ℕ → Tree
  left_tree i = tree_at file (record_at file i).left

  abbrev pub right_tree : ℕ → Tree
  right_tree i = tree_at file (record_at file i).right

  -- where the sides of a pair lie
  kids : (i : ℕ) → i < n → (w : Way) (j : Join) → kind_at file i ≡ aPair w j → ChildrenLater n i (record_at file i)
  kids i h w j e = children-read file h refl ok.kept5 e

  -- What holds of a node's tree where it holds of its sides holds of every node's tree.
  module _ (P : Tree → Type 0)
      (step : (i : ℕ) → i < n → (k : NodeKind) → kind_at file i ≡ k → (x : NodeSteps) → tree_at file i ≡ shaped k i x (left_tree i) (right_tree i)
      → ((w : Way) (j : Join) → k ≡ aPair w j → P (left_tree i) × P (right_tree i)) → P (shaped k i x (left_tree i) (right_tree i))) where
    each_from : (fuel i : ℕ) → i < n → n ≤ fuel + i → P (tree_at file i)
    each_from zero i h l = absurd (omega arith)
    each_from (suc fuel) i h l =
        let e = tree-read file h refl ok.kept5 refl in
        subst P (sym e) (step i h (kind_at file i) refl _ e (λ w j z.
        let c : ChildrenLater n i (record_at file i) = kids i h w j z in
        (each_from fuel (record_at file i).left c.left_below (omega (arith, c.left-later)), each_from fuel (record_at file i).right c.right-below (omega (arith, c.right-later)))))

    each-node : (i : ℕ) → i < n → P (tree_at file i)
    each-node i h = each_from n i h (omega arith)

    pub each-root : P (tree file)
    each-root = subst P (sym (tree-top file)) (each-node 0 (omega (arith, (room ok).some)))

  -- every node's tree is in the policy's
  HasAll : Tree → Type 0
  HasAll t = (k : ℕ) → T (holds t k) → Has t (tree_at file k)

  has-own : (i : ℕ) (t : Tree) → tree_at file i ≡ t → (k : ℕ) → T (eqb i k) → Has t (tree_at file k)
  has-own i t e k u = subst (Has t) (sym e ∙ ap (tree_at file) (eqb→eq i k u)) here

  has-step : (i : ℕ) → i < n → (k : NodeKind) → kind_at file i ≡ k → (x : NodeSteps) → tree_at file i ≡ shaped k i x (left_tree i) (right_tree i)
      → ((w : Way) (j : Join) → k ≡ aPair w j → HasAll (left_tree i) × HasAll (right_tree i)) → HasAll (shaped k i x (left_tree i) (right_tree i))
  unfolding HasAll shaped holds
  has-step i h aLeaf q x e f = has-own i _ e
  has-step i h aTrivial q x e f = has-own i _ e
  has-step i h an_unsatisfiable q x e f = has-own i _ e
  has-step i h no_node q x e f = has-own i _ e
  has-step i h (aPair w j) q x e f = λ k u.
      ⊎_elim (has-own i _ e k) (λ v. ⊎_elim (λ z. in-left ((f w j refl).0 k z)) (λ z. in-right ((f w j refl).1 k z)) (or_cases (holds (left_tree i) k) (holds (right_tree i) k) v))
      (or_cases (eqb i k) (holds (left_tree i) k || holds (right_tree i) k) u)

  has-node : (i : ℕ) → i < n → Has (tree file) (tree_at file i)
  unfolding HasAll
  has-node i h = each-root HasAll has-step i (all_held file ok.kept5 i h)

  -- ---- what is dropped under a node

  -- what the step at node i changes of the words
  record Under (ws ws' : Words) (i : ℕ) : Type 0 where
    size : length ws' ≡ length ws
    low : (k : ℕ) → k ≤ i → memory_of ws' k ≡ memory_of ws k
    some : (k : ℕ) → (memory_of ws' k ≡ memory_of ws k) ⊎ ((memory_of ws' k).status ≡ dropped)
    same : held (tree file) (memory_of ws') ≡ held (tree file) (memory_of ws)
    sides : SidesDropped file ws' i

  -- nothing
  under_none : (ws : Words) (i : ℕ) → SidesDropped file ws i → Under ws ws i
  under_none ws i d = record { size = refl; low = λ k h. refl; some = λ k. inl refl; same = refl; sides = d }

  -- the two sides of a pair that is decided
  module _ (ws : Words) (i : ℕ) (h : i < n) (size : length ws ≡ word_count) (w : Way) (j : Join) (e : kind_at file i ≡ aPair w j)
      (stops : runs_at ws i ≡ false) where
    abbrev a : ℕ
    a = (record_at file i).left

    abbrev b : ℕ
    b = (record_at file i).right

    abbrev us : Words
    us = set (set ws a dropped_word) b dropped_word

    later : ChildrenLater n i (record_at file i)
    later = kids i h w j e

    else_same : (k : ℕ) → (k ≡ a → ⊥) → (k ≡ b → ⊥) → memory_of us k ≡ memory_of ws k
    else_same k p q = view-other (set ws a dropped_word) b dropped_word k q ∙ view-other ws a dropped_word k p

    drop-word : (celled dropped_word).status ≡ dropped
    unfolding celled status_of
    drop-word = refl

    right-drops : (memory_of us b).status ≡ dropped
    right-drops =
        ap (λ (c : Cell). c.status) (view-here (set ws a dropped_word) b dropped_word (omega (arith, later.right-below, (room ok).few)) (rw length-set (omega (arith, size, later.right-below, (room ok).few)))) ∙ drop-word

    left-drops : (memory_of us a).status ≡ dropped
    left-drops = ⊎_elim
        (λ (z : a ≡ b). subst (λ (k : ℕ). (memory_of us k).status ≡ dropped) (sym z) right-drops)
        (λ (z : a ≡ b → ⊥). ap (λ (c : Cell). c.status) (view-other (set ws a dropped_word) b dropped_word a z
        ∙ view-here ws a dropped_word (omega (arith, later.left_below, (room ok).few)) (omega (arith, size, later.left_below, (room ok).few))) ∙ drop-word)
        (same_or_not a b)

    some-drops : (k : ℕ) → (memory_of us k ≡ memory_of ws k) ⊎ ((memory_of us k).status ≡ dropped)
    some-drops k = ⊎_elim
        (λ (p : k ≡ a). inr (subst (λ (q : ℕ). (memory_of us q).status ≡ dropped) (sym p) left-drops))
        (λ (p : k ≡ a → ⊥). ⊎_elim (λ (q : k ≡ b). inr (subst (λ (z : ℕ). (memory_of us z).status ≡ dropped) (sym q) right-drops)) (λ (q : k ≡ b → ⊥). inl (else_same k p q)) (same_or_not k b))
        (same_or_not k a)

    -- a node that neither side has is none of the two
    not-side : (c k : ℕ) → holds (tree_at file c) k ≡ false → k ≡ c → ⊥
    not-side c k f z = true-not-false (own-number (tree_at file c)) (ap (holds (tree_at file c)) (number_at file c ∙ sym z) ∙ f)

    tree_is : tree_at file i ≡ node w j i (left_tree i) (right_tree i)
    unfolding shaped
    tree_is = tree-read file h refl ok.kept5 e

    under-pair : Under ws us i
    under-pair = record {
      size = length-set (set ws a dropped_word) b dropped_word ∙ length-set ws a dropped_word;
      low = λ k l. else_same k (λ z. omega (arith, later.left-later)) (λ z. omega (arith, later.right-later));
      some = some-drops;
      same = held-under w j i (left_tree i) (right_tree i) (memory_of ws) (memory_of us) stops (λ k p q. else_same k (not-side a k p) (not-side b k q))
          (subst (Has (tree file)) tree_is (has-node i h)) (lawful-apart (tree file) (lawful file ok));
      sides = λ v g q z. (left-drops, right-drops);
    }

  -- as the code does it, by the node's kind
  module _ (ws : Words) (i : ℕ) (h : i < n) (size : length ws ≡ word_count) where
    not-pair : (k : NodeKind) → kind_at file i ≡ k → ((w : Way) (j : Join) → k ≡ aPair w j → ⊥) → SidesDropped file ws i
    not-pair k e f w j q z = absurd (f w j (sym e ∙ q))

    running-pair : runs_at ws i ≡ true → SidesDropped file ws i
    running-pair t w j q z = absurd (true-not-false t z)

    under-by : (r : Bool) → runs_at ws i ≡ r → (k : NodeKind) → kind_at file i ≡ k → Under ws (under_of k r (record_at file i) ws) i
    unfolding under_of sides_over
    under-by r t aLeaf e = under_none ws i (not-pair aLeaf e (λ w j z. let q : ◌≡◌ {A = ℕ} 0 1 = cc in omega arith))
    under-by r t aTrivial e = under_none ws i (not-pair aTrivial e (λ w j z. let q : ◌≡◌ {A = ℕ} 0 1 = cc in omega arith))
    under-by r t an_unsatisfiable e = under_none ws i (not-pair an_unsatisfiable e (λ w j z. let q : ◌≡◌ {A = ℕ} 0 1 = cc in omega arith))
    under-by r t no_node e = under_none ws i (not-pair no_node e (λ w j z. let q : ◌≡◌ {A = ℕ} 0 1 = cc in omega arith))
    under-by true t (aPair w j) e = under_none ws i (running-pair t)
    under-by false t (aPair w j) e = under-pair ws i h size w j e t

  -- ---- what a node adds to the count

  pub worth-read : (ws : Words) {i st r : ℕ} → i < n → st ≡ status_in (get_or ws i 0) → r ≡ one (is_leaf (kind_at file i) && is_running (status_of st)) → r ≡ leaf_worth file (runs_at ws) i
  unfolding leaf_worth
  worth-read ws {i} h e f = f ∙ ap (λ (x : Status). one (is_leaf (kind_at file i) && is_running x)) (status-read ws i (omega (arith, (room ok).few)) e)

  pub count-few : {ws₀ ws : Words} {bs : Bytes} {i count more : ℕ} → Swept file ws₀ ws bs i count → more ≡ leaf_worth file (runs_at ws) i → count + more ≤ i + 1
  count-few {ws = ws} {i = i} g e = omega (arith, g.counted, e, leaves-more file (runs_at ws) i, leaves-few file (runs_at ws) (i + 1))

  -- ---- one record after another

  module _ (ws₀ : Words) where
    pub swept_none : (bs : Bytes) → length ws₀ ≡ word_count → length bs ≡ cells_size → Swept file ws₀ ws₀ bs 0 0
    unfolding leaves_below
    swept_none bs p q = record {
      most = omega arith;
      words = p;
      size = q;
      same = refl;
      sides = λ k h. absurd (omega arith);
      records = λ k h. absurd (omega arith);
      counted = refl;
    }

    pub swept-more : {ws ws' : Words} {bs bs' bytes : Bytes} {i count more : ℕ} → Swept file ws₀ ws bs i count → i < n
        → more ≡ leaf_worth file (runs_at ws) i
        → ws' ≡ under_of (kind_at file i) (runs_at ws i) (record_at file i) ws → bytes ≡ cell (own_of (kind_at file i) (memory_of ws i)) → bs' ≡ put bs (cell_place i) bytes
        → Swept file ws₀ ws' bs' (i + 1) (count + more)
    unfolding cell_at
    swept-more {ws} {ws'} {bs} {bs'} {bytes} {i} {count} {more} g h c e f q =
        let u : Under ws ws' i = subst (λ (us : Words). Under ws us i) (sym e) (under-by ws i h g.words (runs_at ws i) refl (kind_at file i) refl) in
        let x : State = own_of (kind_at file i) (memory_of ws i) in
        let p : bs' ≡ put bs (cell_place i) (cell x) = q ∙ ap (put bs (cell_place i)) f in
        let b : i < most_nodes = omega (arith, h, (room ok).few) in
        record {
          most = omega arith;
          words = u.size ∙ g.words;
          size = ap length p ∙ put-size bs i x g.size b;
          same = u.same ∙ g.same;
          sides = λ k l. ⊎_elim
              (λ (z : k ≡ i). subst (SidesDropped file ws') (sym z) u.sides)
              (λ (z : k < i). still u (omega arith) (g.sides k z))
              (eq-or-lt_of_le (let v : k ≤ i = omega arith in v));
          records = λ k l. ⊎_elim
              (λ (z : k ≡ i). subst (λ (y : ℕ). cell_at bs' y ≡ cell (own_of (kind_at file y) (memory_of ws' y))) (sym z)
              (ap (λ (o : Bytes). cell_at o i) p ∙ put-cell bs i x g.size b ∙ ap (λ (c : Cell). cell (own_of (kind_at file i) c)) (sym (u.low i (omega arith)))))
              (λ (z : k < i). ap (λ (o : Bytes). cell_at o k) p ∙ put-elsewhere bs i k x g.size b (ne_eqb i k (λ v. omega arith))
              ∙ g.records k z ∙ ap (λ (c : Cell). cell (own_of (kind_at file k) c)) (sym (u.low k (omega arith))))
              (eq-or-lt_of_le (let v : k ≤ i = omega arith in v));
          counted = ap₂ ◌+◌ g.counted c ∙ leaves-more file (runs_at ws) i
              ∙ leaves-same file (runs_at ws) (runs_at ws') (i + 1) (λ k l. ap (λ (c : Cell). is_running c.status) (sym (u.low k (omega arith))));
        }
      where
        drops : {ws ws' : Words} {i : ℕ} → Under ws ws' i → (k : ℕ) → (memory_of ws k).status ≡ dropped → (memory_of ws' k).status ≡ dropped
        drops u k d = ⊎_elim (λ z. ap (λ (c : Cell). c.status) z ∙ d) (λ z. z) (u.some k)

        still : {ws ws' : Words} {i k : ℕ} → Under ws ws' i → k ≤ i → SidesDropped file ws k → SidesDropped file ws' k
        still {k = k} u l d w j q z =
            let v = d w j q (ap (λ (c : Cell). is_running c.status) (sym (u.low k l)) ∙ z) in
            (drops u (record_at file k).left v.0, drops u (record_at file k).right v.1)

pub swept_all : {file : Bytes} {n i count : ℕ} {ws₀ ws : Words} {bs : Bytes} → Swept file ws₀ ws bs i count → n ≤ i → n ≡ node_count file → Swept file ws₀ ws bs n count
swept_all {file} {n} {i} {count} {ws₀} {ws} {bs} g h e = let z : i ≡ n = omega (arith, g.most) in subst (λ (k : ℕ). Swept file ws₀ ws bs k count) z g
