-- The second pass: every node's way up is entered before the node is come to.
use Prim.Native.Nat.{ℕ, ◌+◌, ◌≤◌, ◌<◌}
use native.Mathlib.Omega.{arith}
use native.Mathlib.Nat.{eq-or-lt_of_le}
use mathlib.Core.Path.{◌≡◌, refl, sym, ap, ap₂, ◌∙◌, subst}
use mathlib.Core.Logic.{◌⊎◌, inl, inr, ⊎_elim}
use mathlib.Core.Bool.{Bool, true, false}
use lib.ListN.{get_or}
use Rattle.actions.specs.Sets.{EMPTY, union}
use Rattle.actions.proofs.Tests.{true-not-false}
use Rattle.spec_policy.specs.Bytes.{Bytes}
use Rattle.spec_policy.specs.Records.{node_count, node_place, node_at}
use Rattle.spec_policy.specs.Tree.{Way, parallel, sequential, Join, NodeKind, aLeaf, aTrivial, an_unsatisfiable, aPair, no_node, node_kind, tree_at, regulated}
use Rattle.spec_check.specs.Passed.{Passed}
use Rattle.spec_check.proofs.Numbers.{children-read, two-children, one-parent}
use Rattle.file_records.specs.Kinds.{way_of, join_of, kind_of}
use Rattle.file_records.specs.declared.Kind as kinds
use Rattle.file_records.specs.declared.Kind.TheVariants as variants
use Rattle.file_records.specs.declared.Way as declared
use Rattle.file_records.specs.declared.Join as joins
use Rattle.turn_sides.specs.Sides.{kind_at, left_at, right_at, join_of_kind, join_at, way_of_kind}
use Rattle.turn_sides.proofs.Nodes.{Sides, few-nodes}
use Rattle.turn_paths.proofs.Frames.{same_or_not}
use Rattle.turn_memory.specs.Words.{Words, set_place, above_place}
use Rattle.turn_tables.specs.Tables.{set_at, above_at, feeder_at, Kept, Entered, Tabled}
use Rattle.turn_tables.specs.Entries.{left_feeder, left_above, sides_up, entered, Begun}
use Rattle.turn_tables.proofs.FileNodes.{room}
use Rattle.turn_tables.proofs.EntryLaws.{Sided, sides-size, sides-low, sides_first, left-above, left-feeder, other-above, other-feeder, right-above, right-feeder}

-- ---- a node and its sides

-- node p has the side n
abbrev Side : Bytes → ℕ → ℕ → Type 0
Side file p n = (left_at file p ≡ n) ⊎ (right_at file p ≡ n)

module _ {file : Bytes} (ok : Passed file) where
  module _ {p : ℕ} (h : p < node_count file) {w : Way} {j : Join} (e : kind_at file p ≡ aPair w j) where
    pub sides-later : Sides file p
    unfolding kind_at left_at right_at
    sides-later =
        let c = children-read file h refl ok.kept5 e in
        record { left-later = c.left-later; left_below = c.left_below; right-later = c.right-later; right-below = c.right-below; few = few-nodes file ok p h }

    two-sides : left_at file p ≡ right_at file p → ⊥
    unfolding kind_at left_at right_at
    two-sides = two-children file ok.kept5 h e

    one-node : {q n : ℕ} → q < node_count file → {v : Way} {k : Join} → kind_at file q ≡ aPair v k → Side file p n → Side file q n → p ≡ q
    unfolding kind_at left_at right_at
    one-node g f c d = one-parent file ok.kept5 h e g f c d

unfoldable pub is_pair : NodeKind → Bool
is_pair aLeaf = false
is_pair aTrivial = false
is_pair an_unsatisfiable = false
is_pair no_node = false
is_pair (aPair w j) = true

same_way : (file : Bytes) (i : ℕ) {w v : Way} {j k : Join} → kind_at file i ≡ aPair w j → kind_at file i ≡ aPair v k → w ≡ v
unfolding way_of_kind
same_way file i e f = ap way_of_kind (sym e ∙ f)

own-join : (file : Bytes) (i : ℕ) {w : Way} {j : Join} → kind_at file i ≡ aPair w j → kind_at file i ≡ aPair w (join_at file i)
unfolding join_at join_of_kind
own-join file i {w} {j} e = e ∙ ap (aPair w) (sym (ap join_of_kind e))

-- ---- the pass

-- What an entry of feeder f and set a says of node k, the nodes before i being entered.
pub record Sound (file : Bytes) (ws : Words) (i k f a : ℕ) : Type 0 where
  pub most : f ≤ 31
  pub down : f < 31 → f < k
  pub seen : f < 31 → f < i
  pub pair : f < 31 → kind_at file f ≡ aPair sequential (join_at file f)
  pub none : f ≡ 31 → a ≡ EMPTY
  pub some : f < 31 → a ≡ union (regulated (tree_at file (right_at file f))) (above_at ws f)

-- the sides of the nodes before i are entered
pub record Linking (file : Bytes) (n : ℕ) (ws₀ ws : Words) (i : ℕ) : Type 0 where
  pub nodes : n ≡ node_count file
  pub below : i ≤ n
  pub few : n ≤ 31
  pub kept : Kept ws₀ ws
  pub entries : (k : ℕ) → k < node_count file → Entered file ws k
  pub root : feeder_at ws 0 ≡ 31
  pub sound : (k : ℕ) → k < node_count file → Sound file ws i k (feeder_at ws k) (above_at ws k)
  pub right : (p : ℕ) → p < i → (w : Way) → kind_at file p ≡ aPair w (join_at file p) → feeder_at ws (right_at file p) ≡ feeder_at ws p
  pub left-parallel : (p : ℕ) → p < i → kind_at file p ≡ aPair parallel (join_at file p) → feeder_at ws (left_at file p) ≡ feeder_at ws p
  pub left-sequential : (p : ℕ) → p < i → kind_at file p ≡ aPair sequential (join_at file p) → feeder_at ws (left_at file p) ≡ p

pub linking-none : {file : Bytes} {n : ℕ} {ws₀ ws : Words} → Passed file → n ≡ node_count file → Begun file ws₀ ws → Linking file n ws ws 0
linking-none ok e b = let q = room ok in record {
  nodes = e;
  below = omega arith;
  few = omega arith;
  kept = (b.kept.0, λ k h. refl);
  entries = λ k h. (b.fresh k h).entered;
  root = (b.fresh 0 (omega arith)).feeder;
  sound = λ k h. let z = (b.fresh k h).feeder in record {
    most = omega arith;
    down = λ y. absurd (omega arith);
    seen = λ y. absurd (omega arith);
    pair = λ y. absurd (omega arith);
    none = λ y. (b.fresh k h).above;
    some = λ y. absurd (omega arith);
  };
  right = λ p h w k. absurd (omega arith);
  left-parallel = λ p h k. absurd (omega arith);
  left-sequential = λ p h k. absurd (omega arith);
}

pub linking-all : {file : Bytes} {n : ℕ} {ws₀ ws : Words} {i : ℕ} → Linking file n ws₀ ws i → n ≤ i → Tabled file ws
linking-all g h = let e = g.nodes in record {
  entered = g.entries;
  linked = record {
    right = λ p b w k. g.right p (omega arith) w k;
    left-parallel = λ p b k. g.left-parallel p (omega arith) k;
    left-sequential = λ p b k. g.left-sequential p (omega arith) k;
    most = λ k b. (g.sound k b).most;
    down = λ k b. (g.sound k b).down;
    pair = λ k b. (g.sound k b).pair;
    root = g.root;
    none = λ k b. (g.sound k b).none;
    some = λ k b. (g.sound k b).some;
  };
}

at_most : (p i : ℕ) → p < i + 1 → (p ≡ i) ⊎ (p < i)
at_most p i h = let k : p ≤ i = omega arith in eq-or-lt_of_le k

module _ {file : Bytes} (ok : Passed file) {n : ℕ} {ws₀ ws : Words} {i : ℕ} (g : Linking file n ws₀ ws i) (some : i < n) where
  inside : {p : ℕ} → p ≤ i → p < node_count file
  inside h = omega (arith, g.nodes)

  -- of a node whose entry stays, in words that hold the entries of the nodes before i as before
  stays : {vs : Words} → ((k : ℕ) → k ≤ i → above_at vs k ≡ above_at ws k) → {k f a : ℕ} → Sound file ws i k f a → Sound file vs (i + 1) k f a
  stays q s = record {
    most = s.most;
    down = s.down;
    seen = λ y. omega (arith, s.seen y);
    pair = s.pair;
    none = s.none;
    some = λ y. s.some y ∙ ap (union (regulated (tree_at file (right_at file _)))) (sym (q _ (omega (arith, s.seen y))));
  }

  -- a node without sides
  linking-same : is_pair (kind_at file i) ≡ false → Linking file n ws₀ ws (i + 1)
  unfolding is_pair
  linking-same f = record {
    nodes = g.nodes;
    below = omega arith;
    few = g.few;
    kept = g.kept;
    entries = g.entries;
    root = g.root;
    sound = λ k h. stays (λ x y. refl) (g.sound k h);
    right = λ p h w k. ⊎_elim (λ z. absurd (no p z k)) (λ u. g.right p u w k) (at_most p i h);
    left-parallel = λ p h k. ⊎_elim (λ z. absurd (no p z k)) (λ u. g.left-parallel p u k) (at_most p i h);
    left-sequential = λ p h k. ⊎_elim (λ z. absurd (no p z k)) (λ u. g.left-sequential p u k) (at_most p i h);
  }
    where
      no : (p : ℕ) → p ≡ i → {w : Way} → kind_at file p ≡ aPair w (join_at file p) → ⊥
      no p z k = true-not-false (ap is_pair (ap (kind_at file) (sym z) ∙ k)) f

  module _ {w : Way} {j : Join} (e : kind_at file i ≡ aPair w j) where
    abbrev l : ℕ
    l = left_at file i

    abbrev r : ℕ
    r = right_at file i

    abbrev ws' : Words
    ws' = sides_up w ws i l r

    here : i < node_count file
    here = inside (omega arith)

    later : Sides file i
    later = sides-later ok here e

    low : {k : ℕ} → k < node_count file → k < 31
    low h = omega (arith, g.nodes, g.few)

    sided : Sided ws i l r
    sided = record { size = g.kept.0; node = low here; left = low later.left_below; right = low later.right-below; two = two-sides ok here e }

    at-left : feeder_at ws' l ≡ left_feeder w i (feeder_at ws i)
    at-left = left-feeder w sided

    above-left : above_at ws' l ≡ left_above w (set_at ws r) (above_at ws i)
    above-left = left-above w sided

    at_right : feeder_at ws' r ≡ feeder_at ws i
    at_right = right-feeder w sided

    above-right : above_at ws' r ≡ above_at ws i
    above-right = right-above w sided

    module _ (k : ℕ) (h : k < node_count file) (x : k ≡ l → ⊥) (y : k ≡ r → ⊥) where
      at_other : feeder_at ws' k ≡ feeder_at ws k
      at_other = other-feeder w sided k (low h) x y

      above_other : above_at ws' k ≡ above_at ws k
      above_other = other-above w sided k (low h) x y

    -- what was entered before stays
    own : (p : ℕ) → p ≤ i → feeder_at ws' p ≡ feeder_at ws p
    own p h = at_other p (inside h) (λ z. omega (arith, later.left-later)) (λ z. omega (arith, later.right-later))

    own-above : (p : ℕ) → p ≤ i → above_at ws' p ≡ above_at ws p
    own-above p h = above_other p (inside h) (λ z. omega (arith, later.left-later)) (λ z. omega (arith, later.right-later))

    kept : (p : ℕ) → p < i → {v : Way} {k : Join} → kind_at file p ≡ aPair v k → (c : ℕ) → c < node_count file → Side file p c → feeder_at ws' c ≡ feeder_at ws c
    kept p h f c b d =
        let q : p < node_count file = inside (omega arith) in
        at_other c b (λ z. omega (arith, one-node ok q f here e d (inl (sym z)))) (λ z. omega (arith, one-node ok q f here e d (inr (sym z))))

    -- each entry is sound
    from-node : {k : ℕ} → i < k → Sound file ws' (i + 1) k (feeder_at ws i) (above_at ws i)
    from-node h = let s : Sound file ws' (i + 1) i (feeder_at ws i) (above_at ws i) = stays own-above (g.sound i here) in record {
      most = s.most;
      down = λ y. omega (arith, s.down y);
      seen = s.seen;
      pair = s.pair;
      none = s.none;
      some = s.some;
    }

    on-left : (v : Way) → kind_at file i ≡ aPair v j → Sound file ws' (i + 1) l (left_feeder v i (feeder_at ws i)) (left_above v (set_at ws r) (above_at ws i))
    unfolding left_feeder left_above
    on-left parallel f = from-node later.left-later
    on-left sequential f = record {
      most = omega (arith, low here);
      down = λ y. later.left-later;
      seen = λ y. omega arith;
      pair = λ y. own-join file i f;
      none = λ y. absurd (omega (arith, low here));
      some = λ y. ap₂ union (g.entries r later.right-below).set (sym (own-above i (omega arith)));
    }

    moved : {k f f' a a' : ℕ} → f' ≡ f → a' ≡ a → Sound file ws' (i + 1) k f a → Sound file ws' (i + 1) k f' a'
    moved {k} {f} {f'} {a} {a'} p q s = subst (λ (x : ℕ). Sound file ws' (i + 1) k x a') (sym p) (subst (λ (x : ℕ). Sound file ws' (i + 1) k f x) (sym q) s)

    all_sound : (k : ℕ) → k < node_count file → Sound file ws' (i + 1) k (feeder_at ws' k) (above_at ws' k)
    all_sound k h = ⊎_elim
        (λ z. subst (λ (q : ℕ). Sound file ws' (i + 1) q (feeder_at ws' q) (above_at ws' q)) (sym z) (moved at-left above-left (on-left w e)))
        (λ u. ⊎_elim
        (λ z. subst (λ (q : ℕ). Sound file ws' (i + 1) q (feeder_at ws' q) (above_at ws' q)) (sym z) (moved at_right above-right (from-node later.right-later)))
        (λ v. moved (at_other k h u v) (above_other k h u v) (stays own-above (g.sound k h))) (same_or_not k r)) (same_or_not k l)

    low-kept : (k : ℕ) → k < above_place → get_or ws' k 0 ≡ get_or ws k 0
    low-kept = sides-low w sided

    linking-pair : Linking file n ws₀ ws' (i + 1)
    unfolding left_feeder
    linking-pair = record {
      nodes = g.nodes;
      below = omega arith;
      few = g.few;
      kept = (sides-size w sided, λ k h. low-kept k (omega arith) ∙ g.kept.1 k h);
      entries = λ k h. record {
        set = low-kept (set_place + k) (omega (arith, low h)) ∙ (g.entries k h).set;
        first = sides_first w sided k (low h) ∙ (g.entries k h).first;
      };
      root = own 0 (omega arith) ∙ g.root;
      sound = all_sound;
      right = λ p h v k. ⊎_elim
          (λ z. subst (λ (q : ℕ). feeder_at ws' (right_at file q) ≡ feeder_at ws' q) (sym z) (at_right ∙ sym (own i (omega arith))))
          (λ u. let y : p ≤ i = omega arith in kept p u k (right_at file p) (sides-later ok (inside y) k).right-below (inr refl) ∙ g.right p u v k ∙ sym (own p y))
          (at_most p i h);
      left-parallel = λ p h k. ⊎_elim
          (λ z. subst (λ (q : ℕ). feeder_at ws' (left_at file q) ≡ feeder_at ws' q) (sym z)
          (at-left ∙ ap (λ (v : Way). left_feeder v i (feeder_at ws i)) (same_way file i e (ap (kind_at file) (sym z) ∙ k)) ∙ sym (own i (omega arith))))
          (λ u. let y : p ≤ i = omega arith in kept p u k (left_at file p) (sides-later ok (inside y) k).left_below (inl refl) ∙ g.left-parallel p u k ∙ sym (own p y))
          (at_most p i h);
      left-sequential = λ p h k. ⊎_elim
          (λ z. subst (λ (q : ℕ). feeder_at ws' (left_at file q) ≡ q) (sym z)
          (at-left ∙ ap (λ (v : Way). left_feeder v i (feeder_at ws i)) (same_way file i e (ap (kind_at file) (sym z) ∙ k))))
          (λ u. let y : p ≤ i = omega arith in kept p u k (left_at file p) (sides-later ok (inside y) k).left_below (inl refl) ∙ g.left-sequential p u k)
          (at_most p i h);
    }

  pub linking-more : {vs : Words} → vs ≡ entered (kind_at file i) file i ws → Linking file n ws₀ vs (i + 1)
  unfolding entered is_pair
  linking-more q = subst (λ (vs : Words). Linking file n ws₀ vs (i + 1)) (sym q) (by (kind_at file i) refl)
    where
      by : (k : NodeKind) → kind_at file i ≡ k → Linking file n ws₀ (entered k file i ws) (i + 1)
      by aLeaf e = linking-same (ap is_pair e)
      by aTrivial e = linking-same (ap is_pair e)
      by an_unsatisfiable e = linking-same (ap is_pair e)
      by no_node e = linking-same (ap is_pair e)
      by (aPair w j) e = linking-pair e

-- ---- what the code reads of node i

module _ (policy : Bytes) (i : ℕ) {at : ℕ} (p : at ≡ node_place i) (k : kinds.Kind) (read : kind_of k ≡ node_kind (node_at policy at).kind) where
  kind-at : kind_at policy i ≡ kind_of k
  unfolding kind_at
  kind-at = sym (read ∙ ap (λ (x : ℕ). node_kind (node_at policy x).kind) p)

  pub none-entered : {ws : Words} → ((w : declared.Way) (j : joins.Join) → k ≡ variants.Pair w j → ⊥) → ws ≡ entered (kind_at policy i) policy i ws
  unfolding kind_of entered
  none-entered {ws} no-pair = go k refl
    where
      go : (x : kinds.Kind) → k ≡ x → ws ≡ entered (kind_at policy i) policy i ws
      go variants.Leaf e = rw (kind-at ∙ ap kind_of e, entered)
      go variants.Trivial e = rw (kind-at ∙ ap kind_of e, entered)
      go variants.Unsatisfiable e = rw (kind-at ∙ ap kind_of e, entered)
      go (variants.Pair w j) e = absurd (no-pair w j e)
      go variants.Unknown e = rw (kind-at ∙ ap kind_of e, entered)

  pub pair-at : {w : declared.Way} {j : joins.Join} → k ≡ variants.Pair w j → kind_at policy i ≡ aPair (way_of w) (join_of j)
  unfolding kind_of
  pair-at e = kind-at ∙ ap kind_of e

  pub pair-entered : {w : declared.Way} {j : joins.Join} (ws : Words) {ws' : Words} {l r : ℕ} → k ≡ variants.Pair w j → l ≡ left_at policy i → r ≡ right_at policy i
      → ws' ≡ sides_up (way_of w) ws i l r → ws' ≡ entered (kind_at policy i) policy i ws
  unfolding entered
  pair-entered {w} ws e f g q = q ∙ ap₂ (λ (l r : ℕ). sides_up (way_of w) ws i l r) f g ∙ sym (ap (λ (x : NodeKind). entered x policy i ws) (pair-at e))
