-- An insert's way up from a node of the file, by the tables.
use Prim.Native.Nat.{ℕ, zero, suc, ◌+◌, ◌≤◌, ◌<◌}
use native.Mathlib.Omega.{arith}
use mathlib.Core.Path.{◌≡◌, refl, sym, ap, ap₂, ◌∙◌, subst}
use mathlib.Core.Bool.{Bool, true, false, ◌&&◌}
use mathlib.Core.List.{List, [], ◌∷◌}
use lib.Dec.{ltb, ltb→lt}
use lib.ListN.{get_or}
use borrow.Author.Tests.{lt-ltb}
use Rattle.actions.specs.Sets.{Action, has}
use Rattle.actions.proofs.Tests.{of-yes}
use Rattle.actions.proofs.SetLaws.{has-low}
use Rattle.spec_policy.specs.Bytes.{Bytes}
use Rattle.spec_policy.specs.Records.{node_count}
use Rattle.spec_policy.specs.Tree.{Way, sequential, aPair, Tree, node, tree_at, tree}
use Rattle.spec_check.specs.Passed.{Passed}
use Rattle.spec_check.proofs.Numbers.{number_at}
use Rattle.spec_turns.specs.Status.{Status, is_running}
use Rattle.spec_turns.specs.State.{status}
use Rattle.spec_turns.specs.Turn.{Phase}
use Rattle.turn_paths.specs.Memory.{Mem, held}
use Rattle.turn_paths.specs.Choices.{asked_in}
use Rattle.turn_paths.specs.Paths.{Feeder}
use Rattle.turn_paths.specs.Beneath.{Beneath, on_parallel_left, on_left, on_right}
use Rattle.turn_paths.specs.Rising.{takes, Skips, here, past}
use Rattle.turn_paths.proofs.Begin.{held-status}
use Rattle.turn_memory.specs.Words.{Words, set_place, memory_of}
use Rattle.turn_memory.specs.Phases.{phase_of}
use Rattle.turn_sides.specs.Sides.{kind_at, left_at, right_at, join_at, way_of_kind, way_at, Sided}
use Rattle.turn_sides.proofs.Nodes.{tree_is}
use Rattle.turn_sides.proofs.StatusBytes.{phase-before}
use Rattle.turn_tables.specs.Tables.{feeder_at, above_at, Linked, Tabled, as_feeder, risen, climb, path_at, Passes}
use Rattle.turn_tables.proofs.TableLaws.{tabled-same, path-same, none_above, some-above}
use Rattle.turn_place.specs.Places.{Keeps, Stands, Sequential, Finds}
use Rattle.turn_tables.proofs.FileNodes.{room}

-- ---- words that keep the tables

pub stands_on : {policy : Bytes} {ws ws' : Words} {i : ℕ} → Stands policy ws i → Keeps ws ws' → Stands policy ws' i
stands_on {policy} {ws} {ws'} {i} h k = record {
  passed = h.passed;
  sized = k.sized ∙ h.sized;
  tabled = tabled-same policy ws ws' k.tables h.tabled;
  inside = h.inside;
  beneath = subst (Beneath (tree policy) (tree_at policy i)) (sym (path-same policy ws ws' k.tables i)) h.beneath;
}

-- ---- the way up, one node at a time

-- the fuel is enough: the numbers fall
climb-enough : (policy : Bytes) (ws : Words) → Linked policy ws → (k i : ℕ) → i ≤ k → i < node_count policy → climb k policy ws i ≡ climb (suc k) policy ws i
unfolding climb risen
climb-enough policy ws l zero i h n = on (ltb (feeder_at ws i) 31) refl
  where
    on : (b : Bool) → ltb (feeder_at ws i) 31 ≡ b → ◌≡◌ {A = List Feeder} [] (risen b (as_feeder policy (feeder_at ws i)) [])
    on true e = absurd (omega (arith, h, l.down i n (ltb→lt (feeder_at ws i) 31 (of-yes (ltb (feeder_at ws i) 31) e))))
    on false e = refl
climb-enough policy ws l (suc k) i h n = on (climb-enough policy ws l k (feeder_at ws i)) (ltb (feeder_at ws i) 31) refl
  where
    on : (feeder_at ws i ≤ k → feeder_at ws i < node_count policy → climb k policy ws (feeder_at ws i) ≡ climb (suc k) policy ws (feeder_at ws i)) → (b : Bool) → ltb (feeder_at ws i) 31 ≡ b
        → risen b (as_feeder policy (feeder_at ws i)) (climb k policy ws (feeder_at ws i)) ≡ risen b (as_feeder policy (feeder_at ws i)) (climb (suc k) policy ws (feeder_at ws i))
    on rec true e =
        let d = l.down i n (ltb→lt (feeder_at ws i) 31 (of-yes (ltb (feeder_at ws i) 31) e)) in
        ap (λ (fs : List Feeder). as_feeder policy (feeder_at ws i) ∷ fs) (rec (omega (arith, h, d)) (omega (arith, d, n)))
    on rec false e = refl

-- a node's way up begins with its feeding node
pub path-next : {policy : Bytes} {ws : Words} {i : ℕ} → Passed policy → Linked policy ws → i < node_count policy → feeder_at ws i < 31
    → path_at policy ws i ≡ as_feeder policy (feeder_at ws i) ∷ path_at policy ws (feeder_at ws i)
unfolding climb risen
path-next {policy} {ws} {i} ok l n k =
    let d = l.down i n k in
    ap (λ (b : Bool). risen b (as_feeder policy (feeder_at ws i)) (climb 30 policy ws (feeder_at ws i))) (lt-ltb (feeder_at ws i) 31 k)
    ∙ ap (λ (fs : List Feeder). as_feeder policy (feeder_at ws i) ∷ fs)
    (climb-enough policy ws l 30 (feeder_at ws i) (omega (arith, d, n, (room ok).few)) (omega (arith, d, n)))

path-some : {policy : Bytes} {ws : Words} {i : ℕ} → Stands policy ws i → feeder_at ws i < 31 → path_at policy ws i ≡ as_feeder policy (feeder_at ws i) ∷ path_at policy ws (feeder_at ws i)
path-some h k = path-next h.passed h.tabled.linked h.inside k

-- nodes with the same feeding node have the same way up
pub path-by : (policy : Bytes) (ws : Words) (i j : ℕ) → feeder_at ws j ≡ feeder_at ws i → path_at policy ws j ≡ path_at policy ws i
unfolding climb
path-by policy ws i j e = ap (λ (x : ℕ). risen (ltb x 31) (as_feeder policy x) (climb 30 policy ws x)) e

-- ---- a node with two sides

sided-at : {policy : Bytes} {i : ℕ} {w : Way} → Passed policy → i < node_count policy → kind_at policy i ≡ aPair w (join_at policy i) → Sided policy i
unfolding way_at way_of_kind
sided-at {policy} {i} {w} ok n k = record { passed = ok; inside = n; pair = k ∙ ap (λ (v : Way). aPair v (join_at policy i)) (sym (ap way_of_kind k)) }

tree-at-pair : {policy : Bytes} {i : ℕ} {w : Way} → Passed policy → i < node_count policy → kind_at policy i ≡ aPair w (join_at policy i)
    → tree_at policy i ≡ node w (join_at policy i) i (tree_at policy (left_at policy i)) (tree_at policy (right_at policy i))
unfolding way_at way_of_kind
tree-at-pair {policy} {i} {w} ok n k =
    tree_is (sided-at ok n k) ∙ ap (λ (v : Way). node v (join_at policy i) i (tree_at policy (left_at policy i)) (tree_at policy (right_at policy i))) (ap way_of_kind k)

module _ {policy : Bytes} {ws : Words} {i : ℕ} {w : Way} (h : Stands policy ws i) (k : kind_at policy i ≡ aPair w (join_at policy i)) where
  pub sided-of : Sided policy i
  sided-of = sided-at h.passed h.inside k

  pub pair-tree : tree_at policy i ≡ node w (join_at policy i) i (tree_at policy (left_at policy i)) (tree_at policy (right_at policy i))
  pair-tree = tree-at-pair h.passed h.inside k

-- the node that a way up begins with stands beneath the rest of it
feeder-beneath : {whole t : Tree} {f : Feeder} {fs : List Feeder} → Beneath whole t (f ∷ fs) → Beneath whole (node sequential f.join f.number f.left f.right) fs
feeder-beneath (on_parallel_left b) = feeder-beneath b
feeder-beneath (on_left b) = b
feeder-beneath (on_right b) = feeder-beneath b

-- the next node on the way up
pub record Up (policy : Bytes) (ws : Words) (i : ℕ) : Type 0 where
  pub below : feeder_at ws i < i
  pub pair : Sequential policy (feeder_at ws i)
  pub stands : Stands policy ws (feeder_at ws i)

pub up_from : {policy : Bytes} {ws : Words} {i : ℕ} → Stands policy ws i → feeder_at ws i < 31 → Up policy ws i
up_from {policy} {ws} {i} h k =
    let l = h.tabled.linked in
    let d = l.down i h.inside k in
    let e = l.pair i h.inside k in
    let p = feeder_at ws i in
    let b = feeder-beneath (subst (Beneath (tree policy) (tree_at policy i)) (path-some h k) h.beneath) in
    let n : p < node_count policy = omega (arith, d, h.inside) in
    record {
      below = d;
      pair = e;
      stands = record {
        passed = h.passed;
        sized = h.sized;
        tabled = h.tabled;
        inside = n;
        beneath = subst (λ (t : Tree). Beneath (tree policy) t (path_at policy ws p)) (sym (tree-at-pair h.passed n e)) b;
      };
    }

-- ---- past nodes that are not asked

pub skips-then : {b : Action} {m : Mem} {fs gs hs : List Feeder} → Skips b m fs gs → Skips b m gs hs → Skips b m fs hs
skips-then here t = t
skips-then (past a s) t = past a (skips-then s t)

and_no : (p q : Bool) → q ≡ false → (p && q) ≡ false
and_no true q e = e
and_no false q e = refl

pub passes-skips : {b : Action} (m : Mem) (fs : List Feeder) → Passes b fs → Skips b m fs []
unfolding Passes
passes-skips m [] p = here
passes-skips m (f ∷ fs) p = past (and_no (is_running (status (held f.right m))) _ p.0) (passes-skips m fs p.1)

-- whether the right side is asked, as the code reads it
pub asked-takes : {policy : Bytes} {ws : Words} (p b x : ℕ) {v : Bool} → Tabled policy ws → right_at policy p < node_count policy → b < 64 → x ≡ right_at policy p
    → v ≡ asked_in (get_or ws (set_place + x) 0) (phase_of b) (memory_of ws x) → takes (as_feeder policy p) b (memory_of ws) ≡ v
unfolding asked_in
asked-takes {policy} {ws} p b x {v} t n l e g =
    let r = right_at policy p in
    ap₂ (λ (s : Status) (k : ℕ). is_running s && has k b) (held-status (tree_at policy r) (memory_of ws) ∙ ap (λ (i : ℕ). (memory_of ws i).status) (number_at policy r)) (sym (t.entered r n).set)
    ∙ sym (ap (λ (ph : Phase). asked_in (get_or ws (set_place + r) 0) ph (memory_of ws r)) (phase-before b l))
    ∙ ap (λ (i : ℕ). asked_in (get_or ws (set_place + i) 0) (phase_of b) (memory_of ws i)) (sym e) ∙ sym g

-- ---- the search for the next node that takes an insert

module _ {policy : Bytes} {ws : Words} {i p : ℕ} {b : Action} (h : Stands policy ws p) (o : p ≤ i) (s : Skips b (memory_of ws) (path_at policy ws i) (path_at policy ws p)) where
  pub none_found : has (above_at ws p) b ≡ false → (31 ≤ 31) × Finds policy ws i b (ltb 31 31) 31
  none_found e = (omega arith, skips-then s (passes-skips (memory_of ws) (path_at policy ws p) (none_above h.tabled.linked b p h.inside e)))

  module _ (e : has (above_at ws p) b ≡ true) where
    next_low : feeder_at ws p < 31
    next_low = some-above h.tabled.linked b p h.inside e

    pub next_up : Up policy ws p
    next_up = up_from h next_low

    -- to the next node
    to-next : Skips b (memory_of ws) (path_at policy ws i) (as_feeder policy (feeder_at ws p) ∷ path_at policy ws (feeder_at ws p))
    to-next = subst (Skips b (memory_of ws) (path_at policy ws i)) (path-some h next_low) s

    pub found : (r : ℕ) → r ≡ feeder_at ws p → takes (as_feeder policy r) b (memory_of ws) ≡ true → (r ≤ 31) × Finds policy ws i b (ltb r 31) r
    found r q a =
        let l : r < 31 = omega (arith, q, next_low) in (
          omega (arith, l),
          subst (λ (v : Bool). Finds policy ws i b v r) (sym (lt-ltb r 31 l)) (
            subst (λ (x : ℕ). Skips b (memory_of ws) (path_at policy ws i) (as_feeder policy x ∷ path_at policy ws x)) (sym q) to-next,
            a,
            (omega (arith, q, o, next_up.below), has-low (above_at ws p) b e),
          ),
        )

    pub not-here : (r : ℕ) → r ≡ feeder_at ws p → takes (as_feeder policy r) b (memory_of ws) ≡ false
        → Stands policy ws r × ((r ≤ i) × Skips b (memory_of ws) (path_at policy ws i) (path_at policy ws r))
    not-here r q a =
        subst (λ (x : ℕ). Stands policy ws x × ((x ≤ i) × Skips b (memory_of ws) (path_at policy ws i) (path_at policy ws x))) (sym q)
        (next_up.stands, (omega (arith, o, next_up.below), skips-then to-next (past (subst (λ (x : ℕ). takes (as_feeder policy x) b (memory_of ws) ≡ false) q a) here)))
