-- What is saved of a node, and dropped under it, by the kind that the code read.
use Prim.Native.Nat.{ℕ}
use mathlib.Core.Path.{◌≡◌, refl, sym, ap, ap₂, ◌∙◌}
use mathlib.Core.Bool.{Bool}
use lib.Dec.{eqb}
use lib.ListN.{set}
use borrow.Author.Tests.{eq-eqb, ne_eqb}
use Rattle.spec_policy.specs.Bytes.{Bytes, spell}
use Rattle.spec_policy.specs.Records.{Node, node_place, node_at}
use Rattle.spec_policy.specs.Tree.{NodeKind, aLeaf, node_kind}
use Rattle.spec_turns.specs.Status.{status_number}
use Rattle.spec_turns.specs.Saved.{cell}
use Rattle.file_records.specs.Kinds.{kind_of}
use Rattle.file_records.specs.declared.Kind.{Kind}
use Rattle.file_records.specs.declared.Kind.TheVariants as kinds
use Rattle.file_records.specs.declared.Way as ways
use Rattle.file_records.specs.declared.Join as joins
use Rattle.turn_memory.specs.Words.{Words, packed, memory_of}
use Rattle.turn_rest.specs.Rest.{own_of, dropped_word, sides_over, under_of, record_at, kind_at, runs_at, Rested}
use Rattle.turn_rest.proofs.RecordLaws.{number-runs, word-bare}

-- ---- the sides of a pair

pub sides-kept : (n : ℕ) (x : Node) (ws : Words) → n ≡ 1 → ws ≡ sides_over (eqb n 1) x ws
unfolding sides_over
sides-kept n x ws e = sym (ap (λ (b : Bool). sides_over b x ws) (eq-eqb n 1 e))

pub sides-over : (n : ℕ) (x : Node) (ws : Words) → (n ≡ 1 → ⊥) → {l r : ℕ} → l ≡ x.left → r ≡ x.right → {us vs : Words} → us ≡ set ws l dropped_word
    → vs ≡ set us r dropped_word → vs ≡ sides_over (eqb n 1) x ws
unfolding sides_over
sides-over n x ws e {l} {r} p q f g =
    g ∙ ap (λ (us : Words). set us r dropped_word) f ∙ ap₂ (λ (a b : ℕ). set (set ws a dropped_word) b dropped_word) p q
    ∙ sym (ap (λ (b : Bool). sides_over b x ws) (ne_eqb n 1 e))

-- ---- a node

module _ (file : Bytes) (i : ℕ) {p : ℕ} (place : p ≡ node_place i) (k : Kind) (read : kind_of k ≡ node_kind (node_at file p).kind) (ws : Words) where
  kind-is : {x : Kind} → k ≡ x → kind_at file i ≡ kind_of x
  kind-is e = sym (sym (ap kind_of e) ∙ read ∙ ap (λ (q : ℕ). node_kind (node_at file q).kind) place)

  -- of a kind whose word and whose rest are known
  by_kind : (x : Kind) → k ≡ x → {ws' : Words} {r : ℕ} → spell 8 r ≡ cell (own_of (kind_of x) (memory_of ws i))
      → ws' ≡ under_of (kind_of x) (runs_at ws i) (record_at file i) ws → Rested file i ws ws' r
  by_kind x e f g = record {
    word = f ∙ ap (λ (q : NodeKind). cell (own_of q (memory_of ws i))) (sym (kind-is e));
    under = g ∙ ap (λ (q : NodeKind). under_of q (runs_at ws i) (record_at file i) ws) (sym (kind-is e));
  }

  pub rests-leaf : k ≡ kinds.Leaf → {r : ℕ} → spell 8 r ≡ cell (own_of aLeaf (memory_of ws i)) → Rested file i ws ws r
  unfolding kind_of under_of
  rests-leaf e f = by_kind kinds.Leaf e f refl

  -- by a status alone
  module _ {n r : ℕ} (is : n ≡ status_number (memory_of ws i).status) (w : r ≡ packed n 0 0 0) where
    bare : spell 8 r ≡ cell (own_of (kind_of kinds.Trivial) (memory_of ws i))
    unfolding kind_of own_of
    bare = ap (spell 8) w ∙ word-bare (memory_of ws i).status (memory_of ws i).asked is

    pub rests-pair : {v : ways.Way} {j : joins.Join} → k ≡ kinds.Pair v j → {ws' : Words} → ws' ≡ sides_over (eqb n 1) (node_at file p) ws → Rested file i ws ws' r
    unfolding kind_of own_of under_of
    rests-pair {v} {j} e g =
        by_kind (kinds.Pair v j) e bare
        (g ∙ ap₂ (λ (b : Bool) (x : Node). sides_over b x ws) (ap (λ (m : ℕ). eqb m 1) is ∙ number-runs (memory_of ws i).status) (ap (node_at file) place))

    pub rests-other : (k ≡ kinds.Leaf → ⊥) → ((v : ways.Way) (j : joins.Join) → k ≡ kinds.Pair v j → ⊥) → Rested file i ws ws r
    unfolding kind_of own_of under_of
    rests-other no-leaf no-pair = go k refl
      where
        go : (q : Kind) → k ≡ q → Rested file i ws ws r
        go kinds.Leaf e = absurd (no-leaf e)
        go kinds.Trivial e = by_kind kinds.Trivial e bare refl
        go kinds.Unsatisfiable e = by_kind kinds.Unsatisfiable e bare refl
        go (kinds.Pair v j) e = absurd (no-pair v j e)
        go kinds.Unknown e = by_kind kinds.Unknown e bare refl
