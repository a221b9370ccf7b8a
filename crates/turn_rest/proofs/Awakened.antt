-- A memory in which no node is opened yet holds the state that opening starts from; and words written one after another.
use Prim.Native.Nat.{ℕ, ◌+◌, ◌≤◌, ◌<◌}
use native.Mathlib.Omega.{arith}
use native.Mathlib.Nat.{eq-or-lt_of_le}
use mathlib.Core.Path.{◌≡◌, refl, sym, ap, ap₂, ◌∙◌, subst}
use mathlib.Core.Logic.{⊎_elim}
use mathlib.Core.Bool.{true}
use mathlib.Core.List.{List}
use lib.Dec.{eqb_refl}
use lib.ListN.{length, get_or, set, length-set}
use lib.Seq.{get_or-set_same, get_or-set_other}
use Rattle.actions.specs.Sets.{ActionSet}
use Rattle.spec_policy.specs.Bytes.{Bytes}
use Rattle.spec_policy.specs.Records.{Node, node_count, node_place, node_at}
use Rattle.spec_policy.specs.Steps.{Step}
use Rattle.spec_policy.specs.Tree.{nodes_with_steps, Tree, leaf, trivial, unsatisfiable, node, tree}
use Rattle.spec_check.specs.Lawful.{holds}
use Rattle.spec_check.specs.Passed.{Passed}
use Rattle.spec_check.proofs.Under.{EachLeaf, under-leaves}
use Rattle.spec_check.proofs.Numbers.{node-in}
use Rattle.laws_check.proofs.LawfulTree.{numbers-below-nodes}
use Rattle.spec_turns.specs.Status.{running, status_of, is_running}
use Rattle.spec_turns.specs.State.{State, pair_state, pair_with}
use Rattle.spec_turns.specs.Turn.{fresh}
use Rattle.laws_turns.proofs.Cells.{below-here, below_left, below_right}
use Rattle.laws_turns.specs.Cells.{Below}
use Rattle.turn_paths.specs.Memory.{Cell, Mem, leaf_with, held}
use Rattle.turn_memory.specs.Words.{Words, packed, celled, memory_of}
use Rattle.turn_tables.proofs.FileNodes.{room}
use Rattle.turn_memory.proofs.CellLaws.{celled-packed, view-at}
use Rattle.turn_rest.specs.Rest.{KeptFrom, record_at}

-- ---- from the cells to the state

-- "Opening is an "after" phase from offset 0 and the counter starts; .. a side not yet opened counts as running."
abbrev unopened : ℕ → Cell
unopened start = record { status = running; asked = true; offset = 0; counter = start }

-- no node is opened yet
unfoldable AllUnopened : Bytes → Mem → Type 0
AllUnopened file m = (i : ℕ) → i < node_count file → m i ≡ unopened (record_at file i).start

module _ (file : Bytes) (m : Mem) (all : AllUnopened file m) where
  -- a leaf's start is its record's
  Starts : ℕ → ActionSet → ℕ → List Step → Type 0
  Starts i s c code = i < node_count file → c ≡ (record_at file i).start

  starts : EachLeaf Starts (tree file)
  unfolding tree Starts
  starts = under-leaves (nodes_with_steps file) Starts (λ i e h. ap (λ (x : Node). x.start) (node-in file i h)) (node_count file) 0

  held-each : (t : Tree) → EachLeaf Starts t → Below (node_count file) t → held t m ≡ fresh t
  unfolding Starts EachLeaf held fresh leaf_with pair_with is_running AllUnopened holds
  held-each (leaf i r c code) s below =
      let h : i < node_count file = below i (eqb_refl i) in
      rw (all i h, s h)
  held-each (trivial i) s below = rw (all i (below i (eqb_refl i)))
  held-each (unsatisfiable i) s below = rw (all i (below i (eqb_refl i)))
  held-each (node w j i l r) s below =
      ap (λ (x : Cell). pair_with x.status x.asked (held l m) (held r m)) (all i (below-here (node_count file) w j i l r below))
      ∙ ap₂ (λ (x y : State). pair_state running true x y)
      (held-each l s.0 (below_left (node_count file) w j i l r below)) (held-each r s.1 (below_right (node_count file) w j i l r below))

held-fresh : (file : Bytes) → Passed file → (m : Mem) → AllUnopened file m → held (tree file) m ≡ fresh (tree file)
held-fresh file ok m all = held-each file m all (tree file) (starts file m all) (numbers-below-nodes file ok)

-- ---- words written one after another

-- the words below i are as P says, and the others as they were
pub record Filled (P : ℕ → ℕ → Type 0) (n : ℕ) (ws₀ ws : Words) (i : ℕ) : Type 0 where
  pub most : i ≤ n
  pub kept : KeptFrom i ws₀ ws
  pub words : (k : ℕ) → k < i → P k (get_or ws k 0)

pub filled_none : (P : ℕ → ℕ → Type 0) (n : ℕ) (ws : Words) → Filled P n ws ws 0
filled_none P n ws = record { most = omega arith; kept = record { size = refl; rest = λ k h. refl }; words = λ k h. absurd (omega arith) }

pub filled_more : {P : ℕ → ℕ → Type 0} {n i x : ℕ} {ws₀ ws ws' : Words} → Filled P n ws₀ ws i → i < n → i < length ws₀ → P i x → ws' ≡ set ws i x
    → Filled P n ws₀ ws' (i + 1)
filled_more {P} {n} {i} {x} {ws₀} {ws} g l h p e = subst (λ (us : Words). Filled P n ws₀ us (i + 1)) (sym e) (record {
  most = omega arith;
  kept = record {
    size = length-set ws i x ∙ g.kept.size;
    rest = λ k u. get_or-set_other ws i k x 0 (λ z. omega arith) ∙ g.kept.rest k (omega arith);
  };
  words = λ k u. ⊎_elim
      (λ (z : k ≡ i). subst (λ (y : ℕ). P y (get_or (set ws i x) y 0)) (sym z) (subst (P i) (sym (get_or-set_same ws i x 0 (omega (arith, g.kept.size)))) p))
      (λ (z : k < i). subst (P k) (sym (get_or-set_other ws i k x 0 (λ q. omega arith))) (g.words k z))
      (eq-or-lt_of_le (let q : k ≤ i = omega arith in q));
})

module _ {P : ℕ → ℕ → Type 0} {n i : ℕ} {ws₀ ws : Words} (g : Filled P n ws₀ ws i) (done : n ≤ i) where
  pub filled-kept : KeptFrom n ws₀ ws
  filled-kept = let e : i ≡ n = omega (arith, g.most) in subst (λ (k : ℕ). KeptFrom k ws₀ ws) e g.kept

  pub filled-words : (k : ℕ) → k < n → P k (get_or ws k 0)
  filled-words k h = g.words k (omega arith)

-- ---- a policy that opens

-- node i's word is that of a node that is not yet opened
abbrev pub Opens : Bytes → ℕ → ℕ → Type 0
Opens file i x = celled x ≡ unopened (record_at file i).start

-- as the code packs it
pub opens-here : (file : Bytes) (i : ℕ) {p c : ℕ} → p ≡ node_place i → (c ≡ (node_at file p).start) × (c < 4294967296) → Opens file i (packed 1 0 1 c)
unfolding status_of
opens-here file i {c = c} e f =
    celled-packed 1 0 1 c (omega arith) (omega arith) (omega arith) f.1 ∙ ap unopened (f.0 ∙ ap (λ (p : ℕ). (node_at file p).start) e)

pub opens : {file : Bytes} {n : ℕ} (ws : Words) → Passed file → n ≡ node_count file → ((i : ℕ) → i < n → Opens file i (get_or ws i 0))
    → held (tree file) (memory_of ws) ≡ fresh (tree file)
unfolding AllUnopened
opens {file} ws ok e h = held-fresh file ok (memory_of ws) (λ i l. view-at ws i (omega (arith, l, (room ok).few)) ∙ h i (omega arith))
