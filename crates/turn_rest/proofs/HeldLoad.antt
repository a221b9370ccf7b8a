-- A saved state that fits, read into the memory of a call, is what it loads: its marks are zero, a node that does not run has offset
-- and counter zero, and all under a decided node is dropped.
use Prim.Native.Nat.{ℕ, ◌+◌, ◌*◌, ◌<◌}
use native.Mathlib.Omega.{arith}
use mathlib.Core.Path.{◌≡◌, refl, sym, ap, ap₂, ◌∙◌}
use mathlib.Core.Bool.{false}
use mathlib.Core.List.{List}
use lib.Dec.{T, eqb_refl}
use lib.ListN.{length}
use Rattle.actions.specs.Sets.{ActionSet}
use Rattle.spec_policy.specs.Bytes.{Bytes, number, Small}
use Rattle.spec_policy.specs.Records.{most_nodes, node_count}
use Rattle.spec_policy.specs.Steps.{Step}
use Rattle.spec_policy.specs.Tree.{Way, Join, and, or, Tree, leaf, trivial, unsatisfiable, node, tree}
use Rattle.spec_policy.proofs.ByteLaws.{small-drop, number-less}
use Rattle.spec_policy.proofs.NumberLaws.{number-join}
use Rattle.spec_check.specs.Lawful.{holds}
use Rattle.spec_check.specs.Passed.{Passed}
use Rattle.laws_check.proofs.LawfulTree.{numbers-below-nodes}
use Rattle.spec_turns.specs.Status.{Status, running, ended, ended_left, ended_right, halted, dropped, status_of, is_running}
use Rattle.spec_turns.specs.State as states
use Rattle.spec_turns.specs.State.{State, leaf_state, pair_state, leaf_over, pair_with}
use Rattle.spec_turns.specs.Saved.{ahead_size, cell_size, cells_size, state_size, cells, cell_place, status_at, offset_at, zeros_at, counter_at, load, fits}
use Rattle.spec_turns.specs.Rest.{gone, decided_by, AtRest, leaf-waits, leaf-ended, leaf-halted, trivial-ended, unsatisfiable-halted, pair_runs, pair-decided}
use Rattle.laws_turns.proofs.Cells.{cells-size, holds-here, holds-left, holds-right}
use Rattle.laws_turns.proofs.Fits.{fitting, fits-cells, fits-load}
use Rattle.laws_turns.proofs.Lasting.{in_cells}
use Rattle.turn_paths.specs.Memory.{Cell, Mem, leaf_with, held}
use Rattle.turn_paths.proofs.Begin.{drop-held, pair-with-over}
use Rattle.turn_memory.specs.Words.{Words, packed, celled, memory_of}
use Rattle.turn_memory.proofs.CellLaws.{celled-packed, view-at}
use Rattle.turn_rest.specs.Rest.{Woken}

-- ---- a node at rest

decided-stops : (j : Join) (s : Status) → T (decided_by j s) → is_running s ≡ false
unfolding decided_by is_running
decided-stops and running d = absurd d
decided-stops and ended d = refl
decided-stops and ended_left d = refl
decided-stops and ended_right d = refl
decided-stops and halted d = refl
decided-stops and dropped d = refl
decided-stops or running d = absurd d
decided-stops or ended d = refl
decided-stops or ended_left d = refl
decided-stops or ended_right d = refl
decided-stops or halted d = refl
decided-stops or dropped d = refl

rest-leaf : (i c₀ : ℕ) (r : ActionSet) (code : List Step) {x : Status} {o c : ℕ} → AtRest (leaf i r c₀ code) (leaf_state x false o c) → leaf_with x false o c ≡ leaf_state x false o c
unfolding leaf_with leaf_over is_running
rest-leaf i c₀ r code (leaf-waits n h) = refl
rest-leaf i c₀ r code leaf-ended = refl
rest-leaf i c₀ r code leaf-halted = refl

rest-trivial : (i : ℕ) {x : Status} {o c : ℕ} → AtRest (trivial i) (leaf_state x false o c) → leaf_with x false 0 0 ≡ leaf_state x false o c
unfolding leaf_with leaf_over is_running
rest-trivial i trivial-ended = refl

rest-unsatisfiable : (i : ℕ) {x : Status} {o c : ℕ} → AtRest (unsatisfiable i) (leaf_state x false o c) → leaf_with x false 0 0 ≡ leaf_state x false o c
unfolding leaf_with leaf_over is_running
rest-unsatisfiable i unsatisfiable-halted = refl

-- a and b are the sides as the memory holds them
rest-pair : (w : Way) (j : Join) (i : ℕ) (l r : Tree) {x : Status} {a b a' b' : State} → (AtRest l a' → a ≡ a') → (AtRest r b' → b ≡ b')
    → states.drop a ≡ gone l → states.drop b ≡ gone r → AtRest (node w j i l r) (pair_state x false a' b') → pair_with x false a b ≡ pair_state x false a' b'
unfolding pair_with
rest-pair w j i l r f g d e (pair_runs p q z) = unfold is_running in ap₂ (λ (y z : State). pair_state running false y z) (f p) (g q)
rest-pair w j i l r {x} {a} {b} f g d e (pair-decided k p q) =
    pair-with-over x false a b (decided-stops j x k) ∙ ap₂ (λ (y z : State). pair_state x false y z) (d ∙ sym p) (e ∙ sym q)

-- the cell that a record of the saved state is
abbrev loaded : Bytes → ℕ → Cell
loaded bs i = record { status = status_of (status_at bs i); asked = false; offset = offset_at bs i; counter = counter_at bs i }

held-rest : (t : Tree) (bs : Bytes) (m : Mem) → ((i : ℕ) → T (holds t i) → m i ≡ loaded bs i) → AtRest t (load t bs) → held t m ≡ load t bs
unfolding held load
held-rest (leaf i r c code) bs m h p =
    ap (λ (x : Cell). leaf_with x.status x.asked x.offset x.counter) (h i (unfold holds in eqb_refl i)) ∙ rest-leaf i c r code p
held-rest (trivial i) bs m h p = ap (λ (x : Cell). leaf_with x.status x.asked 0 0) (h i (unfold holds in eqb_refl i)) ∙ rest-trivial i p
held-rest (unsatisfiable i) bs m h p = ap (λ (x : Cell). leaf_with x.status x.asked 0 0) (h i (unfold holds in eqb_refl i)) ∙ rest-unsatisfiable i p
held-rest (node w j i l r) bs m h p =
    ap (λ (x : Cell). pair_with x.status x.asked (held l m) (held r m)) (h i (holds-here w j i l r))
    ∙ rest-pair w j i l r (held-rest l bs m (λ k u. h k (holds-left w j i l r k u))) (held-rest r bs m (λ k u. h k (holds-right w j i l r k u)))
    (drop-held l m) (drop-held r m) p

-- ---- a record as one word

module _ (bs : Bytes) (small : Small bs) (size : length bs ≡ cells_size) (i : ℕ) (below : i < most_nodes) (zero : zeros_at bs i ≡ 0) where
  word-packed : number bs (cell_place i) cell_size ≡ packed (status_at bs i) (offset_at bs i) 0 (counter_at bs i)
  unfolding status_at offset_at zeros_at counter_at cell_place
  word-packed =
      let e : 8 * i + 1 + 1 ≡ 8 * i + 2 = omega arith in
      let f : 8 * i + 2 + 2 ≡ 8 * i + 4 = omega arith in
      omega (
        arith,
        zero,
        number-join bs (8 * i) 1 7 (omega arith),
        number-join bs (8 * i + 1) 1 6 (omega arith),
        ap (λ (k : ℕ). number bs k 6) e,
        number-join bs (8 * i + 2) 2 4 (omega arith),
        ap (λ (k : ℕ). number bs k 4) f,
      )

  cell-loaded : celled (number bs (cell_place i) cell_size) ≡ loaded bs i
  cell-loaded =
      ap celled word-packed
      ∙ celled-packed (status_at bs i) (offset_at bs i) 0 (counter_at bs i) (unfold status_at in number-less bs (cell_place i) 1 small (unfold cell_place in omega arith))
      (unfold offset_at in number-less bs (cell_place i + 1) 1 small (unfold cell_place in omega arith)) (omega arith)
      (unfold counter_at in number-less bs (cell_place i + 4) 4 small (unfold cell_place in omega arith))

-- ---- the whole state

pub held-load : (policy state : Bytes) (ws : Words) → Passed policy → T (fits policy state) → length state ≡ state_size → Small state
    → {n : ℕ} → n ≡ node_count policy → Woken n (cells state) ws
    → held (tree policy) (memory_of ws) ≡ load (tree policy) (cells state)
unfolding cells
held-load policy state ws ok fit size small e woken =
    let bs : Bytes = cells state in
    let l : length bs ≡ cells_size = cells-size state size in
    held-rest (tree policy) bs (memory_of ws)
    (λ i u.
    let b : i < most_nodes = in_cells policy ok i u in
    let n : i < node_count policy = numbers-below-nodes policy ok i u in
    view-at ws i b ∙ ap celled (woken i (omega (arith, e, n))) ∙ cell-loaded bs (small-drop ahead_size state small) l i b ((fitting policy bs (fits-cells policy state fit)).zeros i n))
    (fits-load policy state fit)
