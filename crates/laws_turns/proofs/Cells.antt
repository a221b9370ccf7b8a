-- Storing and loading: the cells of a tree hold the state that was stored, no other cell changes, and a cell is told by what is read of it.
--
use Prim.Native.Nat.{ℕ, zero, suc, ◌+◌, ◌^◌, ◌≤◌, ◌<◌}
use native.Mathlib.Omega.{arith}
use mathlib.Core.Path.{◌≡◌, refl, sym, ap, ap₂, ◌∙◌, subst}
use mathlib.Core.Logic.{⊎_elim}
use mathlib.Core.Bool.{Bool, true, false, ◌||◌, not}
use mathlib.Core.List.{◌∷◌, ◌++◌}
use lib.Dec.{T, eqb, eqb→eq, eqb_refl, ltb, ltb→lt, nltb→le}
use lib.ListN.{length, take, drop, replicate, length-replicate, length-drop, take-append-drop}
use lib.Seq.{length-take-le, drop-drop}
use Rattle.actions.proofs.Tests.{yes_of, of-yes, no_of, or_left, or_right, or_cases, true-not-false}
use Rattle.spec_policy.specs.Bytes.{Bytes, spelt, number, spell, put, Small}
use Rattle.spec_policy.specs.Records.{most_nodes}
use Rattle.spec_policy.specs.Tree.{Way, Join, Tree, leaf, trivial, unsatisfiable, node}
use Rattle.spec_policy.proofs.ByteLaws.{small-take, small-drop, put-length, part-before, drop-after, part-inside, number-part, spell-length, spelt-of-spell}
use Rattle.spec_policy.proofs.NumberLaws.{byte-first, number-first, number-last}
use Rattle.spec_check.specs.Lawful.{holds, Disjoint, Numbered, Lawful}
use Rattle.spec_turns.specs.Status.{Status, running, ended, ended_left, ended_right, halted, dropped, status_number, status_of}
use Rattle.spec_turns.specs.State.{State, leaf_state, pair_state, status, offset, counter, left_of, right_of}
use Rattle.spec_turns.specs.Saved.{cell_size, cells_size, state_size, cells, cell_place, status_at, offset_at, zeros_at, counter_at, cell, load, store, saved_cells}
use Rattle.spec_turns.specs.Rest.{gone, AtRest, leaf-waits, leaf-ended, leaf-halted, trivial-ended, unsatisfiable-halted, pair_runs, pair-decided}
use Rattle.laws_turns.specs.Cells.{Below, Sized, cell_at, Stored, leaf-held, trivial-held, unsatisfiable-held, pair_held}
use Rattle.spec_check.specs.Numbers.{Distinct}

-- ---- what is asked of a tree

-- a node's own number, and those of its sides
pub holds-here : (w : Way) (j : Join) (i : ℕ) (l r : Tree) → T (holds (node w j i l r) i)
unfolding holds
holds-here w j i l r = or_left (eqb i i) (holds l i || holds r i) (eqb_refl i)

pub holds-left : (w : Way) (j : Join) (i : ℕ) (l r : Tree) (k : ℕ) → T (holds l k) → T (holds (node w j i l r) k)
unfolding holds
holds-left w j i l r k h = or_right (eqb i k) (holds l k || holds r k) (or_left (holds l k) (holds r k) h)

pub holds-right : (w : Way) (j : Join) (i : ℕ) (l r : Tree) (k : ℕ) → T (holds r k) → T (holds (node w j i l r) k)
unfolding holds
holds-right w j i l r k h = or_right (eqb i k) (holds l k || holds r k) (or_right (holds l k) (holds r k) h)

pub lawful-apart : (t : Tree) → Lawful t → Distinct t
unfolding Distinct Lawful
lawful-apart (leaf i r c code) h = tt
lawful-apart (trivial i) h = tt
lawful-apart (unsatisfiable i) h = tt
lawful-apart (node w j i l r) h = (lawful-apart l h.0, lawful-apart r h.1, h.3)

-- ---- one cell

-- the cells of a state
pub cells-size : (state : Bytes) → length state ≡ state_size → length (cells state) ≡ cells_size
unfolding cells
cells-size state h = simp (length-drop, h) refl

pub cell-length : (s : State) → length (cell s) ≡ cell_size
unfolding cell
cell-length s = ap (λ (n : ℕ). suc (suc (suc (suc n)))) (spell-length 4 (counter s))

module _ (bs : Bytes) (i : ℕ) (size : length bs ≡ cells_size) (below : i < most_nodes) where
  pub status-cell : status_at bs i ≡ number (cell_at bs i) 0 1
  unfolding status_at cell_at
  status-cell = let e : cell_place i + 0 ≡ cell_place i = omega arith in sym (number-part bs (cell_place i) cell_size 0 1 (omega arith) (omega arith) ∙ ap (λ (k : ℕ). number bs k 1) e)

  pub offset-cell : offset_at bs i ≡ number (cell_at bs i) 1 1
  unfolding offset_at cell_at
  offset-cell = sym (number-part bs (cell_place i) cell_size 1 1 (omega arith) (omega arith))

  pub zeros-cell : zeros_at bs i ≡ number (cell_at bs i) 2 2
  unfolding zeros_at cell_at
  zeros-cell = sym (number-part bs (cell_place i) cell_size 2 2 (omega arith) (omega arith))

  pub counter-cell : counter_at bs i ≡ number (cell_at bs i) 4 4
  unfolding counter_at cell_at
  counter-cell = sym (number-part bs (cell_place i) cell_size 4 4 (omega arith) (omega arith))

  -- a cell that is a state's
  module _ (s : State) (is : cell_at bs i ≡ cell s) where
    pub status-is : status_at bs i ≡ status_number (status s)
    status-is = status-cell ∙ ap (λ (c : Bytes). number c 0 1) is ∙ unfold cell number spelt in omega arith

    pub offset-is : offset_at bs i ≡ offset s
    offset-is = offset-cell ∙ ap (λ (c : Bytes). number c 1 1) is ∙ unfold cell number spelt in omega arith

    pub zeros-is : zeros_at bs i ≡ 0
    zeros-is = zeros-cell ∙ ap (λ (c : Bytes). number c 2 2) is ∙ unfold cell number spelt in omega arith

    pub counter-is : counter s < 256 ^ 4 → counter_at bs i ≡ counter s
    counter-is h = counter-cell ∙ ap (λ (c : Bytes). number c 4 4) is ∙ unfold cell number spell in spelt-of-spell 4 (counter s) h

  -- a cell is told by what is read of it: four numbers, which take up its eight bytes
  module _ (small : Small bs) where
    cell-again : cell_at bs i ≡ status_at bs i ∷ offset_at bs i ∷ (spell 2 (zeros_at bs i) ++ spell 4 (counter_at bs i))
    unfolding cell_place
    cell-again =
        let c : Bytes = cell_at bs i in
        let l : length c ≡ cell_size = unfold cell_at in length-take-le cell_size (drop (cell_place i) bs) (simp length-drop (omega arith)) in
        let z : Small c = unfold cell_at in small-take cell_size (drop (cell_place i) bs) (small-drop (cell_place i) bs small) in
        rw (status-cell, offset-cell, zeros-cell, counter-cell, number-last c z 4 4 (omega arith), number-first c z 2 2 (omega arith), byte-first c 1 (omega arith), byte-first c 0 (omega arith))

    pub cell-of : (s : State) → status_at bs i ≡ status_number (status s) → offset_at bs i ≡ offset s → zeros_at bs i ≡ 0 → counter_at bs i ≡ counter s → cell_at bs i ≡ cell s
    unfolding cell spell
    cell-of s e f g h = cell-again ∙ rw (e, f, g, h)

-- cells that agree are read alike
pub cell_same : (bs cs : Bytes) (i : ℕ) → length bs ≡ cells_size → length cs ≡ cells_size → i < most_nodes → cell_at bs i ≡ cell_at cs i
    → (status_at bs i ≡ status_at cs i) × (offset_at bs i ≡ offset_at cs i) × (zeros_at bs i ≡ zeros_at cs i) × (counter_at bs i ≡ counter_at cs i)
cell_same bs cs i z y below e = (
  status-cell bs i z below ∙ ap (λ (c : Bytes). number c 0 1) e ∙ sym (status-cell cs i y below),
  offset-cell bs i z below ∙ ap (λ (c : Bytes). number c 1 1) e ∙ sym (offset-cell cs i y below),
  zeros-cell bs i z below ∙ ap (λ (c : Bytes). number c 2 2) e ∙ sym (zeros-cell cs i y below),
  counter-cell bs i z below ∙ ap (λ (c : Bytes). number c 4 4) e ∙ sym (counter-cell cs i y below),
)

-- the room of cell i
fits-cell : (bs : Bytes) (i : ℕ) (s : State) → length bs ≡ cells_size → i < most_nodes → cell_place i + length (cell s) ≤ length bs
unfolding cell_place
fits-cell bs i s size below = omega (arith, cell-length s)

pub put-size : (bs : Bytes) (i : ℕ) (s : State) → length bs ≡ cells_size → i < most_nodes → length (put bs (cell_place i) (cell s)) ≡ cells_size
put-size bs i s size below = put-length bs (cell_place i) (cell s) (fits-cell bs i s size below) ∙ size

pub put-cell : (bs : Bytes) (i : ℕ) (s : State) → length bs ≡ cells_size → i < most_nodes → cell_at (put bs (cell_place i) (cell s)) i ≡ cell s
unfolding cell_at cell spell
put-cell bs i s size below =
    let e : cell_place i ≡ cell_place i + 0 = omega arith in
    ap (λ (k : ℕ). take cell_size (drop k (put bs (cell_place i) (cell s)))) e
    ∙ part-inside bs (cell_place i) (cell s) 0 cell_size (fits-cell bs i s size below) (omega (arith, cell-length s))

pub put-elsewhere : (bs : Bytes) (i k : ℕ) (s : State) → length bs ≡ cells_size → i < most_nodes → eqb i k ≡ false
    → cell_at (put bs (cell_place i) (cell s)) k ≡ cell_at bs k
unfolding cell_at
put-elsewhere bs i k s size below e = go (ltb k i) refl
  where
    d : i ≡ k → ⊥
    d q = subst T e (subst (λ (n : ℕ). T (eqb i n)) q (eqb_refl i))

    go : (b : Bool) → ltb k i ≡ b → cell_at (put bs (cell_place i) (cell s)) k ≡ cell_at bs k
    go true q =
        let l : k < i = ltb→lt k i (of-yes (ltb k i) q) in
        part-before bs (cell_place i) (cell s) (cell_place k) cell_size (fits-cell bs i s size below) (omega arith)
    go false q =
        let l : i ≤ k = nltb→le k i (subst (λ (b : Bool). T (not b)) (sym q) tt) in
        let m : i < k = omega (arith, d) in
        ap (λ (zs : Bytes). take cell_size zs) (drop-after bs (cell_place i) (cell s) (cell_place k) (fits-cell bs i s size below) (omega (arith, cell-length s)))

-- ---- the cells of a tree

-- what every cell of the tree leaves true is true after storing
pub store_by : (P : Bytes → Type 0) (t : Tree) → ((i : ℕ) → T (holds t i) → (s : State) (bs : Bytes) → P bs → P (put bs (cell_place i) (cell s)))
    → (s : State) (bs : Bytes) → P bs → P (store t s bs)
unfolding store holds
store_by P (leaf i r c code) h s bs p = h i (eqb_refl i) s bs p
store_by P (trivial i) h s bs p = h i (eqb_refl i) s bs p
store_by P (unsatisfiable i) h s bs p = h i (eqb_refl i) s bs p
store_by P (node w j i l r) h s bs p =
    store_by P r (λ k u. h k (holds-right w j i l r k u)) _ _ (store_by P l (λ k u. h k (holds-left w j i l r k u)) _ _ (h i (holds-here w j i l r) s bs p))

-- the same of what is true of bytes of the cells' size
pub store-sized : (P : Bytes → Type 0) (t : Tree) → Below most_nodes t
    → ((i : ℕ) → T (holds t i) → (s : State) (bs : Bytes) → length bs ≡ cells_size → P bs → P (put bs (cell_place i) (cell s)))
    → (s : State) (bs : Bytes) → length bs ≡ cells_size → P bs → (length (store t s bs) ≡ cells_size) × P (store t s bs)
store-sized P t below h s bs size p =
    store_by (λ (cs : Bytes). (length cs ≡ cells_size) × P cs) t (λ i u x cs q. (put-size cs i x q.0 (below i u), h i u x cs q.0 q.1)) s bs (size, p)

pub store_length : (t : Tree) → Below most_nodes t → (s : State) (bs : Bytes) → length bs ≡ cells_size → length (store t s bs) ≡ cells_size
store_length t below s bs size = (store-sized (λ cs. Unit {0}) t below (λ i u x cs z q. tt) s bs size tt).0

-- storing one tree leaves the cells of all other nodes
pub store-elsewhere : (t : Tree) → Below most_nodes t → (s : State) (bs : Bytes) → length bs ≡ cells_size → (k : ℕ) → holds t k ≡ false
    → cell_at (store t s bs) k ≡ cell_at bs k
store-elsewhere t below s bs size k e =
    (store-sized (λ cs. cell_at cs k ≡ cell_at bs k) t below
    (λ i u x cs z q. put-elsewhere cs i k x z (below i u) (no_of (eqb i k) (λ v. subst T e (subst (λ (n : ℕ). T (holds t n)) (eqb→eq i k v) u))) ∙ q) s bs size refl).1

-- the cells of the tree are those of the state
unfoldable pub Kept : Tree → State → Bytes → Type 0
Kept (leaf i r c code) s bs = cell_at bs i ≡ cell s
Kept (trivial i) s bs = cell_at bs i ≡ cell s
Kept (unsatisfiable i) s bs = cell_at bs i ≡ cell s
Kept (node w j i l r) s bs = (cell_at bs i ≡ cell s) × Kept l (left_of s) bs × Kept r (right_of s) bs

pub kept-moves : (t : Tree) (s : State) (bs cs : Bytes) → ((i : ℕ) → T (holds t i) → cell_at cs i ≡ cell_at bs i) → Kept t s bs → Kept t s cs
unfolding Kept holds
kept-moves (leaf i r c code) s bs cs h k = h i (eqb_refl i) ∙ k
kept-moves (trivial i) s bs cs h k = h i (eqb_refl i) ∙ k
kept-moves (unsatisfiable i) s bs cs h k = h i (eqb_refl i) ∙ k
kept-moves (node w j i l r) s bs cs h k = (
  h i (holds-here w j i l r) ∙ k.0,
  kept-moves l (left_of s) bs cs (λ n u. h n (holds-left w j i l r n u)) k.1,
  kept-moves r (right_of s) bs cs (λ n u. h n (holds-right w j i l r n u)) k.2,
)

-- bytes that hold one state agree in its cells
pub kept_same : (t : Tree) (s : State) (bs cs : Bytes) → Kept t s bs → Kept t s cs → (i : ℕ) → T (holds t i) → cell_at bs i ≡ cell_at cs i
unfolding Kept holds
kept_same (leaf i r c code) s bs cs p q k h = subst (λ (n : ℕ). cell_at bs n ≡ cell_at cs n) (eqb→eq i k h) (p ∙ sym q)
kept_same (trivial i) s bs cs p q k h = subst (λ (n : ℕ). cell_at bs n ≡ cell_at cs n) (eqb→eq i k h) (p ∙ sym q)
kept_same (unsatisfiable i) s bs cs p q k h = subst (λ (n : ℕ). cell_at bs n ≡ cell_at cs n) (eqb→eq i k h) (p ∙ sym q)
kept_same (node w j i l r) s bs cs p q k h =
    ⊎_elim (λ u. subst (λ (n : ℕ). cell_at bs n ≡ cell_at cs n) (eqb→eq i k u) (p.0 ∙ sym q.0))
    (λ u. ⊎_elim (kept_same l (left_of s) bs cs p.1 q.1 k) (kept_same r (right_of s) bs cs p.2 q.2 k) (or_cases (holds l k) (holds r k) u))
    (or_cases (eqb i k) (holds l k || holds r k) h)

-- bytes that agree in their first n cells and in all that follows are the same
pub cells_same : (bs cs : Bytes) (n : ℕ) → ((i : ℕ) → i < n → cell_at bs i ≡ cell_at cs i) → drop (cell_place n) bs ≡ drop (cell_place n) cs → bs ≡ cs
unfolding cell_place cell_at
cells_same bs cs zero h e = e
cells_same bs cs (suc n) h e =
    cells_same bs cs n (λ i l. h i (omega arith)) (split bs ∙ ap₂ {C = Bytes} ◌++◌ (h n (omega arith)) e ∙ sym (split cs))
  where
    split : (xs : Bytes) → drop (cell_place n) xs ≡ cell_at xs n ++ drop (cell_place (suc n)) xs
    split xs =
        let z : cell_place n + cell_size ≡ cell_place (suc n) = omega arith in
        sym (take-append-drop cell_size (drop (cell_place n) xs)) ∙ ap (λ (ys : Bytes). cell_at xs n ++ ys) (drop-drop cell_size (cell_place n) xs ∙ ap (λ (k : ℕ). drop k xs) z)

-- a greater bound; the bound of a node, and of its sides
pub below_more : (n : ℕ) → n ≤ most_nodes → (t : Tree) → Below n t → Below most_nodes t
below_more n h t below i u = let b : i < n = below i u in omega arith

pub below-here : (n : ℕ) (w : Way) (j : Join) (i : ℕ) (l r : Tree) → Below n (node w j i l r) → i < n
below-here n w j i l r h = h i (holds-here w j i l r)

pub below_left : (n : ℕ) (w : Way) (j : Join) (i : ℕ) (l r : Tree) → Below n (node w j i l r) → Below n l
below_left n w j i l r h k u = h k (holds-left w j i l r k u)

pub below_right : (n : ℕ) (w : Way) (j : Join) (i : ℕ) (l r : Tree) → Below n (node w j i l r) → Below n r
below_right n w j i l r h k u = h k (holds-right w j i l r k u)

pub store_kept : (t : Tree) → Distinct t → Below most_nodes t → (s : State) (bs : Bytes) → length bs ≡ cells_size → Kept t s (store t s bs)
unfolding Distinct Kept store holds Disjoint
store_kept (leaf i r c code) apart below s bs size = put-cell bs i s size (below i (eqb_refl i))
store_kept (trivial i) apart below s bs size = put-cell bs i s size (below i (eqb_refl i))
store_kept (unsatisfiable i) apart below s bs size = put-cell bs i s size (below i (eqb_refl i))
store_kept (node w j i l r) apart below s bs size =
    let bi : i < most_nodes = below-here most_nodes w j i l r below in
    let bl : Below most_nodes l = below_left most_nodes w j i l r below in
    let br : Below most_nodes r = below_right most_nodes w j i l r below in
    let b₀ : Bytes = put bs (cell_place i) (cell s) in
    let z₀ : length b₀ ≡ cells_size = put-size bs i s size bi in
    let b₁ : Bytes = store l (left_of s) b₀ in
    let z₁ : length b₁ ≡ cells_size = store_length l bl (left_of s) b₀ z₀ in
    let n : Numbered i l r = apart.2 in
    let past : (k : ℕ) → holds r k ≡ false → cell_at (store r (right_of s) b₁) k ≡ cell_at b₁ k = store-elsewhere r br (right_of s) b₁ z₁ in (
      past i n.not_right ∙ store-elsewhere l bl (left_of s) b₀ z₀ i n.not_left ∙ put-cell bs i s size bi,
      kept-moves l (left_of s) b₁ (store r (right_of s) b₁)
          (λ k u. past k (⊎_elim (λ e. true-not-false (yes_of (holds l k) u) e) (λ e. e) (n.sides k)))
          (store_kept l apart.0 bl (left_of s) b₀ z₀),
      store_kept r apart.1 br (right_of s) b₁ z₁,
    )

-- ---- loading

zero-byte : 0 < 256
zero-byte = omega arith

pub zero_word : 0 < 256 ^ 4
zero_word = omega arith

read_same : (bs cs : Bytes) (i : ℕ) → length bs ≡ cells_size → length cs ≡ cells_size → i < most_nodes → cell_at bs i ≡ cell_at cs i
    → leaf_state (status_of (status_at bs i)) false (offset_at bs i) (counter_at bs i) ≡ leaf_state (status_of (status_at cs i)) false (offset_at cs i) (counter_at cs i)
read_same bs cs i z y below e = let q = cell_same bs cs i z y below e in rw (q.0, q.1, q.3)

-- what is loaded of a tree goes by its cells alone
pub load_same : (t : Tree) → Below most_nodes t → (bs cs : Bytes) → length bs ≡ cells_size → length cs ≡ cells_size
    → ((i : ℕ) → T (holds t i) → cell_at bs i ≡ cell_at cs i) → load t bs ≡ load t cs
unfolding holds load
load_same (leaf i r c code) below bs cs z y h = read_same bs cs i z y (below i (eqb_refl i)) (h i (eqb_refl i))
load_same (trivial i) below bs cs z y h = read_same bs cs i z y (below i (eqb_refl i)) (h i (eqb_refl i))
load_same (unsatisfiable i) below bs cs z y h = read_same bs cs i z y (below i (eqb_refl i)) (h i (eqb_refl i))
load_same (node w j i l r) below bs cs z y h =
    let e : status_at bs i ≡ status_at cs i = (cell_same bs cs i z y (below-here most_nodes w j i l r below) (h i (holds-here w j i l r))).0 in
    let f : load l bs ≡ load l cs = load_same l (below_left most_nodes w j i l r below) bs cs z y (λ k u. h k (holds-left w j i l r k u)) in
    let g : load r bs ≡ load r cs = load_same r (below_right most_nodes w j i l r below) bs cs z y (λ k u. h k (holds-right w j i l r k u)) in
    rw (e, f, g)

-- so storing one tree leaves what is loaded of another that shares no number with it
pub load-elsewhere : (t u : Tree) → Below most_nodes t → Below most_nodes u → ((i : ℕ) → T (holds u i) → holds t i ≡ false)
    → (s : State) (bs : Bytes) → length bs ≡ cells_size → load u (store t s bs) ≡ load u bs
load-elsewhere t u below under d s bs size =
    load_same u under (store t s bs) bs (store_length t below s bs size) size (λ i h. store-elsewhere t below s bs size i (d i h))

pub status-back : (s : Status) → status_of (status_number s) ≡ s
unfolding status_of status_number
status-back running = refl
status-back ended = refl
status-back ended_left = refl
status-back ended_right = refl
status-back halted = refl
status-back dropped = refl

-- the status of a cell that is a state's
status-read : (bs : Bytes) (i : ℕ) → length bs ≡ cells_size → i < most_nodes → (s : State) → cell_at bs i ≡ cell s → status_of (status_at bs i) ≡ status s
status-read bs i size below s is = ap status_of (status-is bs i size below s is) ∙ status-back (status s)

cell-read : (bs : Bytes) (i : ℕ) → length bs ≡ cells_size → i < most_nodes → (s : Status) (o c : ℕ) → c < 256 ^ 4 → cell_at bs i ≡ cell (leaf_state s false o c)
    → leaf_state (status_of (status_at bs i)) false (offset_at bs i) (counter_at bs i) ≡ leaf_state s false o c
cell-read bs i size below s o c h is =
    let x : State = leaf_state s false o c in
    let e : status_of (status_at bs i) ≡ s = unfold status in status-read bs i size below x is in
    let f : offset_at bs i ≡ o = unfold offset in offset-is bs i size below x is in
    let g : counter_at bs i ≡ c = unfold counter in counter-is bs i size below x is h in
    cc

pub kept-load : (t : Tree) (s : State) (bs : Bytes) → Below most_nodes t → length bs ≡ cells_size → Stored t s → Kept t s bs → load t bs ≡ s
unfolding Kept holds load left_of right_of status
kept-load (leaf i r c₀ code) (leaf_state s false o c) bs below size (leaf-held g h) k = cell-read bs i size (below i (eqb_refl i)) s o c h k
kept-load (trivial i) (leaf_state s false o c) bs below size (trivial-held g h) k = cell-read bs i size (below i (eqb_refl i)) s o c h k
kept-load (unsatisfiable i) (leaf_state s false o c) bs below size (unsatisfiable-held g h) k = cell-read bs i size (below i (eqb_refl i)) s o c h k
kept-load (node w j i l r) (pair_state s false a b) bs below size (pair_held h g) k =
    let e : status_of (status_at bs i) ≡ s = status-read bs i size (below-here most_nodes w j i l r below) (pair_state s false a b) k.0 in
    let f : load l bs ≡ a = kept-load l a bs (below_left most_nodes w j i l r below) size h k.1 in
    let g : load r bs ≡ b = kept-load r b bs (below_right most_nodes w j i l r below) size g k.2 in
    cc
kept-load (leaf i r c₀ code) (leaf_state s true o c) bs below size x12 k = elim x12 [ ]
kept-load (leaf i r c₀ code) (pair_state s asked a b) bs below size x9 k = elim x9 [ ]
kept-load (trivial i) (leaf_state s true o c) bs below size x7 k = elim x7 [ ]
kept-load (trivial i) (pair_state s asked a b) bs below size x7 k = elim x7 [ ]
kept-load (unsatisfiable i) (leaf_state s true o c) bs below size x8 k = elim x8 [ ]
kept-load (unsatisfiable i) (pair_state s asked a b) bs below size x8 k = elim x8 [ ]
kept-load (node w j i l r) (leaf_state s asked o c) bs below size x8 k = elim x8 [ ]
kept-load (node w j i l r) (pair_state s true a b) bs below size x10 k = elim x10 [ ]

pub load_store : (t : Tree) → Distinct t → Below most_nodes t → (s : State) → Stored t s → (bs : Bytes) → length bs ≡ cells_size → load t (store t s bs) ≡ s
load_store t apart below s h bs size = kept-load t s (store t s bs) below (store_length t below s bs size) h (store_kept t apart below s bs size)

-- ---- a state at rest

pub gone-stored : (t : Tree) → Stored t (gone t)
unfolding gone
gone-stored (leaf i r c code) = leaf-held zero-byte zero_word
gone-stored (trivial i) = trivial-held zero-byte zero_word
gone-stored (unsatisfiable i) = unsatisfiable-held zero-byte zero_word
gone-stored (node w j i l r) = pair_held (gone-stored l) (gone-stored r)

pub rest-stored : {t : Tree} {s : State} → Sized t → AtRest t s → Stored t s
unfolding Sized
rest-stored {t = leaf i r c₀ code} z (leaf-waits {o = o} {c = c} n h) = let f : c < 256 ^ 4 = omega arith in leaf-held (z.0 o n) f
rest-stored z leaf-ended = leaf-held zero-byte zero_word
rest-stored z leaf-halted = leaf-held zero-byte zero_word
rest-stored z trivial-ended = trivial-held zero-byte zero_word
rest-stored z unsatisfiable-halted = unsatisfiable-held zero-byte zero_word
rest-stored z (pair_runs a b e) = pair_held (rest-stored z.0 a) (rest-stored z.1 b)
rest-stored z (pair-decided {l = l} {r = r} d a b) = pair_held (subst (λ (x : State). Stored l x) (sym a) (gone-stored l)) (subst (λ (x : State). Stored r x) (sym b) (gone-stored r))

blank : length (replicate cells_size zero) ≡ cells_size
blank = length-replicate cells_size zero

pub cells-length : (t : Tree) → Below most_nodes t → (s : State) → length (saved_cells t s) ≡ cells_size
unfolding saved_cells
cells-length t below s = store_length t below s (replicate cells_size 0) blank

pub cells-kept : (t : Tree) → Distinct t → Below most_nodes t → (s : State) → Kept t s (saved_cells t s)
unfolding saved_cells
cells-kept t apart below s = store_kept t apart below s (replicate cells_size 0) blank

-- reading back the cells of a saved state gives the state that was saved
pub load_cells : (t : Tree) → Distinct t → Below most_nodes t → Sized t → (s : State) → AtRest t s → load t (saved_cells t s) ≡ s
unfolding saved_cells
load_cells t apart below sized s rest = load_store t apart below s (rest-stored sized rest) (replicate cells_size 0) blank
