-- A place among the cells, and the same place in the whole state: that many bytes further on.
use Prim.Native.Nat.{ℕ, zero, suc, ◌+◌, ◌-◌, ◌*◌, ◌/◌, ◌%◌, ◌≤◌, ◌<◌}
use native.Mathlib.Nat.{zero-add}
use native.Mathlib.Omega.{arith}
use mathlib.Core.Path.{◌≡◌, refl, sym, ap, ap₂, ◌∙◌}
use mathlib.Core.Bool.{Bool, true, false, ◌&&◌}
use mathlib.Core.List.{[], ◌∷◌, ◌++◌}
use lib.Dec.{eqb}
use lib.ListN.{length, take, drop, replicate}
use lib.Seq.{take-nil, drop-append-le, drop-drop, length-take-le}
use borrow.Author.Tests.{ne_eqb, eqb-true, eqb-false}
use Rattle.spec_policy.specs.Bytes.{Bytes, number, spelt, spell, put, Small}
use Rattle.spec_policy.specs.Records.{most_nodes}
use Rattle.spec_policy.proofs.ByteLaws.{put-length, spell-length}
use Rattle.spec_policy.proofs.NumberLaws.{number-join}
use Rattle.laws_turns.proofs.Cells.{cells-size}
use Rattle.spec_turns.specs.Saved.{ahead_size, count_place, cell_size, state_size, cells, cell_place, ahead, count_at}

drop-take : (a i : ℕ) (l : Bytes) → drop a (take (a + i) l) ≡ take i (drop a l)
drop-take zero i l = ap (λ (k : ℕ). take k l) (zero-add i)
drop-take (suc a) i [] = ap (λ (l : Bytes). drop (suc a) l) (take-nil (suc a + i)) ∙ sym (take-nil i)
drop-take (suc a) i (x ∷ xs) = let e : suc a + i ≡ suc (a + i) = omega arith in ap (λ (k : ℕ). drop (suc a) (take k (x ∷ xs))) e ∙ drop-take a i xs

-- ---- reading

cells-number : (state : Bytes) (place size : ℕ) → number state (ahead_size + place) size ≡ number (cells state) place size
unfolding number cells
cells-number state place size = ap (λ (l : Bytes). spelt 0 (take size l)) (sym (drop-drop place ahead_size state))

-- where a node's record begins, and further on in it
module _ (state : Bytes) (node at : ℕ) (h : at ≡ ahead_size + cell_size * node) where
  pub cell-word : (size : ℕ) → number state at size ≡ number (cells state) (cell_place node) size
  unfolding cell_place
  cell-word size = ap (λ (k : ℕ). number state k size) h ∙ cells-number state (cell_size * node) size

  pub cell-part : (k size : ℕ) → number state (at + k) size ≡ number (cells state) (cell_place node + k) size
  unfolding cell_place
  cell-part k size =
      let e : at + k ≡ ahead_size + (cell_size * node + k) = omega (arith, h) in
      ap (λ (p : ℕ). number state p size) e ∙ cells-number state (cell_size * node + k) size

pub cells_rest : (state : Bytes) (place : ℕ) → drop place (cells state) ≡ drop (ahead_size + place) state
unfolding cells
cells_rest state place = drop-drop place ahead_size state

-- the bytes in front as one number: zeros, and the count
pub ahead-number : (state : Bytes) → Small state → length state ≡ state_size → (n : ℕ) → n < 256
    → eqb (number state 0 ahead_size) n ≡ (eqb (number state 0 count_place) 0 && eqb (count_at state) n)
unfolding count_at
ahead-number state small size n h = go (eqb (number state 0 count_place) 0) refl
  where
    whole : number state 0 ahead_size ≡ number state 0 count_place * 256 + number state count_place 1
    whole = number-join state 0 count_place 1 (omega arith)

    go : (b : Bool) → eqb (number state 0 count_place) 0 ≡ b → eqb (number state 0 ahead_size) n ≡ (b && eqb (count_at state) n)
    go true e =
        let z : number state 0 count_place ≡ 0 = eqb-true (number state 0 count_place) 0 e in
        let w : number state 0 ahead_size ≡ count_at state = omega (arith, whole, z) in
        ap (λ (m : ℕ). eqb m n) w
    go false e =
        let z : number state 0 count_place ≡ 0 → ⊥ = eqb-false (number state 0 count_place) 0 e in
        ne_eqb (number state 0 ahead_size) n (λ q. omega (arith, whole, z))

-- ---- writing

-- what is put among the cells leaves the bytes in front
put-cells : (state : Bytes) (place : ℕ) (over : Bytes) → ahead_size + place ≤ length state → cells (put state (ahead_size + place) over) ≡ put (cells state) place over
unfolding put cells
put-cells state place over h =
    let e : length (take (ahead_size + place) state) ≡ ahead_size + place = length-take-le (ahead_size + place) state h in
    let z : ahead_size + place + length over ≡ ahead_size + (place + length over) = omega arith in
    drop-append-le ahead_size (take (ahead_size + place) state) (over ++ drop (ahead_size + place + length over) state) (omega arith)
    ∙ ap₂ {C = Bytes} (λ (xs ys : Bytes). xs ++ (over ++ ys)) (drop-take ahead_size place state)
    (ap (λ (k : ℕ). drop k state) z ∙ sym (drop-drop (place + length over) ahead_size state))

pub word-saved : (state : Bytes) {out : Bytes} (node at x : ℕ) → length state ≡ state_size → node < most_nodes → at ≡ ahead_size + cell_size * node → out ≡ put state at (spell 8 x)
    → (length out ≡ state_size) × (cells out ≡ put (cells state) (cell_place node) (spell 8 x))
unfolding cell_place
word-saved state node at x size below h e =
    let z = spell-length 8 x in (
      ap length e ∙ put-length state at (spell 8 x) (omega (arith, size, h)) ∙ size,
      ap cells e ∙ ap (λ (p : ℕ). cells (put state p (spell 8 x))) h ∙ put-cells state (cell_size * node) (spell 8 x) (omega (arith, size)),
    )

-- zeros from a node's record on
pub zeros-saved : (state : Bytes) {out : Bytes} (node at : ℕ) → length state ≡ state_size → node ≤ most_nodes → at ≡ ahead_size + cell_size * node
    → length out ≡ length state → out ≡ put state at (replicate (length state - at) 0)
    → (length out ≡ state_size) × (cells out ≡ put (cells state) (cell_place node) (replicate (length (cells state) - cell_place node) 0))
unfolding cell_place
zeros-saved state node at size most h l e =
    let z : length state - at ≡ length (cells state) - cell_size * node = omega (arith, cells-size state size, h) in (
      l ∙ size,
      ap cells (e ∙ ap₂ (λ (p k : ℕ). put state p (replicate k 0)) h z) ∙ put-cells state (cell_size * node) (replicate (length (cells state) - cell_size * node) 0) (omega (arith, size)),
    )

-- what is put over the bytes in front leaves the cells
pub put-ahead : (state : Bytes) (n : ℕ) → n < 256 → put state 0 (spell 8 n) ≡ ahead n ++ cells state
unfolding put ahead cells spell
put-ahead state n h = λ k. a k ∷ b k ∷ c k ∷ d k ∷ e k ∷ f k ∷ g k ∷ i k ∷ cells state
  where
    a : n / 72057594037927936 % 256 ≡ 0
    a = omega arith

    b : n / 281474976710656 % 256 ≡ 0
    b = omega arith

    c : n / 1099511627776 % 256 ≡ 0
    c = omega arith

    d : n / 4294967296 % 256 ≡ 0
    d = omega arith

    e : n / 16777216 % 256 ≡ 0
    e = omega arith

    f : n / 65536 % 256 ≡ 0
    f = omega arith

    g : n / 256 % 256 ≡ 0
    g = omega arith

    i : n / 1 % 256 ≡ n
    i = omega arith
