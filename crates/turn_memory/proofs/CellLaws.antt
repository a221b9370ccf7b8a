-- A cell in its word: what was packed is read back, and writing one word leaves the others.
use Prim.Native.Nat.{ℕ, ◌<◌}
use native.Mathlib.Omega.{arith}
use mathlib.Core.Path.{◌≡◌, refl, sym, ap, ◌∙◌}
use mathlib.Core.Bool.{Bool, true, false}
use lib.Dec.{ltb, eqb}
use borrow.Author.Tests.{lt-ltb, ltb-true}
use lib.ListN.{length, get_or, set, length-set}
use lib.Seq.{get_or-set_same, get_or-set_other}
use Rattle.spec_policy.specs.Records.{most_nodes}
use Rattle.spec_turns.specs.Status.{status_of}
use Rattle.turn_paths.specs.Memory.{Cell}
use Rattle.turn_memory.specs.Words.{Words, status_in, offset_in, mark_in, counter_in, packed, celled, memory_of, Only}

module _ (s o m c : ℕ) (hs : s < 256) (ho : o < 256) (hm : m < 256) (hc : c < 4294967296) where
  pub status-packed : status_in (packed s o m c) ≡ s
  status-packed = omega arith

  pub offset-packed : offset_in (packed s o m c) ≡ o
  offset-packed = omega arith

  pub mark-packed : mark_in (packed s o m c) ≡ m
  mark-packed = omega arith

  pub counter-packed : counter_in (packed s o m c) ≡ c
  counter-packed = omega arith

  pub celled-packed : celled (packed s o m c) ≡ record { status = status_of s; asked = eqb m 1; offset = o; counter = c }
  unfolding celled
  celled-packed = rw (status-packed, mark-packed, offset-packed, counter-packed)

-- ---- one word written

pub view-at : (ws : Words) (i : ℕ) → i < most_nodes → memory_of ws i ≡ celled (get_or ws i 0)
unfolding memory_of
view-at ws i l = ap (λ (b : Bool). celled (elim b [ true ↦ get_or ws i 0 | false ↦ 0 ])) (lt-ltb i most_nodes l)

-- what is read of a cell
pub offset-in : (ws : Words) (i : ℕ) → i < most_nodes → offset_in (get_or ws i 0) ≡ (memory_of ws i).offset
unfolding celled
offset-in ws i l = sym (ap (λ (y : Cell). y.offset) (view-at ws i l))

pub counter-in : (ws : Words) (i : ℕ) → i < most_nodes → counter_in (get_or ws i 0) ≡ (memory_of ws i).counter
unfolding celled
counter-in ws i l = sym (ap (λ (y : Cell). y.counter) (view-at ws i l))

-- words with the same cells
pub view-same : (ws ws' : Words) (i : ℕ) → (i < most_nodes → get_or ws' i 0 ≡ get_or ws i 0) → memory_of ws' i ≡ memory_of ws i
unfolding memory_of
view-same ws ws' i h = on (ltb i most_nodes) refl
  where
    on : (b : Bool) → ltb i most_nodes ≡ b → celled (elim b [ true ↦ get_or ws' i 0 | false ↦ 0 ]) ≡ celled (elim b [ true ↦ get_or ws i 0 | false ↦ 0 ])
    on true e = ap celled (h (ltb-true i most_nodes e))
    on false e = refl

module _ (ws : Words) (i x : ℕ) where
  pub view-here : i < most_nodes → i < length ws → memory_of (set ws i x) i ≡ celled x
  view-here l h = view-at (set ws i x) i l ∙ ap celled (get_or-set_same ws i x 0 h)

  pub view-other : (k : ℕ) → (k ≡ i → ⊥) → memory_of (set ws i x) k ≡ memory_of ws k
  view-other k ne = view-same ws (set ws i x) k (λ l. get_or-set_other ws i k x 0 ne)

  pub only_set : Only i ws (set ws i x)
  only_set = record { others = λ k ne. get_or-set_other ws i k x 0 ne; sized = length-set ws i x }

-- a word that did not change holds the cell it held
pub view-only : {i : ℕ} {ws ws' : Words} → Only i ws ws' → (k : ℕ) → (k ≡ i → ⊥) → memory_of ws' k ≡ memory_of ws k
view-only {ws = ws} {ws'} h k ne = view-same ws ws' k (λ l. h.others k ne)

-- what is read of a cell
module _ (ws : Words) (i : ℕ) (l : i < most_nodes) {s : ℕ} where
  pub status-read : s ≡ status_in (get_or ws i 0) → status_of s ≡ (memory_of ws i).status
  unfolding celled
  status-read e = ap status_of e ∙ sym (ap (λ (c : Cell). c.status) (view-at ws i l))

  pub mark-read : s ≡ mark_in (get_or ws i 0) → eqb s 1 ≡ (memory_of ws i).asked
  unfolding celled
  mark-read e = ap (λ (n : ℕ). eqb n 1) e ∙ sym (ap (λ (c : Cell). c.asked) (view-at ws i l))
