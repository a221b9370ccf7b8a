-- Zeros of the state: bytes joined are zero where all are, and zeros written from a place on.
use Prim.Native.Nat.{ℕ, zero, suc, ◌+◌, ◌-◌, ◌*◌, ◌≤◌}
use native.Mathlib.Omega.{arith}
use mathlib.Core.Path.{◌≡◌, sym, ap, ◌∙◌}
use mathlib.Core.Bool.{Bool, ◌&&◌, and-true}
use mathlib.Core.List.{[], ◌∷◌}
use lib.Bits.{bit_or, or_zero_l, or_add_and, and_le_l, and_le_r}
use lib.Dec.{eqb}
use lib.ListN.{length, take, drop, replicate, length-drop, length-replicate}
use lib.Seq.{take_all}
use borrow.Author.Tests.{ne_eqb}
use borrow.Rule.Slice.PartMut.{put_mid}
use Rattle.std.specs.List.{fold}
use Rattle.actions.proofs.Tests.{and_assoc}
use Rattle.spec_policy.specs.Bytes.{Bytes, put}
use Rattle.spec_policy.specs.Lists.{every}
use Rattle.spec_policy.specs.Records.{most_nodes}
use Rattle.spec_policy.proofs.ByteLaws.{put-length}
use Rattle.spec_turns.specs.Saved.{ahead_size, cell_size, state_size, cells, cell_place}
use Rattle.turn_state.proofs.PlaceLaws.{cells_rest, zeros-saved}
use Rattle.turn_state.proofs.WordLaws.{part-put}

abbrev is_zero : ℕ → Bool
is_zero b = eqb b 0

-- numbers joined are zero where both are
zero_or : (a b : ℕ) → is_zero (bit_or a b) ≡ (is_zero a && is_zero b)
zero_or zero b = ap is_zero (or_zero_l b)
zero_or (suc a) b =
    ne_eqb (bit_or (suc a) b) 0 (λ q. omega (arith, or_add_and (suc a) b, and_le_l (suc a) b, and_le_r (suc a) b))
    ∙ ap (λ (x : Bool). x && is_zero b) (sym (ne_eqb (suc a) 0 (λ q. omega arith)))

-- bytes joined to a number
joined : (a : ℕ) (bs : Bytes) → is_zero (fold bit_or a bs) ≡ (is_zero a && every is_zero bs)
unfolding every
joined a [] = sym (and-true (is_zero a))
joined a (b ∷ bs) =
    joined (bit_or a b) bs
    ∙ ap (λ (x : Bool). x && every is_zero bs) (zero_or a b)
    ∙ sym (and_assoc (is_zero a) (is_zero b) (every is_zero bs))

-- so many bytes from a place on, where no more are left
module _ (state : Bytes) (at count : ℕ) where
  abbrev rest : Bytes
  rest = take count (drop at state)

  rest-is : length state ≤ at + count → rest ≡ drop at state
  rest-is all = take_all count (drop at state) (omega (arith, all, length-drop at state))

  -- the bytes from a node's record on, joined
  pub rest-joined : length state ≤ at + count → (node x : ℕ) → at ≡ ahead_size + cell_size * node → x ≡ fold bit_or 0 rest
      → is_zero x ≡ every (λ b. eqb b 0) (drop (cell_place node) (cells state))
  unfolding cell_place
  rest-joined all node x h e =
      ap is_zero e ∙ joined 0 rest ∙ ap (every is_zero) (rest-is all ∙ ap (λ (k : ℕ). drop k state) h ∙ sym (cells_rest state (cell_size * node)))

  -- zeros in their place
  pub rest-cleared : at + count ≡ length state → (node : ℕ) (new : Bytes) → length state ≡ state_size → node ≤ most_nodes → at ≡ ahead_size + cell_size * node
      → new ≡ replicate (length rest) 0
      → let out = put_mid at count state new in
      (length out ≡ state_size) × (cells out ≡ put (cells state) (cell_place node) (replicate (length (cells state) - cell_place node) 0))
  rest-cleared whole node new size most h e =
      let n : length rest ≡ length state - at = ap length (rest-is (omega (arith, whole))) ∙ length-drop at state in
      let l : length new ≡ length state - at = ap length e ∙ length-replicate (length rest) zero ∙ n in
      let p : put_mid at count state new ≡ put state at new = part-put state new at count (omega (arith, l, whole)) in
      zeros-saved state node at size most h (ap length p ∙ put-length state at new (omega (arith, l, size, h)))
      (p ∙ ap (put state at) (e ∙ ap (λ (k : ℕ). replicate k 0) n))
