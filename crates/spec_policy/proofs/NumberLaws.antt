-- Numbers in bytes: one byte, a number put together from two parts, and a number spelt again.
use Prim.Native.Nat.{ℕ, suc, ◌+◌, ◌*◌, ◌^◌, ◌≤◌, ◌<◌}
use native.Mathlib.Omega.{arith}
use mathlib.Core.Path.{◌≡◌, sym, ap, ap₂, ◌∙◌, subst}
use mathlib.Core.List.{◌∷◌, ◌++◌}
use lib.ListN.{length, get_or, take, drop, length-drop, take-append-drop}
use lib.Seq.{drop-cons, take-add, take_all, drop-drop, length-take-le}
use Rattle.spec_policy.specs.Bytes.{Bytes, spelt, number, spell, Small}
use Rattle.spec_policy.proofs.ByteLaws.{small-take, small-drop, spelt-append, spelt-from, spell-spelt}

pub number-byte : (bs : Bytes) (i : ℕ) → i < length bs → number bs i 1 ≡ get_or bs i 0
unfolding number spelt
number-byte bs i h = ap (λ (l : Bytes). spelt 0 (take 1 l)) (drop-cons bs i 0 h) ∙ omega arith

-- a number of m + n bytes is that of the first m, moved up by n bytes, and that of the last n
pub number-join : (bs : Bytes) (i m n : ℕ) → i + (m + n) ≤ length bs → number bs i (m + n) ≡ number bs i m * 256 ^ n + number bs (i + m) n
unfolding number
number-join bs i m n h =
    ap (λ (l : Bytes). spelt 0 l) (take-add m n (drop i bs)) ∙ spelt-append 0 (take m (drop i bs)) (take n (drop m (drop i bs)))
    ∙ spelt-from (spelt 0 (take m (drop i bs))) (take n (drop m (drop i bs)))
    ∙ rw (last, drop-drop m i bs)
  where
    last : length (take n (drop m (drop i bs))) ≡ n
    last = length-take-le n (drop m (drop i bs)) (simp (length-drop) (omega arith))

-- the bytes from i on: a byte and the others
pub byte-first : (bs : Bytes) (i : ℕ) → i < length bs → number bs i 1 ∷ drop (suc i) bs ≡ drop i bs
byte-first bs i h = ap (λ (n : ℕ). n ∷ drop (suc i) bs) (number-byte bs i h) ∙ sym (drop-cons bs i 0 h)

module _ (bs : Bytes) (small : Small bs) where
  number-again : (i k : ℕ) → i + k ≤ length bs → spell k (number bs i k) ≡ take k (drop i bs)
  unfolding number
  number-again i k h =
      let e : length (take k (drop i bs)) ≡ k = length-take-le k (drop i bs) (simp length-drop (omega arith)) in
      subst (λ (n : ℕ). spell n (spelt 0 (take k (drop i bs))) ≡ take k (drop i bs)) e (spell-spelt 0 (take k (drop i bs)) (small-take k (drop i bs) (small-drop i bs small)))

  -- the bytes from i on: a number and the others, a number alone
  pub number-first : (i k : ℕ) → i + k ≤ length bs → spell k (number bs i k) ++ drop (i + k) bs ≡ drop i bs
  number-first i k h = ap₂ {C = Bytes} ◌++◌ (number-again i k h) (sym (drop-drop k i bs)) ∙ take-append-drop k (drop i bs)

  pub number-last : (i k : ℕ) → i + k ≡ length bs → spell k (number bs i k) ≡ drop i bs
  number-last i k h = number-again i k (omega arith) ∙ take_all k (drop i bs) (simp length-drop (omega arith))
