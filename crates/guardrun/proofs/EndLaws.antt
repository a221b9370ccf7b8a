-- Laws of the policy's end among the bytes read.
use Prim.Native.Nat.{ℕ, ◌+◌, ◌-◌, ◌≤◌, ◌<◌}
use native.Mathlib.Omega.{arith}
use mathlib.Core.Path.{◌≡◌, ap, sym, ◌∙◌}
use lib.ListN.{length}
use borrow.Rule.Slice.PartMut.{put_mid, mid_of, mid_len, take_put}
use Rattle.spec_policy.specs.Bytes.{Bytes, spelt, number}
use Rattle.run_input.specs.Ends.{policy_end}
use Rattle.run_input.proofs.EndLaws.{end-from}

-- bytes laid in after the first two leave the number in those
pub said-kept : (bs ys : Bytes) (k : ℕ) → 2 ≤ length bs → number (put_mid 2 k bs ys) 0 2 ≡ number bs 0 2
unfolding number
said-kept bs ys k h = ap (spelt 0) (take_put 2 k bs ys h)

pub short-end : (r n : ℕ) → r < 2 → r ≤ policy_end n
short-end r n h = let e = end-from n in omega arith

-- no more bytes are read into the rest than it has room for
pub within : (bs ys : Bytes) (e r : ℕ) → e ≡ policy_end (number bs 0 2) → 2 ≤ e → e ≤ length bs → length ys ≡ length (mid_of 2 (e - 2) bs) → r ≤ length ys
    → 2 + r ≤ policy_end (number (put_mid 2 (e - 2) bs ys) 0 2)
within bs ys e r f g h k l =
    let p : policy_end (number (put_mid 2 (e - 2) bs ys) 0 2) ≡ e = ap policy_end (said-kept bs ys (e - 2) (omega arith)) ∙ sym f in
    let m : length (mid_of 2 (e - 2) bs) ≡ e - 2 = mid_len 2 e bs h in
    omega arith
