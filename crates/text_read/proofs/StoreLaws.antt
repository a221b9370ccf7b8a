-- A record stored at a place.
use Prim.Native.Nat.{ℕ, ◌+◌, ◌-◌}
use native.Mathlib.Omega.{arith}
use mathlib.Core.Path.{◌≡◌, ap, ◌∙◌}
use mathlib.Core.List.{◌++◌}
use lib.ListN.{length, take, drop}
use lib.Seq.{drop-drop}
use borrow.Rule.Slice.PartMut.{put_mid}
use Rattle.spec_policy.specs.Bytes.{Bytes, put}

pub stored : (bs from : Bytes) (at : ℕ) → put_mid at (at + length from - at) bs from ≡ put bs at from
unfolding put
stored bs from at =
    let k : at + length from - at ≡ length from = omega arith in
    ap (λ (n : ℕ). take at bs ++ (from ++ drop n (drop at bs))) k ∙ ap (λ (zs : Bytes). take at bs ++ (from ++ zs)) (drop-drop (length from) at bs)
