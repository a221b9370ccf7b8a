-- A word written as eight bytes, and bytes written over a part of a slice.
use Prim.Native.Nat.{ℕ, ◌+◌, ◌/◌, ◌%◌}
use native.Mathlib.Nat.{div-one}
use mathlib.Core.Path.{◌≡◌, sym, ap, ◌∙◌}
use mathlib.Core.List.{[], ◌∷◌, ◌++◌}
use lib.ListN.{length, take, drop}
use lib.Seq.{drop-drop}
use borrow.Rule.Slice.PartMut.{put_mid}
use Rattle.std.specs.Int.{w64, to_be_bytes}
use Rattle.spec_policy.specs.Bytes.{Bytes, spell, put}
use Rattle.spec_policy.proofs.ByteLaws.{spell-length}

-- a part of so many bytes, and as many in its place
pub part-put : (bs ys : Bytes) (at size : ℕ) → length ys ≡ size → put_mid at size bs ys ≡ put bs at ys
unfolding put
part-put bs ys at size e =
    ap (λ (l : Bytes). take at bs ++ (ys ++ l)) (drop-drop size at bs) ∙ ap (λ (n : ℕ). take at bs ++ (ys ++ drop (at + n) bs)) (sym e)

spelled : (x : ℕ) → to_be_bytes w64 x ≡ spell 8 x
unfolding spell
spelled x =
    ap (λ (last : ℕ). x / 72057594037927936 % 256
    ∷ x / 281474976710656 % 256
    ∷ x / 1099511627776 % 256
    ∷ x / 4294967296 % 256
    ∷ x / 16777216 % 256
    ∷ x / 65536 % 256
    ∷ x / 256 % 256
    ∷ last
    ∷ []) (ap (λ (y : ℕ). y % 256) (sym (div-one x)))

pub word-put : (bs ys : Bytes) (at size x : ℕ) → ys ≡ to_be_bytes w64 x → size ≡ 8 → put_mid at size bs ys ≡ put bs at (spell 8 x)
word-put bs ys at size x e z =
    let s : ys ≡ spell 8 x = e ∙ spelled x in
    part-put bs ys at size (ap length s ∙ spell-length 8 x ∙ sym z) ∙ ap (put bs at) s
