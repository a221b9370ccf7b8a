-- `fill` meets its contract: what a read puts behind the bytes so far is what it consumes.
use lib.Seq.{take-add, take-append-le}
use borrow.Rule.Slice.PartMut.{put_mid, post_of}
use Rattle.std.proofs.Common.{◌≡◌, ℕ, ◌+◌, ◌≤◌, List, ◌++◌, rules, length, take, sym, ap, ap₂, ◌∙◌, subst, le_refl, drop_at, length-take-le}
use Rattle.std.proofs.lemmas.Slice.{take-put_mid_below}
use Rattle.std.specs.Io.KnownBytes.{Consumes}
use Rattle.std.proofs.KnownBytes.{Consumes-trans}
use Rattle.run_input.proofs.fill.Goals as goal

-- the bytes so far and the first of those put behind them
joined : (a k n : ℕ) (xs ys : List ℕ) → a ≤ length xs → n ≤ length ys → take a xs ++ take n ys ≡ take (a + n) (put_mid a k xs ys)
joined a k n xs ys within fits =
    let rest = ys ++ post_of a k xs in
    let front = take-put_mid_below a k xs ys a (le_refl _) within in
    let back = ap (take n) (drop_at (take a xs) rest a (length-take-le a xs within)) ∙ take-append-le n ys (post_of a k xs) fits in
    sym (take-add a n (put_mid a k xs ys) ∙ ap₂ (λ (x y : List ℕ). x ++ y) front back)

pub loop-done-preserved : goal.loop-done-preserved
loop-done-preserved g c = (
  search rules,
  search rules,
  subst (Consumes _ _) (joined c.loop-done.done _ c.in-Ok.n c.loop-done.room c.read.new.buf c.loop-done.invariant.1 c.in-Ok.ensures.bound.0)
      (Consumes-trans _ _ _ _ _ c.loop-done.invariant.2 c.in-Ok.ensures.bytes.0),
)
