-- How long a set may be.
use Prim.Native.Nat.{ℕ, zero, suc, ◌+◌, ◌*◌, ◌≤◌, ◌<◌}
use Prim.Native.Char.{code}
use native.Mathlib.Omega.{arith}
use mathlib.Core.Path.{◌≡◌, refl, subst}
use mathlib.Core.Bool.{Bool, true, false, ◌&&◌, not}
use mathlib.Core.List.{[], ◌∷◌, ◌++◌}
use lib.Dec.{lit≤}
use lib.ListN.{length, length-append}
use Rattle.actions.specs.Sets.{ActionSet, has}
use Rattle.spec_policy.specs.Bytes.{Bytes}
use Rattle.spec_text.specs.Words.{space}
use Rattle.spec_text.specs.Numerals.{decimal}
use Rattle.spec_text.specs.Forms.{actions}
use Rattle.spec_text.specs.Printing.{listing, spaced, argument}
use Rattle.text_append.specs.Added.{led}
use Rattle.text_append.proofs.AddedLaws.{decimal-below, member-none, member-first, member-next, members-next}

member-less : (f : Bool) (v : ActionSet) (a : ℕ) → a < 100 → length (led f (listing v a 1)) ≤ 3
member-less f v a h = go f refl (has v a) refl
  where
    d : length (decimal a) ≤ 2
    d = decimal-below 1 a h

    go : (g : Bool) → f ≡ g → (b : Bool) → has v a ≡ b → length (led f (listing v a 1)) ≤ 3
    go g p false e = subst (λ (w : Bytes). length w ≤ 3) (member-none f v a e) (omega arith)
    go true p true e = subst (λ (w : Bytes). length w ≤ 3) (member-first f v a e p) (omega (arith, d))
    go false p true e = subst (λ (w : Bytes). length w ≤ 3) (member-next f v a e p) (omega (arith, d))

members-less : (f : Bool) (v : ActionSet) (a n : ℕ) → a + n ≤ 100 → length (led f (listing v a n)) ≤ 3 * n
unfolding listing led spaced
members-less true v a zero h = omega arith
members-less false v a zero h = omega arith
members-less f v a (suc n) h =
    subst (λ (w : Bytes). length w ≤ 3 * suc n) (members-next f v a n)
    (simp length-append (omega (arith, member-less f v a (omega arith), members-less (f && not (has v a)) v (suc a) n (omega arith))))

in-braces : (w : Bytes) → length w ≤ 192 → length (space ∷ code "{" ∷ (w ++ (code "}" ∷ []))) ≤ 195
in-braces w h = simp length-append (omega arith)

all-members-less : (v : ActionSet) → length (spaced (listing v 0 64)) ≤ 192
unfolding led
all-members-less v = members-less true v 0 64 (lit≤ tt)

-- No set is longer, with its braces and the space before them.
pub set-less : (v : ActionSet) → length (argument (actions 0) v) ≤ 195
unfolding argument
set-less v = in-braces (spaced (listing v 0 64)) (all-members-less v)
