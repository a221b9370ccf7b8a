-- The marks in their words: what the first mark and one mark more are; and the word of the lowest offsets.
use Prim.Native.Nat.{ℕ, ◌+◌, ◌-◌, ◌*◌, ◌/◌, ◌%◌, ◌^◌, ◌≤◌, ◌<◌}
use native.Mathlib.Nat.{one-mul, zero-add, zero-div}
use native.Mathlib.Omega.{arith}
use mathlib.Core.Path.{◌≡◌, refl, sym, ap, ◌∙◌, subst}
use mathlib.Core.Bool.{Bool, false, ◌&&◌, ◌||◌, or_comm, or-false}
use mathlib.Core.List.{[], ◌∷◌}
use mathlib.Core.Logic.{⊎_elim}
use lib.Dec.{T, eqb, ltb, eqb→eq, lit<}
use lib.Pow.{shl_exact, shr-shr}
use borrow.Author.Tests.{le-leb, eq-eqb, lt-ltb, le-ltb}
use Rattle.actions.specs.Sets.{ActionSet, is_action, has, EMPTY, single, union}
use Rattle.actions.proofs.Tests.{of-yes, both}
use Rattle.actions.proofs.SetLaws.{has-action, has-none, has-empty, single-action, has-single, has-union}
use Rattle.spec_policy.specs.Lists.{listed, every}
use Rattle.spec_policy.proofs.ListLaws.{listed-length, listed_at, every-at}
use Rattle.spec_check.proofs.Ahead.{in-or-out}
use Rattle.spec_check.specs.Modes.{Mode, idle, pending, closing, is_idle, is_pending, is_closing, same_mode, marked}
use Rattle.check_modes.specs.declared.Marks.{Marks}
use Rattle.check_modes.specs.Table.{mode_number, reaching}
use Rattle.check_modes.specs.Marks.{word, Agrees, Adds}

-- ---- one bit

turned : (a b : ℕ) → eqb a b ≡ eqb b a
turned a b = both (eqb a b) (eqb b a) (over a b) (over b a)
  where
    over : (a b : ℕ) → T (eqb a b) → T (eqb b a)
    over a b t = of-yes (eqb b a) (eq-eqb b a (sym (eqb→eq a b t)))

pub has_one : (o p : ℕ) → o < 64 → has (single o) p ≡ eqb p o
unfolding is_action
has_one o p h = has-single o p ∙ ap (λ (t : Bool). t && eqb o p) (le-leb o 63 (omega arith)) ∙ turned o p

-- the shift loses no bit
pub shifted : (o : ℕ) → o < 64 → (1 * 2 ^ o) % 2 ^ 64 ≡ single o
shifted o h = shl_exact 1 o 64 (lit< tt) (omega arith) ∙ one-mul (2 ^ o) ∙ sym (single-action o (omega arith))

-- ---- one mark more

-- a set of offsets joined to the word of one mode
unfoldable pub joined : Marks → Mode → ActionSet → Marks
joined w idle s = record { idle = union w.idle s; pending = w.pending; closing = w.closing }
joined w pending s = record { idle = w.idle; pending = union w.pending s; closing = w.closing }
joined w closing s = record { idle = w.idle; pending = w.pending; closing = union w.closing s }

has-joined : (w : Marks) (n m : Mode) (s : ActionSet) (p : ℕ) → has (word (joined w n s) m) p ≡ ((same_mode m n && has s p) || has (word w m) p)
unfolding joined word same_mode is_idle is_pending is_closing
has-joined w n m s p = go n m
  where
    here : (t : ActionSet) → has (union t s) p ≡ (has s p || has t p)
    here t = has-union t s p ∙ or_comm (has t p) (has s p)

    go : (n m : Mode) → has (word (joined w n s) m) p ≡ ((same_mode m n && has s p) || has (word w m) p)
    go idle idle = here w.idle
    go idle pending = refl
    go idle closing = refl
    go pending idle = refl
    go pending pending = here w.pending
    go pending closing = refl
    go closing idle = refl
    go closing pending = refl
    go closing closing = here w.closing

-- an offset
pub joined-adds : (w : Marks) (n : Mode) (s : ActionSet) (mode o : ℕ) → mode ≡ mode_number n → ((p : ℕ) → has s p ≡ eqb p o) → Adds w (joined w n s) (reaching mode o)
unfolding Adds marked reaching mode_number
joined-adds w n s mode o e f = subst (λ (k : ℕ). Adds w (joined w n s) (reaching k o)) (sym e) (go n)
  where
    one_more : (n : Mode) → Adds w (joined w n s) (record { mode = n; offset = o } ∷ [])
    one_more n m p h = has-joined w n m s p ∙ ap (λ (b : Bool). (same_mode m n && b) || has (word w m) p) (f p) ∙ ap (λ (b : Bool). b || has (word w m) p) (sym (or-false (same_mode m n && eqb p o)))

    go : (n : Mode) → Adds w (joined w n s) (reaching (mode_number n) o)
    go idle = one_more idle
    go pending = one_more pending
    go closing = one_more closing

-- offset 0, idle, and no other
pub first-agrees : Agrees (record { idle = 1; pending = 0; closing = 0 }) (reaching 0 0)
unfolding reaching word marked same_mode is_idle is_pending is_closing single is_action EMPTY
first-agrees = record { at = at }
  where
    at : (m : Mode) (o : ℕ) → o < 64 → has (word (record { idle = 1; pending = 0; closing = 0 }) m) o ≡ marked m o (reaching 0 0)
    at idle o h = has_one 0 o (omega arith) ∙ or_comm false (eqb o 0)
    at pending o h = has-empty o
    at closing o h = has-empty o

-- ---- the lowest ones

-- each of 64 bits, one by one
all_ones : (k : ℕ) → k < 64 → 18446744073709551615 / 2 ^ k % 2 ≡ 1
unfolding every listed
all_ones k h = eqb→eq (18446744073709551615 / 2 ^ k % 2) 1 (subst (λ (n : ℕ). T (eqb (18446744073709551615 / 2 ^ n % 2) 1)) (listed_at (λ j. j) 0 64 0 k h ∙ zero-add k)
    (every-at (λ j. eqb (18446744073709551615 / 2 ^ j % 2) 1) (listed (λ j. j) 0 64) 0 tt k (omega (arith, h, listed-length {A = ℕ} (λ j. j) 0 64))))

pub low_ones : (count : ℕ) → count ≤ 64 → (q : ℕ) → has (18446744073709551615 / 2 ^ (64 - count)) q ≡ ltb q count
low_ones count h q = ⊎_elim inside outside (in-or-out count q)
  where
    inside : q < count → has (18446744073709551615 / 2 ^ (64 - count)) q ≡ ltb q count
    inside l =
        has-action _ q (omega arith) ∙ ap (λ (x : ℕ). eqb (x % 2) 1) (shr-shr 18446744073709551615 (64 - count) q)
        ∙ ap (λ (x : ℕ). eqb x 1) (all_ones (64 - count + q) (omega arith)) ∙ sym (lt-ltb q count l)

    outside : count ≤ q → has (18446744073709551615 / 2 ^ (64 - count)) q ≡ ltb q count
    outside l = ⊎_elim zeros above (in-or-out 64 q)
      where
        small : 18446744073709551615 / 2 ^ (64 - count) / 2 ^ q ≡ 0
        small = let z : 64 - count + q ≡ 64 + (q - count) = omega arith in
            shr-shr 18446744073709551615 (64 - count) q ∙ ap (λ (k : ℕ). 18446744073709551615 / 2 ^ k) z
            ∙ sym (shr-shr 18446744073709551615 64 (q - count)) ∙ zero-div (2 ^ (q - count))

        zeros : q < 64 → has (18446744073709551615 / 2 ^ (64 - count)) q ≡ ltb q count
        zeros m = has-action _ q (omega arith) ∙ ap (λ (x : ℕ). eqb (x % 2) 1) small ∙ sym (le-ltb q count l)

        above : 64 ≤ q → has (18446744073709551615 / 2 ^ (64 - count)) q ≡ ltb q count
        above m = has-none _ q (omega arith) ∙ sym (le-ltb q count l)
