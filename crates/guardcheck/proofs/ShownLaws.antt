-- What is printed of a file, as the code finds it, and that there is room for it.
use Prim.Native.Nat.{ℕ, ◌≤◌, ◌<◌}
use native.Mathlib.Omega.{arith}
use mathlib.Core.Path.{◌≡◌, refl, ap}
use mathlib.Core.Bool.{Bool, true, false}
use lib.Dec.{ltb}
use lib.ListN.{length, length-append}
use borrow.Author.Tests.{lt-ltb, le-ltb}
use Rattle.actions.specs.Sets.{ActionSet}
use Rattle.spec_policy.specs.Bytes.{Bytes}
use Rattle.spec_policy.specs.Spots.{bare_fault}
use Rattle.spec_policy.specs.Tree.{tree}
use Rattle.spec_check.specs.Spread.{spread}
use Rattle.spec_check.specs.Check.{Answer, passes, refused, check}
use Rattle.spec_check.proofs.Passed.{passed}
use Rattle.laws_check.proofs.LawfulTree.{spread-255}
use Rattle.laws_check.proofs.Inside.{small-fault}
use Rattle.spec_text.specs.Words.{ascii}
use Rattle.text_append.specs.Added.{Added, Tells}
use Rattle.text_append.specs.Refusal.{refusal}
use Rattle.text_append.proofs.AddedLaws.{named, tells, decimal-below, refusal-short}
use Rattle.text_append.proofs.Lengths.{set-less}
use Rattle.guardcheck.specs.Shown.{set_line, passed_text, answered, shown, text_room}

pub shown-long : (input : Bytes) → 6646 < length input → refusal (bare_fault 1) ≡ shown input
unfolding shown
shown-long input h = rw (shown, lt-ltb 6646 (length input) h)

pub shown-short : (input : Bytes) (a : Answer) → length input ≤ 6646 → a ≡ check input → answered a input ≡ shown input
unfolding shown
shown-short input a h e = rw (shown, le-ltb 6646 (length input) h) (ap (λ (x : Answer). answered x input) e)

-- ---- room enough

line-less : (name : Bytes) (s : ActionSet) → length name ≤ 9 → length (set_line name s) ≤ 205
unfolding set_line ascii
line-less name s h = simp length-append (omega (arith, set-less s))

passed-less : (r e : ActionSet) (s : ℕ) → s ≤ 255 → length (passed_text r e s) ≤ 430
unfolding passed_text ascii
passed-less r e s h =
    let a = line-less (ascii "regulated") r (omega arith) in
    let b = line-less (ascii "effects") e (omega arith) in
    simp length-append (omega (arith, a, b, decimal-below 2 s (omega arith)))

module _ (file : Bytes) where
  answered_less : (a : Answer) → check file ≡ a → length (answered a file) ≤ text_room
  unfolding answered
  answered_less (passes r e) h = omega (arith, passed-less r e (spread (tree file)) (spread-255 file (passed file r e h)))
  answered_less (refused f) h = let s = small-fault file f h in omega (arith, refusal-short f s.number_small s.spot-small)

  shown-less : length (shown file) ≤ text_room
  unfolding shown
  shown-less = go (ltb 6646 (length file)) refl
    where
      go : (b : Bool) → ltb 6646 (length file) ≡ b → length (shown file) ≤ text_room
      go true e = rw (shown, e) (omega (arith, refusal-short (bare_fault 1) (omega arith) (λ p w. let z : ◌≡◌ {A = ℕ} 0 1 = cc in absurd (omega arith))))
      go false e = rw (shown, e) (answered_less (check file) refl)

pub told : (input : Bytes) {before after x : Bytes} {r : ℕ} → text_room ≤ length before → Added before 0 x after r → x ≡ shown input → Tells after r (shown input)
told input room p e = tells (named p e) (omega (arith, shown-less input))

-- a number for the spread that it is
pub spread-named : (r e : ActionSet) {before after : Bytes} {s t end : ℕ} → Added before 0 (passed_text r e s) after end → s ≡ t → Added before 0 (passed_text r e t) after end
spread-named r e p q = named p (ap (passed_text r e) q)
