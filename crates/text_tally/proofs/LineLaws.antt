-- Lines one after another: of steps, of nodes with their steps, and of actions.
use Prim.Native.Nat.{ℕ, zero, suc, ◌+◌, ◌-◌, ◌≤◌, ◌<◌}
use native.Mathlib.Omega.{arith}
use mathlib.Core.Path.{◌≡◌, refl, sym, ap, ◌∙◌}
use mathlib.Core.List.{List, [], ◌++◌}
use lib.ListN.{get_or}
use borrow.Author.Tests.{eq-eqb, ne_eqb}
use Rattle.spec_text.specs.Words.{ascii}
use Rattle.spec_text.specs.Numerals.{decimal}
use Rattle.spec_trace.specs.Tallies.{accepted_place, suppressed_place, inserted_place}
use Rattle.text_tally.specs.Lines.{ran_words, action_says, action_line, action_lines}

-- ---- what leads a step

pub ran-never : (n : ℕ) → n ≡ 0 → ascii "never" ≡ ran_words n
unfolding ran_words
ran-never n e = ap ran_words (sym e)

pub ran-some : (n : ℕ) → (n ≡ 0 → ⊥) → ascii "ran " ++ decimal n ≡ ran_words n
unfolding ran_words
ran-some zero e = absurd (e refl)
ran-some (suc n) e = refl

-- ---- actions

module _ (counts : List ℕ) (a x y z : ℕ) (p : x ≡ get_or counts (accepted_place a) 0) (q : y ≡ get_or counts (suppressed_place a) 0) (r : z ≡ get_or counts (inserted_place a) 0) where
  pub action-none : x + y + z ≡ 0 → [] ≡ action_line counts a
  unfolding action_line
  action-none e = rw (action_line, ← p, ← q, ← r, eq-eqb (x + y + z) 0 e)

  pub action-some : (x + y + z ≡ 0 → ⊥) → action_says a x y z ≡ action_line counts a
  unfolding action_line
  action-some e = rw (action_line, ← p, ← q, ← r, ne_eqb (x + y + z) 0 e) (cc)

module _ (counts : List ℕ) (a : ℕ) where
  pub actions-next : a < 64 → action_line counts a ++ action_lines (64 - (a + 1)) (a + 1) counts ≡ action_lines (64 - a) a counts
  unfolding action_lines
  actions-next h =
      let z : a + 1 ≡ suc a = omega arith in
      let y : suc (64 - (a + 1)) ≡ 64 - a = omega arith in
      ap (λ (k : ℕ). action_line counts a ++ action_lines (64 - (a + 1)) k counts) z ∙ ap (λ (k : ℕ). action_lines k a counts) y

  pub actions-over : 64 ≤ a → [] ≡ action_lines (64 - a) a counts
  unfolding action_lines
  actions-over h = let z : 0 ≡ 64 - a = omega arith in ap (λ (k : ℕ). action_lines k a counts) z
