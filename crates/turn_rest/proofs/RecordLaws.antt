-- A record of the saved state as one word, and the bytes that spell it.
use Prim.Native.Nat.{ℕ, zero, suc, ◌/◌, ◌%◌, ◌≤◌, ◌<◌}
use native.Mathlib.Omega.{arith}
use mathlib.Core.Path.{◌≡◌, refl, sym, ap, ◌∙◌}
use mathlib.Core.Bool.{Bool}
use mathlib.Core.List.{[], ◌∷◌}
use lib.Dec.{eqb}
use Rattle.spec_policy.specs.Bytes.{spell}
use Rattle.spec_turns.specs.Status.{Status, running, ended, ended_left, ended_right, halted, dropped, status_number, status_of, is_running}
use Rattle.spec_turns.specs.State.{status, offset, counter, leaf_over}
use Rattle.spec_turns.specs.Saved.{cell}
use Rattle.turn_paths.specs.Memory.{leaf_with}
use Rattle.turn_memory.specs.Words.{packed}

-- ---- the number of a status

pub number-kept : (b : ℕ) → (b ≡ 0 → ⊥) → b ≤ 6 → b ≡ status_number (status_of b)
unfolding status_of status_number
number-kept zero h l = absurd (h refl)
number-kept (suc zero) h l = refl
number-kept (suc (suc zero)) h l = refl
number-kept (suc (suc (suc zero))) h l = refl
number-kept (suc (suc (suc (suc zero)))) h l = refl
number-kept (suc (suc (suc (suc (suc zero))))) h l = refl
number-kept (suc (suc (suc (suc (suc (suc zero)))))) h l = refl
number-kept (suc (suc (suc (suc (suc (suc (suc b))))))) h l = absurd (omega arith)

pub number-none : (b : ℕ) → b ≡ 0 → 6 ≡ status_number (status_of b)
number-none b e = sym (ap (λ (x : ℕ). status_number (status_of x)) e ∙ unfold status_of status_number in refl)

pub number_past : (b : ℕ) → 6 < b → 6 ≡ status_number (status_of b)
unfolding status_of status_number
number_past zero h = absurd (omega arith)
number_past (suc zero) h = absurd (omega arith)
number_past (suc (suc zero)) h = absurd (omega arith)
number_past (suc (suc (suc zero))) h = absurd (omega arith)
number_past (suc (suc (suc (suc zero)))) h = absurd (omega arith)
number_past (suc (suc (suc (suc (suc zero))))) h = absurd (omega arith)
number_past (suc (suc (suc (suc (suc (suc zero)))))) h = absurd (omega arith)
number_past (suc (suc (suc (suc (suc (suc (suc b))))))) h = refl

pub number-runs : (s : Status) → eqb (status_number s) 1 ≡ is_running s
unfolding status_number is_running
number-runs running = refl
number-runs ended = refl
number-runs ended_left = refl
number-runs ended_right = refl
number-runs halted = refl
number-runs dropped = refl

-- ---- the bytes of a word

-- a cell without its mark, byte by byte
module _ (s o c : ℕ) (hs : s < 256) (ho : o < 256) (hc : c < 4294967296) where
  byte-0 : packed s o 0 c / 72057594037927936 % 256 ≡ s
  byte-0 = omega arith

  byte-1 : packed s o 0 c / 281474976710656 % 256 ≡ o
  byte-1 = omega arith

  byte-2 : packed s o 0 c / 1099511627776 % 256 ≡ 0
  byte-2 = omega arith

  byte-3 : packed s o 0 c / 4294967296 % 256 ≡ 0
  byte-3 = omega arith

  byte-4 : packed s o 0 c / 16777216 % 256 ≡ c / 16777216 % 256
  byte-4 = omega arith

  byte-5 : packed s o 0 c / 65536 % 256 ≡ c / 65536 % 256
  byte-5 = omega arith

  byte-6 : packed s o 0 c / 256 % 256 ≡ c / 256 % 256
  byte-6 = omega arith

  byte-7 : packed s o 0 c / 1 % 256 ≡ c / 1 % 256
  byte-7 = omega arith

  spell-packed : spell 8 (packed s o 0 c) ≡ s ∷ o ∷ 0 ∷ 0 ∷ spell 4 c
  unfolding spell
  spell-packed = λ k. byte-0 k ∷ byte-1 k ∷ byte-2 k ∷ byte-3 k ∷ byte-4 k ∷ byte-5 k ∷ byte-6 k ∷ byte-7 k ∷ []

-- ---- the word that is saved of a node

number-less : (s : Status) → status_number s < 256
unfolding status_number
number-less running = omega arith
number-less ended = omega arith
number-less ended_left = omega arith
number-less ended_right = omega arith
number-less halted = omega arith
number-less dropped = omega arith

-- of a leaf that runs
leaf-runs : (s : Status) (m : Bool) (o c : ℕ) → status_number s ≡ 1 → status_number s ∷ o ∷ 0 ∷ 0 ∷ spell 4 c ≡ cell (leaf_with s m o c)
unfolding cell leaf_with leaf_over is_running status_number status offset counter
leaf-runs running m o c e = refl
leaf-runs ended m o c e = absurd (omega arith)
leaf-runs ended_left m o c e = absurd (omega arith)
leaf-runs ended_right m o c e = absurd (omega arith)
leaf-runs halted m o c e = absurd (omega arith)
leaf-runs dropped m o c e = absurd (omega arith)

-- of one that does not
leaf-over : (s : Status) (m : Bool) (o c : ℕ) → (status_number s ≡ 1 → ⊥) → status_number s ∷ 0 ∷ 0 ∷ 0 ∷ spell 4 0 ≡ cell (leaf_with s m o c)
unfolding cell leaf_with leaf_over is_running status_number status offset counter
leaf-over running m o c e = absurd (e refl)
leaf-over ended m o c e = refl
leaf-over ended_left m o c e = refl
leaf-over ended_right m o c e = refl
leaf-over halted m o c e = refl
leaf-over dropped m o c e = refl

-- of a node that is no leaf
bare-cell : (s : Status) (m : Bool) → status_number s ∷ 0 ∷ 0 ∷ 0 ∷ spell 4 0 ≡ cell (leaf_with s m 0 0)
unfolding cell leaf_with leaf_over is_running status_number status offset counter
bare-cell running m = refl
bare-cell ended m = refl
bare-cell ended_left m = refl
bare-cell ended_right m = refl
bare-cell halted m = refl
bare-cell dropped m = refl

module _ (s : Status) (m : Bool) {n : ℕ} (is : n ≡ status_number s) where
  small : n < 256
  small = omega (arith, is, number-less s)

  spelt-bare : spell 8 (packed n 0 0 0) ≡ status_number s ∷ 0 ∷ 0 ∷ 0 ∷ spell 4 0
  spelt-bare = spell-packed n 0 0 small (omega arith) (omega arith) ∙ ap (λ (k : ℕ). k ∷ 0 ∷ 0 ∷ 0 ∷ spell 4 0) is

  pub word-runs : (o c : ℕ) → o < 256 → c < 4294967296 → n ≡ 1 → spell 8 (packed n o 0 c) ≡ cell (leaf_with s m o c)
  word-runs o c ho hc e = spell-packed n o c small ho hc ∙ ap (λ (k : ℕ). k ∷ o ∷ 0 ∷ 0 ∷ spell 4 c) is ∙ leaf-runs s m o c (sym is ∙ e)

  pub word_over : (o c : ℕ) → (n ≡ 1 → ⊥) → spell 8 (packed n 0 0 0) ≡ cell (leaf_with s m o c)
  word_over o c e = spelt-bare ∙ leaf-over s m o c (λ z. e (is ∙ z))

  pub word-bare : spell 8 (packed n 0 0 0) ≡ cell (leaf_with s m 0 0)
  word-bare = spelt-bare ∙ bare-cell s m

-- of a node that is the whole policy, and over
pub word-alone : (b : ℕ) (s : Status) → b ≡ status_number s → spell 8 (packed b 0 0 0) ≡ cell (leaf_over s)
unfolding cell leaf_over status offset counter
word-alone b s e = ap (λ (y : ℕ). spell 8 (packed y 0 0 0)) e ∙ spell-packed (status_number s) 0 0 (number-less s) (omega arith) (omega arith)
