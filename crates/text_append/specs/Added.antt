-- Text put into a lent buffer after other text.
use Rattle.std.specs.Prelude.{ℕ, zero, suc, ◌+◌, ◌-◌, ◌≤◌, ◌<◌, min, ◌≡◌, Bool, true, false, List, [], ◌∷◌, length, take}
use Rattle.spec_policy.specs.Bytes.{Bytes, put}
use Rattle.spec_text.specs.Words.{space}
use Rattle.spec_text.specs.Printing.{spaced}

-- No buffer is as long, so a place in a text need not be told apart from here on: it would fit no machine number.
abbrev pub limit : ℕ
limit = 9_223_372_036_854_775_808

abbrev pub reached : ℕ → ℕ
reached n = min n limit

-- the place so many bytes on
unfoldable pub moved : ℕ → ℕ → ℕ
moved at zero = at
moved at (suc n) = reached (at + suc n)

-- Of the text that begins at place `at` as much stands there as there is room for, and all else is as it was. `end` is where the text
-- ends: at its own end if it fits, and else past the buffer's.
pub record Added (before : Bytes) (at : ℕ) (text after : Bytes) (end : ℕ) : Type 0 where
  pub ends : end ≡ moved at (length text)
  pub told : after ≡ put before at (take (length before - at) text)
  pub inside : at + length text ≤ length before → end ≡ at + length text
  pub outside : length before < at + length text → length before ≤ end

-- The buffer begins with these bytes, up to `end`.
pub record Tells (buffer : Bytes) (end : ℕ) (what : Bytes) : Type 0 where
  pub text : take end buffer ≡ what
  pub inside : end ≤ length buffer

-- numbers after others, unless they are the first
unfoldable pub led : Bool → List ℕ → Bytes
led true xs = spaced xs
led false [] = []
led false (x ∷ xs) = space ∷ spaced (x ∷ xs)
