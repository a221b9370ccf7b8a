-- The inserts that were let out, as the words tell them.
use Rattle.std.specs.Prelude.{ℕ, ◌+◌, ◌*◌, ◌≤◌, ◌<◌, ◌≡◌, List, ◌++◌, length, get_or}
use Rattle.actions.specs.Sets.{Action}
use Rattle.spec_policy.specs.Bytes.{number}
use Rattle.turn_memory.specs.Words.{Words, count_place, told_place}

-- the words of the inserts spell them, eight a word, the first one highest
abbrev pub Eights : Words → List Action → Type 0
Eights ws es = (j : ℕ) → j < 32 → get_or ws (told_place + j) 0 ≡ number es (8 * j) 8

-- the inserts that the words tell, first one first
pub record Tells (ws : Words) (es : List Action) : Type 0 where
  pub count : get_or ws count_place 0 ≡ length es
  pub few : length es ≤ 255
  pub words : Eights ws es
  pub small : (i : ℕ) → get_or es i 0 < 256

-- more inserts were told, whatever had been told before
pub record Told (ws ws' : Words) (bs : List Action) : Type 0 where
  pub more : (es : List Action) → Tells ws es → length es + length bs ≤ 255 → Tells ws' (es ++ bs)
