-- What the code's places and numbers say of a line.
use Rattle.std.specs.Prelude.{ℕ, ◌≤◌, ◌<◌, ◌≡◌, List, [], ◌∷◌, Option, Some, None, length, get_or, drop}
use Rattle.std.proofs.Math.Option as math
use Rattle.std.proofs.Math.Seq.{slice}
use Rattle.spec_policy.specs.Bytes.{Bytes}
use Rattle.spec_text.specs.Words.{Mark, blank, brace, hash, letter, mark, words}
use Rattle.spec_text.specs.Reading as text
use Rattle.spec_text.specs.Reading.{took, untaken}
use Rattle.text_words.specs.declared.Mark as marks
use Rattle.text_words.specs.declared.Mark.TheVariants.{Blank, Brace, Hash, Letter}
use Rattle.text_words.specs.declared.Word.{Word}
use Rattle.text_words.specs.declared.Taken.{Taken}

unfoldable pub mark_of : marks.Mark → Mark
mark_of Blank = blank
mark_of Brace = brace
mark_of Hash = hash
mark_of Letter = letter

-- From `at` to `end` stand bytes of this kind, and none follows them.
pub record Run (line : Bytes) (kind : Mark) (at end : ℕ) : Type 0 where
  pub after : at ≤ end
  pub inside : end ≤ length line
  pub each : (k : ℕ) → k < end → at ≤ k → mark (get_or line k 0) ≡ kind
  pub stops : end < length line → mark (get_or line end 0) ≡ kind → ⊥

-- the word and those after it, if there is one
unfoldable pub word_and : Bytes → Option Word → List Bytes
word_and line None = []
word_and line (Some w) = slice w.start w.end line ∷ words (drop w.end line)

-- what the code answers, as the definitions have it
unfoldable pub value_of : {A : Type 0} → Option A → math.Option A
value_of None = math.none
value_of (Some n) = math.some n

-- what was taken, and the words that are left
unfoldable pub taken_of : Bytes → Option Taken → text.Taken
taken_of line None = untaken
taken_of line (Some t) = took t.value (words (drop t.end line))
