-- A text's lines, and a line's words.
use Rattle.std.specs.Prelude.{ℕ, Bool, true, false, ◌&&◌, ◌||◌, List, [], ◌∷◌, ◌++◌, eqb}
use Prim.Native.Char.{code}
use Prim.Native.String.{String, [] as none, ◌∷◌ as ◌then◌}
use Rattle.spec_policy.specs.Bytes.{Bytes}

-- a text's bytes
unfoldable pub ascii : String → Bytes
ascii none = []
ascii (c then s) = code c ∷ ascii s

unfoldable pub same_bytes : Bytes → Bytes → Bool
same_bytes [] [] = true
same_bytes [] (c ∷ cs) = false
same_bytes (b ∷ bs) [] = false
same_bytes (b ∷ bs) (c ∷ cs) = eqb b c && same_bytes bs cs

abbrev pub newline : ℕ
newline = 10

abbrev pub space : ℕ
space = 32

-- Byte 10 ends a line, and what follows the last one is a line too. `l` is what was read of the line so far.
unfoldable pub lines_from : Bytes → Bytes → List Bytes
lines_from l [] = l ∷ []
lines_from l (b ∷ bs) = elim (eqb b newline) [ true ↦ l ∷ lines_from [] bs | false ↦ lines_from (l ++ (b ∷ [])) bs ]

unfoldable pub lines : Bytes → List Bytes
lines text = lines_from [] text

-- What a byte is to a line: blanks are space, tab and carriage return.
pub data Mark : Type 0 where
  blank brace hash letter : Mark

unfoldable pub mark : ℕ → Mark
mark b = elim (eqb b space || eqb b (code "\t") || eqb b (code "\r")) [
  | true ↦ blank
  | false ↦ elim (eqb b (code "{") || eqb b (code "}")) [ true ↦ brace | false ↦ elim (eqb b (code "#")) [ true ↦ hash | false ↦ letter ] ]
]

-- a word's end: there was one unless no letter was read
unfoldable pub ended : Bytes → List Bytes → List Bytes
ended [] ws = ws
ended (b ∷ bs) ws = (b ∷ bs) ∷ ws

-- Blanks part words; a brace is a word of its own wherever it stands; from `#` on nothing is read. `w` is what was read of the word so far.
unfoldable pub words_from : Bytes → Bytes → List Bytes
unfolding ended
words_from w [] = ended w []
words_from w (b ∷ bs) = elim (mark b) [
  | blank ↦ ended w (words_from [] bs)
  | brace ↦ ended w ((b ∷ []) ∷ words_from [] bs)
  | hash ↦ ended w []
  | letter ↦ words_from (w ++ (b ∷ [])) bs
]

unfoldable pub words : Bytes → List Bytes
words line = words_from [] line
