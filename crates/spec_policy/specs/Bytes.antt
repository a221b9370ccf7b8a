-- Bytes, and numbers in them: "Big-endian".
use Rattle.std.specs.Prelude.{ℕ, zero, suc, ◌+◌, ◌*◌, ◌/◌, ◌%◌, ◌^◌, ◌<◌, List, [], ◌∷◌, ◌++◌, length, get_or, take, drop}

abbrev pub Bytes : Type 0
Bytes = List ℕ

-- Each is a byte: below 256. A list of numbers need not be so; all that a caller lends is, and a statement that needs it asks for it.
abbrev pub Small : Bytes → Type 0
Small bs = (i : ℕ) → get_or bs i 0 < 256

-- the number that the bytes spell after n, the highest byte first
unfoldable pub spelt : ℕ → Bytes → ℕ
spelt n [] = n
spelt n (b ∷ bs) = spelt (n * 256 + b) bs

-- the number in `size` bytes from place i on
unfoldable pub number : Bytes → ℕ → ℕ → ℕ
unfolding spelt
number bs i size = spelt 0 (take size (drop i bs))

-- the last `size` bytes of n, the highest first
unfoldable pub spell : ℕ → ℕ → Bytes
spell zero n = []
spell (suc k) n = n / 256 ^ k % 256 ∷ spell k n

-- the bytes with others laid over them from place i on
unfoldable pub put : Bytes → ℕ → Bytes → Bytes
put bs i over = take i bs ++ (over ++ drop (i + length over) bs)
