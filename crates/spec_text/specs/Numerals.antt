-- Numbers in decimal, read and printed.
use Rattle.std.specs.Prelude.{ℕ, zero, suc, ◌+◌, ◌-◌, ◌*◌, ◌/◌, ◌%◌, true, false, ◌&&◌, [], ◌∷◌, ◌++◌, leb, ltb}
use Rattle.std.proofs.Math.Option.{Option, none, some}
use Rattle.spec_policy.specs.Bytes.{Bytes}

abbrev pub digit : ℕ → ℕ
digit d = 48 + d

-- The number that digits give after n, if they all are digits and it is at most `most`. It never falls as digits are added, so it may be
-- refused at once. Zeros may stand before it.
unfoldable pub number_from : ℕ → ℕ → Bytes → Option ℕ
number_from most n [] = some n
number_from most n (b ∷ bs) = elim (leb 48 b && leb b 57 && leb (n * 10 + (b - 48)) most) [ true ↦ number_from most (n * 10 + (b - 48)) bs | false ↦ none ]

unfoldable pub numeral : ℕ → Bytes → Option ℕ
numeral most word = number_from most 0 word

-- n in decimal with no zeros before it, if it has at most k digits after the first
unfoldable pub digits : ℕ → ℕ → Bytes
digits zero n = digit n ∷ []
digits (suc k) n = elim (ltb n 10) [ true ↦ digit n ∷ [] | false ↦ digits k (n / 10) ++ (digit (n % 10) ∷ []) ]

-- n itself is more than enough
unfoldable pub decimal : ℕ → Bytes
decimal n = digits n n
