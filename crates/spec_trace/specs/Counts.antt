-- Counts that stop at the most that they can be.
use Rattle.std.specs.Prelude.{ℕ, ◌+◌, true, false, List, eqb, get_or, set}

-- "counts stop at 4,294,967,295"
abbrev pub most_count : ℕ
most_count = 4294967295

-- one more, but for a count that has stopped
unfoldable pub more : ℕ → ℕ
more n = elim (eqb n most_count) [ true ↦ n | false ↦ n + 1 ]

-- one more at this place; past the end there is no count
unfoldable pub counted : List ℕ → ℕ → List ℕ
unfolding more
counted counts i = set counts i (more (get_or counts i 0))
