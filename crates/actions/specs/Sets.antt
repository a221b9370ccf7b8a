-- Action sets: 64 bits, bit a standing for action a, with the operations that document 01 names.
use Rattle.std.specs.Prelude.{ℕ, ◌/◌, ◌%◌, ◌^◌, Bool, true, false, ◌&&◌, not, eqb, leb}
use Rattle.std.specs.Int.Bits.{bit_and, bit_or, bit_xor}

-- "Actions are numbers 0 to 63."
abbrev pub Action : Type 0
Action = ℕ

unfoldable pub is_action : ℕ → Bool
is_action a = leb a 63

-- "A set is 64 bits, bit a standing for action a."
abbrev pub ActionSet : Type 0
ActionSet = ℕ

-- Action a is in the set. No number above 63 is an action, so none is in any set.
unfoldable pub has : ActionSet → ℕ → Bool
unfolding is_action
has s a = is_action a && eqb (s / 2 ^ a % 2) 1

-- "The work needs the empty set, the set of one action, union, common part and difference".
unfoldable pub EMPTY : ActionSet
EMPTY = 0

-- A number above 63 is no action, and its set is empty.
unfoldable pub single : ℕ → ActionSet
unfolding is_action EMPTY
single a = elim (is_action a) [ true ↦ 2 ^ a | false ↦ EMPTY ]

unfoldable pub union : ActionSet → ActionSet → ActionSet
union s t = bit_or s t

unfoldable pub common : ActionSet → ActionSet → ActionSet
common s t = bit_and s t

-- the actions of s that are not in t
unfoldable pub difference : ActionSet → ActionSet → ActionSet
difference s t = bit_xor s (bit_and s t)

unfoldable pub is_empty : ActionSet → Bool
is_empty s = eqb s 0

-- every action of s is in t
unfoldable pub within : ActionSet → ActionSet → Bool
within s t = eqb (bit_and s t) s

-- the two sets have an action in common
unfoldable pub meets : ActionSet → ActionSet → Bool
meets s t = not (eqb (bit_and s t) 0)
