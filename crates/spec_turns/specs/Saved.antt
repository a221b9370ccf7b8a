-- The saved state: its bytes, and rule 12. A state is eight bytes, with the count of running leaves, and then a cell for each node number; all that
-- is said of single cells is said of the cells alone, by their places among them.
use Rattle.std.specs.Prelude.{ℕ, zero, suc, ◌+◌, ◌*◌, Bool, true, false, ◌&&◌, ◌||◌, not, List, [], ◌∷◌, ◌++◌, eqb, leb, get_or, drop, replicate}
use Rattle.std.specs.Bool.{beq}
use Rattle.spec_policy.specs.Bytes.{Bytes, number, spell, put}
use Rattle.spec_policy.specs.Lists.{one, among, every}
use Rattle.spec_policy.specs.Records.{most_nodes, node_count}
use Rattle.spec_policy.specs.Steps.{Step, halt, is_next}
use Rattle.spec_policy.specs.Tree.{Join, and, or, Tree, leaf, trivial, unsatisfiable, node, number_of, tree}
use Rattle.spec_turns.specs.Status.{Status, status_number, status_of, is_running, has_ended, is_halted}
use Rattle.spec_turns.specs.State.{State, leaf_state, pair_state, status, offset, counter, left_of, right_of}

-- Every size of the state, named once. Request 04: "8 new bytes in front, the last one the count, the others zero, so that the state is 256
-- bytes."
abbrev pub ahead_size : ℕ
ahead_size = 8

abbrev pub count_place : ℕ
count_place = 7

abbrev pub cell_size : ℕ
cell_size = 8

abbrev pub cells_size : ℕ
cells_size = cell_size * most_nodes

abbrev pub state_size : ℕ
state_size = ahead_size + cells_size

-- the cells of a state
unfoldable pub cells : Bytes → Bytes
cells state = drop ahead_size state

-- "8 per node number: status, offset, two zeros, counter (4)."
unfoldable pub cell_place : ℕ → ℕ
cell_place i = cell_size * i

unfoldable pub status_at : Bytes → ℕ → ℕ
unfolding cell_place
status_at bs i = number bs (cell_place i) 1

unfoldable pub offset_at : Bytes → ℕ → ℕ
unfolding cell_place
offset_at bs i = number bs (cell_place i + 1) 1

unfoldable pub zeros_at : Bytes → ℕ → ℕ
unfolding cell_place
zeros_at bs i = number bs (cell_place i + 2) 2

unfoldable pub counter_at : Bytes → ℕ → ℕ
unfolding cell_place
counter_at bs i = number bs (cell_place i + 4) 4

unfoldable pub cell : State → Bytes
cell s = status_number (status s) ∷ offset s ∷ 0 ∷ 0 ∷ spell 4 (counter s)

-- the state that cells hold
unfoldable pub load : Tree → Bytes → State
load (leaf i r c code) bs = leaf_state (status_of (status_at bs i)) false (offset_at bs i) (counter_at bs i)
load (trivial i) bs = leaf_state (status_of (status_at bs i)) false (offset_at bs i) (counter_at bs i)
load (unsatisfiable i) bs = leaf_state (status_of (status_at bs i)) false (offset_at bs i) (counter_at bs i)
load (node w j i l r) bs = pair_state (status_of (status_at bs i)) false (load l bs) (load r bs)

-- the bytes with the cells of a node and of all beneath it laid over them
unfoldable pub store : Tree → State → Bytes → Bytes
unfolding cell_place
store (leaf i r c code) s bs = put bs (cell_place i) (cell s)
store (trivial i) s bs = put bs (cell_place i) (cell s)
store (unsatisfiable i) s bs = put bs (cell_place i) (cell s)
store (node w j i l r) s bs = store r (right_of s) (store l (left_of s) (put bs (cell_place i) (cell s)))

-- the cells of a state, and zeros
unfoldable pub saved_cells : Tree → State → Bytes
saved_cells t s = store t s (replicate cells_size 0)

-- Request 04: "the count of running leaves". A leaf is a node of kind 1: trivial and unsatisfiable nodes do not run.
unfoldable pub running_leaves : Tree → State → ℕ
running_leaves (leaf i r c code) s = one (is_running (status s))
running_leaves (trivial i) s = 0
running_leaves (unsatisfiable i) s = 0
running_leaves (node w j i l r) s = running_leaves l (left_of s) + running_leaves r (right_of s)

-- the bytes in front of the cells: "the last one the count, the others zero"
unfoldable pub ahead : ℕ → Bytes
ahead n = 0 ∷ 0 ∷ 0 ∷ 0 ∷ 0 ∷ 0 ∷ 0 ∷ n ∷ []

-- Request 04: "Keep the count of running leaves in the state itself"
unfoldable pub saved : Tree → State → Bytes
unfolding ahead saved_cells
saved t s = ahead (running_leaves t s) ++ saved_cells t s

-- ---- rule 12

-- "another node is dropped exactly when its parent is decided or dropped" (`gone`)
unfoldable pub dropped_with : Bool → Bytes → ℕ → Bool
dropped_with gone bs i = beq (eqb (status_at bs i) 6) gone

unfoldable pub is_running_at : Bytes → ℕ → Bool
is_running_at bs i = is_running (status_of (status_at bs i))

-- "a leaf is 1, 2, 5 or 6, trivial 2 or 6, unsatisfiable 5 or 6, "and" 1, 2, 5 or 6, "or" 1, 3, 4, 5 or 6"
unfoldable pub statuses : Join → List ℕ
statuses and = 1 ∷ 2 ∷ 5 ∷ 6 ∷ []
statuses or = 1 ∷ 3 ∷ 4 ∷ 5 ∷ 6 ∷ []

-- "a running "and" has no halted side and not both ended, a running "or" no ended side and not both halted"
unfoldable pub undecided : Join → Status → Status → Bool
undecided and l r = not (is_halted l) && not (is_halted r) && not (has_ended l && has_ended r)
undecided or l r = not (has_ended l) && not (has_ended r) && not (is_halted l && is_halted r)

-- "all other offsets and counters are zero"
unfoldable pub bare : Bytes → ℕ → Bool
bare bs i = eqb (offset_at bs i) 0 && eqb (counter_at bs i) 0

-- "a running leaf has the offset of a next and a counter at most its start"
unfoldable pub waits_at : List Step → ℕ → Bytes → ℕ → Bool
waits_at code c bs i = is_next (get_or code (offset_at bs i) halt) && leb (counter_at bs i) c

unfoldable pub fits_under : Bool → Tree → Bytes → Bool
fits_under gone (leaf i r c code) bs =
    dropped_with gone bs i && among (status_at bs i) (1 ∷ 2 ∷ 5 ∷ 6 ∷ []) && elim (is_running_at bs i) [ true ↦ waits_at code c bs i | false ↦ bare bs i ]
fits_under gone (trivial i) bs = dropped_with gone bs i && among (status_at bs i) (2 ∷ 6 ∷ []) && bare bs i
fits_under gone (unsatisfiable i) bs = dropped_with gone bs i && among (status_at bs i) (5 ∷ 6 ∷ []) && bare bs i
fits_under gone (node w j i l r) bs =
    dropped_with gone bs i && among (status_at bs i) (statuses j) && bare bs i
    && (not (is_running_at bs i) || undecided j (status_of (status_at bs (number_of l))) (status_of (status_at bs (number_of r))))
    && fits_under (not (is_running_at bs i)) l bs
    && fits_under (not (is_running_at bs i)) r bs

-- "every record's two zeros are zero": of the first n
unfoldable pub zeros_up_to : Bytes → ℕ → Bool
zeros_up_to bs zero = true
zeros_up_to bs (suc i) = eqb (zeros_at bs i) 0 && zeros_up_to bs i

-- "node records from n on .. are zero; the root is not dropped"
unfoldable pub cells_fit : Bytes → Bytes → Bool
unfolding cell_place
cells_fit policy bs = fits_under false (tree policy) bs && zeros_up_to bs (node_count policy) && every (λ b. eqb b 0) (drop (cell_place (node_count policy)) bs)

-- the count that a state says it has
unfoldable pub count_at : Bytes → ℕ
count_at state = number state count_place 1

-- Request 04: "refusal 12 covers a wrong count"; "the others zero"
unfoldable pub count_fits : Tree → Bytes → Bool
unfolding cells count_at
count_fits t state = eqb (number state 0 count_place) 0 && eqb (count_at state) (running_leaves t (load t (cells state)))

-- 12: both parts of a state
unfoldable pub fits : Bytes → Bytes → Bool
unfolding cells_fit count_fits
fits policy state = cells_fit policy (cells state) && count_fits (tree policy) state
