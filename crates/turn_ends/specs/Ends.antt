-- What a node does as its phase ends, or as an insert of its left side has been given on: its status is read, and written.
use Rattle.std.specs.Prelude.{ℕ, zero, suc, ◌+◌, ◌≡◌, true, false, ◌&&◌, ◌||◌, not, eqb}
use Rattle.spec_policy.specs.Bytes.{Bytes}
use Rattle.spec_turns.specs.Status.{Status, running, status_of, is_running, is_halted, joined}
use Rattle.spec_turns.specs.Turn.{Phase, still_asked}
use Rattle.turn_paths.specs.Choices.{Settled, joined_in, end_sup}
use Rattle.turn_paths.specs.Paths.{Ended, done, stopped}
use Rattle.turn_memory.specs.Words.{Words, memory_of, Only}
use Rattle.turn_sides.specs.Sides.{left_at, right_at, join_at}

-- An end as the code tells it, in one number: 0 accepted, 1 suppressed, from 2 on the node that was decided above.
unfoldable pub ended : ℕ → Ended
ended zero = done false
ended (suc zero) = done true
ended (suc (suc n)) = stopped n

-- the status that the node's sides give it
abbrev pub sides_give : Bytes → ℕ → Words → Status
sides_give policy i ws = joined_in (join_at policy i) (left_at policy i) (right_at policy i) (memory_of ws)

-- "then the node's status is read": it is written, with the mark of a node that is to be asked again
pub record SettledAt (policy : Bytes) (i : ℕ) (ph : Phase) (ws ws' : Words) (s : ℕ) : Type 0 where
  pub settled : Settled i (sides_give policy i ws) (still_asked ph) (memory_of ws) (memory_of ws')
  pub says : status_of s ≡ (memory_of ws' i).status
  pub only : Only i ws ws'

-- a parallel node, whose sides ended with x and y: "A node halted gives halt; otherwise suppressed if an asked side suppressed."
pub record ParEnd (policy : Bytes) (i : ℕ) (ph : Phase) (ws ws' : Words) (x y r : ℕ) : Type 0 where
  pub settled : Settled i (sides_give policy i ws) (still_asked ph) (memory_of ws) (memory_of ws')
  pub only : Only i ws ws'
  pub says : ended r ≡ done (not (is_halted (memory_of ws' i).status) && (eqb x 1 || eqb y 1))

-- a sequential node, whose last part ended with x
pub record SeqEnd (policy : Bytes) (i : ℕ) (ph : Phase) (ws ws' : Words) (x r : ℕ) : Type 0 where
  pub settled : Settled i (sides_give policy i ws) (still_asked ph) (memory_of ws) (memory_of ws')
  pub only : Only i ws ws'
  pub says : ended r ≡ done (end_sup ph (eqb x 1))

-- the status that a sequential node has after an insert: its left side waits, and counts as running
abbrev pub waiting_gives : Bytes → ℕ → Words → Status
waiting_gives policy i ws = joined (join_at policy i) running (memory_of ws (right_at policy i)).status

-- "Status is read after each insert": the left side goes on, or the node is decided and stops there
abbrev pub Rereads : Bytes → ℕ → Words → Words → Ended → Type 0
Rereads policy i ws ws' (done u) = (is_running (waiting_gives policy i ws) ≡ true) × (ws' ≡ ws)
Rereads policy i ws ws' (stopped q) = (q ≡ i) × (is_running (waiting_gives policy i ws) ≡ false) × ((memory_of ws' i).status ≡ waiting_gives policy i ws)

pub record Reread (policy : Bytes) (i : ℕ) (ws ws' : Words) (r : ℕ) : Type 0 where
  pub reads : Rereads policy i ws ws' (ended r)
  pub only : Only i ws ws'

-- a stop is caught at its own node
abbrev pub Caught : ℕ → ℕ → ℕ → Type 0
Caught x i r = (x ≡ 2 + i → r ≡ 0) × ((x ≡ 2 + i → ⊥) → r ≡ x)
