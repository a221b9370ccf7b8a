-- What a node decides from a status or two, and what of the memory a write changes.
use Rattle.std.specs.Prelude.{ℕ, ◌≡◌, Bool, true, false, ◌&&◌, ◌||◌, not}
use Rattle.actions.specs.Sets.{ActionSet, has}
use Rattle.spec_policy.specs.Tree.{Join, and, or}
use Rattle.spec_turns.specs.Status.{Status, is_running, is_halted, joined}
use Rattle.spec_turns.specs.Turn.{Phase, before, after, closing}
use Rattle.turn_paths.specs.Memory.{Cell, Mem}

-- ---- cells

-- every node has, but for node n
abbrev pub KeptBut : ℕ → Mem → Mem → Type 0
KeptBut n m m' = (i : ℕ) → (i ≡ n → ⊥) → m' i ≡ m i

-- node n's status was written, and its mark where it runs on
pub record Settled (n : ℕ) (s : Status) (mark : Bool) (m m' : Mem) : Type 0 where
  pub status : (m' n).status ≡ s
  pub asked : is_running s ≡ true → (m' n).asked ≡ mark
  pub others : KeptBut n m m'

-- whether a node is asked, as its cell tells
unfoldable pub asked_in : ActionSet → Phase → Cell → Bool
asked_in r (before a) x = is_running x.status && has r a
asked_in r after x = is_running x.status && x.asked
asked_in r closing x = is_running x.status

-- ---- what a sequential node does next, as the code tells it from a few bytes

-- an insert given to the right side, whose status is s once its phase before the verdict has ended, goes out (u: it was suppressed)
unfoldable pub emits : Join → Status → Bool → Bool
emits and s u = not (is_halted s) && not u
emits or s u = is_halted s || not u

-- after the left side's end the right side has a part of its own (v: the node still runs; u: the left side suppressed the action)
unfoldable pub goes_on : Phase → Bool → Bool → Bool
goes_on (before a) v u = v && not u
goes_on after v u = false
goes_on closing v u = v

-- the node's phase ends with its action suppressed: only before the verdict is there one
unfoldable pub end_sup : Phase → Bool → Bool
end_sup (before a) u = u
end_sup after u = false
end_sup closing u = false

-- the status that the node's sides give it
abbrev pub joined_in : Join → ℕ → ℕ → Mem → Status
joined_in j a b m = joined j (m a).status (m b).status
