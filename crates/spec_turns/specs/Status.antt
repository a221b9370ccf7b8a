-- Statuses, and how a node's follows from its sides'.
use Rattle.std.specs.Prelude.{ℕ, Bool, true, false, ◌&&◌, ◌||◌, [], ◌∷◌, get_or}
use Rattle.spec_policy.specs.Tree.{Join, and, or}

-- "1 running, 2 ended, 3 ended left, 4 ended right, 5 halted, 6 dropped."
pub data Status : Type 0 where
  running ended ended_left ended_right halted dropped : Status

unfoldable pub status_number : Status → ℕ
status_number running = 1
status_number ended = 2
status_number ended_left = 3
status_number ended_right = 4
status_number halted = 5
status_number dropped = 6

-- the status that a number stands for; a number that stands for none fits no node (rule 12)
unfoldable pub status_of : ℕ → Status
status_of n = get_or (dropped ∷ running ∷ ended ∷ ended_left ∷ ended_right ∷ halted ∷ dropped ∷ []) n dropped

unfoldable pub is_running : Status → Bool
is_running running = true
is_running ended = false
is_running ended_left = false
is_running ended_right = false
is_running halted = false
is_running dropped = false

-- "has ended" is 2 to 4
unfoldable pub has_ended : Status → Bool
has_ended running = false
has_ended ended = true
has_ended ended_left = true
has_ended ended_right = true
has_ended halted = false
has_ended dropped = false

unfoldable pub is_halted : Status → Bool
is_halted running = false
is_halted ended = false
is_halted ended_left = false
is_halted ended_right = false
is_halted halted = true
is_halted dropped = false

-- "Decided" is 2 to 5
unfoldable pub is_decided : Status → Bool
is_decided s = has_ended s || is_halted s

pick : {A : Type 0} → Bool → A → A → A
pick true a b = a
pick false a b = b

-- "And": halted once a side has halted; ended once both have ended.
-- "Or": ended left once the left has ended, otherwise ended right once the right has ended; halted once both have halted.
unfoldable pub joined : Join → Status → Status → Status
unfolding pick
joined and l r = pick (is_halted l || is_halted r) halted (pick (has_ended l && has_ended r) ended running)
joined or l r = pick (has_ended l) ended_left (pick (has_ended r) ended_right (pick (is_halted l && is_halted r) halted running))
