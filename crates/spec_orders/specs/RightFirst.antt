-- "P11 V parallel-and V', closing: inserted 3, inserted 6.", closed right side first: a run whose order is not demand 2's, and what the
-- third demand says of it.
use Rattle.std.specs.Prelude.{ℕ, ◌≡◌, List, [], ◌∷◌, ◌++◌, replicate}
use Rattle.spec_policy.specs.Bytes.{Bytes}
use Rattle.spec_policy.specs.Parts.{pair, «V», V', built}
use Rattle.spec_policy.specs.Spots.{bare_fault}
use Rattle.spec_policy.specs.Tree.{tree}
use Rattle.spec_turns.specs.Status.{running, ended}
use Rattle.spec_turns.specs.Process.{Item, Process, stop, outcome, trace, items}
use Rattle.spec_turns.specs.Turn.{Request, opening, offer, close}
use Rattle.spec_turns.specs.Events.{inserted, events, steps_run}
use Rattle.spec_turns.specs.Saved.{state_size, saved}
use Rattle.spec_turns.specs.Entries.{Reply, answers, refuses, event_room, entry, opens}
use Rattle.spec_orders.specs.Orders.{Order, Told, only, of_leaf, is_verdict, inserts_of}
use Rattle.spec_orders.specs.Premise.{closing_items}
use Rattle.spec_orders.specs.Runs.{asked, Runs, replies, last_state, Ends}

unfoldable pub P11 : Bytes
unfolding built
P11 = pair 4 «V» V'

unfoldable pub room : Bytes
room = replicate event_room 0

unfoldable pub unopened : Bytes
unopened = replicate state_size 0

-- the state that opening leaves, by the turn rules
unfoldable pub after_opening : Bytes
unfolding P11 unopened asked
after_opening = saved (tree P11) (outcome (asked P11 opening unopened)).state

-- what a refused call leaves: there is no action 64
unfoldable pub after_refusal : Bytes
unfolding P11 room after_opening
after_refusal = (entry P11 (offer 64) after_opening room).state

abbrev pub closes_it : Process
closes_it = asked P11 close after_refusal

-- all that the right leaf does, then all that the left leaf does
unfoldable pub right_first : List Item
unfolding closing_items
right_first = closing_items 2 6 ++ closing_items 1 3

-- opening, a refused call, and then closing so
unfoldable pub requests : List Request
requests = opening ∷ offer 64 ∷ close ∷ []

unfoldable pub gave : List Reply
gave = answers 0 running ∷ refuses (bare_fault 13) ∷ answers 2 ended ∷ []

pub record RightFirst : Type 0 where
  -- Opening leaves `after_opening`, and the refused call leaves it as it is.
  pub opened : (opens P11 unopened room).state ≡ after_opening
  pub unchanged : after_refusal ≡ after_opening
  -- It is an order of that closing, and not demand 2's: insert 6 comes out before insert 3.
  pub order : Order closes_it right_first 9 (stop (outcome closes_it))
  pub seen : events right_first ≡ inserted 6 ∷ inserted 3 ∷ []
  pub rules-give : events (items (trace closes_it)) ≡ inserted 3 ∷ inserted 6 ∷ []
  pub run : Runs P11 room unopened requests gave (saved (tree P11) (outcome closes_it).state)
  -- So are demand 2's own calls, left side first.
  pub own : Runs P11 room unopened requests (replies P11 room unopened requests) (last_state P11 room unopened requests)
  -- The third demand, of this run: the replies and the state are demand 2's;
  pub replied : gave ≡ replies P11 room unopened requests
  pub left : saved (tree P11) (outcome closes_it).state ≡ last_state P11 room unopened requests
  -- the events are demand 2's, interleaved; there is no verdict; each leaf runs its steps and makes its insert.
  pub told : Told (trace closes_it) (inserted 6 ∷ inserted 3 ∷ [])
  pub verdict : only is_verdict right_first ≡ []
  pub leaves : (i : ℕ) → only (of_leaf i) right_first ≡ only (of_leaf i) (items (trace closes_it))
  pub inserts : (i : ℕ) → inserts_of (tree P11) i right_first ≡ inserts_of (tree P11) i (items (trace closes_it))
  pub steps : steps_run right_first ≡ 6
  -- Wherever a closing has come, by whatever moves, it is not stuck, and can go on to its end.
  pub completes : {xs : List Item} {n : ℕ} {p : Process} → Order closes_it xs n p → Ends p
