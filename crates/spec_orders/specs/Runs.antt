-- The third demand of "any commands": calls one after another, each with its parallel sides in an order of its own.
use Rattle.std.specs.Prelude.{ℕ, ◌≡◌, List, [], ◌∷◌, length}
use Rattle.spec_policy.specs.Bytes.{Bytes}
use Rattle.spec_policy.specs.Spots.{Fault}
use Rattle.spec_policy.specs.Tree.{Tree, tree}
use Rattle.spec_turns.specs.Status.{Status}
use Rattle.spec_turns.specs.State.{status}
use Rattle.spec_turns.specs.Process.{Item, Out, Process, stop, trace, items}
use Rattle.spec_turns.specs.Turn.{Request, call}
use Rattle.spec_turns.specs.Events.{events, steps_run}
use Rattle.spec_turns.specs.Saved.{cells, load, saved}
use Rattle.spec_turns.specs.Entries.{Reply, answers, refuses, entry}
use Rattle.spec_orders.specs.Orders.{Order, Stuck, Told, only, of_leaf, is_verdict, inserts_of}

-- what a request asks of a policy with these bytes for its state
unfoldable pub asked : Bytes → Request → Bytes → Process
asked policy q state = call (tree policy) q (load (tree policy) (cells state))

-- From a state, these requests were made one after another. A refused one gives what demand 2 gives; an answered one runs in any order,
-- and the next call finds the state that this order saved.
pub data Runs (policy room : Bytes) : Bytes → List Request → List Reply → Bytes → Type 0 where
  over : {state : Bytes} → Runs policy room state [] [] state
  refused_then : {state state' : Bytes} {q : Request} {qs : List Request} {rs : List Reply} {f : Fault}
      → (entry policy q state room).reply ≡ refuses f → Runs policy room (entry policy q state room).state qs rs state'
      → Runs policy room state (q ∷ qs) (refuses f ∷ rs) state'
  ran_then : {state state' : Bytes} {q : Request} {qs : List Request} {rs : List Reply} {k n : ℕ} {s : Status} {xs : List Item} {x : Out}
      → (entry policy q state room).reply ≡ answers k s → Order (asked policy q state) xs n (stop x)
      → Runs policy room (saved (tree policy) x.state) qs rs state'
      → Runs policy room state (q ∷ qs) (answers (length (events xs)) (status x.state) ∷ rs) state'

-- what demand 2 gives: the replies, and the last state
unfoldable pub replies : Bytes → Bytes → Bytes → List Request → List Reply
replies policy room state [] = []
replies policy room state (q ∷ qs) = (entry policy q state room).reply ∷ replies policy room (entry policy q state room).state qs

unfoldable pub last_state : Bytes → Bytes → Bytes → List Request → Bytes
last_state policy room state [] = state
last_state policy room state (q ∷ qs) = last_state policy room (entry policy q state room).state qs

-- What is seen of one call's order: its events interleave demand 2's within each phase, its verdict is demand 2's, and each leaf runs
-- demand 2's steps and makes its inserts, in their order.
pub record Agree (t : Tree) (p : Process) (xs : List Item) : Type 0 where
  pub told : Told (trace p) (events xs)
  pub verdict : only is_verdict xs ≡ only is_verdict (items (trace p))
  pub leaves : (i : ℕ) → only (of_leaf i) xs ≡ only (of_leaf i) (items (trace p))
  pub inserts : (i : ℕ) → inserts_of t i xs ≡ inserts_of t i (items (trace p))
  pub steps : steps_run xs ≡ steps_run (items (trace p))

-- so of each answered call of a run
unfoldable pub AllAgree : {policy room state state' : Bytes} {qs : List Request} {rs : List Reply} → Runs policy room state qs rs state' → Type 0
AllAgree over = Unit {0}
AllAgree (refused_then f run) = AllAgree run
AllAgree {policy = policy} (ran_then {state = state} {q = q} {xs = xs} f o run) = Agree (tree policy) (asked policy q state) xs × AllAgree run

-- "none gets stuck": it is not, and it can be taken to its end.
pub record Ends (p : Process) : Type 0 where
  pub free : ¬ Stuck p
  pub rest : List Item
  pub moves : ℕ
  pub out : Out
  pub order : Order p rest moves (stop out)

-- What is said of a policy over any commands.
pub record AnyCommands (policy room : Bytes) : Type 0 where
  -- whatever the orders, all calls reply as demand 2 has them, and leave its state
  pub any-run : {state state' : Bytes} {qs : List Request} {rs : List Reply} → Runs policy room state qs rs state'
      → (rs ≡ replies policy room state qs) × (state' ≡ last_state policy room state qs)
  pub all-agree : {state state' : Bytes} {qs : List Request} {rs : List Reply} (run : Runs policy room state qs rs state') → AllAgree run
  -- whatever was done so far of an answered call, it can go on to its end
  pub completes : (state : Bytes) (q : Request) {k n : ℕ} {s : Status} {xs : List Item} {p : Process} → (entry policy q state room).reply ≡ answers k s
      → Order (asked policy q state) xs n p → Ends p
  -- demand 2's own calls, left side first, are a run
  pub own-run : (state : Bytes) (qs : List Request) → Runs policy room state qs (replies policy room state qs) (last_state policy room state qs)
