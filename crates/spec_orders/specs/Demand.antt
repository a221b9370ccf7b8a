-- The third demand.
use Rattle.std.specs.Prelude.{ℕ, ◌≡◌, Bool, true, false, ◌&&◌, List, length}
use Rattle.spec_policy.specs.Bytes.{Bytes}
use Rattle.spec_policy.specs.Tree.{parallel, sequential, Tree, leaf, trivial, unsatisfiable, node, tree}
use Rattle.spec_turns.specs.State.{State, status}
use Rattle.spec_turns.specs.Process.{Item, Out, Process, stop, items, trace}
use Rattle.spec_turns.specs.Turn.{Phase, phase, Request, call}
use Rattle.spec_turns.specs.Events.{events}
use Rattle.spec_turns.specs.Saved.{cells, load, saved}
use Rattle.spec_turns.specs.Entries.{answers, carried_out}
use Rattle.spec_orders.specs.Orders.{Order, OrderFree}

-- "no parallel node in the left part of a sequential node"
unfoldable pub no_parallel : Tree → Bool
no_parallel (leaf i r c code) = true
no_parallel (trivial i) = true
no_parallel (unsatisfiable i) = true
no_parallel (node parallel j i l r) = false
no_parallel (node sequential j i l r) = no_parallel l && no_parallel r

unfoldable pub premise : Tree → Bool
premise (leaf i r c code) = true
premise (trivial i) = true
premise (unsatisfiable i) = true
premise (node parallel j i l r) = premise l && premise r
premise (node sequential j i l r) = no_parallel l && premise r

-- the process has one order only
unfoldable pub OneOrder : Process → Type 0
OneOrder p = (xs : List Item) (n : ℕ) (x : Out) → Order p xs n (stop x) → xs ≡ items (trace p)

-- No freedom is lost: what the turn rules take in line, the left part of a sequential node, has one order only. So wherever the
-- tree has a parallel node, its sides are free in `call`.
unfoldable pub NoneLost : Tree → Type 0
NoneLost (leaf i r c code) = Unit {0}
NoneLost (trivial i) = Unit {0}
NoneLost (unsatisfiable i) = Unit {0}
NoneLost (node parallel j i l r) = NoneLost l × NoneLost r
NoneLost (node sequential j i l r) = ((ph : Phase) (s : State) → OneOrder (phase l ph s)) × NoneLost l × NoneLost r

-- What is said of a call on a policy and a saved state: its orders agree, and give what the entry point's definition gives.
pub record AnyOrder (policy : Bytes) (q : Request) (state room : Bytes) : Type 0 where
  pub agree : OrderFree (tree policy) (call (tree policy) q (load (tree policy) (cells state)))
  pub none-lost : NoneLost (tree policy)
  pub same-reply : {xs : List Item} {n : ℕ} {x : Out} → Order (call (tree policy) q (load (tree policy) (cells state))) xs n (stop x)
      → answers (length (events xs)) (status x.state) ≡ (carried_out policy q state room).reply
  pub same-state : {xs : List Item} {n : ℕ} {x : Out} → Order (call (tree policy) q (load (tree policy) (cells state))) xs n (stop x)
      → saved (tree policy) x.state ≡ (carried_out policy q state room).state
