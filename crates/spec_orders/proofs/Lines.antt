-- Where a node has no parallel node beneath it, its phases hold no free order, and so have one order only: what the turn rules take
-- in line is in line already.
use mathlib.Core.Path.{◌≡◌, refl, ap}
use mathlib.Core.Bool.{true, false}
use mathlib.Core.List.{List, ◌∷◌}
use lib.Dec.{T}
use Rattle.actions.proofs.Tests.{and_left, and_right}
use Rattle.spec_policy.specs.Tree.{parallel, sequential, Tree, leaf, trivial, unsatisfiable, node}
use Rattle.spec_turns.specs.State.{State}
use Rattle.spec_turns.specs.Process.{Item, Process, stop, does, both, trace, items}
use Rattle.spec_turns.specs.Turn.{Phase, phase}
use Rattle.laws_turns.proofs.Throughout.{Only, Suits, only-phase}
use Rattle.spec_orders.specs.Orders.{Formed, formed-none, formed-one}
use Rattle.spec_orders.specs.Demand.{no_parallel, premise, OneOrder, NoneLost}
use Rattle.spec_orders.proofs.Moves.{all-formed}

-- a process with no free place
abbrev pub Line : Process → Type 0
Line p = Only (λ i. true) false p

line-formed : (p : Process) {xs : List Item} → Line p → Formed (trace p) xs → xs ≡ items (trace p)
unfolding Only trace items
line-formed (stop x) h formed-none = refl
line-formed (does i p) h (formed-one f) = ap (λ (l : List Item). i ∷ l) (line-formed p h.1 f)
line-formed (both l r p q g) h f = absurd h.0

pub one-order : (p : Process) → Line p → OneOrder p
unfolding OneOrder
one-order p h xs n x o = line-formed p h (all-formed o)

suits-line : (t : Tree) → T (no_parallel t) → Suits (λ i. true) false t
unfolding no_parallel Suits
suits-line (leaf i r c code) h = λ o. tt
suits-line (trivial i) h = tt
suits-line (unsatisfiable i) h = tt
suits-line (node parallel j i l r) h = absurd h
suits-line (node sequential j i l r) h = (suits-line l (and_left (no_parallel l) (no_parallel r) h), suits-line r (and_right (no_parallel l) (no_parallel r) h))

pub straight : (t : Tree) → T (no_parallel t) → (ph : Phase) (s : State) → Line (phase t ph s)
straight t h = only-phase (λ i. true) false (λ b. tt) (λ a. tt) t (suits-line t h)

-- ---- no freedom is lost

left-once : (l : Tree) → T (no_parallel l) → (ph : Phase) (s : State) → OneOrder (phase l ph s)
left-once l h ph s = one-order (phase l ph s) (straight l h ph s)

no-parallel : (t : Tree) → T (no_parallel t) → NoneLost t
unfolding no_parallel NoneLost
no-parallel (leaf i r c code) h = tt
no-parallel (trivial i) h = tt
no-parallel (unsatisfiable i) h = tt
no-parallel (node parallel j i l r) h = absurd h
no-parallel (node sequential j i l r) h =
    let left = and_left (no_parallel l) (no_parallel r) h in
    (left-once l left, no-parallel l left, no-parallel r (and_right (no_parallel l) (no_parallel r) h))

pub none-lost : (t : Tree) → T (premise t) → NoneLost t
unfolding premise NoneLost
none-lost (leaf i r c code) h = tt
none-lost (trivial i) h = tt
none-lost (unsatisfiable i) h = tt
none-lost (node parallel j i l r) h = (none-lost l (and_left (premise l) (premise r) h), none-lost r (and_right (premise l) (premise r) h))
none-lost (node sequential j i l r) h =
    let left = and_left (no_parallel l) (premise r) h in
    (left-once l left, no-parallel l left, none-lost r (and_right (no_parallel l) (premise r) h))
