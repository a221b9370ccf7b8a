-- The third demand, from the check's answer and the saved bytes.
use lib.Dec.{T}
use mathlib.Core.Path.{◌≡◌}
use Rattle.actions.specs.Sets.{ActionSet}
use Rattle.spec_policy.specs.Bytes.{Bytes}
use Rattle.spec_policy.specs.Tree.{tree}
use Rattle.spec_check.specs.Check.{check, passes}
use Rattle.spec_check.proofs.Passed.{passed}
use Rattle.laws_check.proofs.LawfulTree.{lawful}
use Rattle.spec_turns.specs.Turn.{Request, opening}
use Rattle.spec_turns.specs.Saved.{cells, load, fits}
use Rattle.laws_turns.proofs.Fits.{fits-load}
use Rattle.spec_turns.proofs.Walk.{call-fine, opening-fine}
use Rattle.spec_orders.specs.Demand.{premise, AnyOrder}
use Rattle.spec_orders.proofs.Demand.{any_order}

-- "for a passed policy with no parallel node in the left part of a sequential node, any fitting state and any call"
pub third-demand : (policy : Bytes) (r e : ActionSet) → check policy ≡ passes r e → T (premise (tree policy)) → (state room : Bytes) → T (fits policy state)
    → (q : Request) → AnyOrder policy q state room
third-demand policy r e ok h state room f q =
    any_order policy q state room
    (call-fine (tree policy) (lawful policy (passed policy r e ok)) q (load (tree policy) (cells state)) (fits-load policy state f)).safe h

-- opening reads no state
pub third-demand-opening : (policy : Bytes) (r e : ActionSet) → check policy ≡ passes r e → T (premise (tree policy)) → (state room : Bytes)
    → AnyOrder policy opening state room
third-demand-opening policy r e ok h state room =
    any_order policy opening state room (opening-fine (tree policy) (lawful policy (passed policy r e ok)) (load (tree policy) (cells state))).safe h
