-- Small cases of what the third demand speaks of: which policies keep its premise, what a leaf inserts, and which item is the verdict.
use Rattle.std.specs.Prelude.{ℕ, ◌≡◌, Bool, true, false, List, [], ◌∷◌, map, replicate}
use Rattle.actions.specs.Sets.{Action}
use Rattle.spec_policy.specs.Bytes.{Bytes}
use Rattle.spec_policy.specs.Parts.{alone, pair, pair_of, file_of, top, bottom, L, «V», V', W, F, built}
use Rattle.spec_policy.specs.Tree.{Tree, tree}
use Rattle.spec_turns.specs.Process.{Item, accepts, suppresses, trace, items}
use Rattle.spec_turns.specs.Turn.{Request, offer, close, call}
use Rattle.spec_turns.specs.Saved.{state_size, cells, load}
use Rattle.spec_turns.specs.Entries.{event_room, opens}
use Rattle.spec_orders.specs.Orders.{only, is_verdict, inserts_of}
use Rattle.spec_orders.specs.Demand.{premise}

pub record Case : Type 0 where
  pub policy : Bytes
  pub keeps : Bool

-- "with no parallel node in the left part of a sequential node"
unfoldable pub premises : List Case
unfolding built
premises =
    record { policy = alone L; keeps = true }
    ∷ record { policy = alone top; keeps = true }
    ∷ record { policy = alone bottom; keeps = true }
    ∷ record { policy = pair 4 «V» V'; keeps = true }
    -- sequential sides without a parallel node
    ∷ record { policy = pair 5 top bottom; keeps = true }
    ∷ record { policy = pair 7 bottom top; keeps = true }
    ∷ record { policy = file_of (pair_of 5 1 4 ∷ pair_of 7 2 3 ∷ «V» ∷ W ∷ top ∷ []); keeps = true }
    -- a parallel node in the right part is free
    ∷ record { policy = file_of (pair_of 5 1 2 ∷ W ∷ pair_of 4 3 4 ∷ «V» ∷ V' ∷ []); keeps = true }
    -- parallel nodes beneath a parallel node, on either side; and a sequential one there
    ∷ record { policy = file_of (pair_of 4 1 4 ∷ pair_of 6 2 3 ∷ top ∷ bottom ∷ L ∷ []); keeps = true }
    ∷ record { policy = file_of (pair_of 6 1 2 ∷ L ∷ pair_of 4 3 4 ∷ top ∷ bottom ∷ []); keeps = true }
    ∷ record { policy = file_of (pair_of 6 1 4 ∷ pair_of 5 2 3 ∷ top ∷ bottom ∷ L ∷ []); keeps = true }
    -- in the left part it is not, however deep: on either side of a sequential node there, or beneath a parallel root
    ∷ record { policy = file_of (pair_of 5 1 4 ∷ pair_of 4 2 3 ∷ «V» ∷ V' ∷ F ∷ []); keeps = false }
    ∷ record { policy = file_of (pair_of 5 1 6 ∷ pair_of 5 2 5 ∷ pair_of 6 3 4 ∷ top ∷ top ∷ top ∷ F ∷ []); keeps = false }
    ∷ record { policy = file_of (pair_of 5 1 6 ∷ pair_of 5 2 3 ∷ top ∷ pair_of 6 4 5 ∷ top ∷ top ∷ F ∷ []); keeps = false }
    ∷ record { policy = file_of (pair_of 4 1 6 ∷ pair_of 7 2 5 ∷ pair_of 4 3 4 ∷ top ∷ top ∷ top ∷ top ∷ []); keeps = false }
    ∷ record { policy = file_of (pair_of 4 1 2 ∷ top ∷ pair_of 7 3 6 ∷ pair_of 4 4 5 ∷ top ∷ top ∷ top ∷ []); keeps = false }
    ∷ record { policy = file_of (pair_of 5 1 2 ∷ top ∷ pair_of 7 3 6 ∷ pair_of 4 4 5 ∷ top ∷ top ∷ top ∷ []); keeps = false }
    ∷ []

-- what a call after opening does
unfoldable pub done_by : Bytes → Request → List Item
done_by policy q =
    let t : Tree = tree policy in
    let s : Bytes = (opens policy (replicate state_size 0) (replicate event_room 0)).state in
    items (trace (call t q (load t (cells s))))

pub record Inserts : Type 0 where
  pub policy : Bytes
  pub request : Request
  pub leaf : ℕ
  pub inserts : List Action

-- an ins that runs, one of the other leaf, and one that the right side of a sequential node swallows: it was made all the same
unfoldable pub inserting : List Inserts
unfolding built
inserting =
    record { policy = alone «V»; request = offer 4; leaf = 0; inserts = 3 ∷ [] }
    ∷ record { policy = alone L; request = offer 2; leaf = 0; inserts = [] }
    ∷ record { policy = pair 4 «V» V'; request = offer 4; leaf = 1; inserts = 3 ∷ [] }
    ∷ record { policy = pair 4 «V» V'; request = offer 4; leaf = 2; inserts = [] }
    ∷ record { policy = pair 4 «V» V'; request = close; leaf = 1; inserts = 3 ∷ [] }
    ∷ record { policy = pair 4 «V» V'; request = close; leaf = 2; inserts = 6 ∷ [] }
    ∷ record { policy = pair 5 «V» W; request = offer 4; leaf = 1; inserts = 3 ∷ [] }
    ∷ record { policy = pair 5 «V» W; request = offer 4; leaf = 2; inserts = [] }
    ∷ []

-- the verdict among what a call does
pub record Judged : Type 0 where
  pub policy : Bytes
  pub request : Request
  pub verdicts : List Item

unfoldable pub judging : List Judged
unfolding built
judging =
    record { policy = alone L; request = offer 2; verdicts = accepts 2 ∷ [] }
    ∷ record { policy = alone «V»; request = offer 4; verdicts = suppresses 4 ∷ [] }
    ∷ record { policy = alone «V»; request = close; verdicts = [] }
    ∷ []

unfoldable pub AllWorked : Type 0
AllWorked =
    (map (λ x. premise (tree x.policy)) premises ≡ map (λ x. x.keeps) premises)
    × (map (λ x. inserts_of (tree x.policy) x.leaf (done_by x.policy x.request)) inserting ≡ map (λ x. x.inserts) inserting)
    × (map (λ x. only is_verdict (done_by x.policy x.request)) judging ≡ map (λ x. x.verdicts) judging)
