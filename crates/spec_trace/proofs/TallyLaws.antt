-- Laws of tallies: of items one after another, and that actions are counted by their events.
use Prim.Native.Nat.{ℕ, ◌+◌}
use mathlib.Core.Path.{◌≡◌, refl, ◌∙◌}
use mathlib.Core.Bool.{Bool, true, false}
use mathlib.Core.List.{List, [], ◌∷◌, ◌++◌}
use lib.ListN.{length}
use Rattle.spec_policy.specs.Bytes.{Bytes}
use Rattle.spec_policy.specs.Tree.{first_step}
use Rattle.spec_turns.specs.Process.{Item, ran, lets, sups, accepts, suppresses}
use Rattle.spec_turns.specs.Events.{events, event_of}
use Rattle.spec_trace.specs.Tallies.{action_counted, accepted_place, suppressed_place, inserted_place, step_counted, step_if, steps_tallied, steps_if, actions_tallied, events_tallied}
use Rattle.spec_trace.proofs.CountLaws.{step-length}

pub steps-append : (policy : Bytes) (xs ys : List Item) (counts : List ℕ) → steps_tallied policy (xs ++ ys) counts ≡ steps_tallied policy ys (steps_tallied policy xs counts)
unfolding steps_tallied
steps-append policy [] ys counts = refl
steps-append policy (ran i o ∷ xs) ys counts = steps-append policy xs ys (step_counted counts (first_step policy i + o))
steps-append policy (lets b ∷ xs) ys counts = steps-append policy xs ys counts
steps-append policy (sups a ∷ xs) ys counts = steps-append policy xs ys counts
steps-append policy (accepts a ∷ xs) ys counts = steps-append policy xs ys counts
steps-append policy (suppresses a ∷ xs) ys counts = steps-append policy xs ys counts

pub steps-length : (policy : Bytes) (xs : List Item) (counts : List ℕ) → length (steps_tallied policy xs counts) ≡ length counts
unfolding steps_tallied
steps-length policy [] counts = refl
steps-length policy (ran i o ∷ xs) counts = steps-length policy xs (step_counted counts (first_step policy i + o)) ∙ step-length counts (first_step policy i + o)
steps-length policy (lets b ∷ xs) counts = steps-length policy xs counts
steps-length policy (sups a ∷ xs) counts = steps-length policy xs counts
steps-length policy (accepts a ∷ xs) counts = steps-length policy xs counts
steps-length policy (suppresses a ∷ xs) counts = steps-length policy xs counts

-- ---- where steps are counted, or not

pub steps-none : (on : Bool) (policy : Bytes) (counts : List ℕ) → steps_if on policy [] counts ≡ counts
unfolding steps_if steps_tallied
steps-none true policy counts = refl
steps-none false policy counts = refl

pub steps_then : (on : Bool) (policy : Bytes) (xs ys : List Item) (counts : List ℕ) → steps_if on policy (xs ++ ys) counts ≡ steps_if on policy ys (steps_if on policy xs counts)
unfolding steps_if
steps_then true policy xs ys counts = steps-append policy xs ys counts
steps_then false policy xs ys counts = refl

pub steps-ran : (on : Bool) (policy : Bytes) (i o : ℕ) (counts : List ℕ) → steps_if on policy (ran i o ∷ []) counts ≡ step_if on counts (first_step policy i + o)
unfolding steps_if steps_tallied step_if
steps-ran true policy i o counts = refl
steps-ran false policy i o counts = refl

pub steps-sup : (on : Bool) (policy : Bytes) (i o a : ℕ) (counts : List ℕ) → steps_if on policy (ran i o ∷ sups a ∷ []) counts ≡ step_if on counts (first_step policy i + o)
unfolding steps_if steps_tallied step_if
steps-sup true policy i o a counts = refl
steps-sup false policy i o a counts = refl

pub steps-lets : (on : Bool) (policy : Bytes) (b : ℕ) (counts : List ℕ) → steps_if on policy (lets b ∷ []) counts ≡ counts
unfolding steps_if steps_tallied
steps-lets true policy b counts = refl
steps-lets false policy b counts = refl

pub steps-accepts : (on : Bool) (policy : Bytes) (a : ℕ) (xs : List Item) (counts : List ℕ) → steps_if on policy (accepts a ∷ xs) counts ≡ steps_if on policy xs counts
unfolding steps_if steps_tallied
steps-accepts true policy a xs counts = refl
steps-accepts false policy a xs counts = refl

pub steps-suppresses : (on : Bool) (policy : Bytes) (a : ℕ) (xs : List Item) (counts : List ℕ) → steps_if on policy (suppresses a ∷ xs) counts ≡ steps_if on policy xs counts
unfolding steps_if steps_tallied
steps-suppresses true policy a xs counts = refl
steps-suppresses false policy a xs counts = refl

-- ---- actions

-- an action is counted by its events
pub actions-by-events : (xs : List Item) (counts : List ℕ) → actions_tallied xs counts ≡ events_tallied (events xs) counts
unfolding actions_tallied events_tallied events event_of
actions-by-events [] counts = refl
actions-by-events (ran i o ∷ xs) counts = actions-by-events xs counts
actions-by-events (lets b ∷ xs) counts = actions-by-events xs (action_counted counts (inserted_place b))
actions-by-events (sups a ∷ xs) counts = actions-by-events xs counts
actions-by-events (accepts a ∷ xs) counts = actions-by-events xs (action_counted counts (accepted_place a))
actions-by-events (suppresses a ∷ xs) counts = actions-by-events xs (action_counted counts (suppressed_place a))
