-- Processes whose items all pass a test, and processes whose parallel sides leave each other alone.
use Prim.Native.Nat.{ℕ}
use mathlib.Core.Logic.{◌⊎◌}
use mathlib.Core.Bool.{Bool, true, false, not}
use lib.Dec.{T, eqb}
use Rattle.actions.specs.Sets.{ActionSet}
use Rattle.spec_turns.specs.Process.{Item, ran, lets, sups, accepts, suppresses, Process, stop, does, both, outcome, touches}

-- every item of the run passes the test
unfoldable pub All : (Item → Bool) → Process → Type 0
unfolding outcome
All f (stop x) = Unit {0}
All f (does i p) = T (f i) × All f p
All f (both l r p q g) = All f p × All f q × All f (g (outcome p) (outcome q))

-- leaves the actions of the set alone
unfoldable pub spares : ActionSet → Item → Bool
spares r i = not (touches r i)

-- no step of leaf n
unfoldable pub elsewhere : ℕ → Item → Bool
elsewhere n (ran i o) = not (eqb i n)
elsewhere n (lets b) = true
elsewhere n (sups a) = true
elsewhere n (accepts a) = true
elsewhere n (suppresses a) = true

-- not the root's verdict
unfoldable pub no_verdict : Item → Bool
no_verdict (ran i o) = true
no_verdict (lets b) = true
no_verdict (sups a) = true
no_verdict (accepts a) = false
no_verdict (suppresses a) = false

-- what is said of the two sides of a parallel node
pub record Spare (l r : ActionSet) (p q : Process) : Type 0 where
  pub left : All (spares r) p
  pub right : All (spares l) q
  pub leaves : (n : ℕ) → All (elsewhere n) p ⊎ All (elsewhere n) q
  pub no-verdict : All no_verdict p

-- neither side touches what the other regulates, no leaf is on both, and the verdict is on none
unfoldable pub Safe : Process → Type 0
unfolding outcome
Safe (stop x) = Unit {0}
Safe (does i p) = Safe p
Safe (both l r p q g) = Spare l r p q × Safe p × Safe q × Safe (g (outcome p) (outcome q))
