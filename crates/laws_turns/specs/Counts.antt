-- What is counted along a call or a phase: inserts and events, for "One call emits at most spread + 1 events." (proofs/Spread), and the single steps that
-- leaves run (proofs/Steps, proofs/Work).
use Rattle.std.specs.Prelude.{ℕ, suc, ◌+◌, List, [], ◌∷◌}
use Rattle.spec_turns.specs.Process.{Item, ran, lets, sups, accepts, suppresses, Process, stop, does, both, outcome, items, trace}
use Rattle.spec_turns.specs.Events.{steps_run}

-- how many inserts are let out
unfoldable pub let_count : List Item → ℕ
let_count [] = 0
let_count (ran i o ∷ xs) = let_count xs
let_count (lets b ∷ xs) = suc (let_count xs)
let_count (sups a ∷ xs) = let_count xs
let_count (accepts a ∷ xs) = let_count xs
let_count (suppresses a ∷ xs) = let_count xs

-- how many steps a process runs
abbrev pub steps : Process → ℕ
steps p = steps_run (items (trace p))

-- What an item is worth: a single step u, an insert v, a verdict z. So `worth 0 1 0` counts the inserts, `worth 0 1 1` the events.
unfoldable pub worth : ℕ → ℕ → ℕ → Item → ℕ
worth u v z (ran i o) = u
worth u v z (lets b) = v
worth u v z (sups a) = 0
worth u v z (accepts a) = z
worth u v z (suppresses a) = z

-- what the items of a process are worth together, left side first, if each is worth what w says
module _ (w : Item → ℕ) where
  unfoldable pub count : Process → ℕ
  unfolding outcome
  count (stop x) = 0
  count (does i p) = w i + count p
  count (both l r p q g) = count p + count q + count (g (outcome p) (outcome q))
