-- One call lets out at most `spread` inserts, and writes at most one event more.
use Prim.Native.Nat.{ℕ, ◌+◌, ◌≤◌}
use native.Mathlib.Omega.{arith}
use mathlib.Core.Path.{◌≡◌, refl, sym, ◌∙◌}
use mathlib.Core.List.{List, [], ◌∷◌}
use lib.ListN.{length}
use Rattle.actions.specs.Sets.{Action}
use Rattle.spec_policy.specs.Tree.{Tree}
use Rattle.spec_check.specs.Spread.{spread}
use Rattle.spec_check.specs.Lawful.{Lawful}
use Rattle.spec_turns.specs.State.{State}
use Rattle.spec_turns.specs.Process.{Item, ran, lets, sups, accepts, suppresses, Process, outcome, items, trace}
use Rattle.spec_turns.specs.Turn.{Phase, before, after, phase, Request, call}
use Rattle.spec_turns.specs.Events.{events, event_of}
use Rattle.laws_turns.proofs.Count.{valued, count-items}
use Rattle.laws_turns.specs.Counts.{worth, count, let_count}
use Rattle.laws_turns.proofs.Costs.{cost-spread, phase-cost, turn-cost, call-cost}

-- Inserts count one each and verdicts z each: 0 counts the inserts alone, 1 counts the events.
module _ (z : ℕ) where
  -- a phase alone, the two phases of a turn, a call
  pub phase-bound : (t : Tree) → Lawful t → (ph : Phase) (s : State) → count (worth 0 1 z) (phase t ph s) ≤ spread t
  phase-bound t h ph s = omega (arith, phase-cost 0 1 z t h ph s, cost-spread t)

  pub turn-bound : (t : Tree) → Lawful t → (a : Action) (s : State)
      → count (worth 0 1 z) (phase t (before a) s) + count (worth 0 1 z) (phase t after (outcome (phase t (before a) s)).state) ≤ spread t
  turn-bound t h a s = omega (arith, turn-cost 0 1 z t h a s, cost-spread t)

  pub call-bound : (t : Tree) → Lawful t → (q : Request) (s : State) → count (worth 0 1 z) (call t q s) ≤ spread t + z
  call-bound t h q s = omega (arith, call-cost 0 1 z t h q s, cost-spread t)

-- ---- inserts

valued-lets : (xs : List Item) → valued (worth 0 1 0) xs ≡ let_count xs
unfolding valued worth let_count
valued-lets [] = refl
valued-lets (ran i o ∷ xs) = omega (arith, valued-lets xs)
valued-lets (lets b ∷ xs) = omega (arith, valued-lets xs)
valued-lets (sups a ∷ xs) = omega (arith, valued-lets xs)
valued-lets (accepts a ∷ xs) = omega (arith, valued-lets xs)
valued-lets (suppresses a ∷ xs) = omega (arith, valued-lets xs)

pub spread-bound : (t : Tree) → Lawful t → (q : Request) (s : State) → let_count (items (trace (call t q s))) ≤ spread t
spread-bound t h q s = omega (arith, call-bound 0 t h q s, count-items (worth 0 1 0) (call t q s), valued-lets (items (trace (call t q s))))

-- ---- events

valued-events : (xs : List Item) → valued (worth 0 1 1) xs ≡ length (events xs)
unfolding valued worth events event_of
valued-events [] = refl
valued-events (ran i o ∷ xs) = omega (arith, valued-events xs)
valued-events (lets b ∷ xs) = omega (arith, valued-events xs)
valued-events (sups a ∷ xs) = omega (arith, valued-events xs)
valued-events (accepts a ∷ xs) = omega (arith, valued-events xs)
valued-events (suppresses a ∷ xs) = omega (arith, valued-events xs)

-- the events of a process, by its count
pub events-count : (p : Process) → length (events (items (trace p))) ≡ count (worth 0 1 1) p
events-count p = sym (count-items (worth 0 1 1) p ∙ valued-events (items (trace p)))

-- "One call emits at most spread + 1 events."
pub events-bound : (t : Tree) → Lawful t → (q : Request) (s : State) → length (events (items (trace (call t q s)))) ≤ spread t + 1
events-bound t h q s = omega (arith, events-count (call t q s), call-bound 1 t h q s)
