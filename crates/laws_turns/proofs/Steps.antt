-- A leaf runs each of its steps at most once in a turn: a turn, an opening and a closing run no more steps than the leaf has.
--
use Prim.Native.Nat.{ℕ, suc, ◌+◌, ◌-◌, ◌≤◌, ◌<◌, zero-le}
use native.Mathlib.Omega.{arith}
use mathlib.Core.Path.{◌≡◌, refl, sym, ◌∙◌, subst}
use mathlib.Core.Logic.{⊎_elim}
use mathlib.Core.Bool.{Bool, true, false, not}
use mathlib.Core.List.{List, [], ◌∷◌}
use lib.Dec.{T}
use lib.ListN.{length, get_or, drop, length-drop}
use Rattle.actions.specs.Sets.{Action, ActionSet, has}
use Rattle.spec_policy.specs.Steps.{Step, next, ok, sup, ins, acase, spend, end, halt, targets, is_next}
use Rattle.spec_policy.specs.Tree.{leaf}
use Rattle.spec_check.specs.Lawful.{AllAhead, Inside, Forward, LawfulLeaf}
use Rattle.spec_turns.specs.Status.{running, is_running}
use Rattle.spec_turns.specs.State.{State, leaf_state, status, asked, offset, counter}
use Rattle.spec_turns.specs.Process.{Item, ran, lets, sups, accepts, suppresses, Out, Process, does, outcome, items, trace}
use Rattle.spec_turns.specs.Turn.{before, after, closing, quiet, goes, take_of, done_of, leaf_work, is_asked, if_asked, phase, fresh}
use Rattle.spec_turns.specs.Events.{steps_run}
use Rattle.spec_turns.specs.Rest.{AtRest, leaf-waits, leaf-ended, leaf-halted}
use Rattle.laws_turns.proofs.Fuel.{in_leaf}
use Rattle.laws_turns.proofs.Count.{valued, count-items, weight, weight-if, none_if, none-le, owing, price, prices, ahead, ahead_in, ahead-target, goes-le}
use Rattle.laws_turns.specs.Counts.{worth, count, steps}

valued-steps : (xs : List Item) → valued (worth 1 0 0) xs ≡ steps_run xs
unfolding valued worth steps_run
valued-steps [] = refl
valued-steps (ran i o ∷ xs) = omega (arith, valued-steps xs)
valued-steps (lets b ∷ xs) = omega (arith, valued-steps xs)
valued-steps (sups a ∷ xs) = omega (arith, valued-steps xs)
valued-steps (accepts a ∷ xs) = omega (arith, valued-steps xs)
valued-steps (suppresses a ∷ xs) = omega (arith, valued-steps xs)

pub steps-count : (p : Process) → steps p ≡ count (worth 1 0 0) p
steps-count p = sym (count-items (worth 1 0 0) p ∙ valued-steps (items (trace p)))

-- ---- how many steps are ahead

pub step-prices : (code : List Step) → prices 1 0 code ≤ length code
unfolding prices price
step-prices [] = zero-le
step-prices (k ∷ code) = omega (arith, none-le (is_next k) 1, step-prices code)

drop-prices : (code : List Step) (o : ℕ) → prices 1 0 (drop o code) ≤ length code - o
drop-prices code o = omega (arith, step-prices (drop o code), length-drop o code)

pub waits_in : (code : List Step) (o : ℕ) → T (is_next (get_or code o halt)) → o < length code
unfolding is_next
waits_in code o h = ⊎_elim (λ l. l) (λ e. absurd (subst (λ (k : Step). T (is_next k)) e h)) (in_leaf code o)

-- where a next leads to
next-leads : (code : List Step) (o : ℕ) (k : Step) → T (is_next k) → AllAhead code o (targets k) → Inside (length code) (targets k)
    → (ahead 1 0 code (take_of k) ≤ prices 1 0 (drop (suc o) code)) × (ahead 1 0 code (done_of k) ≤ prices 1 0 (drop (suc o) code))
unfolding is_next targets AllAhead Inside take_of done_of
next-leads code o (next t d) h f n = (ahead-target 1 0 code o t f.0 n.0, ahead-target 1 0 code o d f.1.0 n.1.0)
next-leads code o (ok t) h f n = absurd h
next-leads code o (sup t) h f n = absurd h
next-leads code o (ins b t) h f n = absurd h
next-leads code o (acase s y z) h f n = absurd h
next-leads code o (spend m y z) h f n = absurd h
next-leads code o end h f n = absurd h
next-leads code o halt h f n = absurd h

-- ---- a leaf's phases

module _ (i c₀ : ℕ) {r : ActionSet} {code : List Step} (law : LawfulLeaf r code) where
  abbrev left : Out → ℕ
  left x = owing (λ s. ahead 1 0 code (offset s)) x.state

  abbrev steps-and-left : Process → ℕ
  steps-and-left p = count (worth 1 0 0) p + left (outcome p)

  leaving : (a : Action) (o t c : ℕ) → T (is_next (get_or code o halt)) → ahead 1 0 code t ≤ prices 1 0 (drop (suc o) code)
      → steps-and-left (does (ran i o) (goes i code a (suc (length code)) t c)) ≤ length code - o
  unfolding count outcome worth weight
  leaving a o t c h n = omega (arith, goes-le 1 0 0 i code law a (suc (length code)) t c, drop-prices code (suc o), waits_in code o h)

  leads : (o : ℕ) → T (is_next (get_or code o halt))
      → (ahead 1 0 code (take_of (get_or code o halt)) ≤ prices 1 0 (drop (suc o) code)) × (ahead 1 0 code (done_of (get_or code o halt)) ≤ prices 1 0 (drop (suc o) code))
  unfolding Forward
  leads o h = next-leads code o (get_or code o halt) h (law.forward o) (law.inside o)

  -- Before the verdict, with what is left for after it, and at closing: from the next at which the leaf waits, its steps from there on.
  pub leaf-before : (a : Action) (s : State) → T (is_next (get_or code (offset s) halt)) → steps-and-left (leaf_work i code (before a) s) ≤ length code - offset s
  unfolding leaf_work
  leaf-before a s h = leaving a (offset s) (take_of (get_or code (offset s) halt)) (counter s) h (leads (offset s) h).0

  pub leaf-closing : (s : State) → T (is_next (get_or code (offset s) halt)) → steps-and-left (leaf_work i code closing s) ≤ length code - offset s
  unfolding leaf_work
  leaf-closing s h = leaving 0 (offset s) (done_of (get_or code (offset s) halt)) (counter s) h (leads (offset s) h).1

  pub leaf-after : (s : State) → steps-and-left (leaf_work i code after s) ≤ ahead 1 0 code (offset s)
  unfolding leaf_work count outcome worth weight
  leaf-after s = omega (arith, goes-le 1 0 0 i code law 0 (suc (length code)) (offset s) (counter s))

  -- ---- the leaf as a node

  turn-before : (a : Action) {s : State} → AtRest (leaf i r c₀ code) s → steps-and-left (phase (leaf i r c₀ code) (before a) s) ≤ length code
  unfolding phase if_asked is_asked status is_running quiet count outcome owing asked none_if offset weight
  turn-before a (leaf-waits {o = o} {c = c} h b) =
      weight-if (worth 1 0 0) left (has r a) _ _ (length code) (λ e. omega (arith, leaf-before a (leaf_state running false o c) h)) (λ e. zero-le)
  turn-before a leaf-ended = zero-le
  turn-before a leaf-halted = zero-le

  pub steps-after : (s : State) → steps (phase (leaf i r c₀ code) after s) ≤ owing (λ t. ahead 1 0 code (offset t)) s
  unfolding phase if_asked is_asked owing none_if quiet items trace steps_run
  steps-after s = go (asked s)
    where
      go : (b : Bool) → steps (elim b [ true ↦ leaf_work i code after s | false ↦ quiet s ]) ≤ none_if (not b) (ahead 1 0 code (offset s))
      go true = omega (arith, steps-count (leaf_work i code after s), leaf-after s)
      go false = zero-le

  -- a turn, before the verdict and after it
  pub steps-turn : (a : Action) {s : State} → AtRest (leaf i r c₀ code) s
      → let p = phase (leaf i r c₀ code) (before a) s in steps p + steps (phase (leaf i r c₀ code) after (outcome p).state) ≤ length code
  steps-turn a {s} h =
      let p = phase (leaf i r c₀ code) (before a) s in
      omega (arith, steps-count p, turn-before a h, steps-after (outcome p).state)

  pub steps-opening : 0 < length code → steps (phase (leaf i r c₀ code) after (fresh (leaf i r c₀ code))) ≤ length code
  unfolding fresh owing asked offset none_if
  steps-opening h = omega (arith, steps-after (fresh (leaf i r c₀ code)), ahead_in 1 0 code 0 0 zero-le h, step-prices code)

  pub steps-closing : {s : State} → AtRest (leaf i r c₀ code) s → steps (phase (leaf i r c₀ code) closing s) ≤ length code
  unfolding phase if_asked is_asked status is_running quiet offset items trace steps_run
  steps-closing (leaf-waits {o = o} {c = c} h b) =
      let p = leaf_work i code closing (leaf_state running false o c) in
      omega (arith, steps-count p, leaf-closing (leaf_state running false o c) h)
  steps-closing leaf-ended = zero-le
  steps-closing leaf-halted = zero-le
