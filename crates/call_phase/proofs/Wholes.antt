-- A process and its run: the items one after another, and then the end. So a phase's run tells what was seen of it and how it ended.
--
use mathlib.Core.Path.{◌≡◌, refl, sym, ap, ap₂, ◌∙◌}
use mathlib.Core.List.{List, [], ◌∷◌, ◌++◌, map}
use Rattle.spec_policy.specs.Tree.{Tree}
use Rattle.spec_turns.specs.State.{State}
use Rattle.spec_turns.specs.Process.{Item, ran, lets, sups, accepts, suppresses, Out, Process, stop, does, both, outcome, trace, items}
use Rattle.spec_turns.specs.Turn.{Phase, phase}
use Rattle.spec_turns.specs.Events.{Event, inserted, event_of, events}
use Rattle.spec_turns.proofs.Safe.{All, no_verdict}
use Rattle.laws_turns.proofs.Count.{events-append}
use Rattle.turn_paths.specs.Run.{Run, halts, goes, and_then, flat, first}
use Rattle.turn_paths.specs.Memory.{ran_of}
use Rattle.turn_node.specs.Turns.{lets_in}

-- ---- a run, and its parts

first-append : (xs ys : List Item) (p : Run) → first xs (first ys p) ≡ first (xs ++ ys) p
unfolding first
first-append [] ys p = refl
first-append (i ∷ xs) ys p = ap (goes i) (first-append xs ys p)

then-first : (xs : List Item) (x : Out) (k : Out → Run) → and_then (first xs (halts x)) k ≡ first xs (k x)
unfolding first and_then
then-first [] x k = refl
then-first (i ∷ xs) x k = ap (goes i) (then-first xs x k)

seen : Run → List Item
seen (halts x) = []
seen (goes i p) = i ∷ seen p

ending : Run → Out
ending (halts x) = x
ending (goes i p) = ending p

seen_first : (xs : List Item) (x : Out) → seen (first xs (halts x)) ≡ xs
unfolding first seen
seen_first [] x = refl
seen_first (i ∷ xs) x = ap (λ (ys : List Item). i ∷ ys) (seen_first xs x)

ending-first : (xs : List Item) (x : Out) → ending (first xs (halts x)) ≡ x
unfolding first ending
ending-first [] x = refl
ending-first (i ∷ xs) x = ending-first xs x

-- ---- a process's run

flat-first : (p : Process) → flat p ≡ first (items (trace p)) (halts (outcome p))
unfolding flat first items trace outcome
flat-first (stop x) = refl
flat-first (does i p) = ap (goes i) (flat-first p)
flat-first (both l r p q g) =
    let xs : List Item = items (trace p) in
    let ys : List Item = items (trace q) in
    let zs : List Item = items (trace (g (outcome p) (outcome q))) in
    let end : Run = halts (outcome (g (outcome p) (outcome q))) in
    ap (λ (z : Run). and_then z (λ x. and_then (flat q) (λ y. flat (g x y)))) (flat-first p)
    ∙ then-first xs (outcome p) (λ x. and_then (flat q) (λ y. flat (g x y)))
    ∙ ap (first xs)
    (ap (λ (z : Run). and_then z (λ y. flat (g (outcome p) y))) (flat-first q)
    ∙ then-first ys (outcome q) (λ y. flat (g (outcome p) y))
    ∙ ap (first ys) (flat-first (g (outcome p) (outcome q))))
    ∙ first-append xs ys (first zs end)
    ∙ first-append (xs ++ ys) zs end

-- ---- a phase

module _ (t : Tree) (ph : Phase) (s : State) (xs : List Item) (x : Out) (h : ran_of t ph s ≡ first xs (halts x)) where
  whole : first (items (trace (phase t ph s))) (halts (outcome (phase t ph s))) ≡ first xs (halts x)
  unfolding ran_of
  whole = sym (flat-first (phase t ph s)) ∙ h

  pub phase-items : items (trace (phase t ph s)) ≡ xs
  phase-items = sym (seen_first (items (trace (phase t ph s))) (outcome (phase t ph s))) ∙ ap seen whole ∙ seen_first xs x

  pub phase-outcome : outcome (phase t ph s) ≡ x
  phase-outcome = sym (ending-first (items (trace (phase t ph s))) (outcome (phase t ph s))) ∙ ap ending whole ∙ ending-first xs x

-- ---- its events

lets-append : (xs ys : List Item) → map inserted (lets_in (xs ++ ys)) ≡ map inserted (lets_in xs) ++ map inserted (lets_in ys)
unfolding lets_in
lets-append [] ys = refl
lets-append (ran i o ∷ xs) ys = lets-append xs ys
lets-append (lets b ∷ xs) ys = ap (λ (es : List Event). inserted b ∷ es) (lets-append xs ys)
lets-append (sups a ∷ xs) ys = lets-append xs ys
lets-append (accepts a ∷ xs) ys = lets-append xs ys
lets-append (suppresses a ∷ xs) ys = lets-append xs ys

-- two parts' events
events-both : (xs ys : List Item) → events xs ≡ map inserted (lets_in xs) → events ys ≡ map inserted (lets_in ys) → events (xs ++ ys) ≡ map inserted (lets_in (xs ++ ys))
events-both xs ys d e = events-append xs ys ∙ ap₂ (λ (us vs : List Event). us ++ vs) d e ∙ sym (lets-append xs ys)

-- where no verdict is among them, they are the inserts
pub events-lets : (p : Process) → All no_verdict p → events (items (trace p)) ≡ map inserted (lets_in (items (trace p)))
unfolding All no_verdict events event_of items trace lets_in outcome
events-lets (stop x) h = refl
events-lets (does (ran i o) p) h = events-lets p h.1
events-lets (does (lets b) p) h = ap (λ (es : List Event). inserted b ∷ es) (events-lets p h.1)
events-lets (does (sups a) p) h = events-lets p h.1
events-lets (does (accepts a) p) h = absurd h.0
events-lets (does (suppresses a) p) h = absurd h.0
events-lets (both l r p q g) h =
    events-both (items (trace p) ++ items (trace q)) (items (trace (g (outcome p) (outcome q))))
    (events-both (items (trace p)) (items (trace q)) (events-lets p h.0) (events-lets q h.1)) (events-lets (g (outcome p) (outcome q)) h.2)
