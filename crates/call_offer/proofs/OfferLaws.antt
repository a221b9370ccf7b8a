-- The root's turn on an offered action: what its phases and the verdict give together, and that their events fit.
use Prim.Native.Nat.{ℕ, ◌+◌, ◌*◌, ◌≤◌}
use native.Mathlib.Omega.{arith}
use mathlib.Core.Path.{◌≡◌, refl, sym, ap, ◌∙◌, subst}
use mathlib.Core.Bool.{Bool, true, false, ◌&&◌, not}
use mathlib.Core.List.{List, [], ◌∷◌, ◌++◌, append_assoc}
use lib.ListN.{length}
use Rattle.actions.specs.Sets.{Action, has}
use Rattle.actions.proofs.Tests.{of-yes, yes_of, and_right}
use Rattle.actions.proofs.SetLaws.{has-low}
use Rattle.spec_policy.specs.Bytes.{Bytes}
use Rattle.spec_policy.specs.Tree.{Tree, regulated, tree}
use Rattle.spec_check.specs.Passed.{Passed}
use Rattle.spec_check.proofs.Numbers.{root-number}
use Rattle.laws_check.proofs.LawfulTree.{lawful, spread-255}
use Rattle.spec_turns.specs.Status.{Status, is_running, is_halted}
use Rattle.spec_turns.specs.State.{State, status}
use Rattle.spec_turns.specs.Process.{Item, Out, Process, stop, does, both, then, outcome, trace, items}
use Rattle.spec_trace.specs.Tallies.{steps_if}
use Rattle.spec_trace.proofs.TallyLaws.{steps_then, steps-accepts, steps-suppresses}
use Rattle.spec_turns.specs.Turn.{Phase, before, after, is_asked, perhaps, verdict, phase, offer, call}
use Rattle.spec_turns.specs.Events.{Event, event_of, events}
use Rattle.laws_turns.proofs.Count.{events-append}
use Rattle.laws_turns.proofs.Spread.{turn-bound, events-count}
use Rattle.turn_paths.specs.Memory.{Mem, held}
use Rattle.turn_paths.proofs.Begin.{held-status}
use Rattle.turn_memory.specs.Phases.{phase_of}
use Rattle.turn_sides.proofs.StatusBytes.{phase-before}
use Rattle.call_answer.specs.Ends.{verdicts, Added}
use Rattle.call_answer.proofs.EndLaws.{few-verdicts}
use Rattle.call_phase.specs.Phased.{items_of, events_of, Phased, Played}
use Rattle.call_offer.proofs.Added.{added_then}

-- ---- what follows a process

outcome-then : (p : Process) (k : Out → Process) → outcome (then p k) ≡ outcome (k (outcome p))
unfolding outcome then
outcome-then (stop x) k = refl
outcome-then (does i p) k = outcome-then p k
outcome-then (both l r p q g) k = outcome-then (g (outcome p) (outcome q)) k

items-then : (p : Process) (k : Out → Process) → items (trace (then p k)) ≡ items (trace p) ++ items (trace (k (outcome p)))
unfolding outcome then trace items
items-then (stop x) k = refl
items-then (does i p) k = ap (λ (xs : List Item). i ∷ xs) (items-then p k)
items-then (both l r p q g) k =
    ap (λ (xs : List Item). (items (trace p) ++ items (trace q)) ++ xs) (items-then (g (outcome p) (outcome q)) k)
    ∙ sym (append_assoc (items (trace p) ++ items (trace q)) (items (trace (g (outcome p) (outcome q)))) (items (trace (k (outcome (g (outcome p) (outcome q)))))))

events-then : (p : Process) (k : Out → Process) → events (items (trace (then p k))) ≡ events (items (trace p)) ++ events (items (trace (k (outcome p))))
events-then p k = ap events (items-then p k) ∙ events-append (items (trace p)) (items (trace (k (outcome p))))

-- ---- the verdict, and what follows it

told-after : (x : Out) (a : Action) (p : Process)
    → events (items (trace (perhaps (not (is_halted (status x.state))) (verdict x.suppressed a) p)))
    ≡ verdicts (status x.state) x.suppressed a ++ events (items (trace p))
unfolding verdicts perhaps items trace events
told-after x a p = go (is_halted (status x.state))
  where
    go : (h : Bool) → events (items (trace (perhaps (not h) (verdict x.suppressed a) p)))
        ≡ (elim h [ true ↦ [] | false ↦ event_of (verdict x.suppressed a) ]) ++ events (items (trace p))
    go true = refl
    go false = refl

-- a verdict is no step
steps-after : (counting : Bool) (policy : Bytes) (x : Out) (a : Action) (p : Process) (cs : List ℕ)
    → steps_if counting policy (items (trace (perhaps (not (is_halted (status x.state))) (verdict x.suppressed a) p))) cs ≡ steps_if counting policy (items (trace p)) cs
unfolding perhaps items trace verdict
steps-after counting policy x a p cs = go (is_halted (status x.state)) x.suppressed
  where
    go : (h u : Bool) → steps_if counting policy (items (trace (perhaps (not h) (verdict u a) p))) cs ≡ steps_if counting policy (items (trace p)) cs
    go true u = refl
    go false true = steps-suppresses counting policy a (items (trace p)) cs
    go false false = steps-accepts counting policy a (items (trace p)) cs

perhaps-outcome : (b : Bool) (i : Item) (p : Process) → outcome (perhaps b i p) ≡ outcome p
unfolding perhaps outcome
perhaps-outcome true i p = refl
perhaps-outcome false i p = refl

-- ---- a turn at the root

module _ (t : Tree) (a : Action) (s : State) (asked : is_asked (regulated t) (before a) s ≡ true) where
  -- how the phase before the verdict ends
  abbrev x : Out
  x = outcome (phase t (before a) s)

  -- what follows it
  judging : Out → Process
  judging y = perhaps (not (is_halted (status y.state))) (verdict y.suppressed a) (phase t after y.state)

  turn-call : call t (offer a) s ≡ then (phase t (before a) s) judging
  unfolding call judging
  turn-call = rw (asked, call)

  -- The events are those of the phase before the verdict, the verdict's, and those of the phase after it.
  turn-told : events (items (trace (call t (offer a) s))) ≡ events_of t (before a) s ++ (verdicts (status x.state) x.suppressed a ++ events_of t after x.state)
  unfolding judging events_of
  turn-told =
      ap (λ (c : Process). events (items (trace c))) turn-call ∙ events-then (phase t (before a) s) judging
      ∙ ap (λ (es : List Event). events_of t (before a) s ++ es) (told-after x a (phase t after x.state))

  -- So are the steps: the verdict is none.
  pub turn-steps : (counting : Bool) (policy : Bytes) (cs : List ℕ)
      → steps_if counting policy (items (trace (call t (offer a) s))) cs ≡ steps_if counting policy (items_of t after x.state) (steps_if counting policy (items_of t (before a) s) cs)
  unfolding judging items_of
  turn-steps counting policy cs =
      ap (λ (c : Process). steps_if counting policy (items (trace c)) cs) turn-call
      ∙ ap (λ (xs : List Item). steps_if counting policy xs cs) (items-then (phase t (before a) s) judging)
      ∙ steps_then counting policy (items (trace (phase t (before a) s))) (items (trace (judging x))) cs
      ∙ steps-after counting policy x a (phase t after x.state) (steps_if counting policy (items (trace (phase t (before a) s))) cs)

  turn-ends : outcome (call t (offer a) s) ≡ outcome (phase t after x.state)
  unfolding judging
  turn-ends =
      ap outcome turn-call ∙ outcome-then (phase t (before a) s) judging
      ∙ perhaps-outcome (not (is_halted (status x.state))) (verdict x.suppressed a) (phase t after x.state)

-- an action that the root is asked about is one
pub asked-phase : (t : Tree) (a : Action) (s : State) → is_asked (regulated t) (before a) s ≡ true → phase_of a ≡ before a
unfolding is_asked
asked-phase t a s e =
    let h = and_right (is_running (status s)) (has (regulated t) a) (of-yes (is_running (status s) && has (regulated t) a) e) in
    phase-before a (has-low (regulated t) a (yes_of (has (regulated t) a) h))

module _ {policy : Bytes} (ok : Passed policy) (a : Action) {m m₁ : Mem} (asked : is_asked (regulated (tree policy)) (before a) (held (tree policy) m) ≡ true)
    {room room₁ : Bytes} (wide : 512 ≤ length room) {n₁ : ℕ} {u : Bool} (first : Phased (tree policy) (phase_of a) m m₁ room room₁ 0 n₁ u) where
  abbrev t : Tree
  t = tree policy

  -- the state that the call found, and the state at the verdict
  abbrev s : State
  s = held t m

  abbrev s₁ : State
  s₁ = held t m₁

  begun : Phased t (before a) m m₁ room room₁ 0 n₁ u
  begun = subst (λ (ph : Phase). Phased t ph m m₁ room room₁ 0 n₁ u) (asked-phase t a s asked) first

  bound : n₁ + 1 + length (events_of t after s₁) ≤ 256
  unfolding events_of
  bound =
      let x : Out = outcome (phase t (before a) s) in
      let same : length (events_of t after x.state) ≡ length (events_of t after s₁) = ap (λ (o : Out). length (events_of t after o.state)) begun.ends in
      let c = begun.added.counted in
      omega (
        arith,
        events-count (phase t (before a) s),
        events-count (phase t after x.state),
        turn-bound 1 t (lawful policy ok) a s,
        spread-255 policy ok,
      )

  -- the steps of both phases
  pub steps-both : (counting : Bool) (cs : List ℕ) {cs₁ cs₂ : List ℕ} → cs₁ ≡ steps_if counting policy (items_of t (phase_of a) s) cs → cs₂ ≡ steps_if counting policy (items_of t after s₁) cs₁
      → cs₂ ≡ steps_if counting policy (items (trace (call t (offer a) s))) cs
  steps-both counting cs {cs₁} e f =
      f ∙ ap (steps_if counting policy (items_of t after s₁)) (e ∙ ap (λ (ph : Phase). steps_if counting policy (items_of t ph s) cs) (asked-phase t a s asked))
      ∙ ap (λ (y : Out). steps_if counting policy (items_of t after y.state) (steps_if counting policy (items_of t (before a) s) cs)) (sym begun.ends)
      ∙ sym (turn-steps t a s asked counting policy cs)

  -- there is room for the verdict
  pub verdict-room : length room₁ ≡ length room → 2 * n₁ + 2 ≤ length room₁
  verdict-room e = omega (arith, bound)

  module _ (z : Status) {room₂ : Bytes} {n₂ : ℕ} (judged : Added (verdicts z u a) room₁ room₂ n₁ n₂) where
    -- and for the phase after it
    pub after-room : length room₂ ≡ length room → 2 * (n₂ + length (events_of t after s₁)) ≤ length room₂
    after-room e = omega (arith, bound, judged.counted, few-verdicts z u a)

    module _ {m₂ : Mem} {room₃ : Bytes} {n₃ : ℕ} {v : Bool} (second : Phased t after m₁ m₂ room₂ room₃ n₂ n₃ v) where
      -- The phases, and the verdict between them.
      pub turn-played : z ≡ (m₁ 0).status → Played t (call t (offer a) s) m₂ room room₃ n₃
      turn-played r =
          let es : List Event = events_of t (before a) s in
          let vs : List Event = verdicts z u a in
          let fs : List Event = events_of t after s₁ in
          let q : status s₁ ≡ z = held-status t m₁ ∙ ap (λ (i : ℕ). (m₁ i).status) (root-number policy) ∙ sym r in
          let seen : events (items (trace (call t (offer a) s))) ≡ (es ++ vs) ++ fs =
          turn-told t a s asked ∙ ap (λ (y : Out). es ++ (verdicts (status y.state) y.suppressed a ++ events_of t after y.state)) begun.ends
          ∙ ap (λ (y : Status). es ++ (verdicts y u a ++ fs)) q ∙ sym (append_assoc es vs fs) in
          let b = bound in
          let few = few-verdicts z u a in
          record {
            added = subst (λ (l : List Event). Added l room room₃ 0 n₃) (sym seen)
                (added_then (added_then begun.added judged (omega arith)) second.added (omega (arith, judged.counted)));
            ends = sym (ap (λ (y : Out). y.state) (turn-ends t a s asked ∙ ap (λ (y : Out). outcome (phase t after y.state)) begun.ends ∙ second.ends));
          }
