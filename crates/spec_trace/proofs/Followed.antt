-- The run, from what a call of it answers.
use Prim.Native.Nat.{ℕ, suc}
use mathlib.Core.Path.{◌≡◌, refl, ap, ◌∙◌}
use mathlib.Core.Bool.{Bool, true, false}
use mathlib.Core.List.{List, [], ◌∷◌}
use Rattle.actions.specs.Sets.{Action}
use Rattle.spec_policy.specs.Bytes.{Bytes}
use Rattle.spec_policy.specs.Spots.{Fault}
use Rattle.spec_turns.specs.Status.{Status, is_halted}
use Rattle.spec_turns.specs.Turn.{opening, offer, close}
use Rattle.spec_turns.specs.Entries.{Reply, answers, refuses}
use Rattle.spec_trace.specs.Tallies.{Tally}
use Rattle.spec_trace.specs.Traces.{Run, called, on_tail, went, unrefused, refused_with, unopened, Traced, stops, follow, unbegun, traces}

module _ (policy : Bytes) (x : Run) where
  module _ (a : Action) (bs : List Action) where
    by-reply : Reply → Traced
    by-reply (refuses f) = stops (refused_with f) x
    by-reply (answers n s) =
        elim (is_halted s) [
          | true ↦ stops unrefused (went policy (offer a) x (on_tail policy (offer a) x) n s (suc x.judged))
          | false ↦ follow policy bs (went policy (offer a) x (on_tail policy (offer a) x) n s (suc x.judged))
        ]

    follow-is : follow policy (a ∷ bs) x ≡ by-reply (on_tail policy (offer a) x).reply
    unfolding follow by-reply
    follow-is = go (on_tail policy (offer a) x).reply
      where
        go : (y : Reply) → ◌≡◌ {A = Traced} (elim y [
          | refuses f ↦ stops (refused_with f) x
          | answers n s ↦ elim (is_halted s) [
            | true ↦ stops unrefused (went policy (offer a) x (on_tail policy (offer a) x) n s (suc x.judged))
            | false ↦ follow policy bs (went policy (offer a) x (on_tail policy (offer a) x) n s (suc x.judged))
          ]
        ]) (by-reply y)
        go (refuses f) = refl
        go (answers n s) = refl

    pub follow-refused : {f : Fault} → (on_tail policy (offer a) x).reply ≡ refuses f → follow policy (a ∷ bs) x ≡ stops (refused_with f) x
    unfolding by-reply
    follow-refused e = follow-is ∙ ap by-reply e

    module _ {n : ℕ} {s : Status} (e : (on_tail policy (offer a) x).reply ≡ answers n s) where
      pub follow-halts : is_halted s ≡ true → follow policy (a ∷ bs) x ≡ stops unrefused (went policy (offer a) x (on_tail policy (offer a) x) n s (suc x.judged))
      unfolding by-reply
      follow-halts h = follow-is ∙ ap by-reply e ∙ ap (λ (b : Bool). elim b [
        | true ↦ stops unrefused (went policy (offer a) x (on_tail policy (offer a) x) n s (suc x.judged))
        | false ↦ follow policy bs (went policy (offer a) x (on_tail policy (offer a) x) n s (suc x.judged))
      ]) h

      pub follow-goes : is_halted s ≡ false → follow policy (a ∷ bs) x ≡ follow policy bs (went policy (offer a) x (on_tail policy (offer a) x) n s (suc x.judged))
      unfolding by-reply
      follow-goes h = follow-is ∙ ap by-reply e ∙ ap (λ (b : Bool). elim b [
        | true ↦ stops unrefused (went policy (offer a) x (on_tail policy (offer a) x) n s (suc x.judged))
        | false ↦ follow policy bs (went policy (offer a) x (on_tail policy (offer a) x) n s (suc x.judged))
      ]) h

  -- ---- closing

  closes_by : Reply → Traced
  closes_by (refuses f) = stops (refused_with f) x
  closes_by (answers n s) = stops unrefused (went policy close x (on_tail policy close x) n s x.judged)

  close-is : follow policy [] x ≡ closes_by (on_tail policy close x).reply
  unfolding follow closes_by
  close-is = go (on_tail policy close x).reply
    where
      go : (y : Reply) → ◌≡◌ {A = Traced} (elim y [
        | refuses f ↦ stops (refused_with f) x
        | answers n s ↦ stops unrefused (went policy close x (on_tail policy close x) n s x.judged)
      ]) (closes_by y)
      go (refuses f) = refl
      go (answers n s) = refl

  pub close-refused : {f : Fault} → (on_tail policy close x).reply ≡ refuses f → follow policy [] x ≡ stops (refused_with f) x
  unfolding closes_by
  close-refused e = close-is ∙ ap closes_by e

  pub close-answered : {n : ℕ} {s : Status} → (on_tail policy close x).reply ≡ answers n s → follow policy [] x ≡ stops unrefused (went policy close x (on_tail policy close x) n s x.judged)
  unfolding closes_by
  close-answered e = close-is ∙ ap closes_by e

-- ---- opening

module _ (policy : Bytes) (bs : List Action) (state room : Bytes) (t : Tally) where
  opened : ℕ → Status → Run
  opened n s = went policy opening (unbegun state room t s) (called policy opening state room) n s 0

  opens_by : Reply → Traced
  opens_by (refuses f) = record { report = unopened f; state = state; events = room; tally = t }
  opens_by (answers n s) = elim (is_halted s) [ true ↦ stops unrefused (opened n s) | false ↦ follow policy bs (opened n s) ]

  open_is : traces policy bs state room t ≡ opens_by (called policy opening state room).reply
  unfolding traces opens_by opened
  open_is = go (called policy opening state room).reply
    where
      go : (y : Reply) → ◌≡◌ {A = Traced} (elim y [
        | refuses f ↦ record { report = unopened f; state = state; events = room; tally = t }
        | answers n s ↦ elim (is_halted s) [
          | true ↦ stops unrefused (went policy opening (unbegun state room t s) (called policy opening state room) n s 0)
          | false ↦ follow policy bs (went policy opening (unbegun state room t s) (called policy opening state room) n s 0)
        ]
      ]) (opens_by y)
      go (refuses f) = refl
      go (answers n s) = refl

  pub open-refused : {f : Fault} → (called policy opening state room).reply ≡ refuses f → traces policy bs state room t ≡ record { report = unopened f; state = state; events = room; tally = t }
  unfolding opens_by
  open-refused e = open_is ∙ ap opens_by e

  module _ {n : ℕ} {s : Status} (e : (called policy opening state room).reply ≡ answers n s) where
    pub open-halts : is_halted s ≡ true → traces policy bs state room t ≡ stops unrefused (went policy opening (unbegun state room t s) (called policy opening state room) n s 0)
    unfolding opens_by opened
    open-halts h = open_is ∙ ap opens_by e ∙ ap (λ (b : Bool). elim b [ true ↦ stops unrefused (opened n s) | false ↦ follow policy bs (opened n s) ]) h

    pub open-goes : is_halted s ≡ false → traces policy bs state room t ≡ follow policy bs (went policy opening (unbegun state room t s) (called policy opening state room) n s 0)
    unfolding opens_by opened
    open-goes h = open_is ∙ ap opens_by e ∙ ap (λ (b : Bool). elim b [ true ↦ stops unrefused (opened n s) | false ↦ follow policy bs (opened n s) ]) h
