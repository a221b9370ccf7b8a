-- The run's beginning: the check, the state's size, and opening.
use Prim.Native.Nat.{ℕ, ◌+◌}
use native.Mathlib.Omega.{arith}
use native.Mathlib.Nat.{zero-add}
use mathlib.Core.Path.{◌≡◌, refl, sym, ap, ◌∙◌, subst}
use mathlib.Core.Bool.{true, false}
use mathlib.Core.List.{List}
use lib.ListN.{length}
use Rattle.spec_policy.specs.Bytes.{Bytes, Small}
use Rattle.spec_policy.specs.Spots as spots
use Rattle.spec_check.specs.Check.{passes, refused, check}
use Rattle.spec_turns.specs.Status.{status_of, is_halted}
use Rattle.spec_turns.specs.Turn.{opening}
use Rattle.spec_turns.specs.Saved.{state_size}
use Rattle.spec_turns.specs.Entries.{Result, refuses, refusal}
use Rattle.spec_trace.specs.Tallies.{Tally}
use Rattle.spec_trace.specs.Traces as spec
use Rattle.spec_trace.specs.Traces.{called, on_tail, place, follow, unbegun, traces}
use Rattle.spec_trace.proofs.Called.{called-unpassed, called-eleven}
use Rattle.spec_trace.proofs.Followed.{open-refused, open-halts, open-goes}
use Rattle.faults.specs.declared.Fault.{Fault}
use Rattle.faults.specs.Meaning.{fault_of}
use Rattle.faults.proofs.Once.{same-fault}
use Rattle.std.specs.Prelude.{None, Ok, Err}
use Rattle.call_answer.specs.declared.Answered.{Answered}
use Rattle.call_answer.specs.Replies.{Answer}
use Rattle.call_answer.specs.declared.Call.TheVariants.{Open}
use Rattle.call_carry.specs.Calls.{readable}
use Rattle.trace_call.specs.Tails.{after_halt, Callable, Tailed}
use Rattle.trace_run.specs.Reports.{Report, report_value, Told, run_of, Running}
use Rattle.trace_run.proofs.RunLaws.{refuses-with, answers_with, told-ends, after_is, runs-from}

pub may-open : (policy state events : Bytes) {set e : ℕ} → check policy ≡ passes set e → length state ≡ state_size → Callable policy set state events 0 Open
unfolding readable after_halt
may-open policy state events {set} {e} ok size = record { effects = e; passes-check = ok; state-size = size; reads = tt; awake = refl; inside = omega arith }

module _ (policy trace state events : Bytes) (steps actions : List ℕ) where
  abbrev unopened : Fault → Report
  unopened f = Err f

  abbrev t₀ : Tally
  t₀ = record { steps = steps; actions = actions }

  -- a refusal before anything is written
  unopened-told : {f : Fault} → (called policy opening state events).reply ≡ refuses (fault_of f) → Told (traces policy trace state events (record { steps = steps; actions = actions })) (Err f) state events steps actions
  unfolding report_value
  unopened-told {f} e = subst (λ (x : spec.Traced). Told x (Err f) state events steps actions) (sym (open-refused policy trace state events t₀ e))
      (record { report = ap unopened (sym (same-fault f)); state-is = refl; events-are = refl; steps-are = refl; actions-are = refl })

  pub unpassed-told : {f : Fault} {g : spots.Fault} → check policy ≡ refused g → fault_of f ≡ g → Told (traces policy trace state events (record { steps = steps; actions = actions })) (Err f) state events steps actions
  unfolding refusal
  unpassed-told ok e = unopened-told (ap (λ (x : Result). x.reply) (called-unpassed policy ok opening state events) ∙ ap refuses (sym e))

  pub eleven-told : {f : Fault} {r e : ℕ} → check policy ≡ passes r e → (length state ≡ state_size → ⊥) → fault_of f ≡ spots.bare_fault 11
      → Told (traces policy trace state events (record { steps = steps; actions = actions })) (Err f) state events steps actions
  unfolding refusal
  eleven-told ok ne t = unopened-told (ap (λ (x : Result). x.reply) (called-eleven policy ok state events ne) ∙ ap refuses (sym t))

  module _ {r : Answer} {state' events' : Bytes} {steps' actions' : List ℕ} (t : Tailed policy opening state events 0 steps actions r state' events' steps' actions') where
    pub refused-told : {f : Fault} → r ≡ Err f → Told (traces policy trace state events (record { steps = steps; actions = actions })) (Err f) state' events' steps' actions'
    unfolding report_value
    refused-told {f} e =
        let k = t.kept e in
        subst (λ (x : spec.Traced). Told x (Err f) state' events' steps' actions') (sym (open-refused policy trace state events t₀ (refuses-with t e)))
        (record { report = ap unopened (sym (same-fault f)); state-is = k.0; events-are = k.1.0; steps-are = k.1.1.0; actions-are = k.1.1.1 })

    module _ {a : Answered} (e : r ≡ Ok a) where
      pub halts-told : is_halted (status_of a.status) ≡ true → Told (traces policy trace state events (record { steps = steps; actions = actions })) (Ok (record { stop = None; judged = 0; events = a.events; status = a.status })) state' events' steps' actions'
      unfolding on_tail place run_of unbegun
      halts-told h =
          let ended : ℕ → Report = λ m. Ok (record { stop = None; judged = 0; events = m; status = a.status }) in
          subst (λ (m : ℕ). Told (traces policy trace state events t₀) (ended m) state' events' steps' actions') (zero-add a.events)
          (subst (λ (x : spec.Traced). Told x (ended (0 + a.events)) state' events' steps' actions') (sym (open-halts policy trace state events t₀ (answers_with t e) h)) (told-ends t e 0 a.status 0))

      pub goes-told : is_halted (status_of a.status) ≡ false → {x : Report} {state'' events'' : Bytes} {steps'' actions'' : List ℕ}
          → Told (follow policy trace (run_of state' events' a.events steps' actions' 0 a.status)) x state'' events'' steps'' actions''
          → Told (traces policy trace state events (record { steps = steps; actions = actions })) x state'' events'' steps'' actions''
      unfolding on_tail place run_of unbegun
      goes-told h {x} {state''} {events''} {steps''} {actions''} g =
          subst (λ (y : spec.Traced). Told y x state'' events'' steps'' actions'')
          (ap (λ (m : ℕ). follow policy trace (run_of state' events' m steps' actions' 0 a.status)) (sym (zero-add a.events)) ∙ ap (follow policy trace) (sym (after_is t e 0 a.status 0))
          ∙ sym (open-goes policy trace state events t₀ (answers_with t e) h)) g

      pub runs : {set effects : ℕ} → Small policy → check policy ≡ passes set effects → is_halted (status_of a.status) ≡ false → Running policy set state' events' a.events a.status
      runs {set} {effects} small ok h = subst (λ (m : ℕ). Running policy set state' events' m a.status) (zero-add a.events) (runs-from t e small effects ok (omega arith) h)
