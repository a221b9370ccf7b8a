-- The loop over the trace's actions: the run from here on is the whole run.
use Prim.Native.Nat.{ℕ, zero, suc, ◌+◌, ◌≤◌, ◌<◌}
use native.Mathlib.Omega.{arith}
use native.Mathlib.Numerals.{add-one}
use mathlib.Core.Path.{◌≡◌, refl, sym, ap, ◌∙◌, subst}
use mathlib.Core.Bool.{true, false}
use mathlib.Core.List.{List, [], ◌∷◌}
use lib.ListN.{length, drop, get_or, drop_of_length-le}
use Rattle.spec_policy.specs.Bytes.{Bytes, Small}
use Rattle.spec_turns.specs.Status.{status_of, is_halted}
use Rattle.spec_turns.specs.Turn.{offer}
use Rattle.spec_turns.specs.Entries.{answers}
use Rattle.spec_trace.specs.Traces as spec
use Rattle.spec_trace.specs.Traces.{on_tail, place, went, stops, follow}
use Rattle.spec_trace.proofs.Followed.{follow-refused, follow-halts, follow-goes}
use Rattle.faults.specs.declared.Fault.{Fault}
use Rattle.std.specs.Prelude.{None, Some, Ok, Err}
use Rattle.call_answer.specs.declared.Answered.{Answered}
use Rattle.call_answer.specs.Replies.{Answer}
use Rattle.trace_call.specs.Tails.{Tailed}
use Rattle.trace_run.specs.Reports.{Report, Told, run_of, Running}
use Rattle.trace_run.proofs.RunLaws.{refuses-with, answers_with, told-refused, told-ends, after_is, long_as, runs_on}

-- one more action of a trace
add-in : (t : List ℕ) (a i : ℕ) → drop (i + 1) t ≡ drop (suc i + 1) (a ∷ t)
add-in t a i = rw (add-one i, add-one (suc i)) refl

drop_at : (t : List ℕ) (i : ℕ) → i < length t → drop i t ≡ get_or t i 0 ∷ drop (i + 1) t
drop_at [] i h = absurd (omega (arith, h))
drop_at (a ∷ t) zero h = refl
drop_at (a ∷ t) (suc i) h = drop_at t i (omega (arith, h)) ∙ ap (λ (xs : List ℕ). get_or t i 0 ∷ xs) (add-in t a i)

pub record Through (policy : Bytes) (set : ℕ) (trace state₀ events₀ : Bytes) (count root : ℕ) (steps₀ actions₀ : List ℕ) (state events : Bytes) (steps actions : List ℕ) (written status i : ℕ) : Type 0 where
  pub so_far : follow policy (drop i trace) (run_of state events written steps actions i status) ≡ follow policy trace (run_of state₀ events₀ count steps₀ actions₀ 0 root)
  pub running : Running policy set state events written status
  pub long : length events ≡ length events₀
  pub in-trace : i ≤ length trace

pub through-first : {policy : Bytes} {set : ℕ} {state events : Bytes} {count root : ℕ} (trace : Bytes) {steps actions : List ℕ} → Running policy set state events count root
    → Through policy set trace state events count root steps actions state events steps actions count root 0
through-first trace h = record { so_far = refl; running = h; long = refl; in-trace = omega arith }

module _ {policy : Bytes} {set : ℕ} {trace state₀ events₀ : Bytes} {count root : ℕ} {steps₀ actions₀ : List ℕ} {state events : Bytes} {steps actions : List ℕ} {written status i : ℕ}
    (h : Through policy set trace state₀ events₀ count root steps₀ actions₀ state events steps actions written status i) where
  abbrev x : spec.Run
  x = run_of state events written steps actions i status

  abbrev x₀ : spec.Run
  x₀ = run_of state₀ events₀ count steps₀ actions₀ 0 root

  pub through-ends : {r : Report} {state' events' : Bytes} {steps' actions' : List ℕ} → length trace ≤ i
      → Told (follow policy [] (run_of state events written steps actions i status)) r state' events' steps' actions'
      → Told (follow policy trace (run_of state₀ events₀ count steps₀ actions₀ 0 root)) r state' events' steps' actions'
  through-ends {r} {state'} {events'} {steps'} {actions'} l t =
      subst (λ (y : spec.Traced). Told y r state' events' steps' actions') (sym (ap (λ (bs : Bytes). follow policy bs x) (drop_of_length-le trace {i = i} l)) ∙ h.so_far) t

  module _ (l : i < length trace) {r : Answer} {state' events' : Bytes} {steps' actions' : List ℕ}
      (t : Tailed policy (offer (get_or trace i 0)) state events written steps actions r state' events' steps' actions') where
    -- the run from this action on
    here : follow policy (get_or trace i 0 ∷ drop (i + 1) trace) x ≡ follow policy trace x₀
    here = ap (λ (bs : Bytes). follow policy bs x) (sym (drop_at trace i l)) ∙ h.so_far

    pub through-refused : {f : Fault} → r ≡ Err f
        → Told (follow policy trace (run_of state₀ events₀ count steps₀ actions₀ 0 root)) (Ok (record { stop = Some f; judged = i; events = written; status = status })) state' events' steps' actions'
    unfolding on_tail place run_of
    through-refused {f} e = subst (λ (y : spec.Traced). Told y (Ok (record { stop = Some f; judged = i; events = written; status = status })) state' events' steps' actions')
        (sym (follow-refused policy x (get_or trace i 0) (drop (i + 1) trace) (refuses-with t e)) ∙ here) (told-refused t e h.running.a-status)

    module _ {a : Answered} (e : r ≡ Ok a) where
      replies : (on_tail policy (offer (get_or trace i 0)) x).reply ≡ answers a.events (status_of a.status)
      unfolding on_tail place run_of
      replies = answers_with t e

      pub through-halts : is_halted (status_of a.status) ≡ true
          → Told (follow policy trace (run_of state₀ events₀ count steps₀ actions₀ 0 root)) (Ok (record { stop = None; judged = i + 1; events = written + a.events; status = a.status })) state' events' steps' actions'
      unfolding run_of
      through-halts z = subst (λ (y : spec.Traced). Told y (Ok (record { stop = None; judged = i + 1; events = written + a.events; status = a.status })) state' events' steps' actions')
          (ap (λ (j : ℕ). stops spec.unrefused (went policy (offer (get_or trace i 0)) x (on_tail policy (offer (get_or trace i 0)) x) a.events (status_of a.status) j)) (add-one i)
          ∙ sym (follow-halts policy x (get_or trace i 0) (drop (i + 1) trace) replies z) ∙ here) (told-ends t e i status (i + 1))

      pub through-on : Small policy → is_halted (status_of a.status) ≡ false
          → Through policy set trace state₀ events₀ count root steps₀ actions₀ state' events' steps' actions' (written + a.events) a.status (i + 1)
      unfolding run_of
      through-on small z = record {
        so_far =
            ap (follow policy (drop (i + 1) trace)) (sym (after_is t e i status (i + 1))) ∙ goes;
        running = runs_on t e small h.running z;
        long = long_as t e h.running.inside ∙ h.long;
        in-trace = omega (arith, l);
      }
        where
          goes : follow policy (drop (i + 1) trace) (went policy (offer (get_or trace i 0)) x (on_tail policy (offer (get_or trace i 0)) x) a.events (status_of a.status) (i + 1)) ≡ follow policy trace x₀
          goes =
              ap (λ (j : ℕ). follow policy (drop (i + 1) trace) (went policy (offer (get_or trace i 0)) x (on_tail policy (offer (get_or trace i 0)) x) a.events (status_of a.status) j)) (add-one i)
              ∙ sym (follow-goes policy x (get_or trace i 0) (drop (i + 1) trace) replies z) ∙ here
