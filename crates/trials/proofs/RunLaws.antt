-- Laws of a trace run's bytes.
use Prim.Native.Nat.{ℕ, ◌+◌, ◌-◌, ◌≤◌}
use native.Mathlib.Omega.{arith}
use mathlib.Core.Path.{◌≡◌, refl, sym, ap, ◌∙◌, subst}
use mathlib.Core.List.{List, [], ◌∷◌, ◌++◌}
use lib.ListN.{length, take, drop, length-drop}
use lib.Seq.{take-length, length-take-le}
use borrow.Author.Tests.{eq-eqb, ne_eqb}
use Rattle.spec_policy.specs.Bytes.{Bytes, spell}
use Rattle.spec_policy.specs.Spots as spots
use Rattle.spec_turns.specs.Status.{status_number}
use Rattle.spec_trace.specs.Traces as runs
use Rattle.faults.specs.declared.Fault.{Fault}
use Rattle.faults.specs.Meaning.{fault_of, fault_value}
use Rattle.faults.proofs.Once.{value-means}
use Rattle.std.specs.Prelude.{None, Some, Ok, Err}
use Rattle.trace_run.specs.Reports.{Report, stop_value, report_value, Told}
use Rattle.trace_run.specs.declared.Followed.{Followed}
use Rattle.run_input.specs.Ends.{policy_part}
use Rattle.trials.specs.declared.calls.Parts.{Parts}
use Rattle.trials.specs.Calls.{Placed, part, policy_in, state_in, refusal_bytes, no_refusal}
use Rattle.trials.specs.Runs.{trace_of, trace_called, stop_fault, report_bytes, Traced, tally_start}
use Rattle.trials.proofs.CallLaws.{policy-part, state-part, events-part, front}

-- ---- the report

pub stop-none : (z : runs.Stop) → None ≡ stop_value z → no_refusal ≡ stop_fault z
unfolding stop_value stop_fault
stop-none runs.unrefused e = refl
stop-none (runs.refused_with g) e = let z : ◌≡◌ {A = ℕ} 0 1 = cc in absurd (omega arith)

pub stop-some : (f : Fault) (z : runs.Stop) → Some f ≡ stop_value z → fault_of f ≡ stop_fault z
unfolding stop_value stop_fault
stop-some f runs.unrefused e = let z : ◌≡◌ {A = ℕ} 0 1 = cc in absurd (omega arith)
stop-some f (runs.refused_with g) e = let a : fault_value g ≡ f = cc in value-means f g a

pub unopened-bytes : (f : Fault) (bs : Bytes) (x : runs.Report) → Err f ≡ report_value x
    → bs ≡ refusal_bytes (fault_of f) ++ (spell 4 0 ++ (spell 4 0 ++ (0 ∷ []))) → bs ≡ report_bytes x
unfolding report_value report_bytes
unopened-bytes f bs (runs.unopened g) e h =
    let a : fault_value g ≡ f = cc in h ∙ ap (λ (k : spots.Fault). refusal_bytes k ++ (spell 4 0 ++ (spell 4 0 ++ (0 ∷ [])))) (value-means f g a)
unopened-bytes f bs (runs.followed z j n s) e h = let z : ◌≡◌ {A = ℕ} 0 1 = cc in absurd (omega arith)

pub followed-bytes : (t : Followed) (f : Fault) (bs : Bytes) (x : runs.Report) → Ok t ≡ report_value x
    → ((z : runs.Stop) → t.stop ≡ stop_value z → fault_of f ≡ stop_fault z)
    → bs ≡ refusal_bytes (fault_of f) ++ (spell 4 t.judged ++ (spell 4 t.events ++ (t.status ∷ []))) → bs ≡ report_bytes x
unfolding report_value report_bytes
followed-bytes t f bs (runs.unopened g) e s h = let z : ◌≡◌ {A = ℕ} 0 1 = cc in absurd (omega arith)
followed-bytes t f bs (runs.followed z a b c) e s h =
    let said : t ≡ record { stop = stop_value z; judged = a; events = b; status = status_number c } = cc in
    let p : t.stop ≡ stop_value z = ap (λ (y : Followed). y.stop) said in
    let q : t.judged ≡ a = ap (λ (y : Followed). y.judged) said in
    let r : t.events ≡ b = ap (λ (y : Followed). y.events) said in
    let u : t.status ≡ status_number c = ap (λ (y : Followed). y.status) said in
    h ∙ λ i. refusal_bytes (s z p i) ++ (spell 4 (q i) ++ (spell 4 (r i) ++ (u i ∷ [])))

-- ---- the run

pub ran-trace : (given state events : Bytes) (steps actions : List ℕ) (end : ℕ) (r : Report) (s e : Bytes) (ss as' : List ℕ) → end ≡ policy_part given
    → Told (runs.traces (take end given) (take (length given - end) (drop end given)) state events (record { steps = steps; actions = actions })) r s e ss as'
    → Told (trace_of given state events steps actions) r s e ss as'
unfolding trace_of
ran-trace given state events steps actions end r s e ss as' h t =
    let d : take (length given - end) (drop end given) ≡ drop end given = ap (λ (k : ℕ). take k (drop end given)) (sym (length-drop end given)) ∙ take-length (drop end given) in
    let t = subst (λ (y : Bytes). Told (runs.traces (take end given) y state events (record { steps = steps; actions = actions })) r s e ss as') d t in
    subst (λ (k : ℕ). Told (runs.traces (take k given) (drop k given) state events (record { steps = steps; actions = actions })) r s e ss as') h t

-- a run on its own parts
pub made-run : (bs : Bytes) (c : Parts) (s e s' e' x y reply : Bytes) (m n : ℕ) (r : Report) (steps actions ss as' : List ℕ) → Placed bs c
    → m ≡ c.state - (c.policy + 2) → take m s ≡ part (c.policy + 2) c.state bs → m ≤ length s
    → n ≡ c.events - (c.state + 2) → take n e ≡ part (c.state + 2) c.events bs → n ≤ length e
    → Told (trace_of (part 3 c.policy bs) (take m s) (take n e) steps actions) r s' e' ss as' → length s' ≡ length (take m s) → length e' ≡ length (take n e)
    → ((z : runs.Report) → r ≡ report_value z → reply ≡ report_bytes z)
    → Traced (trace_called bs steps actions) reply (take (c.state - (c.policy + 2)) (s' ++ x)) (take (c.events - (c.state + 2)) (e' ++ y)) ss as'
unfolding trace_called
made-run bs c s e s' e' x y reply m n r steps actions ss as' p ms sp mi ne ep ni g ls le rb =
    let q = subst (λ (z : Bytes). Told (trace_of z (take m s) (take n e) steps actions) r s' e' ss as') (policy-part bs c p) g in
    let q = subst (λ (z : Bytes). Told (trace_of (policy_in bs) z (take n e) steps actions) r s' e' ss as') (sp ∙ state-part bs c p) q in
    let q = subst (λ (z : Bytes). Told (trace_of (policy_in bs) (state_in bs) z steps actions) r s' e' ss as') (ep ∙ events-part bs c p) q in
    record {
      report = rb _ q.report;
      state = front s' x (c.state - (c.policy + 2)) m (sym ms) (ls ∙ length-take-le m s mi) ∙ q.state-is;
      events = front e' y (c.events - (c.state + 2)) n (sym ne) (le ∙ length-take-le n e ni) ∙ q.events-are;
      steps-are = q.steps-are;
      actions-are = q.actions-are;
    }

-- ---- where counts begin

pub start-zero : (a : ℕ) → a ≡ 0 → 0 ≡ tally_start a
unfolding tally_start
start-zero a e = sym (rw (eq-eqb a 0 e, tally_start))

pub start-below : (a : ℕ) → (a ≡ 0 → ⊥) → a ≤ 255 → 4294967295 - (a - 1) ≡ tally_start a
unfolding tally_start
start-below a h l = rw (ne_eqb a 0 h, tally_start) (omega arith)
