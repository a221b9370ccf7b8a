-- The code's report, and the words that stand for it.
use Prim.Native.Nat.{ℕ}
use mathlib.Core.Path.{◌≡◌, refl, sym, ap, ◌∙◌}
use mathlib.Core.List.{List, [], ◌∷◌}
use Rattle.spec_policy.specs.Bytes.{Bytes}
use Rattle.spec_turns.specs.Status.{status_number}
use Rattle.spec_trace.specs.Traces as spec
use Rattle.faults.specs.declared.Fault.{Fault}
use Rattle.faults.specs.Meaning.{fault_of, fault_value, fault_word}
use Rattle.faults.proofs.Once.{value-means}
use Rattle.std.specs.Prelude.{None, Some, Ok, Err}
use Rattle.trace_run.specs.declared.Followed.{Followed}
use Rattle.trace_run.specs.Reports.{Report, stop_value, report_value, Told}
use Rattle.fretmere_trace.specs.Words.{stop_word, trace_word, reported, Gave}

-- ---- how the run ended

pub unrefused-word : (z : spec.Stop) → None ≡ stop_value z → 0 ≡ stop_word z
unfolding stop_value stop_word
unrefused-word spec.unrefused e = refl
unrefused-word (spec.refused_with f) e = cc

pub refused-word : (f : Fault) (z : spec.Stop) → Some f ≡ stop_value z → fault_word (fault_of f) ≡ stop_word z
unfolding stop_value stop_word
refused-word f spec.unrefused e = cc
refused-word f (spec.refused_with g) e = let a : fault_value g ≡ f = cc in ap fault_word (value-means f g a)

-- ---- the report

unopened-word : (f : Fault) (y : spec.Report) → Err f ≡ report_value y → fault_word (fault_of f) ≡ trace_word y
unfolding report_value trace_word
unopened-word f (spec.unopened g) e = let a : fault_value g ≡ f = cc in ap fault_word (value-means f g a)
unopened-word f (spec.followed z j n s) e = cc

unopened-words : (f : Fault) (y : spec.Report) → Err f ≡ report_value y → 0 ∷ 0 ∷ 0 ∷ [] ≡ reported y
unfolding report_value reported
unopened-words f (spec.unopened g) e = refl
unopened-words f (spec.followed z j n s) e = cc

-- the word of its end is the whole's
followed-word : (a : Followed) (r : ℕ) (y : spec.Report) → Ok a ≡ report_value y → ((t : spec.Stop) → a.stop ≡ stop_value t → r ≡ stop_word t) → r ≡ trace_word y
unfolding report_value trace_word
followed-word a r (spec.unopened g) e h = cc
followed-word a r (spec.followed t j n s) e h =
    let said : a ≡ record { stop = stop_value t; judged = j; events = n; status = status_number s } = cc in
    h t (ap (λ (b : Followed). b.stop) said)

followed-words : (a : Followed) (y : spec.Report) → Ok a ≡ report_value y → a.judged ∷ a.events ∷ a.status ∷ [] ≡ reported y
unfolding report_value reported
followed-words a (spec.unopened g) e = cc
followed-words a (spec.followed t j n s) e =
    let said : a ≡ record { stop = stop_value t; judged = j; events = n; status = status_number s } = cc in
    ap (λ (b : Followed). b.judged ∷ b.events ∷ b.status ∷ []) said

module _ {x : spec.Traced} {state events : Bytes} {steps actions : List ℕ} {r : ℕ} where
  pub unopened-gave : {f : Fault} {told : Report} → told ≡ Err f → Told x told state events steps actions → r ≡ fault_word (fault_of f) → Gave x r (0 ∷ 0 ∷ 0 ∷ []) state events steps actions
  unopened-gave {f} {told} e t w =
      let h : Err f ≡ report_value x.report = sym e ∙ t.report in
      record {
        word = w ∙ unopened-word f _ h;
        report-is = unopened-words f _ h;
        state-is = t.state-is;
        events-are = t.events-are;
        steps-are = t.steps-are;
        actions-are = t.actions-are;
      }

  pub followed-gave : {a : Followed} {told : Report} → told ≡ Ok a → Told x told state events steps actions → ((t : spec.Stop) → a.stop ≡ stop_value t → r ≡ stop_word t)
      → {s : ℕ} → s ≡ a.status → Gave x r (a.judged ∷ a.events ∷ s ∷ []) state events steps actions
  followed-gave {a} {told} e t w {s} f =
      let h : Ok a ≡ report_value x.report = sym e ∙ t.report in
      record {
        word = followed-word a r _ h w;
        report-is = ap (λ (b : ℕ). a.judged ∷ a.events ∷ b ∷ []) f ∙ followed-words a _ h;
        state-is = t.state-is;
        events-are = t.events-are;
        steps-are = t.steps-are;
        actions-are = t.actions-are;
      }
