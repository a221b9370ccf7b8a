-- What is printed of a run, as the code finds it, and that there is room for it.
use Prim.Native.Nat.{ℕ, ◌-◌, ◌≤◌, ◌<◌}
use native.Mathlib.Omega.{arith}
use mathlib.Core.Path.{◌≡◌, refl, sym, ap, ap₂, ◌∙◌, subst}
use mathlib.Core.Logic.{⊎_elim}
use mathlib.Core.List.{List, ◌++◌}
use lib.ListN.{length, take, drop, replicate, length-append, length-drop, length-replicate, drop_of_length-le}
use lib.Seq.{take_all, take-length}
use borrow.Author.Tests.{lt-ltb, le-ltb}
use Rattle.spec_policy.specs.Bytes.{Bytes, Small, number}
use Rattle.spec_policy.specs.Records.{node_count, node_place, node_bytes, step_bytes}
use Rattle.spec_check.specs.Layout.{CountsFit}
use Rattle.spec_check.proofs.Ahead.{in-or-out}
use Rattle.spec_text.specs.Words.{ascii}
use Rattle.spec_turns.specs.Status.{Status}
use Rattle.spec_turns.specs.Saved.{state_size}
use Rattle.spec_trace.specs.Tallies.{Tally, step_counts, action_counts}
use Rattle.spec_trace.specs.Traces.{Stop, unrefused, refused_with, Report, unopened, followed, traces}
use Rattle.run_input.specs.Ends.{policy_end, policy_part}
use Rattle.run_report.proofs.RoomLaws.{word-length}
use Rattle.text_append.specs.Added.{Tells}
use Rattle.text_append.proofs.AddedLaws.{decimal-below, refusal-short}
use Rattle.text_print.proofs.FileLaws.{nodes-few, steps-few, nodes-are, steps-are, nodes-small, steps-small}
use Rattle.text_tally.specs.Lines.{numbered, tally_text}
use Rattle.text_tally.proofs.Lengths.{Stopped, tally-less}
use Rattle.guardtrace.specs.Shown.{ending, heading, reported, no_counts, ran, event_bytes, text_room, too_long, shown_in, shown}
use Rattle.guardtrace.specs.Meaning.{most_ending, Tellable}
use Rattle.guardtrace.proofs.SmallLaws.{SmallStop, SmallReport, run_small, run_fits}

-- ---- a run that was opened

module _ (policy : Bytes) (fit : CountsFit policy) (z : Stop) (j n : ℕ) (s : Status) (t : Tally) where
  -- the records as the code lends them: the steps' begin at `at`
  pub followed-text : (at : ℕ) → at ≡ node_place (node_count policy)
      → heading z j n s ++ tally_text (take (at - 6) (drop 6 policy)) (take (length policy - at) (drop at policy)) t ≡ reported policy (followed z j n s) t
  unfolding reported
  followed-text at e = ap₂ (λ (ns ss : Bytes). heading z j n s ++ tally_text ns ss t) (nodes-are policy fit at e) (steps-are policy fit at e)

  -- numbers of twenty digits
  heading-less : length (ending z) ≤ most_ending → j < 18_446_744_073_709_551_616 → n < 18_446_744_073_709_551_616 → length (heading z j n s) ≤ 89
  unfolding heading numbered ascii
  heading-less h p q =
      let a : j < 100_000_000_000_000_000_000 = omega arith in
      let b : n < 100_000_000_000_000_000_000 = omega arith in
      simp length-append (omega (arith, decimal-below 19 j a, decimal-below 19 n b, word-length s))

  pub followed-less : Small policy → Stopped t.steps → Stopped t.actions → length (ending z) ≤ most_ending → j < 18_446_744_073_709_551_616 → n < 18_446_744_073_709_551_616
      → length (reported policy (followed z j n s) t) ≤ text_room
  unfolding reported
  followed-less small c d h p q =
      let a = nodes-few policy fit in
      let b = steps-few policy fit in
      simp length-append (omega (arith, heading-less h p q, tally-less (node_bytes policy) (step_bytes policy) t (nodes-small policy small) (steps-small policy small) c d (omega arith) (omega arith)))

-- ---- a run

-- a refusal is short
ending-less : (z : Stop) → SmallStop z → length (ending z) ≤ most_ending
unfolding SmallStop ending ascii
ending-less unrefused h = omega arith
ending-less (refused_with f) h = omega (arith, refusal-short f h.number_small h.spot-small)

-- a run over a trace can be told
pub tellable : (policy bs state room : Bytes) (t : Tally) → Tellable policy (traces policy bs state room t).report
unfolding Tellable SmallReport
tellable policy bs state room t = go (traces policy bs state room t).report refl (run_small policy bs state room t)
  where
    go : (x : Report) → (traces policy bs state room t).report ≡ x → SmallReport x → Tellable policy x
    go (unopened f) e h = omega (arith, refusal-short f h.number_small h.spot-small)
    go (followed z j n s) e h = (run_fits policy bs state room t z j n s e, ending-less z h)

-- from what the code has of it
module _ (room policy bs : Bytes) where
  pub ran-is : (x : Report) (xs ys : List ℕ)
      → x ≡ (traces policy bs (replicate state_size 0) room (record { steps = replicate step_counts 0; actions = replicate action_counts 0 })).report
      → xs ≡ (traces policy bs (replicate state_size 0) room (record { steps = replicate step_counts 0; actions = replicate action_counts 0 })).tally.steps
      → ys ≡ (traces policy bs (replicate state_size 0) room (record { steps = replicate step_counts 0; actions = replicate action_counts 0 })).tally.actions
      → reported policy x (record { steps = xs; actions = ys }) ≡ ran room policy bs
  unfolding ran no_counts
  ran-is x xs ys e p q =
      let y = traces policy bs (replicate state_size 0) room (record { steps = replicate step_counts 0; actions = replicate action_counts 0 }) in
      ap₂ (λ (us vs : List ℕ). reported policy x (record { steps = us; actions = vs })) p q ∙ ap (λ (r : Report). reported policy r y.tally) e

-- ---- all that is read

-- the policy and the trace, where the input may be shorter than the policy is said to be
module _ (input : Bytes) (at : ℕ) (e : at ≡ policy_part input) where
  policy-is : take at input ≡ take (policy_end (number input 0 2)) input
  policy-is =
      ⊎_elim (λ l. let z : at ≡ length input = omega arith in ap (λ (k : ℕ). take k input) z ∙ take-length input ∙ sym (take_all (policy_end (number input 0 2)) input (omega arith)))
      (λ l. let z : at ≡ policy_end (number input 0 2) = omega arith in ap (λ (k : ℕ). take k input) z) (in-or-out (policy_end (number input 0 2)) (length input))

  trace-is : take (length input - at) (drop at input) ≡ drop (policy_end (number input 0 2)) input
  trace-is =
      take_all (length input - at) (drop at input) (omega (arith, length-drop at input))
      ∙ ⊎_elim (λ l. drop_of_length-le input {i = at} (omega arith) ∙ sym (drop_of_length-le input {i = policy_end (number input 0 2)} (omega arith)))
      (λ l. let z : at ≡ policy_end (number input 0 2) = omega arith in ap (λ (k : ℕ). drop k input) z) (in-or-out (policy_end (number input 0 2)) (length input))

  pub shown-long : 1_048_576 < length input - at → too_long ≡ shown input
  unfolding shown shown_in
  shown-long h = rw (shown, shown_in, lt-ltb 1048576 (length (drop (policy_end (number input 0 2)) input)) (omega (arith, length-drop (policy_end (number input 0 2)) input)))

  pub shown-run : (room : Bytes) → room ≡ replicate event_bytes 0 → length input - at ≤ 1_048_576 → ran room (take at input) (take (length input - at) (drop at input)) ≡ shown input
  unfolding shown shown_in
  shown-run room r h =
      ap₂ (ran room) policy-is trace-is ∙ ap (λ (x : Bytes). ran x (take (policy_end (number input 0 2)) input) (drop (policy_end (number input 0 2)) input)) r
      ∙ rw (shown, shown_in, le-ltb 1048576 (length (drop (policy_end (number input 0 2)) input)) (omega (arith, length-drop (policy_end (number input 0 2)) input)))

pub room-enough : (xs : Bytes) → xs ≡ replicate text_room 0 → text_room ≤ length xs
room-enough xs e = omega (arith, ap (λ (l : Bytes). length l) e ∙ length-replicate {A = ℕ} text_room 0)

pub tells_as : {buffer x y : Bytes} {end : ℕ} → Tells buffer end x → x ≡ y → Tells buffer end y
tells_as {buffer} {x} {y} {end} t e = subst (λ (w : Bytes). Tells buffer end w) e t
