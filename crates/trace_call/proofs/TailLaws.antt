-- The tail of the event buffer, lent to a call and taken back.
use mathlib.Core.Path.{◌≡◌, refl, sym, ◌∙◌, ap, subst}
use Prim.Native.Nat.{ℕ, ◌*◌, ◌-◌, ◌<◌, ◌≤◌}
use mathlib.Core.Bool.{true, false}
use mathlib.Core.List.{List, [], ◌++◌, append-nil}
use native.Mathlib.Omega.{arith}
use lib.Dec.{T}
use lib.ListN.{length, take, drop, length-drop, take-append-drop, drop_of_length-le}
use borrow.Rule.Slice.PartMut.{put_mid}
use Rattle.actions.proofs.Tests.{true-not-false}
use Rattle.spec_policy.specs.Bytes.{Bytes}
use Rattle.spec_policy.specs.Spots as spots
use Rattle.spec_policy.specs.Tree.{regulated, tree}
use Rattle.spec_check.proofs.Passed.{passed, passed-sets}
use Rattle.spec_turns.specs.Entries.{Result, refusal, carried, carried_out}
use Rattle.spec_trace.specs.Tallies.{steps_tallied, actions_tallied}
use Rattle.spec_trace.specs.Traces.{called, ran_by}
use Rattle.spec_trace.proofs.Called.{Clear, clear-open, clear-offer, clear-close, called-short, called-goes, called-thirteen}
use Rattle.faults.specs.declared.Fault.{Fault}
use Rattle.faults.specs.Meaning.{fault_of, fault_value}
use Rattle.faults.proofs.Once.{same-fault}
use Rattle.std.specs.Prelude.{Err}
use Rattle.call_answer.specs.declared.Call.{Call}
use Rattle.call_answer.specs.declared.Call.TheVariants.{Open, Offer, Close}
use Rattle.call_answer.specs.Requests.{asked}
use Rattle.call_answer.specs.Replies.{Answer, spoken, Gave}
use Rattle.call_carry.specs.Calls.{readable, Allowed}
use Rattle.trace_call.proofs.CarryLaws.{not-refused, root-answered}
use Rattle.trace_call.specs.Tails.{no_action, after_halt, Callable, if_answered, Tailed}

-- ---- the tail is lent to its end, and comes back

pub lent : (xs : Bytes) (at : ℕ) → take (length xs - at) (drop at xs) ≡ drop at xs
lent xs at =
    sym (append-nil (take (length xs - at) (drop at xs))) ∙ ap (λ (zs : Bytes). take (length xs - at) (drop at xs) ++ zs) (sym (gone xs at))
    ∙ take-append-drop (length xs - at) (drop at xs)
  where
    gone : (xs : Bytes) (at : ℕ) → drop (length xs - at) (drop at xs) ≡ []
    gone xs at = drop_of_length-le (drop at xs) {i = length xs - at} (omega (arith, length-drop at xs))

tail-back : (xs ys : Bytes) (at : ℕ) → put_mid at (length xs - at) xs ys ≡ take at xs ++ ys
tail-back xs ys at =
    ap (λ (zs : Bytes). take at xs ++ (ys ++ zs)) (drop_of_length-le (drop at xs) {i = length xs - at} (omega (arith, length-drop at xs)))
    ∙ ap (λ (zs : Bytes). take at xs ++ zs) (append-nil ys)

-- ---- the call

module _ {policy : Bytes} {set : ℕ} {state events : Bytes} {written : ℕ} {call : Call} (h : Callable policy set state events written call) where
  clear : no_action call ≡ false → Clear policy (asked call) state
  unfolding readable after_halt no_action asked
  clear = on call h.reads h.awake
    where
      on : (x : Call) → T (readable x policy state) → after_halt x state ≡ false → no_action x ≡ false → Clear policy (asked x) state
      on Open r w n = clear-open policy state h.state-size
      on (Offer a) r w n = clear-offer policy state a h.state-size r n w
      on Close r w n = clear-close policy state h.state-size r

  pub tail-allowed : 512 ≤ length events - 2 * written
      → Allowed policy state (take (length events - 2 * written) (drop (2 * written) events)) call × (set ≡ regulated (tree policy))
  tail-allowed l = (
    record {
      passed = passed policy _ _ h.passes-check;
      state-size = h.state-size;
      event-room = omega (arith, ap length (lent events (2 * written)), length-drop (2 * written) events, l);
      reads = h.reads;
    },
    (passed-sets policy _ _ h.passes-check).0,
  )

  module _ {steps actions : List ℕ} where
    refused_as : (n : ℕ) {f : Fault} → fault_of f ≡ spots.bare_fault n → called policy (asked call) state (drop (2 * written) events) ≡ refusal (spots.bare_fault n) state (drop (2 * written) events)
        → Tailed policy (asked call) state events written steps actions (Err f) state events steps actions
    unfolding refusal spoken if_answered
    refused_as n {f} t e =
        let refused : Fault → Answer = λ g. Err g in
        let given : Result = refusal (spots.bare_fault n) state (drop (2 * written) events) in
        record {
          answer = ap refused (sym (same-fault f) ∙ ap fault_value t) ∙ ap (λ (x : Result). spoken x.reply) (sym e);
          state-is = ap (λ (x : Result). x.state) (sym e);
          events-are = sym (take-append-drop (2 * written) events) ∙ ap (λ (x : Result). take (2 * written) events ++ x.events) (sym e);
          steps-are = ap (λ (x : Result). if_answered x.reply (steps_tallied policy (ran_by policy (asked call) state) steps) steps) (sym e);
          actions-are = ap (λ (x : Result). if_answered x.reply (actions_tallied (ran_by policy (asked call) state) actions) actions) (sym e);
          kept = λ z. (refl, (refl, (refl, refl)));
          wide = λ z. absurd (cc z);
          root_is = λ z. absurd (cc z);
        }

    pub tail-thirteen : {f : Fault} → fault_of f ≡ spots.bare_fault 13 → no_action call ≡ true → Tailed policy (asked call) state events written steps actions (Err f) state events steps actions
    unfolding readable no_action asked
    tail-thirteen t n = refused_as 13 t (on call h.reads n)
      where
        on : (x : Call) → T (readable x policy state) → no_action x ≡ true → called policy (asked x) state (drop (2 * written) events) ≡ refusal (spots.bare_fault 13) state (drop (2 * written) events)
        on Open r n = true-not-false n refl
        on (Offer a) r n = called-thirteen policy h.passes-check a state (drop (2 * written) events) h.state-size r n
        on Close r n = true-not-false n refl

    pub tail-short : {f : Fault} → fault_of f ≡ spots.bare_fault 15 → no_action call ≡ false → length events - 2 * written < 512
        → Tailed policy (asked call) state events written steps actions (Err f) state events steps actions
    tail-short t n l = refused_as 15 t (called-short policy h.passes-check (asked call) state (drop (2 * written) events) (clear n) (omega (arith, length-drop (2 * written) events, l)))

    -- what the call gave on the tail is what the run has there
    pub tail-goes : {r : Answer} {state' room' : Bytes} {steps' actions' : List ℕ} → no_action call ≡ false → 512 ≤ length events - 2 * written
        → Gave (carried_out policy (asked call) state (take (length events - 2 * written) (drop (2 * written) events))) r state' room'
        → steps' ≡ steps_tallied policy (ran_by policy (asked call) state) steps → actions' ≡ actions_tallied (ran_by policy (asked call) state) actions
        → Tailed policy (asked call) state events written steps actions r state' (put_mid (2 * written) (length events - 2 * written) events room') steps' actions'
    unfolding carried_out carried if_answered
    tail-goes {r} {state'} {room'} n l g es ea =
        let g' = subst (λ (bs : Bytes). Gave (carried_out policy (asked call) state bs) r state' room') (lent events (2 * written)) g in
        let e : called policy (asked call) state (drop (2 * written) events) ≡ carried_out policy (asked call) state (drop (2 * written) events) =
        called-goes policy h.passes-check (asked call) state (drop (2 * written) events) (clear n) (omega (arith, length-drop (2 * written) events, l)) in
        record {
          answer = g'.answer ∙ ap (λ (x : Result). spoken x.reply) (sym e);
          state-is = g'.state ∙ ap (λ (x : Result). x.state) (sym e);
          events-are = tail-back events room' (2 * written) ∙ ap (λ (bs : Bytes). take (2 * written) events ++ bs) (g'.events ∙ ap (λ (x : Result). x.events) (sym e));
          steps-are = es ∙ ap (λ (x : Result). if_answered x.reply (steps_tallied policy (ran_by policy (asked call) state) steps) steps) (sym e);
          actions-are = ea ∙ ap (λ (x : Result). if_answered x.reply (actions_tallied (ran_by policy (asked call) state) actions) actions) (sym e);
          kept = λ z. absurd (not-refused policy (asked call) state _ g z);
          wide = λ z. omega (arith, length-drop (2 * written) events, l);
          root_is = λ z. root-answered policy (asked call) state _ g z;
        }
