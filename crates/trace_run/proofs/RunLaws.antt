-- The run while it goes on: what one of its calls leaves, and what it gives where it stops.
use Prim.Native.Nat.{ℕ, ◌+◌, ◌*◌, ◌≤◌}
use native.Mathlib.Omega.{arith}
use mathlib.Core.Path.{◌≡◌, refl, sym, ap, ap₂, ◌∙◌, subst}
use mathlib.Core.Bool.{false}
use mathlib.Core.List.{List, []}
use lib.Dec.{T}
use lib.ListN.{length, take, drop, length-append, length-drop, take-append-drop}
use Rattle.spec_policy.specs.Bytes.{Bytes, Small}
use Rattle.spec_policy.specs.Tree.{tree}
use Rattle.spec_check.specs.Check.{passes, check}
use Rattle.spec_check.proofs.Numbers.{root-number}
use Rattle.spec_turns.specs.Status.{status_number, status_of, is_halted}
use Rattle.spec_turns.specs.State.{State, status}
use Rattle.spec_turns.specs.Process.{outcome}
use Rattle.spec_turns.specs.Turn as Turn
use Rattle.spec_turns.specs.Turn.{Request, close}
use Rattle.spec_turns.specs.Saved.{state_size, cells, status_at, load, fits}
use Rattle.spec_turns.specs.Entries.{Reply, answers, refuses, Result, entry, broken14}
use Rattle.laws_turns.specs.Calls.{Leaves, Emits}
use Rattle.laws_turns.proofs.Bounds.{answered-emits}
use Rattle.laws_turns.proofs.Cells.{status-back}
use Rattle.laws_turns.proofs.Fits.{status-at}
use Rattle.laws_turns.proofs.Lasting.{answered-leaves}
use Rattle.spec_trace.specs.Tallies.{tallied}
use Rattle.spec_trace.specs.Traces as spec
use Rattle.spec_trace.specs.Traces.{called, on_tail, place, went, stops, follow}
use Rattle.spec_trace.proofs.Single.{as-single}
use Rattle.spec_trace.proofs.Followed.{close-refused, close-answered}
use Rattle.faults.specs.declared.Fault.{Fault}
use Rattle.faults.specs.Meaning.{fault_of}
use Rattle.faults.proofs.Once.{same-fault, same-meaning}
use Rattle.std.specs.Prelude.{None, Some, Ok, Err}
use Rattle.call_answer.specs.declared.Answered.{Answered}
use Rattle.call_answer.specs.Replies.{Answer, spoken}
use Rattle.call_answer.specs.declared.Call.TheVariants.{Offer, Close}
use Rattle.call_carry.specs.Calls.{readable}
use Rattle.trace_call.specs.Tails.{after_halt, Callable, if_answered, Tailed}
use Rattle.trace_run.specs.Reports.{Report, stop_value, report_value, Told, run_of, Running}

-- ---- what a call asks

module _ {policy : Bytes} {set : ℕ} {state events : Bytes} {written root : ℕ} (h : Running policy set state events written root) where
  pub may-close : Callable policy set state events written Close
  unfolding readable after_halt
  may-close = record { effects = h.effects; passes-check = h.passes-check; state-size = h.state-size; reads = h.state-fits; awake = refl; inside = h.inside }

  pub may-offer : (a : ℕ) → Callable policy set state events written (Offer a)
  unfolding readable after_halt
  may-offer a = record { effects = h.effects; passes-check = h.passes-check; state-size = h.state-size; reads = h.state-fits; awake = h.awake; inside = h.inside }

-- ---- what it answers

-- the code's answer is the reply's value, so the reply is the answer's meaning
is_answers : Answer → Reply
is_answers (Ok a) = answers a.events (status_of a.status)
is_answers (Err f) = refuses (fault_of f)

means : (y : Reply) → is_answers (spoken y) ≡ y
unfolding is_answers spoken
means (answers n s) = ap (answers n) (status-back s)
means (refuses f) = ap refuses (same-meaning f)

module _ {policy : Bytes} {q : Request} {state events : Bytes} {written : ℕ} {steps actions : List ℕ} {r : Answer} {state' events' : Bytes} {steps' actions' : List ℕ}
    (t : Tailed policy q state events written steps actions r state' events' steps' actions') where
  abbrev room : Bytes
  room = drop (2 * written) events

  module _ {f : Fault} (e : r ≡ Err f) where
    pub refuses-with : (called policy q state (drop (2 * written) events)).reply ≡ refuses (fault_of f)
    unfolding is_answers
    refuses-with = sym (means (called policy q state room).reply) ∙ ap is_answers (sym t.answer ∙ e)

    -- the run stops, and has what it had
    pub told-refused : {judged root : ℕ} → root ≡ status_number (status_of root)
        → Told (stops (spec.refused_with (fault_of f)) (run_of state events written steps actions judged root)) (Ok (record { stop = Some f; judged = judged; events = written; status = root })) state' events' steps' actions'
    unfolding stops run_of report_value stop_value
    told-refused {judged} {root} c =
        let k = t.kept e in
        let stopped : Fault → ℕ → Report = λ g s. Ok (record { stop = Some g; judged = judged; events = written; status = s }) in
        record {
          report = ap₂ stopped (sym (same-fault f)) c;
          state-is = k.0;
          events-are = k.1.0;
          steps-are = k.1.1.0;
          actions-are = k.1.1.1;
        }

  module _ {a : Answered} (e : r ≡ Ok a) where
    pub answers_with : (called policy q state (drop (2 * written) events)).reply ≡ answers a.events (status_of a.status)
    unfolding is_answers
    answers_with = sym (means (called policy q state room).reply) ∙ ap is_answers (sym t.answer ∙ e)

    abbrev end : State
    end = (outcome (Turn.call (tree policy) q (load (tree policy) (cells state)))).state

    root-status : status_of a.status ≡ status end
    root-status = ap status_of (t.root_is e) ∙ status-back (status end)

    pub status-byte : a.status ≡ status_number (status_of a.status)
    status-byte = t.root_is e ∙ ap status_number (sym root-status)

    -- the run after it
    pub after_is : (judged root j : ℕ) → went policy q (run_of state events written steps actions judged root) (on_tail policy q (run_of state events written steps actions judged root)) a.events (status_of a.status) j
        ≡ run_of state' events' (written + a.events) steps' actions' j a.status
    unfolding went run_of on_tail place tallied if_answered
    after_is judged root j =
        let up : (xs ys : List ℕ) → if_answered (called policy q state room).reply xs ys ≡ xs = λ xs ys. ap (λ (y : Reply). if_answered y xs ys) answers_with in
        λ i. record {
          state = sym t.state-is i;
          events = sym t.events-are i;
          count = written + a.events;
          tally = record { steps = sym (t.steps-are ∙ up _ steps) i; actions = sym (t.actions-are ∙ up _ actions) i };
          judged = j;
          root = status_of a.status;
        }

    -- where the run ends with it
    pub told-ends : (judged root j : ℕ)
        → Told (stops spec.unrefused (went policy q (run_of state events written steps actions judged root) (on_tail policy q (run_of state events written steps actions judged root)) a.events (status_of a.status) j)) (Ok (record { stop = None; judged = j; events = written + a.events; status = a.status })) state' events' steps' actions'
    unfolding stops run_of report_value stop_value
    told-ends judged root j =
        let ended : ℕ → Report = λ b. Ok (record { stop = None; judged = j; events = written + a.events; status = b }) in
        subst (λ (x : spec.Run). Told (stops spec.unrefused x) (ended a.status) state' events' steps' actions') (sym (after_is judged root j))
        (record { report = ap ended status-byte; state-is = refl; events-are = refl; steps-are = refl; actions-are = refl })

    as-entry : called policy q state room ≡ entry policy q state room
    as-entry = as-single policy q state room (t.wide e)

    entry-answers : (entry policy q state room).reply ≡ answers a.events (status_of a.status)
    entry-answers = ap (λ (x : Result). x.reply) (sym as-entry) ∙ answers_with

    emits : Emits policy q state room a.events
    emits = answered-emits policy q state room a.events (status_of a.status) entry-answers

    pub long_as : 2 * written ≤ length events → length events' ≡ length events
    long_as i =
        ap length t.events-are ∙ length-append (take (2 * written) events) (called policy q state room).events
        ∙ ap (λ (m : ℕ). length (take (2 * written) events) + m) (ap (λ (x : Result). length x.events) as-entry ∙ emits.same_length)
        ∙ sym (length-append (take (2 * written) events) room) ∙ ap length (take-append-drop (2 * written) events)

    pub inside-again : 2 * written ≤ length events → 2 * (written + a.events) ≤ length events
    inside-again i = omega (arith, emits.room-enough, t.wide e, length-drop (2 * written) events, i)

    -- and goes on, if the root has not halted
    pub runs-from : {set : ℕ} → Small policy → (effects : ℕ) → check policy ≡ passes set effects → 2 * written ≤ length events → is_halted (status_of a.status) ≡ false
        → Running policy set state' events' (written + a.events) a.status
    unfolding broken14
    runs-from small effects ok inside awake =
        let l : Leaves policy state room q = answered-leaves policy state room small q a.events (status_of a.status) entry-answers in
        let z : (entry policy q state room).state ≡ state' = sym (t.state-is ∙ ap (λ (x : Result). x.state) as-entry) in
        record {
          effects = effects;
          passes-check = ok;
          state-size = subst (λ (bs : Bytes). length bs ≡ state_size) z l.size;
          state-fits = subst (λ (bs : Bytes). T (fits policy bs)) z l.fits-again;
          awake =
              ap (λ (k : ℕ). is_halted (status_of (status_at (cells state') k))) (sym (root-number policy)) ∙ ap is_halted (status-at (tree policy) (cells state'))
              ∙ ap (λ (bs : Bytes). is_halted (status (load (tree policy) (cells bs)))) (sym z) ∙ ap (λ (x : State). is_halted (status x)) l.read_back
              ∙ ap is_halted (sym root-status) ∙ awake;
          a-status = status-byte;
          inside = omega (arith, inside-again inside, long_as inside);
        }

    pub runs_on : {set root : ℕ} → Small policy → Running policy set state events written root → is_halted (status_of a.status) ≡ false → Running policy set state' events' (written + a.events) a.status
    runs_on small h awake = runs-from small h.effects h.passes-check h.inside awake

-- ---- closing

module _ {policy : Bytes} {state events : Bytes} {written : ℕ} {steps actions : List ℕ} {r : Answer} {state' events' : Bytes} {steps' actions' : List ℕ}
    (t : Tailed policy close state events written steps actions r state' events' steps' actions') (judged root : ℕ) where
  pub closed-told : {a : Answered} → r ≡ Ok a
      → Told (follow policy [] (run_of state events written steps actions judged root)) (Ok (record { stop = None; judged = judged; events = written + a.events; status = a.status })) state' events' steps' actions'
  unfolding on_tail place run_of
  closed-told {a} e = subst (λ (x : spec.Traced). Told x (Ok (record { stop = None; judged = judged; events = written + a.events; status = a.status })) state' events' steps' actions')
      (sym (close-answered policy (run_of state events written steps actions judged root) (answers_with t e))) (told-ends t e judged root judged)

  pub unclosed-told : {f : Fault} → r ≡ Err f → root ≡ status_number (status_of root)
      → Told (follow policy [] (run_of state events written steps actions judged root)) (Ok (record { stop = Some f; judged = judged; events = written; status = root })) state' events' steps' actions'
  unfolding on_tail place run_of
  unclosed-told {f} e c = subst (λ (x : spec.Traced). Told x (Ok (record { stop = Some f; judged = judged; events = written; status = root })) state' events' steps' actions')
      (sym (close-refused policy (run_of state events written steps actions judged root) (refuses-with t e))) (told-refused t e c)
