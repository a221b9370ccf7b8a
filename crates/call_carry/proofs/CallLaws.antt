-- A call that no rule refuses: the memory that it begins with, and what is run of it and its end, joined into what the call gives.
use Prim.Native.Nat.{ℕ, zero, suc, ◌≤◌}
use native.Mathlib.Omega.{arith}
use mathlib.Core.Path.{◌≡◌, refl, sym, ap, ap₂, ◌∙◌, subst}
use mathlib.Core.Bool.{Bool, true, false, ◌&&◌}
use mathlib.Core.List.{List, []}
use lib.Dec.{T}
use lib.ListN.{length, get_or, replicate}
use Rattle.actions.specs.Sets.{Action, ActionSet, has}
use Rattle.actions.proofs.Tests.{yes_of}
use Rattle.spec_policy.specs.Bytes.{Bytes, put, Small}
use Rattle.spec_policy.specs.Records.{most_nodes}
use Rattle.spec_policy.specs.Tree.{Tree, regulated, tree}
use Rattle.spec_policy.proofs.ByteLaws.{put-none}
use Rattle.spec_check.specs.Passed.{Passed}
use Rattle.spec_check.proofs.Numbers.{root-number}
use Rattle.spec_turns.specs.Status.{Status, status_number, status_of, is_running}
use Rattle.spec_turns.specs.State.{State, status}
use Rattle.spec_turns.specs.Process.{Process, Out, outcome, trace, items}
use Rattle.spec_turns.specs.Turn.{Phase, before, after, is_asked, quiet, verdict, phase, fresh, closing, Request, opening, offer, close, call}
use Rattle.spec_turns.specs.Events.{event_of, events, event_bytes}
use Rattle.spec_turns.specs.Saved.{state_size, cells, status_at, load, saved, fits}
use Rattle.spec_turns.specs.Entries.{carried_out, carried}
use Rattle.laws_turns.proofs.Fits.{status-at}
use Rattle.laws_turns.proofs.NoChange.{saved-load, unasked, decided-quiet}
use Rattle.spec_trace.specs.Tallies.{steps_if}
use Rattle.spec_trace.specs.Traces.{ran_by}
use Rattle.spec_trace.proofs.TallyLaws.{steps-none, steps-accepts}
use Rattle.turn_paths.specs.Memory.{Mem, held}
use Rattle.turn_paths.proofs.Frames.{held_same}
use Rattle.turn_memory.proofs.CellLaws.{view-same}
use Rattle.turn_memory.specs.Words.{Words, word_count, memory_of}
use Rattle.turn_memory.specs.Told.{Tells}
use Rattle.turn_memory.proofs.ToldLaws.{told_none, tells_none}
use Rattle.turn_tables.specs.Tables.{Tabled, Kept}
use Rattle.turn_tables.proofs.FileNodes.{room}
use Rattle.turn_rest.specs.Rest.{KeptFrom}
use Rattle.std.specs.Prelude.{Ok}
use Rattle.call_answer.specs.declared.Call.{Call}
use Rattle.call_answer.specs.declared.Call.TheVariants.{Offer}
use Rattle.call_answer.specs.Requests.{asked}
use Rattle.call_answer.specs.Replies.{Answer, spoken, Gave}
use Rattle.call_answer.specs.Ends.{Ended}
use Rattle.call_answer.proofs.EndLaws.{ended}
use Rattle.call_phase.specs.Phased.{Ready, items_of, events_of, Phased, Played}
use Rattle.call_carry.specs.Calls.{Counted, asks_root, Runs}

-- ---- the memory of a call

zeros-read : (n k : ℕ) → get_or {A = ℕ} (replicate n 0) k 0 ≡ 0
zeros-read zero k = refl
zeros-read (suc n) zero = refl
zeros-read (suc n) (suc k) = zeros-read n k

-- a passed policy has no more nodes than there are cells
pub few-nodes : {policy : Bytes} {n m : ℕ} → Passed policy → Counted policy n m → n ≤ most_nodes
few-nodes ok counted = omega (arith, counted.nodes-are, (room ok).few)

-- its cells are read into zeros, so that it tells no insert
pub none_told : {n : ℕ} {ws : Words} → n ≤ most_nodes → KeptFrom n (replicate word_count 0) ws → Tells ws []
none_told {n} {ws} h k = tells_none ws (λ i a b. k.rest i (omega (arith, h, a)) ∙ zeros-read word_count i)

module _ {policy : Bytes} (ok : Passed policy) (ws ws' : Words) (kept : Kept ws ws') where
  pub ready : Tabled policy ws' → Tells ws [] → Ready policy ws'
  ready tabled none = record {
    passed = ok;
    sized = kept.0;
    tabled = tabled;
    none = (told_none {ws = ws} (λ k a b. kept.1 k b)).more [] none (omega arith);
  }

  -- the tables leave the cells
  pub held-prepared : held (tree policy) (memory_of ws') ≡ held (tree policy) (memory_of ws)
  held-prepared = held_same (tree policy) (memory_of ws) (memory_of ws') (λ i e. view-same ws ws' i (λ l. kept.1 i (omega arith)))

-- ---- what is run

pub phase-played : {t : Tree} {ph : Phase} {m m' : Mem} {room room' : Bytes} {n : ℕ} {u : Bool} → Phased t ph m m' room room' 0 n u
    → Played t (phase t ph (held t m)) m' room room' n
unfolding events_of
phase-played h = record { added = h.added; ends = sym (ap (λ (x : Out). x.state) h.ends) }

-- the process that was run, and the end of the call
pub gave : {t : Tree} {p : Process} {m : Mem} {room room' bytes : Bytes} {n : ℕ} {r : Answer}
    → Played t p m room room' n → Ended t (held t m) n r bytes → Gave (carried t p room) r bytes room'
unfolding carried spoken
gave {t} h e = let said_so : ℕ → State → Answer = λ k s. Ok (record { events = k; status = status_number (status s) }) in record {
  answer = e.answer ∙ ap₂ said_so (omega (arith, h.added.counted)) h.ends;
  state = e.state ∙ ap (saved t) h.ends;
  events = h.added.told;
}

pub phase-from : (t : Tree) (ph : Phase) (room : Bytes) {s s' : State} {r : Answer} {bytes room' : Bytes} → s ≡ s'
    → Gave (carried t (phase t ph s) room) r bytes room' → Gave (carried t (phase t ph s') room) r bytes room'
phase-from t ph room {r = r} {bytes} {room'} e g = subst (λ (x : State). Gave (carried t (phase t ph x) room) r bytes room') e g

-- opening reads no state
pub opened : (policy state room : Bytes) (s : State) {r : Answer} {bytes room' : Bytes} → s ≡ fresh (tree policy)
    → Gave (carried (tree policy) (phase (tree policy) after s) room) r bytes room' → Gave (carried_out policy opening state room) r bytes room'
unfolding carried_out carried call
opened policy state room s {r} {bytes} {room'} e g = subst (λ (x : State). Gave (carried (tree policy) (phase (tree policy) after x) room) r bytes room') e g

-- the other calls read one that fits
pub carried-out : (policy : Bytes) (q : Request) (state room : Bytes) (s : State) {r : Answer} {bytes room' : Bytes} → s ≡ load (tree policy) (cells state)
    → Gave (carried (tree policy) (call (tree policy) q s) room) r bytes room' → Gave (carried_out policy q state room) r bytes room'
unfolding carried_out carried
carried-out policy q state room s {r} {bytes} {room'} e g = subst (λ (x : State). Gave (carried (tree policy) (call (tree policy) q x) room) r bytes room') e g

-- ---- whether the root is asked

root-read : (policy state : Bytes) → status_of (status_at (cells state) 0) ≡ status (load (tree policy) (cells state))
root-read policy state = ap (λ (i : ℕ). status_of (status_at (cells state) i)) (sym (root-number policy)) ∙ status-at (tree policy) (cells state)

-- as the code reads it
pub asks-root : (policy state : Bytes) (a : Action) {b : ℕ} {v w : Bool} {r : ActionSet} → b ≡ status_at (cells state) 0 → v ≡ is_running (status_of b) → w ≡ has r a
    → r ≡ regulated (tree policy) → (v && w) ≡ (is_running (status_of (status_at (cells state) 0)) && has (regulated (tree policy)) a)
asks-root policy state a e f g h =
    ap₂ (λ (x y : Bool). x && y) (f ∙ ap (λ (k : ℕ). is_running (status_of k)) e) (g ∙ ap (λ (r : ActionSet). has r a) h)

root-asked : (policy state : Bytes) (a : Action)
    → is_asked (regulated (tree policy)) (before a) (load (tree policy) (cells state)) ≡ (is_running (status_of (status_at (cells state) 0)) && has (regulated (tree policy)) a)
unfolding is_asked
root-asked policy state a = ap (λ (s : Status). is_running s && has (regulated (tree policy)) a) (sym (root-read policy state))

pub offer-asked : (policy state : Bytes) (a : Action) {s : State} → s ≡ load (tree policy) (cells state) → T (asks_root (Offer a) policy state)
    → is_asked (regulated (tree policy)) (before a) s ≡ true
unfolding asks_root
offer-asked policy state a e h =
    ap (is_asked (regulated (tree policy)) (before a)) e ∙ root-asked policy state a
    ∙ yes_of (is_running (status_of (status_at (cells state) 0)) && has (regulated (tree policy)) a) h

-- "accepted with no change": where it is not, every byte of the state is as it was
pub stayed : (policy state room : Bytes) {room' : Bytes} → Passed policy → length state ≡ state_size → Small state → T (fits policy state) → (a : Action) {b : ℕ}
    → (is_running (status_of (status_at (cells state) 0)) && has (regulated (tree policy)) a) ≡ false → b ≡ status_at (cells state) 0
    → room' ≡ put room 0 (event_bytes (event_of (verdict false a))) → Gave (carried_out policy (offer a) state room) (Ok (record { events = 1; status = b })) state room'
unfolding carried_out carried spoken verdict quiet items trace outcome events event_of
stayed policy state room {room'} ok size small fit a {b} e f g =
    let t : Tree = tree policy in
    let same : state ≡ saved t (load t (cells state)) = sym (saved-load policy ok state size small fit) in
    subst (λ (p : Process). Gave (carried t p room) (Ok (record { events = 1; status = b })) state room') (sym (unasked t a (load t (cells state)) (root-asked policy state a ∙ e)))
    (record { answer = (ended ok 1 same f).answer; state = same; events = g })

-- "Closing a decided root emits nothing and answers its status."
pub closed : (policy state room : Bytes) → Passed policy → length state ≡ state_size → Small state → T (fits policy state) → {b : ℕ} {v : Bool}
    → b ≡ status_at (cells state) 0 → v ≡ is_running (status_of b) → v ≡ false → Gave (carried_out policy close state room) (Ok (record { events = 0; status = b })) state room
unfolding carried_out carried call spoken quiet items trace outcome events event_bytes
closed policy state room ok size small fit {b} f g e =
    let t : Tree = tree policy in
    let same : state ≡ saved t (load t (cells state)) = sym (saved-load policy ok state size small fit) in
    let stopped : is_running (status (load t (cells state))) ≡ false =
    ap is_running (sym (root-read policy state)) ∙ ap (λ (k : ℕ). is_running (status_of k)) (sym f) ∙ sym g ∙ e in
    subst (λ (p : Process). Gave (carried t p room) (Ok (record { events = 0; status = b })) state room) (sym (decided-quiet t (load t (cells state)) stopped))
    (record { answer = (ended ok 0 same f).answer; state = same; events = sym (put-none room 0) })

-- ---- the steps of a call

module _ (counting : Bool) (policy : Bytes) (cs : List ℕ) {cs' : List ℕ} where
  pub steps-from : (ph : Phase) {s s' : State} → s ≡ s' → cs' ≡ steps_if counting policy (items_of (tree policy) ph s) cs → cs' ≡ steps_if counting policy (items_of (tree policy) ph s') cs
  steps-from ph e f = f ∙ ap (λ (x : State). steps_if counting policy (items_of (tree policy) ph x) cs) e

  pub opened-steps : (state : Bytes) {s : State} → s ≡ fresh (tree policy) → cs' ≡ steps_if counting policy (items_of (tree policy) after s) cs
      → cs' ≡ steps_if counting policy (ran_by policy opening state) cs
  unfolding ran_by items_of call
  opened-steps state e f = f ∙ ap (λ (x : State). steps_if counting policy (items_of (tree policy) after x) cs) e

  pub carried-steps : (q : Request) (state : Bytes) {s : State} → s ≡ load (tree policy) (cells state) → cs' ≡ steps_if counting policy (items (trace (call (tree policy) q s))) cs
      → cs' ≡ steps_if counting policy (ran_by policy q state) cs
  unfolding ran_by
  carried-steps q state e f = f ∙ ap (λ (x : State). steps_if counting policy (items (trace (call (tree policy) q x))) cs) e

  pub steps-as : (state : Bytes) {x y : Call} → x ≡ y → cs' ≡ steps_if counting policy (ran_by policy (asked y) state) cs → cs' ≡ steps_if counting policy (ran_by policy (asked x) state) cs
  steps-as state e f = f ∙ ap (λ (z : Call). steps_if counting policy (ran_by policy (asked z) state) cs) (sym e)

module _ (counting : Bool) (policy state : Bytes) (cs : List ℕ) where
  -- an action that the root is not asked about runs none
  pub stayed-steps : (a : Action) → (is_running (status_of (status_at (cells state) 0)) && has (regulated (tree policy)) a) ≡ false
      → cs ≡ steps_if counting policy (ran_by policy (offer a) state) cs
  unfolding ran_by verdict quiet items trace
  stayed-steps a e =
      sym (ap (λ (p : Process). steps_if counting policy (items (trace p)) cs) (unasked (tree policy) a (load (tree policy) (cells state)) (root-asked policy state a ∙ e))
      ∙ steps-accepts counting policy a [] cs ∙ steps-none counting policy cs)

  -- nor does closing a decided root
  pub closed-steps : {b : ℕ} {v : Bool} → b ≡ status_at (cells state) 0 → v ≡ is_running (status_of b) → v ≡ false → cs ≡ steps_if counting policy (ran_by policy close state) cs
  unfolding ran_by call quiet items trace
  closed-steps f g e =
      sym (ap (λ (p : Process). steps_if counting policy (items (trace p)) cs) (decided-quiet (tree policy) (load (tree policy) (cells state))
      (ap is_running (sym (root-read policy state)) ∙ ap (λ (k : ℕ). is_running (status_of k)) (sym f) ∙ sym g ∙ e))
      ∙ steps-none counting policy cs)

-- ---- which call it is

pub runs_as : {policy state room : Bytes} {x y : Call} → x ≡ y → Runs policy state room x → Runs policy state room y
runs_as {policy} {state} {room} e h = subst (Runs policy state room) e h

pub gave-as : (policy state room : Bytes) {x y : Call} {r : Answer} {bytes room' : Bytes} → x ≡ y
    → Gave (carried_out policy (asked y) state room) r bytes room' → Gave (carried_out policy (asked x) state room) r bytes room'
gave-as policy state room {r = r} {bytes} {room'} e g = subst (λ (z : Call). Gave (carried_out policy (asked z) state room) r bytes room') (sym e) g
