-- The entry points: the refusals in their order, and what is carried out where none applies.
use Prim.Native.Nat.{ℕ, ◌≤◌, ◌<◌}
use mathlib.Core.Path.{◌≡◌, refl, sym, ap, ◌∙◌, subst}
use mathlib.Core.Bool.{true, false, not}
use mathlib.Core.List.{List, [], ◌∷◌}
use lib.Dec.{T}
use lib.ListN.{length}
use borrow.Author.Tests.{lt-leb, le-leb}
use Rattle.actions.specs.Sets.{is_action}
use Rattle.actions.proofs.Tests.{not-not}
use Rattle.spec_policy.specs.Bytes.{Bytes}
use Rattle.spec_policy.specs.Spots as spots
use Rattle.spec_check.specs.Check.{passes, refused, check}
use Rattle.spec_check.proofs.Passed.{passed}
use Rattle.spec_turns.specs.Turn.{Request, close}
use Rattle.spec_turns.specs.Saved.{state_size, fits}
use Rattle.spec_turns.specs.Entries.{event_room, Result, refusal, carried_out, broken11, broken12, broken13, Refusal, refusals, unless, entry}
use Rattle.laws_turns.proofs.Answered.{kept-11}
use Rattle.faults.specs.declared.Fault.{Fault}
use Rattle.faults.specs.Meaning.{fault_of, fault_value}
use Rattle.faults.proofs.Once.{same-fault}
use Rattle.std.specs.Prelude.{Err}
use Rattle.call_answer.specs.declared.Call.{Call}
use Rattle.call_carry.specs.Calls.{readable, Allowed}
use Rattle.call_answer.specs.Replies.{Answer, spoken, Gave}

-- ---- what a refusal that does not apply says

pub room-enough : (state room : Bytes) → broken11 state room ≡ false → (length state ≡ state_size) × (event_room ≤ length room)
room-enough state room e = let k = kept-11 [] close state room e in (k.state-size, k.event-room)

pub state-fits : (policy state : Bytes) → broken12 policy state ≡ false → T (fits policy state)
unfolding broken12
state-fits policy state e = not-not (fits policy state) e

pub no-action : (a : ℕ) → 63 < a → broken13 a ≡ true
unfolding broken13 is_action
no-action a h = ap not (lt-leb a 63 h)

pub an-action : (a : ℕ) → a ≤ 63 → broken13 a ≡ false
unfolding broken13 is_action
an-action a h = ap not (le-leb a 63 h)

-- ---- what carrying a call out asks

pub allowed : (policy state room : Bytes) (x : Call) {r e : ℕ} → check policy ≡ passes r e → broken11 state room ≡ false → T (readable x policy state)
    → Allowed policy state room x
allowed policy state room x e f g = let k = room-enough state room f in record { passed = passed policy _ _ e; state-size = k.0; event-room = k.1; reads = g }

-- ---- in order

-- a refusal that means g is the one that g has
told : (f : Fault) {g : spots.Fault} → fault_of f ≡ g → ◌≡◌ {A = Answer} (Err f) (Err (fault_value g))
told f e = let refused_by : Fault → Answer = λ g. Err g in ap refused_by (sym (same-fault f) ∙ ap fault_value e)

pub refused-file : (policy : Bytes) (q : Request) (state room : Bytes) {g : spots.Fault} → check policy ≡ refused g → (f : Fault) → fault_of f ≡ g
    → Gave (entry policy q state room) (Err f) state room
unfolding entry refusal spoken
refused-file policy q state room e f t = rw (e, entry) (record { answer = told f t; state = refl; events = refl })

-- The file passed, none of the refusals before these applied, and these are left to be tried.
pub record Left (policy : Bytes) (q : Request) (state room : Bytes) (rs : List Refusal) : Type 0 where
  pub left : entry policy q state room ≡ unless rs policy q state room

pub all_left : (policy : Bytes) (q : Request) (state room : Bytes) {r e : ℕ} → check policy ≡ passes r e → Left policy q state room (refusals policy q state room)
unfolding entry
all_left policy q state room h = record { left = rw (h, entry) }

module _ {policy : Bytes} {q : Request} {state room : Bytes} where
  module _ {r : Refusal} {rs : List Refusal} (l : Left policy q state room (r ∷ rs)) where
    pub refused-here : r.applies ≡ true → (f : Fault) → fault_of f ≡ spots.bare_fault r.number → Gave (entry policy q state room) (Err f) state room
    unfolding unless refusal spoken
    refused-here e f t =
        let g : unless (r ∷ rs) policy q state room ≡ refusal (spots.bare_fault r.number) state room = rw (e, unless) in
        subst (λ (x : Result). Gave x (Err f) state room) (sym (l.left ∙ g)) (record { answer = told f t; state = refl; events = refl })

    pub next-left : r.applies ≡ false → Left policy q state room rs
    unfolding unless
    next-left e = record { left = l.left ∙ rw (e, unless) }

  pub none_left : {x : Answer} {bytes room' : Bytes} → Left policy q state room [] → Gave (carried_out policy q state room) x bytes room'
      → Gave (entry policy q state room) x bytes room'
  unfolding unless
  none_left {x} {bytes} {room'} l g = subst (λ (y : Result). Gave y x bytes room') (sym l.left) g

-- ---- two answers that meet a contract are one

pub gave-once : {x : Result} {r r' : Answer} {bytes bytes' room room' : Bytes} → Gave x r bytes room → Gave x r' bytes' room'
    → (r ≡ r') × (bytes ≡ bytes') × (room ≡ room')
gave-once g h = (g.answer ∙ sym h.answer, g.state ∙ sym h.state, g.events ∙ sym h.events)
