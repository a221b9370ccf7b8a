-- A call of the run on a file that has passed: 13 and 15 where they apply, and else the call carried out.
use Prim.Native.Nat.{ℕ, ◌≤◌, ◌<◌}
use mathlib.Core.Path.{◌≡◌, refl, ap, ◌∙◌}
use mathlib.Core.Bool.{Bool, true, false, ◌||◌, not}
use mathlib.Core.List.{List, [], ◌∷◌, ◌++◌}
use lib.Dec.{T, ltb, lit≤}
use lib.ListN.{length, replicate, length-replicate}
use borrow.Author.Tests.{eq-eqb, ne_eqb, lt-ltb, le-ltb}
use Rattle.actions.proofs.Tests.{yes_of}
use Rattle.spec_policy.specs.Bytes.{Bytes}
use Rattle.spec_policy.specs.Spots.{Fault, bare_fault}
use Rattle.spec_check.specs.Check.{Answer, passes, refused, check}
use Rattle.spec_turns.specs.Turn.{Request, opening, offer, close}
use Rattle.spec_turns.specs.Saved.{state_size, fits}
use Rattle.spec_turns.specs.Entries.{event_room, Result, refusal, carried_out, Refusal, broken11, broken12, broken13, broken14, refusals, unless}
use Rattle.spec_trace.specs.Traces.{broken15, traced_refusals, called}

-- none of these applies
NoneApply : List Refusal → Type 0
NoneApply [] = Unit {0}
NoneApply (r ∷ rs) = (r.applies ≡ false) × NoneApply rs

-- The refusals of a call but for its room's, in a buffer with room.
pub Clear : Bytes → Request → Bytes → Type 0
Clear policy q state = NoneApply (refusals policy q state (replicate event_room 0))

pub eleven-not : (state : Bytes) → length state ≡ state_size → broken11 state (replicate event_room 0) ≡ false
unfolding broken11
eleven-not state e =
    ap (λ (b : Bool). not b || ltb (length (replicate {A = ℕ} event_room 0)) event_room) (eq-eqb (length state) state_size e)
    ∙ le-ltb (length {A = ℕ} (replicate event_room 0)) event_room (rw (length-replicate {A = ℕ} event_room 0) (lit≤ tt))

pub twelve-not : (policy state : Bytes) → T (fits policy state) → broken12 policy state ≡ false
unfolding broken12
twelve-not policy state h = ap not (yes_of (fits policy state) h)

pub clear-open : (policy state : Bytes) → length state ≡ state_size → Clear policy opening state
unfolding Clear NoneApply refusals
clear-open policy state e = (eleven-not state e, tt)

pub clear-offer : (policy state : Bytes) (a : ℕ) → length state ≡ state_size → T (fits policy state) → broken13 a ≡ false → broken14 state ≡ false → Clear policy (offer a) state
unfolding Clear NoneApply refusals
clear-offer policy state a e h f g = (eleven-not state e, (twelve-not policy state h, (f, (g, tt))))

pub clear-close : (policy state : Bytes) → length state ≡ state_size → T (fits policy state) → Clear policy close state
unfolding Clear NoneApply refusals
clear-close policy state e h = (eleven-not state e, (twelve-not policy state h, tt))

past-clear : (rs : List Refusal) (x : Refusal) (policy : Bytes) (q : Request) (state room : Bytes) → NoneApply rs → unless (rs ++ x ∷ []) policy q state room ≡ unless (x ∷ []) policy q state room
unfolding unless NoneApply
past-clear [] x policy q state room h = refl
past-clear (r ∷ rs) x policy q state room h =
    ap (λ (b : Bool). elim b [ true ↦ refusal (bare_fault r.number) state room | false ↦ unless (rs ++ x ∷ []) policy q state room ]) h.0 ∙ past-clear rs x policy q state room h.1

module _ (policy : Bytes) {r e : ℕ} (ok : check policy ≡ passes r e) (q : Request) (state room : Bytes) where
  -- the file has passed
  as_passed : called policy q state room ≡ unless (traced_refusals policy q state room) policy q state room
  unfolding called
  as_passed = ap (λ (x : Answer). elim x [ refused f ↦ refusal f state room | passes r e ↦ unless (traced_refusals policy q state room) policy q state room ]) ok

  module _ (h : Clear policy q state) where
    as-fifteen : called policy q state room ≡ unless (broken15 room ∷ []) policy q state room
    unfolding traced_refusals Clear
    as-fifteen = as_passed ∙ past-clear (refusals policy q state (replicate event_room 0)) (broken15 room) policy q state room h

    pub called-short : length room < event_room → called policy q state room ≡ refusal (bare_fault 15) state room
    unfolding unless broken15
    called-short l =
        as-fifteen ∙ ap (λ (b : Bool). elim b [ true ↦ refusal (bare_fault 15) state room | false ↦ carried_out policy q state room ]) (lt-ltb (length room) event_room l)

    pub called-goes : event_room ≤ length room → called policy q state room ≡ carried_out policy q state room
    unfolding unless broken15
    called-goes l =
        as-fifteen ∙ ap (λ (b : Bool). elim b [ true ↦ refusal (bare_fault 15) state room | false ↦ carried_out policy q state room ]) (le-ltb (length room) event_room l)

-- "an action above 63" is refused before the room is asked for
pub called-thirteen : (policy : Bytes) {r e : ℕ} → check policy ≡ passes r e → (a : ℕ) (state room : Bytes) → length state ≡ state_size → T (fits policy state) → broken13 a ≡ true
    → called policy (offer a) state room ≡ refusal (bare_fault 13) state room
unfolding traced_refusals refusals unless
called-thirteen policy ok a state room n h g =
    as_passed policy ok (offer a) state room
    ∙ ap (λ (b : Bool). elim b [ true ↦ refusal (bare_fault 11) state room | false ↦ twelve ]) (eleven-not state n)
    ∙ ap (λ (b : Bool). elim b [ true ↦ refusal (bare_fault 12) state room | false ↦ thirteen ]) (twelve-not policy state h)
    ∙ ap (λ (b : Bool). elim b [ true ↦ refusal (bare_fault 13) state room | false ↦ fourteen ]) g
  where
    fourteen : Result
    fourteen = unless (record { number = 14; applies = broken14 state } ∷ broken15 room ∷ []) policy (offer a) state room

    thirteen : Result
    thirteen = unless (record { number = 13; applies = broken13 a } ∷ record { number = 14; applies = broken14 state } ∷ broken15 room ∷ []) policy (offer a) state room

    twelve : Result
    twelve = unless (record { number = 12; applies = broken12 policy state } ∷ record { number = 13; applies = broken13 a } ∷ record { number = 14; applies = broken14 state } ∷ broken15 room ∷ []) policy (offer a) state room

-- ---- opening

-- the check's refusal is passed on
pub called-unpassed : (policy : Bytes) {f : Fault} → check policy ≡ refused f → (q : Request) (state room : Bytes) → called policy q state room ≡ refusal f state room
unfolding called
called-unpassed policy ok q state room =
    ap (λ (x : Answer). elim x [ refused f ↦ refusal f state room | passes r e ↦ unless (traced_refusals policy q state room) policy q state room ]) ok

-- a state of another size is refused before the room is asked for
pub called-eleven : (policy : Bytes) {r e : ℕ} → check policy ≡ passes r e → (state room : Bytes) → (length state ≡ state_size → ⊥) → called policy opening state room ≡ refusal (bare_fault 11) state room
unfolding traced_refusals refusals unless broken11
called-eleven policy ok state room ne =
    as_passed policy ok opening state room
    ∙ ap (λ (b : Bool). elim (not b || ltb (length (replicate {A = ℕ} event_room 0)) event_room) [ true ↦ refusal (bare_fault 11) state room | false ↦ unless (broken15 room ∷ []) policy opening state room ]) (ne_eqb (length state) state_size ne)
