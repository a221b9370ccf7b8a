-- "The events are those that the single calls give": with room, a call of the run is the single call.
use Prim.Native.Nat.{ℕ, ◌≤◌}
use mathlib.Core.Path.{◌≡◌, refl, sym, ap, ◌∙◌}
use mathlib.Core.Bool.{Bool, true, false, ◌||◌, not}
use mathlib.Core.List.{List, [], ◌∷◌, ◌++◌}
use lib.Dec.{eqb, ltb, lit≤}
use lib.ListN.{length, replicate, length-replicate}
use borrow.Author.Tests.{le-ltb}
use Rattle.spec_policy.specs.Bytes.{Bytes}
use Rattle.spec_policy.specs.Spots.{bare_fault}
use Rattle.spec_check.specs.Check.{Answer, passes, refused, check}
use Rattle.spec_turns.specs.Turn.{Request, opening, offer, close}
use Rattle.spec_turns.specs.Saved.{state_size}
use Rattle.spec_turns.specs.Entries.{event_room, Result, refusal, carried_out, Refusal, broken11, broken12, broken13, broken14, refusals, unless, entry}
use Rattle.spec_trace.specs.Traces.{broken15, traced_refusals, called}

-- a last refusal that does not apply changes nothing
last-not : (rs : List Refusal) (x : Refusal) (policy : Bytes) (q : Request) (state room : Bytes) → x.applies ≡ false → unless (rs ++ x ∷ []) policy q state room ≡ unless rs policy q state room
unfolding unless
last-not [] x policy q state room e = ap (λ (b : Bool). elim b [ true ↦ refusal (bare_fault x.number) state room | false ↦ carried_out policy q state room ]) e
last-not (r ∷ rs) x policy q state room e =
    ap (λ (y : Result). elim r.applies [ true ↦ refusal (bare_fault r.number) state room | false ↦ y ]) (last-not rs x policy q state room e)

-- what is asked of the room is met
eleven : (state room : Bytes) → event_room ≤ length room → broken11 state (replicate event_room 0) ≡ broken11 state room
unfolding broken11
eleven state room h =
    ap (λ (b : Bool). not (eqb (length state) state_size) || b) (le-ltb (length {A = ℕ} (replicate event_room 0)) event_room long ∙ sym (le-ltb (length room) event_room h))
  where
    long : event_room ≤ length (replicate {A = ℕ} event_room 0)
    long = rw (length-replicate {A = ℕ} event_room 0) (lit≤ tt)

same-refusals : (policy : Bytes) (q : Request) (state room : Bytes) → event_room ≤ length room → refusals policy q state (replicate event_room 0) ≡ refusals policy q state room
unfolding refusals
same-refusals policy opening state room h = ap (λ (b : Bool). record { number = 11; applies = b } ∷ []) (eleven state room h)
same-refusals policy (offer a) state room h =
    ap (λ (b : Bool). record { number = 11; applies = b } ∷ record { number = 12; applies = broken12 policy state } ∷ record { number = 13; applies = broken13 a } ∷ record { number = 14; applies = broken14 state } ∷ [])
    (eleven state room h)
same-refusals policy close state room h = ap (λ (b : Bool). record { number = 11; applies = b } ∷ record { number = 12; applies = broken12 policy state } ∷ []) (eleven state room h)

pub as-single : (policy : Bytes) (q : Request) (state room : Bytes) → event_room ≤ length room → called policy q state room ≡ entry policy q state room
unfolding called entry traced_refusals broken15
as-single policy q state room h = go (check policy)
  where
    go : (x : Answer) → ◌≡◌ {A = Result} (elim x [ refused f ↦ refusal f state room | passes r e ↦ unless (refusals policy q state (replicate event_room 0) ++ record { number = 15; applies = ltb (length room) event_room } ∷ []) policy q state room ])
        (elim x [ refused f ↦ refusal f state room | passes r e ↦ unless (refusals policy q state room) policy q state room ])
    go (refused f) = refl
    go (passes r e) =
        last-not (refusals policy q state (replicate event_room 0)) _ policy q state room (le-ltb (length room) event_room h)
        ∙ ap (λ (rs : List Refusal). unless rs policy q state room) (same-refusals policy q state room h)
