-- The entry points' definition taken apart: an answered call was refused by nothing, and a refused one keeps every byte.
use Prim.Native.Nat.{ℕ, ◌≤◌, ◌<◌}
use native.Mathlib.Omega.{arith}
use mathlib.Core.Path.{◌≡◌, refl, sym, ap, ◌∙◌, subst}
use mathlib.Core.Bool.{Bool, true, false, not}
use mathlib.Core.List.{List, [], ◌∷◌}
use lib.Dec.{T, eqb, ltb, eqb→eq, nltb→le}
use lib.ListN.{length}
use Rattle.actions.specs.Sets.{ActionSet}
use Rattle.actions.proofs.Tests.{not-not, or-false-left, or-false-right}
use Rattle.spec_policy.specs.Bytes.{Bytes}
use Rattle.spec_policy.specs.Spots.{Fault, bare_fault}
use Rattle.spec_check.specs.Check.{Answer, passes, refused, check}
use Rattle.spec_check.specs.Passed.{Passed}
use Rattle.spec_check.proofs.Passed.{passed}
use Rattle.laws_check.specs.Offends.{SmallFault}
use Rattle.laws_check.proofs.Inside.{small-fault}
use Rattle.spec_turns.specs.Status.{Status}
use Rattle.spec_turns.specs.Turn.{Request, opening, offer, close}
use Rattle.spec_turns.specs.Saved.{state_size, fits}
use Rattle.spec_turns.specs.Entries.{event_room, Reply, answers, refuses, Result, refusal, carried_out, broken11, broken12, Refusal, refusals, unless, entry}

is_answer : Reply → Type 0
is_answer (answers n s) = Unit {0}
is_answer (refuses n) = ⊥

-- none of the refusals applies
unfoldable pub NoneOf : List Refusal → Type 0
NoneOf [] = Unit {0}
NoneOf (r ∷ rs) = (r.applies ≡ false) × NoneOf rs

-- what is given where no refusal applies
record Given (rs : List Refusal) (policy : Bytes) (q : Request) (state room : Bytes) (x : Result) : Type 0 where
  none : NoneOf rs
  given : x ≡ carried_out policy q state room

module _ (policy : Bytes) (q : Request) (state room : Bytes) where
  given-one : (r : Refusal) (rs : List Refusal) (b : Bool) → r.applies ≡ b
      → (is_answer (unless rs policy q state room).reply → Given rs policy q state room (unless rs policy q state room))
      → is_answer (elim b as (λ _. Result) [ true ↦ refusal (bare_fault r.number) state room | false ↦ unless rs policy q state room ]).reply
      → Given (r ∷ rs) policy q state room (elim b [ true ↦ refusal (bare_fault r.number) state room | false ↦ unless rs policy q state room ])
  unfolding is_answer refusal NoneOf
  given-one r rs true e h a = absurd a
  given-one r rs false e h a = let g = h a in record { none = (e, g.none); given = g.given }

  given : (rs : List Refusal) → is_answer (unless rs policy q state room).reply → Given rs policy q state room (unless rs policy q state room)
  unfolding unless NoneOf
  given [] a = record { none = tt; given = refl }
  given (r ∷ rs) a = given-one r rs r.applies refl (given rs) a

  -- What holds of a call that is answered.
  pub record Answered : Type 0 where
    pub regulated : ActionSet
    pub effect : ActionSet
    pub checked : check policy ≡ passes regulated effect
    pub none : NoneOf (refusals policy q state room)
    pub given : entry policy q state room ≡ carried_out policy q state room

  answered-by : (x : Answer) → check policy ≡ x
      → is_answer (elim x as (λ _. Result) [ refused n ↦ refusal n state room | passes r e ↦ unless (refusals policy q state room) policy q state room ]).reply
      → (elim x as (λ _. Result) [ refused n ↦ refusal n state room | passes r e ↦ unless (refusals policy q state room) policy q state room ]) ≡ entry policy q state room
      → Answered
  unfolding is_answer refusal
  answered-by (refused n) e a g = absurd a
  answered-by (passes r f) e a g =
      let h = given (refusals policy q state room) a in record { regulated = r; effect = f; checked = e; none = h.none; given = sym g ∙ h.given }

  pub answered : (n : ℕ) (s : Status) → (entry policy q state room).reply ≡ answers n s → Answered
  unfolding entry is_answer
  answered n s e = answered-by (check policy) refl (subst is_answer (sym e) tt) refl

  refused-one : (rs : List Refusal) (n : Fault) → (unless rs policy q state room).reply ≡ refuses n → unless rs policy q state room ≡ refusal n state room
  unfolding unless carried_out refusal
  refused-one [] n e = let z : ◌≡◌ {A = ℕ} 0 1 = cc in absurd (omega arith)
  refused-one (r ∷ rs) n e = go r.applies (refused-one rs n) e
    where
      go : (b : Bool) → ((unless rs policy q state room).reply ≡ refuses n → unless rs policy q state room ≡ refusal n state room)
          → (elim b as (λ _. Result) [ true ↦ refusal (bare_fault r.number) state room | false ↦ unless rs policy q state room ]).reply ≡ refuses n
          → (elim b as (λ _. Result) [ true ↦ refusal (bare_fault r.number) state room | false ↦ unless rs policy q state room ]) ≡ refusal n state room
      go true h e = let z : bare_fault r.number ≡ n = cc in ap (λ (k : Fault). refusal k state room) z
      go false h e = h e

  -- "A refusal returns that number ..; state and event buffers keep every byte."
  pub refused-keeps : (n : Fault) → (entry policy q state room).reply ≡ refuses n → entry policy q state room ≡ refusal n state room
  unfolding entry refusal
  refused-keeps n = go (check policy)
    where
      go : (x : Answer)
          → (elim x as (λ _. Result) [ refused k ↦ refusal k state room | passes r e ↦ unless (refusals policy q state room) policy q state room ]).reply ≡ refuses n
          → (elim x as (λ _. Result) [ refused k ↦ refusal k state room | passes r e ↦ unless (refusals policy q state room) policy q state room ]) ≡ refusal n state room
      go (refused k) e = let z : k ≡ n = cc in ap (λ (m : Fault). refusal m state room) z
      go (passes r f) e = refused-one (refusals policy q state room) n e

  -- what a refusal tells is short
  small-bare : (n : ℕ) → n < 100 → SmallFault (bare_fault n)
  small-bare n h = record { number_small = h; spot-small = λ p e. let z : ◌≡◌ {A = ℕ} 0 1 = cc in absurd (omega arith) }

  -- each number of the list has at most two digits
  unfoldable Few : List Refusal → Type 0
  Few [] = Unit {0}
  Few (r ∷ rs) = (r.number < 100) × Few rs

  few-refusals : Few (refusals policy q state room)
  unfolding refusals Few
  few-refusals = go q
    where
      go : (q : Request) → Few (refusals policy q state room)
      go opening = (omega arith, tt)
      go (offer a) = (omega arith, (omega arith, (omega arith, (omega arith, tt))))
      go close = (omega arith, (omega arith, tt))

  small_one : (rs : List Refusal) → Few rs → (n : Fault) → (unless rs policy q state room).reply ≡ refuses n → SmallFault n
  unfolding unless carried_out refusal Few
  small_one [] few n e = let z : ◌≡◌ {A = ℕ} 0 1 = cc in absurd (omega arith)
  small_one (r ∷ rs) few n e = go r.applies (small_one rs few.1 n) e
    where
      go : (b : Bool) → ((unless rs policy q state room).reply ≡ refuses n → SmallFault n)
          → (elim b as (λ _. Result) [ true ↦ refusal (bare_fault r.number) state room | false ↦ unless rs policy q state room ]).reply ≡ refuses n
          → SmallFault n
      go true h e = let z : bare_fault r.number ≡ n = cc in subst SmallFault z (small-bare r.number few.0)
      go false h e = h e

  pub refused-small : (n : Fault) → (entry policy q state room).reply ≡ refuses n → SmallFault n
  unfolding entry refusal
  refused-small n = go (check policy) refl
    where
      go : (x : Answer) → check policy ≡ x
          → (elim x as (λ _. Result) [ refused k ↦ refusal k state room | passes r e ↦ unless (refusals policy q state room) policy q state room ]).reply ≡ refuses n
          → SmallFault n
      go (refused k) c e = let z : k ≡ n = cc in subst SmallFault z (small-fault policy k c)
      go (passes r f) c e = small_one (refusals policy q state room) few-refusals n e

  -- rule 11 is kept
  pub record Room : Type 0 where
    pub state-size : length state ≡ state_size
    pub event-room : event_room ≤ length room

  pub kept-11 : broken11 state room ≡ false → Room
  unfolding broken11
  kept-11 e = record {
    state-size = eqb→eq (length state) state_size (not-not (eqb (length state) state_size) (or-false-left (not (eqb (length state) state_size)) (ltb (length room) event_room) e));
    event-room = nltb→le (length room) event_room (subst (λ (b : Bool). T (not b)) (sym (or-false-right (not (eqb (length state) state_size)) (ltb (length room) event_room) e)) tt);
  }

first-kept : (policy : Bytes) (q : Request) (state room : Bytes) → NoneOf (refusals policy q state room) → broken11 state room ≡ false
unfolding refusals NoneOf
first-kept policy opening state room h = h.0
first-kept policy (offer a) state room h = h.0
first-kept policy close state room h = h.0

pub room-kept : (policy : Bytes) (q : Request) (state room : Bytes) → Answered policy q state room → Room policy q state room
room-kept policy q state room h = kept-11 policy q state room (first-kept policy q state room h.none)

-- a request that reads the state
unfoldable pub Reads : Request → Type 0
Reads opening = ⊥
Reads (offer a) = Unit {0}
Reads close = Unit {0}

pub state-fits : (policy : Bytes) (q : Request) (state room : Bytes) → Reads q → Answered policy q state room → T (fits policy state)
unfolding refusals NoneOf broken12 Reads
state-fits policy opening state room u h = absurd u
state-fits policy (offer a) state room u h = not-not (fits policy state) h.none.1.0
state-fits policy close state room u h = not-not (fits policy state) h.none.1.0

pub file-passed : (policy : Bytes) (q : Request) (state room : Bytes) → Answered policy q state room → Passed policy
file-passed policy q state room h = passed policy h.regulated h.effect h.checked
