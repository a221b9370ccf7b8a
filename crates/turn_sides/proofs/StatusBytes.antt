-- The code's choices on a status or two.
use Prim.Native.Nat.{ℕ, ◌≤◌, ◌<◌}
use mathlib.Core.Path.{◌≡◌, refl, ap, ap₂, ◌∙◌}
use mathlib.Core.Bool.{Bool, true, false, ◌&&◌, ◌||◌, not}
use lib.Dec.{eqb}
use borrow.Author.Tests.{lt-ltb, le-ltb, ne_eqb, eqb-true, eqb-false}
use Rattle.actions.specs.Sets.{ActionSet, has}
use Rattle.actions.proofs.Tests.{and_first, and_second}
use Rattle.spec_policy.specs.Tree.{Join, and, or}
use Rattle.spec_turns.specs.Status.{Status, is_running, running, ended, ended_left, ended_right, halted, has_ended, is_halted, joined}
use Rattle.spec_turns.proofs.StatusLaws.{is-running}
use Rattle.spec_turns.specs.Turn.{Phase, before, after, closing, still_asked}
use Rattle.turn_memory.specs.Phases.{after_number, phase_of}
use Rattle.turn_paths.specs.Memory.{Cell}
use Rattle.turn_paths.specs.Choices.{emits, goes_on, end_sup, asked_in}

-- ---- how two sides join

module _ (l r : Status) where
  pub and-left-halted : is_halted l ≡ true → joined and l r ≡ halted
  unfolding joined
  and-left-halted e = rw (e, joined)

  pub and-right-halted : is_halted l ≡ false → is_halted r ≡ true → joined and l r ≡ halted
  unfolding joined
  and-right-halted e f = rw (e, f, joined)

  pub and-both-ended : is_halted l ≡ false → is_halted r ≡ false → has_ended l ≡ true → has_ended r ≡ true → joined and l r ≡ ended
  unfolding joined
  and-both-ended e f g h = rw (e, f, g, h, joined)

  pub and-runs-left : is_halted l ≡ false → is_halted r ≡ false → has_ended l ≡ false → joined and l r ≡ running
  unfolding joined
  and-runs-left e f g = rw (e, f, g, joined)

  pub and-runs-right : is_halted l ≡ false → is_halted r ≡ false → has_ended l ≡ true → has_ended r ≡ false → joined and l r ≡ running
  unfolding joined
  and-runs-right e f g h = rw (e, f, g, h, joined)

  pub or-left-ended : has_ended l ≡ true → joined or l r ≡ ended_left
  unfolding joined
  or-left-ended e = rw (e, joined)

  pub or-right-ended : has_ended l ≡ false → has_ended r ≡ true → joined or l r ≡ ended_right
  unfolding joined
  or-right-ended e f = rw (e, f, joined)

  pub or-both-halted : has_ended l ≡ false → has_ended r ≡ false → is_halted l ≡ true → is_halted r ≡ true → joined or l r ≡ halted
  unfolding joined
  or-both-halted e f g h = rw (e, f, g, h, joined)

  pub or-runs-left : has_ended l ≡ false → has_ended r ≡ false → is_halted l ≡ false → joined or l r ≡ running
  unfolding joined
  or-runs-left e f g = rw (e, f, g, joined)

  pub or-runs-right : has_ended l ≡ false → has_ended r ≡ false → is_halted l ≡ true → is_halted r ≡ false → joined or l r ≡ running
  unfolding joined
  or-runs-right e f g h = rw (e, f, g, h, joined)

-- sides that both run decide nothing
pub both_run : (j : Join) (l r : Status) → (is_running l && is_running r) ≡ true → joined j l r ≡ running
unfolding joined has_ended is_halted
both_run j l r e = ap₂ (joined j) (is-running l (and_first (is_running l) (is_running r) e)) (is-running r (and_second (is_running l) (is_running r) e)) ∙ neither j
  where
    neither : (j : Join) → joined j running running ≡ running
    neither and = refl
    neither or = refl

-- ---- a sequential node's choices

-- ---- by the phase's number

pub phase-before : (p : ℕ) → p < after_number → phase_of p ≡ before p
unfolding phase_of
phase-before p h = rw (lt-ltb p after_number h, phase_of)

pub phase-after : (p : ℕ) → p ≡ after_number → phase_of p ≡ after
unfolding phase_of
phase-after p e = ap phase_of e

pub phase-closing : (p : ℕ) → after_number ≤ p → (p ≡ after_number → ⊥) → phase_of p ≡ closing
unfolding phase_of
phase-closing p h ne = rw (le-ltb p after_number h, ne_eqb p after_number ne, phase_of)

pub and_no : (v u : Bool) → u ≡ true → (v && not u) ≡ false
and_no true u e = ap not e
and_no false u e = refl

pub and_yes : (v u : Bool) → u ≡ false → (v && not u) ≡ v
and_yes true u e = ap not e
and_yes false u e = refl

pub goes_before : (p : ℕ) (v u : Bool) → p < after_number → goes_on (phase_of p) v u ≡ (v && not u)
unfolding goes_on
goes_before p v u h = rw (phase-before p h)

pub goes-closing : (p : ℕ) (v u : Bool) → after_number ≤ p → (p ≡ after_number → ⊥) → goes_on (phase_of p) v u ≡ v
unfolding goes_on
goes-closing p v u h ne = rw (phase-closing p h ne)

pub sup-before : (p : ℕ) (u : Bool) → p < after_number → end_sup (phase_of p) u ≡ u
unfolding end_sup
sup-before p u h = rw (phase-before p h)

pub mark-before : (p : ℕ) → p < after_number → still_asked (phase_of p) ≡ true
unfolding still_asked
mark-before p h = rw (phase-before p h)

-- after the verdict and at closing nothing is suppressed, and no node is to be asked again
pub later : (p : ℕ) → after_number ≤ p → (u : Bool) → (end_sup (phase_of p) u ≡ false) × (still_asked (phase_of p) ≡ false)
unfolding end_sup still_asked
later p h u = on (eqb p after_number) refl
  where
    on : (b : Bool) → eqb p after_number ≡ b → (end_sup (phase_of p) u ≡ false) × (still_asked (phase_of p) ≡ false)
    on true e = let z = phase-after p (eqb-true p after_number e) in (ap (λ (q : Phase). end_sup q u) z, ap still_asked z)
    on false e = let z = phase-closing p h (eqb-false p after_number e) in (ap (λ (q : Phase). end_sup q u) z, ap still_asked z)

-- whether an insert goes out, by whether the right side has halted
pub emits-and : (s : Status) (h u : Bool) → is_halted s ≡ h → emits and s u ≡ (not h && not u)
unfolding emits
emits-and s h u e = ap (λ (x : Bool). not x && not u) e

pub emits-or : (s : Status) (h u : Bool) → is_halted s ≡ h → emits or s u ≡ (h || not u)
unfolding emits
emits-or s h u e = ap (λ (x : Bool). x || not u) e

-- ---- who is asked, by its cell

module _ (r : ActionSet) (x : Cell) where
  pub asked-idle : (ph : Phase) → is_running x.status ≡ false → asked_in r ph x ≡ false
  unfolding asked_in
  asked-idle (before a) e = rw e
  asked-idle after e = rw e
  asked-idle closing e = e

  module _ (e : is_running x.status ≡ true) where
    pub asked-before : (p : ℕ) → p < after_number → asked_in r (phase_of p) x ≡ has r p
    unfolding asked_in
    asked-before p h = ap (λ (ph : Phase). asked_in r ph x) (phase-before p h) ∙ rw e

    pub asked-after : (p : ℕ) → p ≡ after_number → asked_in r (phase_of p) x ≡ x.asked
    unfolding asked_in
    asked-after p h = ap (λ (ph : Phase). asked_in r ph x) (phase-after p h) ∙ rw e

    pub asked-closing : (p : ℕ) → after_number ≤ p → (p ≡ after_number → ⊥) → asked_in r (phase_of p) x ≡ true
    unfolding asked_in
    asked-closing p h ne = ap (λ (ph : Phase). asked_in r ph x) (phase-closing p h ne) ∙ e

-- a status joined from what was read
pub joins : {j j' : Join} {l l' r r' s : Status} → s ≡ joined j l r → l ≡ l' → r ≡ r' → j ≡ j' → s ≡ joined j' l' r'
joins {j} {j'} {l} {l'} {r} {r'} e a b k = e ∙ ap₂ (joined j) a b ∙ ap (λ (i : Join). joined i l' r') k
