-- Where a leaf's phase begins: the offset from which it goes on, and where a next that is left leads.
use Prim.Native.Nat.{ℕ, ◌+◌, ◌<◌, ◌≤◌}
use native.Mathlib.Omega.{arith}
use mathlib.Core.Path.{◌≡◌, refl, sym, ap, ◌∙◌}
use mathlib.Core.Bool.{Bool, true, false}
use mathlib.Core.List.{List}
use lib.Dec.{eqb, ltb}
use lib.ListN.{get_or}
use borrow.Author.Tests.{ne_eqb, eqb-true, eqb-false, lt-ltb, le-ltb, ltb-true, ltb-false}
use Rattle.actions.specs.Sets.{ActionSet}
use Rattle.spec_policy.specs.Bytes.{Bytes, number}
use Rattle.spec_policy.specs.Records.{step_record_at}
use Rattle.spec_policy.specs.Steps.{Step, next, ok, sup, ins, acase, spend, end, halt, step_of}
use Rattle.spec_policy.specs.Tree.{leaf, number_of, regulated, first_step}
use Rattle.spec_turns.specs.Status.{Status}
use Rattle.spec_turns.specs.State.{State, leaf_state, offset, counter}
use Rattle.spec_turns.specs.Turn.{Phase, before, after, closing, take_of, done_of, leaf_work, is_asked}
use Rattle.spec_trace.specs.Tallies.{step_if}
use Rattle.file_records.proofs.Rows.{of-kind, by_kind}
use Rattle.turn_paths.specs.Run.{flat}
use Rattle.turn_paths.specs.Memory.{Mem, leaf_with, held, ran_of}
use Rattle.turn_paths.proofs.Begin.{asked-running, asked-works, works}
use Rattle.turn_memory.specs.Phases.{phase_of, pending_in}
use Rattle.turn_leaf.specs.Leaf.{Quietly, goes_on, leaving, begins, left_counted}
use Rattle.turn_leaf.proofs.Quiet.{quietly-same, quietly-ran, quietly-then}

-- ---- a phase, as its number tells

before-phase : (p : ℕ) → p < 64 → phase_of p ≡ before p
unfolding phase_of
before-phase p h = rw (lt-ltb p 64 h, phase_of)

closing-phase : (p : ℕ) → 64 < p → phase_of p ≡ closing
unfolding phase_of
closing-phase p h = rw (le-ltb p 64 (omega arith), ne_eqb p 64 (λ e. omega arith), phase_of)

after-phase : (p : ℕ) → p ≡ 64 → phase_of p ≡ after
after-phase p e = ap phase_of e ∙ unfold phase_of in refl

-- the pending action
pub pending-before : (p : ℕ) → p < 64 → p ≡ pending_in (phase_of p)
unfolding pending_in
pending-before p h = sym (ap pending_in (before-phase p h))

pub pending-none : (p : ℕ) → 64 ≤ p → 0 ≡ pending_in (phase_of p)
unfolding pending_in
pending-none p h = go (eqb p 64) refl
  where
    go : (b : Bool) → eqb p 64 ≡ b → 0 ≡ pending_in (phase_of p)
    go true e = sym (ap pending_in (after-phase p (eqb-true p 64 e)))
    go false e = let ne = eqb-false p 64 e in sym (ap pending_in (closing-phase p (omega arith)))

module _ (code : List Step) (o p : ℕ) where
  pub begins-after : p ≡ 64 → o ≡ begins (phase_of p) code o
  unfolding begins
  begins-after e = sym (ap (λ (ph : Phase). begins ph code o) (after-phase p e))

  -- a next is left
  pub begins-left : (p ≡ 64 → ⊥) → leaving (ltb 64 p) (get_or code o halt) ≡ begins (phase_of p) code o
  unfolding begins leaving
  begins-left ne = go (ltb 64 p) refl
    where
      go : (b : Bool) → ltb 64 p ≡ b → leaving b (get_or code o halt) ≡ begins (phase_of p) code o
      go true e = sym (ap (λ (ph : Phase). begins ph code o) (closing-phase p (ltb-true 64 p e)))
      go false e = let l = ltb-false 64 p e in sym (ap (λ (ph : Phase). begins ph code o) (before-phase p (omega arith)))

-- ---- the phase of a leaf that is asked

module _ (i : ℕ) (r : ActionSet) (c : ℕ) (code : List Step) (m : Mem) where
  works-on : {on : Bool} {policy : Bytes} {cs : List ℕ} (ph : Phase) (s : Status) (k : Bool) (o n : ℕ)
      → Quietly on policy cs (left_counted on ph cs (first_step policy i + o)) (flat (works (leaf i r c code) ph (leaf_state s k o n))) (goes_on i code (pending_in ph) (begins ph code o) n)
  unfolding works leaf_work offset counter flat goes_on pending_in begins left_counted
  works-on (before a) s k o n = quietly-ran i o _
  works-on after s k o n = quietly-same refl
  works-on closing s k o n = quietly-ran i o _

  asked-held : (ph : Phase) → is_asked r ph (held (leaf i r c code) m) ≡ true → held (leaf i r c code) m ≡ leaf_state (m i).status (m i).asked (m i).offset (m i).counter
  unfolding held leaf_with number_of
  asked-held ph asks = rw (asked-running r ph (leaf i r c code) m asks, leaf_with)

  pub begun-asked : {on : Bool} {policy : Bytes} {cs : List ℕ} (ph : Phase) → is_asked r ph (held (leaf i r c code) m) ≡ true
      → Quietly on policy cs (left_counted on ph cs (first_step policy i + (m i).offset)) (ran_of (leaf i r c code) ph (held (leaf i r c code) m)) (goes_on i code (pending_in ph) (begins ph code (m i).offset) (m i).counter)
  unfolding regulated
  begun-asked ph asks =
      quietly-then
      (quietly-same (asked-works (leaf i r c code) ph (held (leaf i r c code) m) asks ∙ ap (λ (s : State). flat (works (leaf i r c code) ph s)) (asked-held ph asks)))
      (works-on ph (m i).status (m i).asked (m i).offset (m i).counter)

-- ---- where a step leads when it is left

-- a next's two targets
pub leaving-done : (b : Bool) (t d : ℕ) → b ≡ true → d ≡ leaving b (next t d)
unfolding leaving done_of
leaving-done b t d e = sym (ap (λ (x : Bool). leaving x (next t d)) e)

pub leaving-take : (b : Bool) (t d : ℕ) → b ≡ false → t ≡ leaving b (next t d)
unfolding leaving take_of
leaving-take b t d e = sym (ap (λ (x : Bool). leaving x (next t d)) e)

-- every other step leads nowhere
leaving-none : (b : Bool) (s : Step) → take_of s ≡ 0 → done_of s ≡ 0 → 0 ≡ leaving b s
unfolding leaving
leaving-none true s e f = sym f
leaving-none false s e f = sym e

pub leaving-halt : (b : Bool) → 0 ≡ leaving b halt
unfolding take_of done_of
leaving-halt b = leaving-none b halt refl refl

module _ (file : Bytes) (at : ℕ) where
  pub next-read : number file at 1 ≡ 1 → next (number file (at + 2) 1) (number file (at + 3) 1) ≡ step_of (step_record_at file at)
  unfolding step_of
  next-read e = of-kind file at 1 (sym e)

  pub leaving-else : (b : Bool) → (number file at 1 ≡ 1 → ⊥) → 0 ≡ leaving b (step_of (step_record_at file at))
  unfolding take_of done_of step_record_at
  leaving-else b =
      by_kind (λ k s. (k ≡ 1 → ⊥) → 0 ≡ leaving b s) (step_record_at file at) (λ z. absurd (z refl)) (λ z. leaving-none b (ok _) refl refl)
      (λ z. leaving-none b (sup _) refl refl) (λ z. leaving-none b (ins _ _) refl refl) (λ z. leaving-none b (acase _ _ _) refl refl)
      (λ z. leaving-none b (spend _ _ _) refl refl) (λ z. leaving-none b end refl refl) (λ k z. leaving-halt b)

-- ---- the counts

module _ (on : Bool) (p : ℕ) (cs : List ℕ) (number : ℕ) where
  pub left_after : p ≡ 64 → cs ≡ left_counted on (phase_of p) cs number
  unfolding left_counted
  left_after e = sym (ap (λ (ph : Phase). left_counted on ph cs number) (after-phase p e))

  pub left-else : (p ≡ 64 → ⊥) → step_if on cs number ≡ left_counted on (phase_of p) cs number
  unfolding left_counted
  left-else ne = go (ltb 64 p) refl
    where
      go : (b : Bool) → ltb 64 p ≡ b → step_if on cs number ≡ left_counted on (phase_of p) cs number
      go true e = sym (ap (λ (ph : Phase). left_counted on ph cs number) (closing-phase p (ltb-true 64 p e)))
      go false e = let l = ltb-false 64 p e in sym (ap (λ (ph : Phase). left_counted on ph cs number) (before-phase p (omega arith)))
