-- A leaf that goes on by itself, step after step: what its run is after some of them, and that it stops.
use Prim.Native.Nat.{ℕ, zero, suc, ◌+◌, ◌-◌, ◌≤◌, ◌<◌}
use native.Mathlib.Omega.{arith}
use native.Mathlib.Nat.{le_of_suc-le-suc, not-suc-le-zero}
use mathlib.Core.Path.{◌≡◌, refl, sym, ap, ◌∙◌, subst}
use mathlib.Core.Logic.{⊎_elim}
use mathlib.Core.Bool.{Bool, true, false}
use mathlib.Core.List.{List, [], ◌∷◌}
use lib.Dec.{T}
use lib.ListN.{length, get_or}
use Rattle.actions.specs.Sets.{Action}
use Rattle.actions.proofs.Tests.{yes_of, of-yes}
use Rattle.spec_policy.specs.Bytes.{Bytes}
use Rattle.spec_policy.specs.Steps.{Step, halt, targets, is_next}
use Rattle.spec_policy.specs.Tree.{first_step}
use Rattle.spec_check.specs.Lawful.{Ahead, AllAhead, Inside, Forward}
use Rattle.spec_turns.specs.Status.{status_of}
use Rattle.spec_turns.specs.Turn as turn
use Rattle.laws_turns.proofs.Fuel.{goes_step}
use Rattle.spec_trace.specs.Tallies.{step_if}
use Rattle.turn_paths.specs.Run.{flat}
use Rattle.turn_leaf.specs.declared.Move.{Move}
use Rattle.turn_leaf.specs.declared.Move.TheVariants.{On, Ends, Stays}
use Rattle.turn_leaf.specs.declared.Last.{Last}
use Rattle.turn_leaf.specs.declared.Last.TheVariants.{Stay, Over}
use Rattle.file_records.specs.Code.{code_at}
use Rattle.file_records.proofs.CodeLaws.{code-length}
use Rattle.turn_leaf.specs.Leaf.{Quietly, goes_on, ends, lasts, follows, move_counted, target, left, Taken, Passing}
use Rattle.turn_leaf.proofs.Quiet.{quietly-same, quietly-ran, quietly-then}

-- ---- the steps of a leaf

pub in_code : (file : Bytes) (from count o : ℕ) → o < count → o < length (code_at file from count)
in_code file from count o h = rw (code-length file from count) h

pub in_count : (file : Bytes) (from count o : ℕ) → o < length (code_at file from count) → o < count
in_count file from count o h = rw (code-length file from count) at h

-- past its last step there is none
past : (code : List Step) (o : ℕ) → length code ≤ o → get_or code o halt ≡ halt
past [] o h = refl
past (k ∷ code) zero h = absurd (not-suc-le-zero h)
past (k ∷ code) (suc o) h = past code o (le_of_suc-le-suc h)

pub past-code : (file : Bytes) (from count o : ℕ) → count ≤ o → get_or (code_at file from count) o halt ≡ halt
past-code file from count o h = past (code_at file from count) o (rw (code-length file from count) h)

pub past-count : (file : Bytes) (from count o : ℕ) → count ≤ o → length (code_at file from count) ≤ o
past-count file from count o h = rw (code-length file from count) h

-- ---- how far a leaf can still go

unfoldable pub far : List Step → ℕ → ℕ
far code o = elim (is_next (get_or code o halt)) [ true ↦ 0 | false ↦ suc (length code - o) ]

pub far-most : (code : List Step) (o : ℕ) → far code o ≤ suc (length code - o)
unfolding far
far-most code o = go (is_next (get_or code o halt))
  where
    go : (b : Bool) → elim b [ true ↦ 0 | false ↦ suc (length code - o) ] ≤ suc (length code - o)
    go true = omega arith
    go false = omega arith

far-next : (code : List Step) (o : ℕ) → T (is_next (get_or code o halt)) → far code o ≡ 0
unfolding far
far-next code o h = rw (yes_of (is_next (get_or code o halt)) h, far)

far-step : (code : List Step) (o : ℕ) → is_next (get_or code o halt) ≡ false → far code o ≡ suc (length code - o)
unfolding far
far-step code o e = rw (e, far)

pub far-less : (code : List Step) (o t : ℕ) → o < length code → is_next (get_or code o halt) ≡ false → Ahead code o t → far code t < far code o
unfolding Ahead
far-less code o t h e = ⊎_elim
    (λ (l : o < t). let a = far-most code t in let b = far-step code o e in omega arith)
    (λ (n : T (is_next (get_or code t halt))). let a = far-next code t n in let b = far-step code o e in omega arith)

-- ---- the run so far

-- from offset o₀ with counter c₀, of a leaf whose first step has the number `base`, to offset o with counter c
pub record Going (on : Bool) (policy : Bytes) (base : ℕ) (cs₀ cs : List ℕ) (code : List Step) (a : Action) (o₀ c₀ o c : ℕ) : Type 0 where
  pub whole : (i : ℕ) → base ≡ first_step policy i → Quietly on policy cs₀ cs (goes_on i code a o₀ c₀) (goes_on i code a o c)
  pub in_leaf : o < length code
  pub less : c ≤ c₀

pub going-first : {on : Bool} {policy : Bytes} {base : ℕ} {cs : List ℕ} (code : List Step) (a : Action) (o c : ℕ) → o < length code → Going on policy base cs cs code a o c o c
going-first code a o c h = record { whole = λ i ei. quietly-same refl; in_leaf = h; less = omega arith }

module _ {code : List Step} (pass : Passing code) {on : Bool} {policy : Bytes} {base : ℕ} {cs₀ cs : List ℕ} {a : Action} {o₀ c₀ o c : ℕ} (g : Going on policy base cs₀ cs code a o₀ c₀ o c)
    {s : Step} (is : s ≡ get_or code o halt) where
  at-step : {x : Move} {cs' : List ℕ} → Taken s a c x → cs' ≡ move_counted on x cs (base + o) → (i : ℕ) → base ≡ first_step policy i
      → Quietly on policy cs₀ cs' (goes_on i code a o₀ c₀) (follows i code a o c x)
  unfolding goes_on
  at-step {x} {cs'} t e i ei =
      quietly-then (g.whole i ei)
      (quietly-then
      (quietly-same (ap flat (goes_step i a pass.law o c ∙ ap (λ (k : Step). turn.stepping i a (turn.goes i code a (suc (length code))) o c k) (sym is))))
      (subst (λ (ds : List ℕ). Quietly on policy cs ds (flat (turn.stepping i a (turn.goes i code a (suc (length code))) o c s)) (follows i code a o c x))
      (ap (λ (n : ℕ). move_counted on x cs (n + o)) (sym ei) ∙ sym e) (t.takes on policy cs i o code)))

  module _ {t n : ℕ} (x : Taken s a c (On t n)) where
    no-next : is_next (get_or code o halt) ≡ false
    unfolding target
    no-next = subst (λ (k : Step). is_next k ≡ false) is (go (is_next s) refl)
      where
        cons : t ∷ [] ≡ [] → ⊥
        cons e = let z : ◌≡◌ {A = ℕ} 0 1 = cc in omega arith

        go : (b : Bool) → is_next s ≡ b → is_next s ≡ false
        go true e = absurd (cons (x.stays (of-yes (is_next s) e)))
        go false e = e

    pub going_less : far code t < far code o
    unfolding target AllAhead Forward
    going_less = far-less code o t g.in_leaf no-next (x.ahead code o (subst (λ (k : Step). AllAhead code o (targets k)) (sym is) (pass.law.forward o))).0

    pub going_on : {cs' : List ℕ} → cs' ≡ step_if on cs (base + o) → Going on policy base cs₀ cs' code a o₀ c₀ t n
    unfolding target Inside left follows move_counted
    going_on e = record {
      whole = λ i ei. at-step x e i ei;
      in_leaf = (x.inside (length code) (subst (λ (k : Step). Inside (length code) (targets k)) (sym is) (pass.law.inside o))).0;
      less = let l = x.less in let m = g.less in omega arith;
    }

  pub going-ends : {y : Last} {cs' : List ℕ} → Taken s a c (Ends y) → cs' ≡ step_if on cs (base + o) → (i : ℕ) → base ≡ first_step policy i
      → Quietly on policy cs₀ cs' (goes_on i code a o₀ c₀) (lasts i code a o c y)
  unfolding follows move_counted
  going-ends x e i ei = at-step x e i ei

  pub going-stays : Taken s a c Stays → (i : ℕ) → base ≡ first_step policy i → Quietly on policy cs₀ cs (goes_on i code a o₀ c₀) (lasts i code a o c Stay)
  unfolding follows move_counted
  going-stays x i ei = at-step x refl i ei

-- past its last step a leaf halts
pub halts-past : {code : List Step} → Passing code → {on : Bool} {policy : Bytes} {base : ℕ} {cs cs' : List ℕ} (a : Action) (o c : ℕ) → length code ≤ o → cs' ≡ step_if on cs (base + o)
    → (i : ℕ) → base ≡ first_step policy i → Quietly on policy cs cs' (goes_on i code a o c) (lasts i code a o c (Over 5))
unfolding goes_on turn.stepping turn.quiet flat lasts ends status_of
halts-past {code} pass {on} {policy} {base} {cs} {cs'} a o c h e i ei =
    quietly-then
    (quietly-same (ap flat (goes_step i a pass.law o c ∙ ap (λ (k : Step). turn.stepping i a (turn.goes i code a (suc (length code))) o c k) (past code o h))))
    (subst (λ (ds : List ℕ). Quietly on policy cs ds (flat (turn.stepping i a (turn.goes i code a (suc (length code))) o c halt)) (lasts i code a o c (Over 5)))
    (ap (λ (n : ℕ). step_if on cs (n + o)) (sym ei) ∙ sym e) (quietly-ran i o _))
