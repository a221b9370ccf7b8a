-- Rule 6 as the code tests it: a target by its number and the nexts before it, a step by its targets, and the steps of a leaf one after the other.
--
use Prim.Native.Nat.{ℕ, ◌+◌, ◌-◌, ◌*◌, ◌≤◌, ◌<◌}
use native.Mathlib.Omega.{arith}
use mathlib.Core.Path.{◌≡◌, refl, sym, ap, ◌∙◌, subst}
use mathlib.Core.Bool.{Bool, true, false, ◌&&◌, ◌||◌}
use mathlib.Core.List.{List, [], ◌∷◌}
use lib.Dec.{T, ltb}
use lib.ListN.{length, get_or}
use borrow.Author.Tests.{lt-ltb, le-ltb}
use Rattle.actions.specs.Sets.{ActionSet, has, within}
use Rattle.actions.proofs.Tests.{and_intro, and_left, and_right}
use Rattle.spec_policy.specs.Bytes.{Bytes}
use Rattle.spec_policy.specs.Records.{step_record_at}
use Rattle.spec_policy.specs.Lists.{listed, every, every_at}
use Rattle.spec_policy.specs.Steps.{Step, next, ok, sup, ins, acase, spend, end, halt, step_of, targets, is_next}
use Rattle.spec_policy.proofs.ListLaws.{every_at-rest, every_at-over}
use Rattle.spec_check.specs.Targets.{target_fits, asks_within, targets_fit}
use Rattle.file_records.specs.Code.{code_at}
use Rattle.file_records.proofs.CodeLaws.{code-length}
use Rattle.check_modes.specs.Marks.{NextsBefore}

-- ---- one target

module _ (code : List Step) (count o t : ℕ) (size : length code ≡ count) where
  fits-as : (p q : Bool) → ltb t count ≡ p → ltb o t ≡ q → target_fits code o t ≡ (p && (q || is_next (get_or code t halt)))
  unfolding target_fits
  fits-as p q e f = λ i. (ap (λ (n : ℕ). ltb t n) size ∙ e) i && (f i || is_next (get_or code t halt))

  pub target-outside : count ≤ t → false ≡ target_fits code o t
  target-outside h = sym (fits-as false (ltb o t) (le-ltb t count h) refl)

  pub target-later : t < count → o < t → true ≡ target_fits code o t
  target-later h l = sym (fits-as true true (lt-ltb t count h) (lt-ltb o t l))

  pub target-earlier : t < count → t ≤ o → is_next (get_or code t halt) ≡ target_fits code o t
  target-earlier h l = sym (fits-as true false (lt-ltb t count h) (le-ltb o t l))

  pub target-back : (nexts : ActionSet) → NextsBefore (o + 1) nexts code → t < count → t ≤ o → has nexts t ≡ target_fits code o t
  target-back nexts are h l =
      are t ∙ ap (λ (b : Bool). b && is_next (get_or code t halt)) (lt-ltb t (o + 1) (omega arith)) ∙ target-earlier h l

-- ---- one step

abbrev step_test : ActionSet → List Step → ℕ → Step → Bool
step_test r code o k = asks_within r k && every (target_fits code o) (targets k)

module _ (r : ActionSet) (code : List Step) (o : ℕ) where
  -- the tests that the code makes of each kind of step
  unfoldable pub tested : Step → Bool
  tested (next t d) = target_fits code o t && target_fits code o d
  tested (ok t) = target_fits code o t
  tested (sup t) = target_fits code o t
  tested (ins b t) = target_fits code o t
  tested (acase s y z) = within s r && (target_fits code o y && target_fits code o z)
  tested (spend n y z) = target_fits code o y && target_fits code o z
  tested end = true
  tested halt = true

  last : (p : Bool) → p ≡ (p && true)
  last true = refl
  last false = refl

  pub tested-all : (k : Step) → tested k ≡ step_test r code o k
  unfolding tested asks_within targets every
  tested-all (next t d) = ap (λ (p : Bool). target_fits code o t && p) (last (target_fits code o d))
  tested-all (ok t) = last (target_fits code o t)
  tested-all (sup t) = last (target_fits code o t)
  tested-all (ins b t) = last (target_fits code o t)
  tested-all (acase s y z) = ap (λ (p : Bool). within s r && (target_fits code o y && p)) (last (target_fits code o z))
  tested-all (spend n y z) = ap (λ (p : Bool). target_fits code o y && p) (last (target_fits code o z))
  tested-all end = refl
  tested-all halt = refl

-- ---- the steps from offset o on

module _ (r : ActionSet) (file : Bytes) (at count : ℕ) where
  unfoldable pub fit_from : ℕ → Bool
  fit_from o = every_at (step_test r (code_at file at count)) o (listed (λ k. step_of (step_record_at file (at + 12 * k))) o (count - o))

  pub fit-whole : targets_fit r (code_at file at count) ≡ fit_from 0
  unfolding fit_from targets_fit code_at
  fit-whole = let z : count ≡ count - 0 = omega arith in ap (λ (n : ℕ). every_at (step_test r (code_at file at count)) 0 (listed (λ k. step_of (step_record_at file (at + 12 * k))) 0 n)) z

  pub fit-rest : (o : ℕ) → o < count → fit_from o ≡ (step_test r (code_at file at count) o (step_of (step_record_at file (at + 12 * o))) && fit_from (o + 1))
  unfolding fit_from
  fit-rest o h = every_at-rest (step_test r (code_at file at count)) (λ k. step_of (step_record_at file (at + 12 * k))) o count h

  pub fit-over : (o : ℕ) → count ≤ o → fit_from o ≡ true
  unfolding fit_from
  fit-over o h = every_at-over (step_test r (code_at file at count)) (λ k. step_of (step_record_at file (at + 12 * k))) o count h

-- ---- what fits lies inside

pub every-weaker : {A : Type 0} (f g : A → Bool) → ((x : A) → T (f x) → T (g x)) → (xs : List A) → T (every f xs) → T (every g xs)
unfolding every
every-weaker f g h [] t = tt
every-weaker f g h (x ∷ xs) t = and_intro (g x) (every g xs) (h x (and_left (f x) (every f xs) t)) (every-weaker f g h xs (and_right (f x) (every f xs) t))

-- the targets of a step that fits
pub test-inside : (r : ActionSet) (file : Bytes) (at count o : ℕ) (s : Step) → T (step_test r (code_at file at count) o s) → T (every (λ t. ltb t count) (targets s))
unfolding target_fits
test-inside r file at count o s h =
    subst (λ (n : ℕ). T (every (λ t. ltb t n) (targets s))) (code-length file at count)
    (every-weaker (target_fits code o) (λ t. ltb t (length code)) (λ t. and_left (ltb t (length code)) (ltb o t || is_next (get_or code t halt))) (targets s)
    (and_right (asks_within r s) (every (target_fits code o) (targets s)) h))
  where
    code : List Step
    code = code_at file at count
