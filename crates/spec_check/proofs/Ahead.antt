-- What rule 6 gives of a leaf's steps: each leads into the leaf, and to a later step or to a next.
use Prim.Native.Nat.{ℕ, zero, suc, ◌+◌, ◌≤◌, ◌<◌}
use native.Mathlib.Omega.{arith}
use mathlib.Core.Path.{◌≡◌, refl, sym, ◌∙◌, ap, subst}
use mathlib.Core.Logic.{◌⊎◌, inl, inr, ⊎_elim}
use mathlib.Core.Bool.{Bool, true, false, ◌||◌, not}
use mathlib.Core.List.Memᴰ
use mathlib.Core.List.{List, [], ◌∷◌, Memᴰ}
use lib.Dec.{T, ltb, ltb→lt, nltb→le}
use lib.ListN.{length, get_or, get_or-eq_default}
use Rattle.actions.specs.Sets.{ActionSet}
use Rattle.actions.proofs.Tests.{and_left, and_right, or_cases}
use Rattle.spec_policy.specs.Lists.{every}
use Rattle.spec_policy.specs.Steps.{Step, halt, targets, is_next}
use Rattle.spec_policy.proofs.ListLaws.{every_at-from-0}
use Rattle.spec_check.specs.Targets.{target_fits, asks_within, leads_well, targets_fit}
use Rattle.spec_check.specs.Lawful.{Ahead, AllAhead, Inside, Forward}

-- ---- lists

pub in-or-out : (n o : ℕ) → (o < n) ⊎ (n ≤ o)
in-or-out n o = go (ltb o n) refl
  where
    go : (b : Bool) → ltb o n ≡ b → (o < n) ⊎ (n ≤ o)
    go true e = inl (ltb→lt o n (subst T (sym e) tt))
    go false e = inr (nltb→le o n (subst (λ (b : Bool). T (not b)) (sym e) tt))

every-mem : (f : ℕ → Bool) (xs : List ℕ) → T (every f xs) → (x : ℕ) → Memᴰ x xs → T (f x)
unfolding every
every-mem f [] h x d = absurd (Memᴰ.not-nil d)
every-mem f (y ∷ ys) h x d =
    ⊎_elim (λ (e : x ≡ y). subst (λ (n : ℕ). T (f n)) (sym e) (and_left (f y) (every f ys) h))
    (λ u. every-mem f ys (and_right (f y) (every f ys) h) x u) (Memᴰ.cases_cons d)

module _ (code : List Step) where
  -- ss is the steps from offset o on
  unfoldable pub Suffix : ℕ → List Step → Type 0
  Suffix o ss = (j : ℕ) → get_or ss j halt ≡ get_or code (o + j) halt

  pub whole : Suffix 0 code
  unfolding Suffix
  whole j = let e : j ≡ 0 + j = omega arith in ap (λ (x : ℕ). get_or code x halt) e

  pub suffix-head : (o : ℕ) (s : Step) (ss : List Step) → Suffix o (s ∷ ss) → s ≡ get_or code o halt
  unfolding Suffix
  suffix-head o s ss f = let e : o + 0 ≡ o = omega arith in f zero ∙ ap (λ (x : ℕ). get_or code x halt) e

  pub suffix-tail : (o : ℕ) (s : Step) (ss : List Step) → Suffix o (s ∷ ss) → Suffix (suc o) ss
  unfolding Suffix
  suffix-tail o s ss f j = let e : o + suc j ≡ suc o + j = omega arith in f (suc j) ∙ ap (λ (x : ℕ). get_or code x halt) e

  -- outside the leaf there is only halt
  pub out_of : (o : ℕ) → length code ≤ o → get_or code o halt ≡ halt
  out_of o l = get_or-eq_default code halt l

  all-ahead : (o : ℕ) (ts : List ℕ) → ((t : ℕ) → Memᴰ t ts → Ahead code o t) → AllAhead code o ts
  unfolding AllAhead
  all-ahead o [] f = tt
  all-ahead o (t ∷ ts) f = (f t (Memᴰ.head refl), all-ahead o ts (λ u d. f u (Memᴰ.tail d)))

all-inside : (n : ℕ) (ts : List ℕ) → ((t : ℕ) → Memᴰ t ts → t < n) → Inside n ts
unfolding Inside
all-inside n [] f = tt
all-inside n (t ∷ ts) f = (f t (Memᴰ.head refl), all-inside n ts (λ u d. f u (Memᴰ.tail d)))

-- ---- rule 6

module _ (r : ActionSet) (code : List Step) (six : T (targets_fit r code)) where
  all_fit : (o : ℕ) → T (every (target_fits code o) (targets (get_or code o halt)))
  unfolding targets_fit leads_well targets every
  all_fit o =
      ⊎_elim (λ l. and_right (asks_within r (get_or code o halt)) (every (target_fits code o) (targets (get_or code o halt)))
      (every_at-from-0 (leads_well r code) code halt six o l))
      (λ l. subst (λ (k : Step). T (every (target_fits code o) (targets k))) (sym (out_of code o l)) tt) (in-or-out (length code) o)

  fits : (o t : ℕ) → Memᴰ t (targets (get_or code o halt)) → T (target_fits code o t)
  fits o t d = every-mem (target_fits code o) (targets (get_or code o halt)) (all_fit o) t d

  pub ahead_of : (o t : ℕ) → Memᴰ t (targets (get_or code o halt)) → Ahead code o t
  unfolding Ahead target_fits
  ahead_of o t d =
      ⊎_elim (λ u. inl (ltb→lt o t u)) (λ u. inr u)
      (or_cases (ltb o t) (is_next (get_or code t halt)) (and_right (ltb t (length code)) (ltb o t || is_next (get_or code t halt)) (fits o t d)))

  pub inside_of : (o t : ℕ) → Memᴰ t (targets (get_or code o halt)) → t < length code
  unfolding target_fits
  inside_of o t d = ltb→lt t (length code) (and_left (ltb t (length code)) (ltb o t || is_next (get_or code t halt)) (fits o t d))

  pub forward : Forward code
  unfolding Forward
  forward o = all-ahead code o (targets (get_or code o halt)) (ahead_of o)

  pub inside : (o : ℕ) → Inside (length code) (targets (get_or code o halt))
  inside o = all-inside (length code) (targets (get_or code o halt)) (inside_of o)

  -- so a walk through the steps in order, once past a step that is no next, does not come back to it
  pub never_back : (o p : ℕ) → p ≤ o → is_next (get_or code p halt) ≡ false → Memᴰ p (targets (get_or code o halt)) → ⊥
  unfolding Ahead
  never_back o p l n d = ⊎_elim (λ (u : o < p). omega arith) (λ u. subst T n u) (ahead_of o p d)
