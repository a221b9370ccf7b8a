-- What a step makes of what is possible at it: that a walk leaves alone what is
-- possible at an earlier step, unless that is a next.
use Prim.Native.Nat.{ℕ, zero, suc, ◌+◌, ◌<◌, ◌≤◌}
use native.Mathlib.Omega.{arith}
use mathlib.Core.Path.{◌≡◌, refl, sym, ap, ap₂, ◌∙◌, subst}
use mathlib.Core.Bool.{false, not, ◌&&◌}
use mathlib.Core.List.{List, [], ◌∷◌, Memᴰ}
use lib.Dec.{T, ltb, ltb→lt}
use lib.ListN.{length, get_or, set, take, replicate, length-set}
use lib.Seq.{get_or-set_other, take-set-lt, get_or-take}
use Rattle.actions.specs.Sets.{ActionSet, EMPTY, union, common, difference, is_empty}
use Rattle.actions.proofs.Tests.{and_left, and_right}
use Rattle.spec_policy.specs.Lists.{every}
use Rattle.spec_policy.specs.Steps.{Step, next, ok, sup, ins, acase, spend, end, halt, targets, is_next}
use Rattle.spec_check.specs.Targets.{targets_fit}
use Rattle.spec_check.specs.Possible.{join_at, pass_on, passed_on, branches_taken}
use Rattle.spec_check.specs.Interference.{step_effects}
use Rattle.spec_check.proofs.Ahead.{Suffix, suffix-head, suffix-tail, never_back}

-- the second set is joined where the first has been
pub two-joins : (ps : List ActionSet) (y z : ℕ) {s s' t t' : ActionSet} {qs rs : List ActionSet}
    → qs ≡ join_at ps y s → rs ≡ join_at qs z t → s ≡ s' → t ≡ t' → rs ≡ join_at (join_at ps y s') z t'
two-joins ps y z p q a b = q ∙ ap₂ (λ (l : List ActionSet) (x : ActionSet). join_at l z x) (p ∙ ap (join_at ps y) a) b

-- ---- targets that lie in the leaf

module _ (n : ℕ) where
  pub first-inside : (t : ℕ) (ts : List ℕ) → T (every (λ (u : ℕ). ltb u n) (t ∷ ts)) → t < n
  unfolding every
  first-inside t ts h = ltb→lt t n (and_left (ltb t n) (every (λ (u : ℕ). ltb u n) ts) h)

  pub second-inside : (t u : ℕ) (ts : List ℕ) → T (every (λ (v : ℕ). ltb v n) (t ∷ u ∷ ts)) → u < n
  unfolding every
  second-inside t u ts h = first-inside u ts (and_right (ltb t n) (every (λ (v : ℕ). ltb v n) (u ∷ ts)) h)

-- ---- the list of a leaf's sets is the first so many of the 64 words

join-take : (n : ℕ) (ps : List ActionSet) (t : ℕ) (s : ActionSet) → t < n → take n (join_at ps t s) ≡ join_at (take n ps) t s
unfolding join_at
join-take n ps t s h = take-set-lt n ps t _ h ∙ ap (λ (x : ActionSet). set (take n ps) t (union x s)) (sym (get_or-take n ps t EMPTY h))

joins-take : (n : ℕ) (ps : List ActionSet) (y z : ℕ) (s t : ActionSet) → y < n → z < n
    → take n (join_at (join_at ps y s) z t) ≡ join_at (join_at (take n ps) y s) z t
joins-take n ps y z s t a b = join-take n (join_at ps y s) z t b ∙ ap (λ (l : List ActionSet). join_at l z t) (join-take n ps y s a)

pub join-length : (ps : List ActionSet) (t : ℕ) (s : ActionSet) → length (join_at ps t s) ≡ length ps
unfolding join_at
join-length ps t s = length-set ps t _

pub pass-length : (r : ActionSet) (k : Step) (p : ActionSet) (ps : List ActionSet) → length (pass_on r k p ps) ≡ length ps
unfolding pass_on
pass-length r (next t d) p ps = join-length ps t r
pass-length r (ok t) p ps = refl
pass-length r (sup t) p ps = refl
pass-length r (ins b t) p ps = join-length ps t p
pass-length r (acase s y z) p ps = join-length (join_at ps y (common p s)) z (difference p s) ∙ join-length ps y (common p s)
pass-length r (spend m y z) p ps = join-length (join_at ps y p) z p ∙ join-length ps y p
pass-length r end p ps = refl
pass-length r halt p ps = refl

pub pass-take : (n : ℕ) (r : ActionSet) (k : Step) (p : ActionSet) (ps : List ActionSet) → T (every (λ (u : ℕ). ltb u n) (targets k))
    → take n (pass_on r k p ps) ≡ pass_on r k p (take n ps)
unfolding pass_on targets
pass-take n r (next t d) p ps h = join-take n ps t r (first-inside n t (d ∷ []) h)
pass-take n r (ok t) p ps h = refl
pass-take n r (sup t) p ps h = refl
pass-take n r (ins b t) p ps h = join-take n ps t p (first-inside n t [] h)
pass-take n r (acase s y z) p ps h = joins-take n ps y z (common p s) (difference p s) (first-inside n y (z ∷ []) h) (second-inside n y z [] h)
pass-take n r (spend m y z) p ps h = joins-take n ps y z p p (first-inside n y (z ∷ []) h) (second-inside n y z [] h)
pass-take n r end p ps h = refl
pass-take n r halt p ps h = refl

-- one step of the walk over the words
pub passed-step : (n : ℕ) (r : ActionSet) (o : ℕ) (s : Step) (ss : List Step) (sets after : List ActionSet) → o < n → T (every (λ (u : ℕ). ltb u n) (targets s))
    → after ≡ pass_on r s (get_or sets o EMPTY) sets → passed_on r o (s ∷ ss) (take n sets) ≡ passed_on r (o + 1) ss (take n after)
unfolding passed_on
passed-step n r o s ss sets after h inside e =
    let z : suc o ≡ o + 1 = omega arith in
    let now : pass_on r s (get_or (take n sets) o EMPTY) (take n sets) ≡ take n after =
    ap (λ (q : ActionSet). pass_on r s q (take n sets)) (get_or-take n sets o EMPTY h) ∙ sym (pass-take n r s (get_or sets o EMPTY) sets inside) ∙ ap (take n) (sym e) in
    ap₂ (λ (k : ℕ) (ps : List ActionSet). passed_on r k ss ps) z now

-- no action is possible before the walk
pub none-possible : (n : ℕ) → n ≤ 64 → take n (replicate {A = ℕ} 64 0) ≡ replicate n EMPTY
unfolding EMPTY
none-possible n h = go n 64 h
  where
    go : (n m : ℕ) → n ≤ m → take n (replicate {A = ℕ} m 0) ≡ replicate {A = ℕ} n 0
    go zero m h = refl
    go (suc n) zero h = absurd (omega arith)
    go (suc n) (suc m) h = ap (λ (l : List ℕ). 0 ∷ l) (go n m (omega arith))

-- ---- the walk leaves alone what is possible at an earlier step

module _ (o : ℕ) where
  join-elsewhere : (ps : List ActionSet) (t : ℕ) (s : ActionSet) → (o ≡ t → ⊥) → get_or (join_at ps t s) o EMPTY ≡ get_or ps o EMPTY
  unfolding join_at
  join-elsewhere ps t s h = get_or-set_other ps t o _ EMPTY h

  joins-elsewhere : (ps : List ActionSet) (y z : ℕ) (s t : ActionSet) → (Memᴰ o (y ∷ z ∷ []) → ⊥) → get_or (join_at (join_at ps y s) z t) o EMPTY ≡ get_or ps o EMPTY
  joins-elsewhere ps y z s t h =
      join-elsewhere (join_at ps y s) z t (λ e. h (Memᴰ.tail (Memᴰ.head e))) ∙ join-elsewhere ps y s (λ e. h (Memᴰ.head e))

  pass-elsewhere : (r : ActionSet) (s : Step) (p : ActionSet) (ps : List ActionSet) → (Memᴰ o (targets s) → ⊥) → get_or (pass_on r s p ps) o EMPTY ≡ get_or ps o EMPTY
  unfolding pass_on targets
  pass-elsewhere r (next t d) p ps h = join-elsewhere ps t r (λ e. h (Memᴰ.head e))
  pass-elsewhere r (ok t) p ps h = refl
  pass-elsewhere r (sup t) p ps h = refl
  pass-elsewhere r (ins b t) p ps h = join-elsewhere ps t p (λ e. h (Memᴰ.head e))
  pass-elsewhere r (acase s y z) p ps h = joins-elsewhere ps y z (common p s) (difference p s) h
  pass-elsewhere r (spend n y z) p ps h = joins-elsewhere ps y z p p h
  pass-elsewhere r end p ps h = refl
  pass-elsewhere r halt p ps h = refl

module _ (r : ActionSet) (code : List Step) (six : T (targets_fit r code)) (o : ℕ) (n : is_next (get_or code o halt) ≡ false) where
  pub passed-elsewhere : (p : ℕ) (ss : List Step) (ps : List ActionSet) → Suffix code p ss → o ≤ p → get_or (passed_on r p ss ps) o EMPTY ≡ get_or ps o EMPTY
  unfolding passed_on
  passed-elsewhere p [] ps f l = refl
  passed-elsewhere p (s ∷ ss) ps f l =
      passed-elsewhere (suc p) ss (pass_on r s (get_or ps p EMPTY) ps) (suffix-tail code p s ss f) (omega arith)
      ∙ pass-elsewhere o r s (get_or ps p EMPTY) ps
      (λ d. never_back r code six p o l n (subst (λ (x : Step). Memᴰ o (targets x)) (suffix-head code p s ss f) d))

-- ---- a step that is no next asks for nothing but the set at it, and a next for none

branches-by : (ps qs : List ActionSet) (i j : ℕ) (s : Step) → (is_next s ≡ false → get_or ps i EMPTY ≡ get_or qs j EMPTY) → branches_taken ps i s ≡ branches_taken qs j s
unfolding branches_taken is_next
branches-by ps qs i j (next t d) e = refl
branches-by ps qs i j (ok t) e = refl
branches-by ps qs i j (sup t) e = refl
branches-by ps qs i j (ins b t) e = refl
branches-by ps qs i j (acase s y z) e = ap (λ (p : ActionSet). not (is_empty (common p s)) && not (is_empty (difference p s))) (e refl)
branches-by ps qs i j (spend m y z) e = refl
branches-by ps qs i j end e = refl
branches-by ps qs i j halt e = refl

-- the test of a step by the set at it alone
pub branches-alone : (ps : List ActionSet) (o : ℕ) (p : ActionSet) (s : Step) → (is_next s ≡ false → get_or ps o EMPTY ≡ p)
    → branches_taken ps o s ≡ branches_taken (p ∷ []) 0 s
branches-alone ps o p s e = branches-by ps (p ∷ []) o 0 s e

pub effects-by : (p q : ActionSet) (s : Step) → (is_next s ≡ false → p ≡ q) → step_effects p s ≡ step_effects q s
unfolding step_effects is_next
effects-by p q (next t d) e = refl
effects-by p q (ok t) e = refl
effects-by p q (sup t) e = e refl
effects-by p q (ins b t) e = refl
effects-by p q (acase s y z) e = refl
effects-by p q (spend m y z) e = refl
effects-by p q end e = refl
effects-by p q halt e = refl
