-- The pass of possible actions finds just what the paper says: an action is in an offset's set where a chain of steps from a take
-- target brings it there.
use Prim.Native.Nat.{ℕ, zero, suc, ◌+◌, ◌≤◌, ◌<◌}
use native.Mathlib.Nat.{le_refl, le_of_suc-le-suc, not-suc-le-zero}
use native.Mathlib.Decide.{ℕ_discrete}
use native.Mathlib.Omega.{arith}
use mathlib.Core.Path.{◌≡◌, refl, sym, ◌∙◌, ap, subst}
use mathlib.Core.Logic.{◌⊎◌, inl, inr, ⊎_elim, ◌↔◌}
use mathlib.Core.Bool.{Bool, false, not}
use mathlib.Core.List.Memᴰ
use mathlib.Core.List.{List, [], ◌∷◌, Memᴰ}
use lib.Dec.{T}
use lib.ListN.{length, get_or, set, length-set, replicate, length-replicate}
use lib.Seq.{get_or-set_same, get_or-set_other, set_out}
use Rattle.actions.specs.Sets.{Action, ActionSet, EMPTY, union, has}
use Rattle.actions.proofs.Tests.{not-false}
use Rattle.actions.proofs.SetLaws.{has-empty, has-union-left, has-union-right, has-union-cases, in-common, common-left, common-right, in-difference, difference-left, difference-not}
use Rattle.spec_policy.specs.Steps.{Step, next, ok, sup, ins, acase, spend, end, halt, targets, is_next}
use Rattle.spec_check.specs.Targets.{targets_fit}
use Rattle.spec_check.specs.Possible.{CanBe, taken, past-ins, spent, unspent, in-case, off-case, join_at, pass_on, passed_on, possible, possible_at}
use Rattle.spec_check.proofs.Ahead.{in-or-out, Suffix, whole, suffix-head, suffix-tail, out_of, inside_of, never_back}

-- ---- one set

-- action a is in the set at offset q
unfoldable At : List ActionSet → ℕ → Action → Type 0
At ps q a = T (has (get_or ps q EMPTY) a)

join-length : (ps : List ActionSet) (t : ℕ) (s : ActionSet) → length (join_at ps t s) ≡ length ps
unfolding join_at
join-length ps t s = length-set ps t (union (get_or ps t EMPTY) s)

join-new : (ps : List ActionSet) (t : ℕ) (s : ActionSet) (a : Action) → t < length ps → T (has s a) → At (join_at ps t s) t a
unfolding At join_at
join-new ps t s a l h =
    subst (λ (x : ActionSet). T (has x a)) (sym (get_or-set_same ps t (union (get_or ps t EMPTY) s) EMPTY l)) (has-union-right (get_or ps t EMPTY) s a h)

-- what a join leaves at an offset: the set there with s joined to it, or as it was
join-at : (ps : List ActionSet) (t : ℕ) (s : ActionSet) (q : ℕ) →
    ((t ≡ q) × (get_or (join_at ps t s) q EMPTY ≡ union (get_or ps q EMPTY) s)) ⊎ (get_or (join_at ps t s) q EMPTY ≡ get_or ps q EMPTY)
unfolding join_at
join-at ps t s q = go (ℕ_discrete t q)
  where
    v : ActionSet
    v = union (get_or ps t EMPTY) s

    go : Dec (t ≡ q) → ((t ≡ q) × (get_or (set ps t v) q EMPTY ≡ union (get_or ps q EMPTY) s)) ⊎ (get_or (set ps t v) q EMPTY ≡ get_or ps q EMPTY)
    go (yes e) =
        ⊎_elim (λ l. inl (e, subst (λ (x : ℕ). get_or (set ps t v) x EMPTY ≡ union (get_or ps x EMPTY) s) e (get_or-set_same ps t v EMPTY l)))
        (λ l. inr (ap (λ (x : List ActionSet). get_or x q EMPTY) (set_out ps t v l))) (in-or-out (length ps) t)
    go (no n) = inr (get_or-set_other ps t q v EMPTY (λ e. n (sym e)))

join-keeps : (ps : List ActionSet) (t : ℕ) (s : ActionSet) (q : ℕ) (a : Action) → At ps q a → At (join_at ps t s) q a
unfolding At
join-keeps ps t s q a h =
    ⊎_elim (λ u. subst (λ (x : ActionSet). T (has x a)) (sym u.1) (has-union-left (get_or ps q EMPTY) s a h))
    (λ u. subst (λ (x : ActionSet). T (has x a)) (sym u) h) (join-at ps t s q)

join-cases : (ps : List ActionSet) (t : ℕ) (s : ActionSet) (q : ℕ) (a : Action) → At (join_at ps t s) q a → At ps q a ⊎ ((t ≡ q) × T (has s a))
unfolding At
join-cases ps t s q a h =
    ⊎_elim (λ u. ⊎_elim (λ k. inl k) (λ k. inr (u.0, k)) (has-union-cases (get_or ps q EMPTY) s a (subst (λ (x : ActionSet). T (has x a)) u.1 h)))
    (λ u. inl (subst (λ (x : ActionSet). T (has x a)) u h)) (join-at ps t s q)

-- ---- one step

-- a step with the set p hands action a on to offset q
data Hands (r p : ActionSet) (a : Action) : Step → ℕ → Type 0 where
  to_take : {t d : ℕ} → T (has r a) → Hands r p a (next t d) t
  to-ins : {b t : ℕ} → T (has p a) → Hands r p a (ins b t) t
  to-yes : {s y z : ℕ} → T (has p a) → T (has s a) → Hands r p a (acase s y z) y
  to-no : {s y z : ℕ} → T (has p a) → T (not (has s a)) → Hands r p a (acase s y z) z
  to-spent : {n y z : ℕ} → T (has p a) → Hands r p a (spend n y z) y
  to-unspent : {n y z : ℕ} → T (has p a) → Hands r p a (spend n y z) z

module _ (r : ActionSet) where
  hands-target : (p : ActionSet) (a : Action) (s : Step) (q : ℕ) → Hands r p a s q → Memᴰ q (targets s)
  unfolding targets
  hands-target p a s q (to_take h) = Memᴰ.head refl
  hands-target p a s q (to-ins h) = Memᴰ.head refl
  hands-target p a s q (to-yes h k) = Memᴰ.head refl
  hands-target p a s q (to-no h k) = Memᴰ.tail (Memᴰ.head refl)
  hands-target p a s q (to-spent h) = Memᴰ.head refl
  hands-target p a s q (to-unspent h) = Memᴰ.tail (Memᴰ.head refl)

  -- what is possible at a next is not handed on; what any other step hands on is in its set
  hands-from : (p p' : ActionSet) (a : Action) (s : Step) (q : ℕ) → (is_next s ≡ false → T (has p a) → T (has p' a)) → Hands r p a s q → Hands r p' a s q
  unfolding is_next
  hands-from p p' a s q f (to_take h) = to_take h
  hands-from p p' a s q f (to-ins h) = to-ins (f refl h)
  hands-from p p' a s q f (to-yes h k) = to-yes (f refl h) k
  hands-from p p' a s q f (to-no h k) = to-no (f refl h) k
  hands-from p p' a s q f (to-spent h) = to-spent (f refl h)
  hands-from p p' a s q f (to-unspent h) = to-unspent (f refl h)

  pass-length : (s : Step) (p : ActionSet) (ps : List ActionSet) → length (pass_on r s p ps) ≡ length ps
  unfolding pass_on
  pass-length (next t d) p ps = simp join-length
  pass-length (ok t) p ps = refl
  pass-length (sup t) p ps = refl
  pass-length (ins b t) p ps = simp join-length
  pass-length (acase s y z) p ps = simp join-length
  pass-length (spend n y z) p ps = simp join-length
  pass-length end p ps = refl
  pass-length halt p ps = refl

  pass-keeps : (s : Step) (p : ActionSet) (ps : List ActionSet) (q : ℕ) (a : Action) → At ps q a → At (pass_on r s p ps) q a
  unfolding pass_on
  pass-keeps (next t d) p ps q a h = join-keeps _ _ _ q a h
  pass-keeps (ok t) p ps q a h = h
  pass-keeps (sup t) p ps q a h = h
  pass-keeps (ins b t) p ps q a h = join-keeps _ _ _ q a h
  pass-keeps (acase s y z) p ps q a h = join-keeps _ _ _ q a (join-keeps _ _ _ q a h)
  pass-keeps (spend n y z) p ps q a h = join-keeps _ _ _ q a (join-keeps _ _ _ q a h)
  pass-keeps end p ps q a h = h
  pass-keeps halt p ps q a h = h

  -- what a step hands on comes into its target's set
  pass-hands : (p : ActionSet) (ps : List ActionSet) (a : Action) (s : Step) (q : ℕ) → q < length ps → Hands r p a s q → At (pass_on r s p ps) q a
  unfolding pass_on
  pass-hands p ps a s q l (to_take h) = join-new _ _ _ a l h
  pass-hands p ps a s q l (to-ins h) = join-new _ _ _ a l h
  pass-hands p ps a s q l (to-yes h k) = join-keeps _ _ _ q a (join-new _ _ _ a l (in-common _ _ a h k))
  pass-hands p ps a s q l (to-no h k) = join-new _ _ _ a (simp join-length l) (search (in-difference, not-false))
  pass-hands p ps a s q l (to-spent h) = join-keeps _ _ _ q a (join-new _ _ _ a l h)
  pass-hands p ps a s q l (to-unspent h) = join-new _ _ _ a (simp join-length l) h

  one-join : (ps : List ActionSet) (t : ℕ) (u : ActionSet) (q : ℕ) (a : Action) (p : ActionSet) (s : Step) → (T (has u a) → Hands r p a s t)
      → At (join_at ps t u) q a → At ps q a ⊎ Hands r p a s q
  one-join ps t u q a p s f h = ⊎_elim (λ k. inl k) (λ k. inr (subst (λ (x : ℕ). Hands r p a s x) k.0 (f k.1))) (join-cases ps t u q a h)

  -- and nothing else comes into a set
  pass-cases : (s : Step) (p : ActionSet) (ps : List ActionSet) (q : ℕ) (a : Action) → At (pass_on r s p ps) q a → At ps q a ⊎ Hands r p a s q
  unfolding pass_on
  pass-cases (next t d) p ps q a h = one-join _ _ _ q a p (next t d) (λ k. to_take k) h
  pass-cases (ok t) p ps q a h = inl h
  pass-cases (sup t) p ps q a h = inl h
  pass-cases (ins b t) p ps q a h = one-join _ _ _ q a p (ins b t) (λ k. to-ins k) h
  pass-cases (acase s y z) p ps q a h =
      ⊎_elim (λ k. one-join _ _ _ q a p (acase s y z) (λ u. to-yes (common-left p s a u) (common-right p s a u)) k) (λ k. inr k)
      (one-join _ _ _ q a p (acase s y z) (λ u. to-no (difference-left p s a u) (subst (λ (b : Bool). T (not b)) (sym (difference-not p s a u)) tt)) h)
  pass-cases (spend n y z) p ps q a h =
      ⊎_elim (λ k. one-join _ _ _ q a p (spend n y z) (λ u. to-spent u) k) (λ k. inr k) (one-join _ _ _ q a p (spend n y z) (λ u. to-unspent u) h)
  pass-cases end p ps q a h = inl h
  pass-cases halt p ps q a h = inl h

-- ---- the walk

blank : (n q : ℕ) → get_or (replicate n EMPTY) q EMPTY ≡ EMPTY
blank zero q = refl
blank (suc n) zero = refl
blank (suc n) (suc q) = blank n q

module _ (r : ActionSet) where
  -- the sets after the step at o
  abbrev stepped : ℕ → Step → List ActionSet → List ActionSet
  stepped o s ps = pass_on r s (get_or ps o EMPTY) ps

  passed-keeps : (o : ℕ) (ss : List Step) (ps : List ActionSet) (q : ℕ) (a : Action) → At ps q a → At (passed_on r o ss ps) q a
  unfolding passed_on
  passed-keeps o [] ps q a h = h
  passed-keeps o (s ∷ ss) ps q a h = passed-keeps (suc o) ss (stepped o s ps) q a (pass-keeps r s (get_or ps o EMPTY) ps q a h)

-- every action of a set is one that the paper puts there
module _ (r : ActionSet) (code : List Step) where
  AllCanBe : List ActionSet → Type 0
  AllCanBe ps = (q : ℕ) (a : Action) → At ps q a → CanBe r code q a

  handed : (p : ActionSet) (a : Action) (o : ℕ) (s : Step) (q : ℕ) → get_or code o halt ≡ s → (T (has p a) → CanBe r code o a) → Hands r p a s q → CanBe r code q a
  handed p a o s q e f (to_take h) = taken o e h
  handed p a o s q e f (to-ins h) = past-ins e (f h)
  handed p a o s q e f (to-yes h k) = in-case e k (f h)
  handed p a o s q e f (to-no h k) = off-case e k (f h)
  handed p a o s q e f (to-spent h) = spent e (f h)
  handed p a o s q e f (to-unspent h) = unspent e (f h)

  passed-real : (o : ℕ) (ss : List Step) (ps : List ActionSet) → Suffix code o ss → AllCanBe ps → AllCanBe (passed_on r o ss ps)
  unfolding passed_on AllCanBe At
  passed-real o [] ps f all = all
  passed-real o (s ∷ ss) ps f all =
      passed-real (suc o) ss (stepped r o s ps) (suffix-tail code o s ss f)
      (λ q a h. ⊎_elim (all q a) (handed (get_or ps o EMPTY) a o s q (sym (suffix-head code o s ss f)) (all o a)) (pass-cases r s (get_or ps o EMPTY) ps q a h))

  pub possible-real : (o : ℕ) (a : Action) → T (has (possible_at r code o) a) → CanBe r code o a
  unfolding possible_at possible At AllCanBe
  possible-real = passed-real 0 code (replicate (length code) EMPTY) (whole code) none
    where
      none : (q : ℕ) (a : Action) → T (has (get_or (replicate (length code) EMPTY) q EMPTY) a) → CanBe r code q a
      none q a h = absurd (subst T (ap (λ (x : ActionSet). has x a) (blank (length code) q) ∙ has-empty a) h)

-- and every action that the paper puts there is found, as no step leads back but to a next
module _ (r : ActionSet) (code : List Step) (six : T (targets_fit r code)) where
  -- from o on nothing more becomes possible at an earlier step, unless that is a next
  passed-late : (o p : ℕ) (a : Action) (ss : List Step) (ps : List ActionSet) → Suffix code o ss → p ≤ o → is_next (get_or code p halt) ≡ false
      → At (passed_on r o ss ps) p a → At ps p a
  unfolding passed_on
  passed-late o p a [] ps f l n h = h
  passed-late o p a (s ∷ ss) ps f l n h =
      ⊎_elim (λ k. k)
      (λ k. absurd (never_back r code six o p l n
      (subst (λ (x : Step). Memᴰ p (targets x)) (suffix-head code o s ss f) (hands-target r (get_or ps o EMPTY) a s p k))))
      (pass-cases r s (get_or ps o EMPTY) ps p a (passed-late (suc o) p a ss (stepped r o s ps) (suffix-tail code o s ss f) (omega arith) n h))

  -- what the step at o hands on from its set at the walk's end is there at the walk's end
  handed-on : (o : ℕ) (s : Step) (ss : List Step) (ps : List ActionSet) → Suffix code o (s ∷ ss) → length ps ≡ length code → (a : Action) (q : ℕ)
      → Hands r (get_or (passed_on r o (s ∷ ss) ps) o EMPTY) a s q → At (passed_on r o (s ∷ ss) ps) q a
  unfolding passed_on At
  handed-on o s ss ps f n a q h =
      passed-keeps r (suc o) ss (stepped r o s ps) q a (pass-hands r (get_or ps o EMPTY) ps a s q inside
      (hands-from r (get_or (passed_on r o (s ∷ ss) ps) o EMPTY) (get_or ps o EMPTY) a s q
      (λ e. passed-late o o a (s ∷ ss) ps f (le_refl o) (sym (ap is_next (suffix-head code o s ss f)) ∙ e)) h))
    where
      inside : q < length ps
      inside =
          subst (λ (x : ℕ). q < x) (sym n) (inside_of r code six o q
          (subst (λ (x : Step). Memᴰ q (targets x)) (suffix-head code o s ss f) (hands-target r (get_or (passed_on r o (s ∷ ss) ps) o EMPTY) a s q h)))

  closed : (o : ℕ) (ss : List Step) (ps : List ActionSet) → Suffix code o ss → length ps ≡ length code → (j p : ℕ) → j < length ss → o + j ≡ p → (a : Action) (q : ℕ)
      → Hands r (get_or (passed_on r o ss ps) p EMPTY) a (get_or code p halt) q → At (passed_on r o ss ps) q a
  unfolding passed_on
  closed o [] ps f n j p l e a q = absurd (not-suc-le-zero l)
  closed o (s ∷ ss) ps f n zero p l e a q =
      let z : o ≡ p = omega arith in
      subst (λ (x : ℕ). Hands r (get_or (passed_on r o (s ∷ ss) ps) x EMPTY) a (get_or code x halt) q → At (passed_on r o (s ∷ ss) ps) q a) z
      (subst (λ (x : Step). Hands r (get_or (passed_on r o (s ∷ ss) ps) o EMPTY) a x q → At (passed_on r o (s ∷ ss) ps) q a) (suffix-head code o s ss f)
      (handed-on o s ss ps f n a q))
  closed o (s ∷ ss) ps f n (suc j) p l e a q =
      closed (suc o) ss (stepped r o s ps) (suffix-tail code o s ss f) (pass-length r s (get_or ps o EMPTY) ps ∙ n) j p (le_of_suc-le-suc l) (omega arith) a q

  -- a step of the leaf hands on what is in its set
  possible-closed : (o : ℕ) (a : Action) (s : Step) (q : ℕ) → get_or code o halt ≡ s → Hands r (possible_at r code o) a s q → T (has (possible_at r code q) a)
  unfolding possible_at possible At targets
  possible-closed o a s q e h =
      ⊎_elim (λ l. closed 0 code (replicate (length code) EMPTY) (whole code) (length-replicate (length code) EMPTY) o o l (omega arith) a q
      (subst (λ (x : Step). Hands r (possible_at r code o) a x q) (sym e) h))
      (λ l. absurd (no-hands (possible_at r code o) a q (subst (λ (x : Step). Hands r (possible_at r code o) a x q) (sym e ∙ out_of code o l) h)))
      (in-or-out (length code) o)
    where
      no-hands : (p : ActionSet) (a : Action) (q : ℕ) → Hands r p a halt q → ⊥
      no-hands p a q h = Memᴰ.not-nil (hands-target r p a halt q h)

  pub possible-found : (o : ℕ) (a : Action) → CanBe r code o a → T (has (possible_at r code o) a)
  possible-found o a (taken {t = t} {d = d} p e h) = possible-closed p a (next t d) t e (to_take h)
  possible-found o a (past-ins {o = p} {b = b} {t = t} e h) = possible-closed p a (ins b t) t e (to-ins (possible-found p a h))
  possible-found o a (spent {o = p} {n = n} {y = y} {z = z} e h) = possible-closed p a (spend n y z) y e (to-spent (possible-found p a h))
  possible-found o a (unspent {o = p} {n = n} {y = y} {z = z} e h) = possible-closed p a (spend n y z) z e (to-unspent (possible-found p a h))
  possible-found o a (in-case {o = p} {s = s} {y = y} {z = z} e k h) = possible-closed p a (acase s y z) y e (to-yes (possible-found p a h) k)
  possible-found o a (off-case {o = p} {s = s} {y = y} {z = z} e k h) = possible-closed p a (acase s y z) z e (to-no (possible-found p a h) k)

  pub possible-exact : (o : ℕ) (a : Action) → CanBe r code o a ↔ T (has (possible_at r code o) a)
  possible-exact o a = (possible-found o a, possible-real r code o a)
