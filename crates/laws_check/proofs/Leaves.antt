-- A leaf that keeps rules 6 and 7 is lawful: where a step is reached, what it leads to is reached, and what it hands on is possible
-- there.
use Prim.Native.Nat.{ℕ, zero, suc, ◌+◌, ◌<◌}
use native.Mathlib.Nat.{le_of_suc-le-suc, not-suc-le-zero}
use native.Mathlib.Omega.{arith}
use mathlib.Core.Path.{◌≡◌, refl, sym, subst}
use mathlib.Core.Logic.{⊎_elim}
use mathlib.Core.Bool.{Bool, not}
use mathlib.Core.List.{List, [], ◌∷◌, Memᴰ}
use lib.Dec.{T}
use lib.ListN.{length, get_or}
use Rattle.actions.specs.Sets.{Action, ActionSet, EMPTY, has}
use Rattle.actions.proofs.Tests.{of-yes}
use Rattle.actions.proofs.SetLaws.{has-union-left, has-union-right, in-single}
use Rattle.spec_policy.specs.Lists.{every}
use Rattle.spec_policy.specs.Steps.{Step, next, ok, sup, ins, acase, spend, end, halt}
use Rattle.spec_policy.proofs.ListLaws.{every-at}
use Rattle.spec_check.specs.Targets.{targets_fit}
use Rattle.spec_check.specs.Modes.{Mark, Mode, idle, pending, closing, stands, onward, leads, Reached, first, led, modes_fit}
use Rattle.spec_check.specs.Possible.{CanBe, taken, past-ins, spent, unspent, in-case, off-case, possible, possible_at}
use Rattle.spec_check.specs.Interference.{step_effects, code_effects, leaf_effects}
use Rattle.spec_check.specs.Lawful.{reached_in, Sub, Follows, LawfulLeaf}
use Rattle.spec_check.proofs.InsFits.{ins_fits}
use Rattle.spec_check.proofs.Ahead.{in-or-out, out_of, forward, inside}
use Rattle.laws_check.proofs.Modes.{idle-only, pending-only, leads-onward, modes-real, modes-found}
use Rattle.laws_check.proofs.Possible.{possible-real, possible-found}
use Rattle.laws_check.proofs.Rule7.{rule-7}
use Rattle.laws_check.specs.Rule7.{OneMode}

-- the effects of each step are among the leaf's
effects-from : (ps : List ActionSet) (o : ℕ) (ss : List Step) (j p : ℕ) → j < length ss → o + j ≡ p → Sub (step_effects (get_or ps p EMPTY) (get_or ss j halt)) (code_effects ps o ss)
unfolding Sub code_effects
effects-from ps o [] j p l e a h = absurd (not-suc-le-zero l)
effects-from ps o (s ∷ ss) zero p l e a h =
    let z : p ≡ o = omega arith in
    has-union-left (step_effects (get_or ps o EMPTY) s) (code_effects ps (suc o) ss) a (subst (λ (n : ℕ). T (has (step_effects (get_or ps n EMPTY) s) a)) z h)
effects-from ps o (s ∷ ss) (suc j) p l e a h =
    has-union-right (step_effects (get_or ps o EMPTY) s) (code_effects ps (suc o) ss) a (effects-from ps (suc o) ss j p (le_of_suc-le-suc l) (omega arith) a h)

module _ (r : ActionSet) (code : List Step) (six : T (targets_fit r code)) (seven : T (modes_fit code)) (actions : T (every ins_fits code)) where
  -- what is known of the step k at o, which is reached in mode m
  module _ (m : Mode) (o : ℕ) (l : o < length code) (h : Reached code m o) (k : Step) (e : get_or code o halt ≡ k) where
    standing : T (stands k m)
    standing =
        let u : OneMode code o = rule-7 r code six seven o l in
        subst (λ (x : Step). T (stands x m)) e (subst (λ (x : Mode). T (stands (get_or code o halt) x)) (sym (u.only m h)) u.may-stand)

    reaches : (m' : Mode) (t : ℕ) → Memᴰ (record { mode = m'; offset = t }) (onward k m) → T (reached_in code m' t)
    reaches m' t d =
        let u : Memᴰ (record { mode = m'; offset = t }) (leads k m) = subst (λ (l : List Mark). Memᴰ (record { mode = m'; offset = t }) l) (sym (leads-onward k m standing)) d in
        modes-found r code six m' t (led h (subst (λ (x : Step). Memᴰ (record { mode = m'; offset = t }) (leads x m)) (sym e) u))

    effect : Sub (step_effects (possible_at r code o) k) (leaf_effects r code)
    unfolding leaf_effects possible_at
    effect = subst (λ (x : Step). Sub (step_effects (possible_at r code o) x) (leaf_effects r code)) e (effects-from (possible r code) 0 code o o l (omega arith))

    inserted : T (ins_fits k)
    inserted = subst (λ (x : Step). T (ins_fits x)) e (every-at ins_fits code halt actions o l)

  -- what is possible at o is possible where a step there brings it
  brings : (o t : ℕ) (a : Action) → (CanBe r code o a → CanBe r code t a) → T (has (possible_at r code o) a) → T (has (possible_at r code t) a)
  brings o t a f h = possible-found r code six t a (f (possible-real r code o a h))

  follows : (m : Mode) (o : ℕ) → o < length code → Reached code m o → (k : Step) → get_or code o halt ≡ k → Follows r code m o k
  unfolding Follows Sub stands onward step_effects ins_fits
  follows m o l h (next t d) e =
      let s = standing m o l h (next t d) e in
      let u = reaches m o l h (next t d) e in
      (sym (idle-only m s), u pending t (mathlib.Core.List.Memᴰ.head refl), u closing d (mathlib.Core.List.Memᴰ.tail (mathlib.Core.List.Memᴰ.head refl)), λ a k. possible-found r code six t a (taken o e k))
  follows m o l h (ok t) e = (sym (pending-only m (standing m o l h (ok t) e)), reaches m o l h (ok t) e idle t (mathlib.Core.List.Memᴰ.head refl))
  follows m o l h (sup t) e =
      (sym (pending-only m (standing m o l h (sup t) e)), reaches m o l h (sup t) e idle t (mathlib.Core.List.Memᴰ.head refl), effect m o l h (sup t) e)
  follows m o l h (ins b t) e = (
    reaches m o l h (ins b t) e m t (mathlib.Core.List.Memᴰ.head refl),
    (λ a. brings o t a (λ c. past-ins e c)),
    effect m o l h (ins b t) e b (in-single b (inserted m o l h (ins b t) e)),
  )
  follows m o l h (acase s y z) e =
      let u = reaches m o l h (acase s y z) e in (
        sym (pending-only m (standing m o l h (acase s y z) e)),
        u m y (mathlib.Core.List.Memᴰ.head refl),
        u m z (mathlib.Core.List.Memᴰ.tail (mathlib.Core.List.Memᴰ.head refl)),
        (λ a k i. brings o y a (λ c. in-case e (of-yes (has s a) i) c) k),
        (λ a k i. brings o z a (λ c. off-case e (subst (λ (x : Bool). T (not x)) (sym i) tt) c) k),
      )
  follows m o l h (spend n y z) e =
      let u = reaches m o l h (spend n y z) e in (
        u m y (mathlib.Core.List.Memᴰ.head refl),
        u m z (mathlib.Core.List.Memᴰ.tail (mathlib.Core.List.Memᴰ.head refl)),
        (λ a. brings o y a (λ c. spent e c)),
        (λ a. brings o z a (λ c. unspent e c)),
      )
  follows m o l h end e = tt
  follows m o l h halt e = tt

  flows : (m : Mode) (o : ℕ) → T (reached_in code m o) → Follows r code m o (get_or code o halt)
  unfolding Follows
  flows m o h =
      ⊎_elim (λ l. follows m o l (modes-real code m o h) (get_or code o halt) refl) (λ l. subst (λ (k : Step). Follows r code m o k) (sym (out_of code o l)) tt)
      (in-or-out (length code) o)

  pub lawful-leaf : LawfulLeaf r code
  lawful-leaf = record { first = modes-found r code six idle 0 first; flow = flows; forward = forward r code six; inside = inside r code six }
