-- Rule 7 as the paper says it: each step of the leaf is reached in just one mode, and may stand in it.
use Prim.Native.Nat.{ℕ, zero, suc, ◌+◌, ◌<◌, zero-le, suc-le-suc}
use native.Mathlib.Omega.{arith}
use mathlib.Core.Path.{◌≡◌, refl, sym, subst}
use mathlib.Core.Logic.{◌↔◌}
use mathlib.Core.Bool.{Bool, true, false, ◌&&◌, ◌||◌, not}
use mathlib.Core.List.{List, [], ◌∷◌}
use lib.Dec.{T, eqb}
use lib.ListN.{length, get_or}
use Rattle.actions.specs.Sets.{ActionSet}
use Rattle.actions.proofs.Tests.{and_intro, and_left, and_right, implied, both}
use Rattle.spec_policy.specs.Lists.{one, every_at}
use Rattle.spec_policy.specs.Steps.{Step, halt}
use Rattle.spec_policy.proofs.ListLaws.{every_at-from-0}
use Rattle.spec_check.specs.Targets.{targets_fit}
use Rattle.spec_check.specs.Modes.{Mode, idle, pending, closing, is_idle, is_pending, is_closing, same_mode, stands, Reached, marks, mode_fits, modes_fit}
use Rattle.spec_check.specs.Lawful.{reached_in}
use Rattle.laws_check.proofs.Modes.{same-itself, same-mode, modes-real, modes-found}
use Rattle.laws_check.specs.Rule7.{OneMode}

-- ---- the test of one step, over any test f of a mode for "reached in" and g for "may stand in"

-- f holds of m and of no other mode
Sole : (Mode → Bool) → Mode → Type 0
Sole f m = (m' : Mode) → f m' ≡ same_mode m' m

count : (Mode → Bool) → Bool
count f = eqb (one (f idle) + one (f pending) + one (f closing)) 1

counted : (f : Mode → Bool) → T (count f) → (m : Mode) × Sole f m
unfolding count one Sole same_mode is_idle is_pending is_closing
counted f h = go (f idle) (f pending) (f closing) refl refl refl h
  where
    by : (m : Mode) → f idle ≡ is_idle m → f pending ≡ is_pending m → f closing ≡ is_closing m → (m' : Mode) → f m' ≡ same_mode m' m
    by m a b c idle = a
    by m a b c pending = b
    by m a b c closing = c

    go : (a b c : Bool) → f idle ≡ a → f pending ≡ b → f closing ≡ c → T (eqb (one a + one b + one c) 1) → (m : Mode) × ((m' : Mode) → f m' ≡ same_mode m' m)
    go true true true a b c h = absurd h
    go true true false a b c h = absurd h
    go true false true a b c h = absurd h
    go true false false a b c h = (idle, by idle a b c)
    go false true true a b c h = absurd h
    go false true false a b c h = (pending, by pending a b c)
    go false false true a b c h = (closing, by closing a b c)
    go false false false a b c h = absurd h

sole-counted : (f : Mode → Bool) (m : Mode) → Sole f m → T (count f)
unfolding count one Sole same_mode is_idle is_pending is_closing
sole-counted f idle e = rw (e idle, e pending, e closing) tt
sole-counted f pending e = rw (e idle, e pending, e closing) tt
sole-counted f closing e = rw (e idle, e pending, e closing) tt

fits : (Mode → Bool) → (Mode → Bool) → Bool
fits f g = count f && (not (f idle) || g idle) && (not (f pending) || g pending) && (not (f closing) || g closing)

implied-back : (p q : Bool) → (T p → T q) → T (not p || q)
implied-back true q f = f tt
implied-back false q f = tt

fits-sole : (f g : Mode → Bool) → T (fits f g) → (m : Mode) × Sole f m × T (g m)
unfolding fits Sole
fits-sole f g h = (found.0, found.1, by found.0 (subst T (sym (found.1 found.0)) (same-itself found.0)))
  where
    part : Mode → Bool
    part m = not (f m) || g m

    h₂ : T (count f && part idle && part pending)
    h₂ = and_left (count f && part idle && part pending) (part closing) h

    h₁ : T (count f && part idle)
    h₁ = and_left (count f && part idle) (part pending) h₂

    found : (m : Mode) × Sole f m
    found = counted f (and_left (count f) (part idle) h₁)

    by : (m : Mode) → T (f m) → T (g m)
    by idle k = implied (f idle) (g idle) (and_right (count f) (part idle) h₁) k
    by pending k = implied (f pending) (g pending) (and_right (count f && part idle) (part pending) h₂) k
    by closing k = implied (f closing) (g closing) (and_right (count f && part idle && part pending) (part closing) h) k

sole-fits : (f g : Mode → Bool) (m : Mode) → Sole f m → T (g m) → T (fits f g)
unfolding fits Sole
sole-fits f g m e h =
    and_intro (count f && part idle && part pending) (part closing)
    (and_intro (count f && part idle) (part pending) (and_intro (count f) (part idle) (sole-counted f m e) (holds idle)) (holds pending)) (holds closing)
  where
    part : Mode → Bool
    part m = not (f m) || g m

    holds : (m' : Mode) → T (part m')
    holds m' = implied-back (f m') (g m') (λ k. subst (λ (x : Mode). T (g x)) (sym (same-mode m' m (subst T (e m') k))) h)

-- ---- the rule

every_at-all : {A : Type 0} (f : ℕ → A → Bool) (i : ℕ) (xs : List A) (d : A) → ((j : ℕ) → j < length xs → T (f (i + j) (get_or xs j d))) → T (every_at f i xs)
unfolding every_at
every_at-all f i [] d h = tt
every_at-all f i (x ∷ xs) d h =
    let z : i + 0 ≡ i = omega arith in
    and_intro (f i x) (every_at f (suc i) xs) (subst (λ (n : ℕ). T (f n x)) z (h zero (suc-le-suc zero-le)))
    (every_at-all f (suc i) xs d (λ j l. let z : i + suc j ≡ suc i + j = omega arith in subst (λ (n : ℕ). T (f n (get_or xs j d))) z (h (suc j) (suc-le-suc l))))

module _ (r : ActionSet) (code : List Step) (six : T (targets_fit r code)) where
  -- the two tests of the step at o
  reached-in : ℕ → Mode → Bool
  reached-in o m = reached_in code m o

  test : (o : ℕ) → mode_fits (marks code) o (get_or code o halt) ≡ fits (reached-in o) (stands (get_or code o halt))
  unfolding mode_fits fits count reached-in reached_in
  test o = refl

  -- the test of one step, either way
  pub one-mode : (o : ℕ) → T (mode_fits (marks code) o (get_or code o halt)) → OneMode code o
  unfolding reached-in Sole
  one-mode o h =
      let u = fits-sole (reached-in o) (stands (get_or code o halt)) (subst T (test o) h) in
      record {
        mode = u.0;
        reached = modes-real code u.0 o (subst T (sym (u.1 u.0)) (same-itself u.0));
        may-stand = u.2;
        only = λ m h. same-mode m u.0 (subst T (u.1 m) (modes-found r code six m o h));
      }

  pub one-mode-back : (o : ℕ) → OneMode code o → T (mode_fits (marks code) o (get_or code o halt))
  unfolding reached-in Sole
  one-mode-back o u = subst T (sym (test o)) (sole-fits (reached-in o) (stands (get_or code o halt)) u.mode sole u.may-stand)
    where
      sole : (m : Mode) → reached_in code m o ≡ same_mode m u.mode
      sole m =
          both (reached_in code m o) (same_mode m u.mode)
          (λ h. subst (λ (x : Mode). T (same_mode m x)) (u.only m (modes-real code m o h)) (same-itself m))
          (λ h. modes-found r code six m o (subst (λ (x : Mode). Reached code x o) (sym (same-mode m u.mode h)) u.reached))

  pub rule-7 : T (modes_fit code) → (o : ℕ) → o < length code → OneMode code o
  unfolding modes_fit
  rule-7 seven o l = one-mode o (every_at-from-0 (mode_fits (marks code)) code halt seven o l)

  pub rule-7-back : ((o : ℕ) → o < length code → OneMode code o) → T (modes_fit code)
  unfolding modes_fit
  rule-7-back all = every_at-all (mode_fits (marks code)) 0 code halt (λ o l.
      let z : o ≡ 0 + o = omega arith in
      subst (λ (n : ℕ). T (mode_fits (marks code) n (get_or code o halt))) z (one-mode-back o (all o l)))

  pub rule-7-exact : T (modes_fit code) ↔ ((o : ℕ) → o < length code → OneMode code o)
  rule-7-exact = (rule-7, rule-7-back)
