-- The fuel of a leaf that rule 6 lets pass does not run out: more fuel changes nothing, and going on obeys the step rule with no fuel
-- in sight.
use Prim.Native.Nat.{ℕ, zero, suc, ◌+◌, ◌-◌, ◌<◌}
use native.Mathlib.Nat.{not-suc-le-zero, eq-or-lt_of_le}
use native.Mathlib.Omega.{arith}
use mathlib.Core.Path.{◌≡◌, refl, sym, ◌∙◌, ap, subst}
use mathlib.Core.Logic.{◌⊎◌, inl, inr, ⊎_elim}
use mathlib.Core.Bool.{Bool, true, false}
use mathlib.Core.List.{List, [], ◌∷◌}
use lib.Dec.{T}
use lib.ListN.{length, get_or}
use Rattle.actions.specs.Sets.{Action, ActionSet, has}
use Rattle.spec_policy.specs.Steps.{Step, next, ok, sup, ins, acase, spend, end, halt, targets, is_next}
use Rattle.spec_check.specs.Lawful.{Ahead, AllAhead, Inside, Forward, LawfulLeaf}
use Rattle.spec_turns.specs.Process.{Process, ran, lets, does}
use Rattle.spec_turns.specs.Turn.{which, affords, stepping, goes}

-- an offset is in the leaf, or there is a halt where the leaf would read it
pub in_leaf : (code : List Step) (o : ℕ) → (o < length code) ⊎ (get_or code o halt ≡ halt)
in_leaf [] o = inr refl
in_leaf (k ∷ code) zero = inl (omega arith)
in_leaf (k ∷ code) (suc o) = ⊎_elim (λ (h : o < length code). inl (omega arith)) inr (in_leaf code o)

-- the same where both go on at the step's targets
Agree : (ℕ → ℕ → Process) → (ℕ → ℕ → Process) → List ℕ → Type 0
Agree f g [] = Unit {0}
Agree f g (t ∷ ts) = ((c : ℕ) → f t c ≡ g t c) × Agree f g ts

which-same : (f g : ℕ → Process) (b : Bool) (y z : ℕ) → f y ≡ g y → f z ≡ g z → f (which b y z) ≡ g (which b y z)
unfolding which
which-same f g true y z p q = p
which-same f g false y z p q = q

module _ (i : ℕ) (a : Action) (f g : ℕ → ℕ → Process) (o c : ℕ) where
  stepping-same : (k : Step) → (T (is_next k) ⊎ Agree f g (targets k)) → stepping i a f o c k ≡ stepping i a g o c k
  unfolding stepping targets is_next Agree
  stepping-same (next t d) h = refl
  stepping-same (ok t) h = refl
  stepping-same (sup t) h = refl
  stepping-same (ins b t) (inl e) = absurd e
  stepping-same (ins b t) (inr h) = ap (λ (p : Process). does (ran i o) (does (lets b) p)) (h.0 c)
  stepping-same (acase s y z) (inl e) = absurd e
  stepping-same (acase s y z) (inr h) = ap (λ (p : Process). does (ran i o) p) (which-same (λ t. f t c) (λ t. g t c) (has s a) y z (h.0 c) (h.1.0 c))
  stepping-same (spend n y z) (inl e) = absurd e
  stepping-same (spend n y z) (inr h) =
      let c' : ℕ = which (affords c n) (c - n) c in
      ap (λ (p : Process). does (ran i o) p) (which-same (λ t. f t c') (λ t. g t c') (affords c n) y z (h.0 c') (h.1.0 c'))
  stepping-same end h = refl
  stepping-same halt h = refl

-- enough fuel at offset o: it lasts to the leaf's end, or the leaf stops here
unfoldable pub Enough : List Step → ℕ → ℕ → Type 0
Enough code fuel o = (length code < fuel + o) ⊎ T (is_next (get_or code o halt))

module _ (i : ℕ) (a : Action) {r : ActionSet} {code : List Step} (law : LawfulLeaf r code) where
  all-agree : (fuel o : ℕ) (ts : List ℕ) → o < length code → length code < suc fuel + o → AllAhead code o ts → Inside (length code) ts
      → ((t c : ℕ) → 0 < fuel → Enough code fuel t → goes i code a (suc fuel) t c ≡ goes i code a fuel t c)
      → Agree (goes i code a (suc fuel)) (goes i code a fuel) ts
  unfolding Agree AllAhead Inside Ahead Enough
  all-agree fuel o [] l e h k ih = tt
  all-agree fuel o (t ∷ ts) l e h k ih = (λ c. ih t c (omega arith) (⊎_elim (λ u. inl (omega arith)) inr h.0), all-agree fuel o ts l e h.1 k.1 ih)

  pub more-fuel : (fuel o c : ℕ) → 0 < fuel → Enough code fuel o → goes i code a (suc fuel) o c ≡ goes i code a fuel o c
  unfolding goes Forward targets Agree Enough
  more-fuel zero o c p e = absurd (not-suc-le-zero p)
  more-fuel (suc fuel) o c p (inl e) =
      stepping-same i a (goes i code a (suc fuel)) (goes i code a fuel) o c (get_or code o halt) (inr (⊎_elim
      (λ l. all-agree fuel o (targets (get_or code o halt)) l e (law.forward o) (law.inside o) (λ t c' p' e'. more-fuel fuel t c' p' e'))
      (λ e'. subst (λ (k : Step). Agree (goes i code a (suc fuel)) (goes i code a fuel) (targets k)) (sym e') tt)
      (in_leaf code o)))
  more-fuel (suc fuel) o c p (inr e) = stepping-same i a (goes i code a (suc fuel)) (goes i code a fuel) o c (get_or code o halt) (inl e)

  -- any fuel above the leaf's steps does the same
  pub any_fuel : (fuel o c : ℕ) → length code < fuel → goes i code a fuel o c ≡ goes i code a (suc (length code)) o c
  unfolding Enough
  any_fuel zero o c h = absurd (not-suc-le-zero h)
  any_fuel (suc fuel) o c h =
      ⊎_elim
      (λ (e : suc (length code) ≡ suc fuel). ap (λ (n : ℕ). goes i code a n o c) (sym e))
      (λ (l : suc (length code) < suc fuel). more-fuel fuel o c (omega arith) (inl (omega arith)) ∙ any_fuel fuel o c (omega arith))
      (eq-or-lt_of_le h)

  -- the step rule, with no fuel in sight
  pub goes-rule : (fuel o c : ℕ) → length code < fuel → goes i code a fuel o c ≡ stepping i a (goes i code a fuel) o c (get_or code o halt)
  unfolding goes Enough
  goes-rule fuel o c h = sym (more-fuel fuel o c (omega arith) (inl (omega arith)))

  pub goes_step : (o c : ℕ) → goes i code a (suc (length code)) o c ≡ stepping i a (goes i code a (suc (length code))) o c (get_or code o halt)
  goes_step o c = goes-rule (suc (length code)) o c (omega arith)
