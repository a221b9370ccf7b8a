-- Laws of the first element that fails a test: that there is none just where all pass, and that what is found fails and nothing before it
-- does.
use Prim.Native.Nat.{ℕ, zero, suc, ◌+◌, ◌<◌}
use native.Mathlib.Nat.{le_of_suc-le-suc, not-suc-le-zero}
use native.Mathlib.Omega.{arith}
use mathlib.Core.Path.{◌≡◌, refl, ap, subst}
use mathlib.Core.Bool.{Bool, true, false, ◌&&◌, ◌||◌, not}
use mathlib.Core.List.{List, [], ◌∷◌}
use lib.Dec.{T}
use lib.ListN.{length, get_or}
use Rattle.actions.proofs.Tests.{of-yes}
use Rattle.spec_policy.specs.Lists.{every, every_at}
use Rattle.spec_policy.specs.Spots.{Spot, nowhere, on_record, somewhere, or_else, counted_from, first_off}

-- ---- whether there is one

pub or-else : (s t : Spot) → somewhere (or_else s t) ≡ (somewhere s || somewhere t)
unfolding somewhere or_else
or-else nowhere t = refl
or-else (on_record p) t = refl

pub counted-from : (b : ℕ) (s : Spot) → somewhere (counted_from b s) ≡ somewhere s
unfolding somewhere counted_from
counted-from b nowhere = refl
counted-from b (on_record o) = refl

module _ {A : Type 0} where
  pub off-or-every : (f : ℕ → A → Bool) (i : ℕ) (xs : List A) → somewhere (first_off f i xs) ≡ not (every_at f i xs)
  unfolding somewhere first_off every_at
  off-or-every f i [] = refl
  off-or-every f i (x ∷ xs) = go (f i x) refl (off-or-every f (suc i) xs)
    where
      go : (b : Bool) → f i x ≡ b → somewhere (first_off f (suc i) xs) ≡ not (every_at f (suc i) xs) → somewhere (first_off f i (x ∷ xs)) ≡ not (f i x && every_at f (suc i) xs)
      go true e h = rw (e, first_off) h
      go false e h = rw (e, first_off) refl

  pub every-unnumbered : (g : A → Bool) (i : ℕ) (xs : List A) → every_at (λ i x. g x) i xs ≡ every g xs
  unfolding every every_at
  every-unnumbered g i [] = refl
  every-unnumbered g i (x ∷ xs) = ap (λ (b : Bool). g x && b) (every-unnumbered g (suc i) xs)

  -- ---- which one it is

  -- the element with number p fails, and none before it: the first is number i
  pub record FirstOff (f : ℕ → A → Bool) (i : ℕ) (xs : List A) (none : A) (p : ℕ) : Type 0 where
    pub offset : ℕ
    pub number : p ≡ i + offset
    pub inside : offset < length xs
    pub fails : f p (get_or xs offset none) ≡ false
    pub before : (j : ℕ) → j < offset → T (f (i + j) (get_or xs j none))

  pub first-off : (f : ℕ → A → Bool) (i : ℕ) (xs : List A) (none : A) (p : ℕ) → first_off f i xs ≡ on_record p → FirstOff f i xs none p
  unfolding first_off
  first-off f i [] none p h = let z : ◌≡◌ {A = ℕ} 0 1 = cc in absurd (omega arith)
  first-off f i (x ∷ xs) none p h = go (f i x) refl (λ u. first-off f (suc i) xs none p u)
    where
      earlier : T (f i x) → (k : ℕ) → ((j : ℕ) → j < k → T (f (suc i + j) (get_or xs j none))) → (j : ℕ) → j < suc k → T (f (i + j) (get_or (x ∷ xs) j none))
      earlier e k w zero l = let z : i ≡ i + 0 = omega arith in subst (λ (n : ℕ). T (f n x)) z e
      earlier e k w (suc j) l = let z : suc i + j ≡ i + suc j = omega arith in subst (λ (n : ℕ). T (f n (get_or xs j none))) z (w j (le_of_suc-le-suc l))

      go : (b : Bool) → f i x ≡ b → (first_off f (suc i) xs ≡ on_record p → FirstOff f (suc i) xs none p) → FirstOff f i (x ∷ xs) none p
      go false e again =
          let u : on_record i ≡ on_record p = rw (e, first_off) at h in
          let z : i ≡ p = cc in
          record {
            offset = 0;
            number = omega arith;
            inside = omega arith;
            fails = subst (λ (n : ℕ). f n x ≡ false) z e;
            before = λ j l. absurd (not-suc-le-zero l);
          }
      go true e again =
          let u : first_off f (suc i) xs ≡ on_record p = rw (e, first_off) at h in
          let r = again u in
          record {
            offset = suc r.offset;
            number = omega (arith, r.number);
            inside = omega (arith, r.inside);
            fails = r.fails;
            before = earlier (of-yes (f i x) e) r.offset r.before;
          }

  -- the same with the numbers from 0 on
  pub record LowestOff (f : ℕ → A → Bool) (xs : List A) (none : A) (p : ℕ) : Type 0 where
    pub inside : p < length xs
    pub fails : f p (get_or xs p none) ≡ false
    pub before : (q : ℕ) → q < p → T (f q (get_or xs q none))

  pub lowest-off : (f : ℕ → A → Bool) (xs : List A) (none : A) (p : ℕ) → first_off f 0 xs ≡ on_record p → LowestOff f xs none p
  lowest-off f xs none p h =
      let r = first-off f 0 xs none p h in
      let z : r.offset ≡ p = omega (arith, r.number) in
      record {
        inside = omega (arith, r.inside);
        fails = subst (λ (o : ℕ). f p (get_or xs o none) ≡ false) z r.fails;
        before = λ q l. let y : 0 + q ≡ q = omega arith in subst (λ (n : ℕ). T (f n (get_or xs q none))) y (r.before q (omega arith));
      }
