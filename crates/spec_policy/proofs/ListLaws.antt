-- Laws of the lists and list tests of specs/Lists.
use Prim.Native.Nat.{ℕ, zero, suc, ◌+◌, ◌-◌, ◌<◌, ◌≤◌}
use native.Mathlib.Nat.{le_of_suc-le-suc, not-suc-le-zero}
use native.Mathlib.Omega.{arith}
use mathlib.Core.Path.{◌≡◌, refl, ap, ◌∙◌, subst}
use mathlib.Core.Bool.{Bool, true, false, ◌&&◌}
use mathlib.Core.List.{List, [], ◌∷◌, map}
use lib.Dec.{T}
use lib.ListN.{length, get_or, take, drop}
use Rattle.actions.proofs.Tests.{and_intro, and_left, and_right}
use Rattle.spec_policy.specs.Lists.{listed, one, every, every_at}

module _ {A : Type 0} where
  pub listed-length : (f : ℕ → A) (i n : ℕ) → length (listed f i n) ≡ n
  unfolding listed
  listed-length f i zero = refl
  listed-length f i (suc n) = ap suc (listed-length f (suc i) n)

  pub listed_at : (f : ℕ → A) (i n : ℕ) (d : A) (j : ℕ) → j < n → get_or (listed f i n) j d ≡ f (i + j)
  unfolding listed
  listed_at f i zero d j h = absurd (not-suc-le-zero h)
  listed_at f i (suc n) d zero h = let z : i ≡ i + 0 = omega arith in ap f z
  listed_at f i (suc n) d (suc j) h = let z : suc i + j ≡ i + suc j = omega arith in listed_at f (suc i) n d j (le_of_suc-le-suc h) ∙ ap f z

  -- a test over a list, at one place
  pub every-at : (f : A → Bool) (xs : List A) (d : A) → T (every f xs) → (j : ℕ) → j < length xs → T (f (get_or xs j d))
  unfolding every
  every-at f [] d t j h = absurd (not-suc-le-zero h)
  every-at f (x ∷ xs) d t zero h = and_left (f x) (every f xs) t
  every-at f (x ∷ xs) d t (suc j) h = every-at f xs d (and_right (f x) (every f xs) t) j (le_of_suc-le-suc h)

  pub every_at-at : (f : ℕ → A → Bool) (i : ℕ) (xs : List A) (d : A) → T (every_at f i xs) → (j : ℕ) → j < length xs → T (f (i + j) (get_or xs j d))
  unfolding every_at
  every_at-at f i [] d t j h = absurd (not-suc-le-zero h)
  every_at-at f i (x ∷ xs) d t zero h = let z : i ≡ i + 0 = omega arith in subst (λ (n : ℕ). T (f n x)) z (and_left (f i x) (every_at f (suc i) xs) t)
  every_at-at f i (x ∷ xs) d t (suc j) h =
      let z : suc i + j ≡ i + suc j = omega arith in
      subst (λ (n : ℕ). T (f n (get_or xs j d))) z (every_at-at f (suc i) xs d (and_right (f i x) (every_at f (suc i) xs) t) j (le_of_suc-le-suc h))

  -- the same with the numbers from 0 on
  pub every_at-from-0 : (f : ℕ → A → Bool) (xs : List A) (d : A) → T (every_at f 0 xs) → (j : ℕ) → j < length xs → T (f j (get_or xs j d))
  every_at-from-0 f xs d t j h = let z : 0 + j ≡ j = omega arith in subst (λ (n : ℕ). T (f n (get_or xs j d))) z (every_at-at f 0 xs d t j h)

  pub every_take : (f : A → Bool) (n : ℕ) (xs : List A) → T (every f xs) → T (every f (take n xs))
  unfolding every
  every_take f zero [] t = tt
  every_take f zero (x ∷ xs) t = tt
  every_take f (suc n) [] t = tt
  every_take f (suc n) (x ∷ xs) t = and_intro (f x) (every f (take n xs)) (and_left (f x) (every f xs) t) (every_take f n xs (and_right (f x) (every f xs) t))

  pub every_drop : (f : A → Bool) (n : ℕ) (xs : List A) → T (every f xs) → T (every f (drop n xs))
  unfolding every
  every_drop f zero [] t = t
  every_drop f zero (x ∷ xs) t = t
  every_drop f (suc n) [] t = t
  every_drop f (suc n) (x ∷ xs) t = every_drop f n xs (and_right (f x) (every f xs) t)

  -- ---- what is left of a test over f i, f (i + 1), .. below f n: a loop that counts up carries it along

  pub listed-rest : (f : ℕ → A) (i n : ℕ) → i < n → listed f i (n - i) ≡ f i ∷ listed f (i + 1) (n - (i + 1))
  unfolding listed
  listed-rest f i n h =
      let e : n - i ≡ suc (n - (i + 1)) = omega arith in
      let z : suc i ≡ i + 1 = omega arith in
      ap (λ (k : ℕ). listed f i k) e ∙ ap (λ (k : ℕ). f i ∷ listed f k (n - (i + 1))) z

  pub listed-over : (f : ℕ → A) (i n : ℕ) → n ≤ i → listed f i (n - i) ≡ []
  unfolding listed
  listed-over f i n h = let e : n - i ≡ 0 = omega arith in ap (λ (k : ℕ). listed f i k) e

  pub every_rest : (g : A → Bool) (f : ℕ → A) (i n : ℕ) → i < n → every g (listed f i (n - i)) ≡ (g (f i) && every g (listed f (i + 1) (n - (i + 1))))
  unfolding every
  every_rest g f i n h = ap (λ (l : List A). every g l) (listed-rest f i n h)

  pub every-over : (g : A → Bool) (f : ℕ → A) (i n : ℕ) → n ≤ i → every g (listed f i (n - i)) ≡ true
  unfolding every
  every-over g f i n h = ap (λ (l : List A). every g l) (listed-over f i n h)

  pub every_at-rest : (g : ℕ → A → Bool) (f : ℕ → A) (i n : ℕ) → i < n
      → every_at g i (listed f i (n - i)) ≡ (g i (f i) && every_at g (i + 1) (listed f (i + 1) (n - (i + 1))))
  unfolding every_at
  every_at-rest g f i n h =
      let z : suc i ≡ i + 1 = omega arith in
      ap (λ (l : List A). every_at g i l) (listed-rest f i n h) ∙ ap (λ (k : ℕ). g i (f i) && every_at g k (listed f (i + 1) (n - (i + 1)))) z

  pub every_at-over : (g : ℕ → A → Bool) (f : ℕ → A) (i n : ℕ) → n ≤ i → every_at g i (listed f i (n - i)) ≡ true
  unfolding every_at
  every_at-over g f i n h = ap (λ (l : List A). every_at g i l) (listed-over f i n h)

pub map-listed : {A B : Type 0} (g : A → B) (f : ℕ → A) (i n : ℕ) → map g (listed f i n) ≡ listed (λ k. g (f k)) i n
unfolding listed
map-listed g f i zero = refl
map-listed g f i (suc n) = ap (λ (l : List _). g (f i) ∷ l) (map-listed g f (suc i) n)

pub all-zero : (m i k : ℕ) → get_or (listed {A = ℕ} (λ j. 0) i m) k 0 ≡ 0
unfolding listed
all-zero zero i k = refl
all-zero (suc m) i zero = refl
all-zero (suc m) i (suc k) = all-zero m (suc i) k

pub one-most : (b : Bool) → one b ≤ 1
unfolding one
one-most true = omega arith
one-most false = omega arith
