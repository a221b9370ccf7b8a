-- The laws of action sets, each said by membership: what is in the sets that the operations build, that a set below 2 ^ 64 is known by
-- its members, and what the tests decide.
use Prim.Native.Nat.{ℕ, zero, suc, ◌+◌, ◌-◌, ◌*◌, ◌/◌, ◌%◌, ◌^◌, ◌<◌, ◌≤◌}
use native.Mathlib.Nat.{mod-lt, div-add-mod', zero-lt-suc, zero-div, le_of_suc-le-suc, not-suc-le-zero, div-eq_of_lt, div_self, mul-div_cancel, mul-mod_left, pow-suc, div-one, lt_of_le_of_lt}
use native.Mathlib.Numerals.{add-one, one-add}
use native.Mathlib.Omega.{arith}
use mathlib.Core.Path.{◌≡◌, refl, sym, ◌∙◌, ap, ap₂, subst}
use mathlib.Core.Bool.{Bool, true, false, not, ◌&&◌, ◌||◌, and-false, and-or_distrib_left}
use mathlib.Core.Logic.{◌⊎◌}
use borrow.Author.Tests.{leb-true, leb-false, lt-leb, le-leb, eq-eqb, ne_eqb, ltb-true, ltb-false}
use lib.Arith.{bin_ind}
use lib.Pow.{pow_pos, pow-lt, pow-add, shr-shr, shr_lt}
use lib.Dec.{T, leb, eqb, ltb, leb→le, eqb→eq, eqb_refl, T_not, not_T}
use lib.Bits.{bit_and, bit_or, bit_xor, and_shr, and_mod, and_le_l, or_shr, or_mod, or_lt, or_zero_r, xor_shr, xor_mod}
use Rattle.actions.proofs.Tests.{of-yes, no_of, and_intro, and_left, and_right, or_left, or_right, or_cases, not-false, twice, twice-back, both}
use Rattle.actions.specs.Sets.{ActionSet, is_action, has, EMPTY, single, union, common, difference, is_empty, within, meets}

-- ---- digits

-- digit a, whether or not a is an action
bit : ActionSet → ℕ → Bool
bit s a = eqb (s / 2 ^ a % 2) 1

has-bit : (s : ActionSet) (a : ℕ) → has s a ≡ (is_action a && bit s a)
unfolding has bit
has-bit s a = refl

-- the two sides of the guard of `has`
pub has-action : (s : ActionSet) (a : ℕ) → a ≤ 63 → has s a ≡ eqb (s / 2 ^ a % 2) 1
unfolding has is_action
has-action s a h = ap (λ (p : Bool). p && eqb (s / 2 ^ a % 2) 1) (le-leb a 63 h)

-- a set has none but actions
pub has-low : (s : ActionSet) (a : ℕ) → has s a ≡ true → a < 64
unfolding has is_action
has-low s a e = omega (arith, leb→le a 63 (and_left (leb a 63) _ (of-yes (has s a) e)))

pub has-none : (s : ActionSet) (a : ℕ) → 63 < a → has s a ≡ false
unfolding has is_action
has-none s a h = ap (λ (p : Bool). p && eqb (s / 2 ^ a % 2) 1) (lt-leb a 63 h)

-- a digit is 0 or 1
digit-cases : (P : ℕ → Type 0) → P 0 → P 1 → (x : ℕ) → x < 2 → P x
digit-cases P z o zero h = z
digit-cases P z o (suc zero) h = o
digit-cases P z o (suc (suc x)) h = absurd (not-suc-le-zero (le_of_suc-le-suc (le_of_suc-le-suc h)))

-- an operation that goes digit by digit, read as an operation on tests: the four cases decide
module _ (f : ℕ → ℕ → ℕ) (g : Bool → Bool → Bool)
    (f-shr : (a b k : ℕ) → f a b / 2 ^ k ≡ f (a / 2 ^ k) (b / 2 ^ k))
    (f-mod : (a b k : ℕ) → f a b % 2 ^ k ≡ f (a % 2 ^ k) (b % 2 ^ k))
    (no-no : eqb (f 0 0) 1 ≡ g false false) (no-yes : eqb (f 0 1) 1 ≡ g false true)
    (yes-no : eqb (f 1 0) 1 ≡ g true false) (yes-yes : eqb (f 1 1) 1 ≡ g true true) where
  bit-of : (s t : ActionSet) (a : ℕ) → bit (f s t) a ≡ g (bit s a) (bit t a)
  unfolding bit
  bit-of s t a =
      ap (λ (x : ℕ). eqb (x % 2) 1) (f-shr s t a) ∙ ap (λ (x : ℕ). eqb x 1) (f-mod (s / 2 ^ a) (t / 2 ^ a) 1)
      ∙ digit-cases (λ x. eqb (f x (t / 2 ^ a % 2)) 1 ≡ g (eqb x 1) (eqb (t / 2 ^ a % 2) 1)) (row 0 no-no no-yes) (row 1 yes-no yes-yes)
      (s / 2 ^ a % 2) (mod-lt (s / 2 ^ a) (zero-lt-suc 1))
    where
      row : (x : ℕ) → eqb (f x 0) 1 ≡ g (eqb x 1) false → eqb (f x 1) 1 ≡ g (eqb x 1) true
          → eqb (f x (t / 2 ^ a % 2)) 1 ≡ g (eqb x 1) (eqb (t / 2 ^ a % 2) 1)
      row x z o = digit-cases (λ y. eqb (f x y) 1 ≡ g (eqb x 1) (eqb y 1)) z o (t / 2 ^ a % 2) (mod-lt (t / 2 ^ a) (zero-lt-suc 1))

bit-or : (s t : ActionSet) (a : ℕ) → bit (bit_or s t) a ≡ (bit s a || bit t a)
bit-or = bit-of bit_or ◌||◌ or_shr or_mod refl refl refl refl

bit-and : (s t : ActionSet) (a : ℕ) → bit (bit_and s t) a ≡ (bit s a && bit t a)
bit-and = bit-of bit_and ◌&&◌ and_shr and_mod refl refl refl refl

bit-xor : (s t : ActionSet) (a : ℕ) → bit (bit_xor s t) a ≡ (bit s a && not (bit t a) || not (bit s a) && bit t a)
bit-xor = bit-of bit_xor (λ p q. p && not q || not p && q) xor_shr xor_mod refl refl refl refl

bit-zero : (a : ℕ) → bit 0 a ≡ false
unfolding bit
bit-zero a = ap (λ (x : ℕ). eqb (x % 2) 1) (zero-div (2 ^ a))

bit-pow-below : (a b : ℕ) → a < b → bit (2 ^ a) b ≡ false
unfolding bit
bit-pow-below a b h = ap (λ (x : ℕ). eqb (x % 2) 1) (div-eq_of_lt (pow-lt h))

bit-pow-above : (b d : ℕ) → bit (2 ^ (suc d + b)) b ≡ false
unfolding bit
bit-pow-above b d =
    ap (λ (x : ℕ). eqb (x / 2 ^ b % 2) 1) (pow-add 2 (suc d) b) ∙ ap (λ (x : ℕ). eqb (x % 2) 1) (mul-div_cancel (2 ^ suc d) (pow_pos b))
    ∙ ap (λ (x : ℕ). eqb (x % 2) 1) (pow-suc 2 d) ∙ ap (λ (x : ℕ). eqb x 1) (mul-mod_left (2 ^ d) 2)

bit-pow-same : (a : ℕ) → bit (2 ^ a) a ≡ true
unfolding bit
bit-pow-same a = ap (λ (x : ℕ). eqb (x % 2) 1) (div_self (pow_pos a))

bit-pow : (a b : ℕ) → bit (2 ^ a) b ≡ eqb a b
bit-pow a b = go (ltb a b) refl (ltb b a) refl
  where
    go : (p : Bool) → ltb a b ≡ p → (q : Bool) → ltb b a ≡ q → bit (2 ^ a) b ≡ eqb a b
    go true e q e' =
        let l : a < b = ltb-true a b e in
        bit-pow-below a b l ∙ sym (ne_eqb a b (λ f. omega arith))
    go false e true e' =
        let l : b < a = ltb-true b a e' in
        let d : suc (a - suc b) + b ≡ a = omega arith in
        subst (λ (x : ℕ). bit (2 ^ x) b ≡ false) d (bit-pow-above b (a - suc b)) ∙ sym (ne_eqb a b (λ f. omega arith))
    go false e false e' =
        let l : b ≤ a = ltb-false a b e in
        let m : a ≤ b = ltb-false b a e' in
        let f : a ≡ b = omega arith in
        subst (λ (x : ℕ). bit (2 ^ a) x ≡ true) f (bit-pow-same a) ∙ sym (eq-eqb a b f)

-- ---- members of the sets that the operations build

pub has-empty : (a : ℕ) → has EMPTY a ≡ false
unfolding EMPTY
has-empty a = has-bit 0 a ∙ ap (λ (x : Bool). is_action a && x) (bit-zero a) ∙ and-false (is_action a)

-- the two cases of `single`
pub single-action : (a : ℕ) → a ≤ 63 → single a ≡ 2 ^ a
unfolding single is_action
single-action a h = ap (λ (p : Bool). elim p [ true ↦ 2 ^ a | false ↦ EMPTY ]) (le-leb a 63 h)

pub single-none : (a : ℕ) → 63 < a → single a ≡ EMPTY
unfolding single is_action
single-none a h = ap (λ (p : Bool). elim p [ true ↦ 2 ^ a | false ↦ EMPTY ]) (lt-leb a 63 h)

pub has-single : (a b : ℕ) → has (single a) b ≡ (is_action a && eqb a b)
unfolding is_action
has-single a b = go (is_action a) refl
  where
    -- an action equal to b makes b an action
    agree : T (is_action a) → (is_action b && eqb a b) ≡ eqb a b
    agree h =
        both (is_action b && eqb a b) (eqb a b) (and_right (is_action b) (eqb a b))
        (λ e. and_intro (is_action b) (eqb a b) (subst (λ (x : ℕ). T (is_action x)) (eqb→eq a b e) h) e)

    go : (p : Bool) → is_action a ≡ p → has (single a) b ≡ (p && eqb a b)
    go true e =
        ap (λ (s : ActionSet). has s b) (single-action a (leb-true a 63 e)) ∙ has-bit (2 ^ a) b
        ∙ ap (λ (x : Bool). is_action b && x) (bit-pow a b) ∙ agree (of-yes (is_action a) e)
    go false e = ap (λ (s : ActionSet). has s b) (single-none a (leb-false a 63 e)) ∙ has-empty b

pub has-union : (s t : ActionSet) (a : ℕ) → has (union s t) a ≡ (has s a || has t a)
unfolding union has bit
has-union s t a = ap (λ (x : Bool). is_action a && x) (bit-or s t a) ∙ and-or_distrib_left (is_action a) (bit s a) (bit t a)

pub has-common : (s t : ActionSet) (a : ℕ) → has (common s t) a ≡ (has s a && has t a)
unfolding common has bit
has-common s t a = ap (λ (x : Bool). is_action a && x) (bit-and s t a) ∙ spread (is_action a) (bit s a) (bit t a)
  where
    spread : (p x y : Bool) → (p && (x && y)) ≡ ((p && x) && (p && y))
    spread true x y = refl
    spread false x y = refl

pub has-difference : (s t : ActionSet) (a : ℕ) → has (difference s t) a ≡ (has s a && not (has t a))
unfolding difference has bit
has-difference s t a =
    ap (λ (x : Bool). is_action a && x)
    (bit-xor s (bit_and s t) a ∙ ap (λ (y : Bool). bit s a && not y || not (bit s a) && y) (bit-and s t a))
    ∙ spread (is_action a) (bit s a) (bit t a)
  where
    spread : (p x y : Bool) → (p && (x && not (x && y) || not x && (x && y))) ≡ ((p && x) && not (p && y))
    spread true true true = refl
    spread true true false = refl
    spread true false y = refl
    spread false x y = refl

-- ---- the same, one direction at a time

pub has-union-left : (s t : ActionSet) (a : ℕ) → T (has s a) → T (has (union s t) a)
has-union-left s t a h = subst T (sym (has-union s t a)) (or_left (has s a) (has t a) h)

pub has-union-right : (s t : ActionSet) (a : ℕ) → T (has t a) → T (has (union s t) a)
has-union-right s t a h = subst T (sym (has-union s t a)) (or_right (has s a) (has t a) h)

pub has-union-cases : (s t : ActionSet) (a : ℕ) → T (has (union s t) a) → T (has s a) ⊎ T (has t a)
has-union-cases s t a h = or_cases (has s a) (has t a) (subst T (has-union s t a) h)

pub in-single : (a : ℕ) → T (is_action a) → T (has (single a) a)
in-single a h = subst T (sym (has-single a a)) (and_intro (is_action a) (eqb a a) h (eqb_refl a))

pub single-only : (a b : ℕ) → T (has (single a) b) → a ≡ b
single-only a b h = eqb→eq a b (and_right (is_action a) (eqb a b) (subst T (has-single a b) h))

pub in-common : (s t : ActionSet) (a : ℕ) → T (has s a) → T (has t a) → T (has (common s t) a)
in-common s t a h k = subst T (sym (has-common s t a)) (and_intro (has s a) (has t a) h k)

pub common-left : (s t : ActionSet) (a : ℕ) → T (has (common s t) a) → T (has s a)
common-left s t a h = and_left (has s a) (has t a) (subst T (has-common s t a) h)

pub common-right : (s t : ActionSet) (a : ℕ) → T (has (common s t) a) → T (has t a)
common-right s t a h = and_right (has s a) (has t a) (subst T (has-common s t a) h)

pub in-difference : (s t : ActionSet) (a : ℕ) → T (has s a) → has t a ≡ false → T (has (difference s t) a)
in-difference s t a h e =
    subst T (sym (has-difference s t a)) (and_intro (has s a) (not (has t a)) h (subst (λ (x : Bool). T (not x)) (sym e) tt))

pub difference-left : (s t : ActionSet) (a : ℕ) → T (has (difference s t) a) → T (has s a)
difference-left s t a h = and_left (has s a) (not (has t a)) (subst T (has-difference s t a) h)

pub difference-not : (s t : ActionSet) (a : ℕ) → T (has (difference s t) a) → has t a ≡ false
difference-not s t a h = not-false (has t a) (and_right (has s a) (not (has t a)) (subst T (has-difference s t a) h))

-- ---- bounds

pub EMPTY-bound : EMPTY < 2 ^ 64
unfolding EMPTY
EMPTY-bound = pow_pos 64

pub single-bound : (a : ℕ) → single a < 2 ^ 64
single-bound a = go (leb a 63) refl
  where
    go : (p : Bool) → leb a 63 ≡ p → single a < 2 ^ 64
    go true e =
        let l : a < 64 = omega (arith, leb-true a 63 e) in
        subst (λ (s : ActionSet). s < 2 ^ 64) (sym (single-action a (leb-true a 63 e))) (pow-lt l)
    go false e = subst (λ (s : ActionSet). s < 2 ^ 64) (sym (single-none a (leb-false a 63 e))) EMPTY-bound

pub union-bound : (s t : ActionSet) → s < 2 ^ 64 → t < 2 ^ 64 → union s t < 2 ^ 64
unfolding union
union-bound s t h k = or_lt 64 s t h k

-- one set's bound is enough
pub common-bound : (s t : ActionSet) → s < 2 ^ 64 → common s t < 2 ^ 64
unfolding common
common-bound s t h = lt_of_le_of_lt (and_le_l s t) h

-- ---- a set is known by its members

-- two digits of 0 or 1 that are 1 together are equal
digit-same : (x y : ℕ) → x < 2 → y < 2 → eqb x 1 ≡ eqb y 1 → x ≡ y
digit-same x y h k =
    digit-cases (λ (x : ℕ). eqb x 1 ≡ eqb y 1 → x ≡ y)
    (digit-cases (λ (y : ℕ). eqb 0 1 ≡ eqb y 1 → 0 ≡ y) (λ e. refl) (λ e. absurd (subst T (sym e) tt)) y k)
    (digit-cases (λ (y : ℕ). eqb 1 1 ≡ eqb y 1 → 1 ≡ y) (λ e. absurd (subst T e tt)) (λ e. refl) y k)
    x h

half_lt : (k s : ℕ) → s < 2 ^ suc k → s / 2 < 2 ^ k
half_lt k s h = shr_lt k 1 (subst (λ (n : ℕ). s < 2 ^ n) (sym (add-one k)) h)

bit-half : (s a : ℕ) → bit (s / 2) a ≡ bit s (suc a)
unfolding bit
bit-half s a = ap (λ (x : ℕ). eqb (x % 2) 1) (shr-shr s 1 a ∙ ap (λ (n : ℕ). s / 2 ^ n) (one-add a))

bit-last : (s : ℕ) → bit s 0 ≡ eqb (s % 2) 1
unfolding bit
bit-last s = ap (λ (x : ℕ). eqb (x % 2) 1) (div-one s)

-- by induction on the number of digits
same_digits : (k s t : ℕ) → s < 2 ^ k → t < 2 ^ k → ((a : ℕ) → a < k → bit s a ≡ bit t a) → s ≡ t
same_digits zero s t h l e = omega arith
same_digits (suc k) s t h l e =
    let q : s / 2 ≡ t / 2 = same_digits k (s / 2) (t / 2) (half_lt k s h) (half_lt k t l) up in
    let r : s % 2 ≡ t % 2 = digit-same (s % 2) (t % 2) (mod-lt s (zero-lt-suc 1)) (mod-lt t (zero-lt-suc 1)) last in
    omega (arith, q, r)
  where
    up : (a : ℕ) → a < k → bit (s / 2) a ≡ bit (t / 2) a
    up a m = bit-half s a ∙ e (suc a) (omega arith) ∙ sym (bit-half t a)

    last : eqb (s % 2) 1 ≡ eqb (t % 2) 1
    last = sym (bit-last s) ∙ e 0 (omega arith) ∙ bit-last t

pub same : (s t : ActionSet) → s < 2 ^ 64 → t < 2 ^ 64 → ((a : ℕ) → has s a ≡ has t a) → s ≡ t
unfolding bit
same s t h k e = same_digits 64 s t h k (λ a m.
    let l : a ≤ 63 = omega arith in
    sym (has-action s a l) ∙ e a ∙ has-action t a l)

-- ---- what the tests decide

pub empty-none : (s : ActionSet) → T (is_empty s) → (a : ℕ) → T (has s a) → ⊥
unfolding is_empty EMPTY
empty-none s h a k = subst T (ap (λ (x : ℕ). has x a) (eqb→eq s 0 h) ∙ has-empty a) k

pub none-empty : (s : ActionSet) → s < 2 ^ 64 → ((a : ℕ) → T (has s a) → ⊥) → T (is_empty s)
unfolding is_empty EMPTY
none-empty s h f = of-yes (eqb s 0) (eq-eqb s 0 (same s 0 h EMPTY-bound (λ a. no_of (has s a) (f a) ∙ sym (has-empty a))))

pub within_has : (s t : ActionSet) → T (within s t) → (a : ℕ) → T (has s a) → T (has t a)
unfolding within common
within_has s t h a k = common-right s t a (subst (λ (x : ℕ). T (has x a)) (sym (eqb→eq (bit_and s t) s h)) k)

pub has_within : (s t : ActionSet) → s < 2 ^ 64 → ((a : ℕ) → T (has s a) → T (has t a)) → T (within s t)
unfolding within common
has_within s t h f =
    of-yes (eqb (bit_and s t) s) (eq-eqb (bit_and s t) s (same (bit_and s t) s (common-bound s t h) h (λ a.
    both (has (bit_and s t) a) (has s a) (common-left s t a) (λ k. in-common s t a k (f a k)))))

pub meets-apart : (s t : ActionSet) → T (not (meets s t)) → (a : ℕ) → T (has s a) → T (not (has t a))
unfolding meets is_empty common
meets-apart s t d a h =
    not_T (has t a) (λ k. empty-none (bit_and s t) (twice (eqb (bit_and s t) 0) d) a (in-common s t a h k))

pub apart-meets : (s t : ActionSet) → s < 2 ^ 64 → ((a : ℕ) → T (has s a) → T (not (has t a))) → T (not (meets s t))
unfolding meets is_empty common
apart-meets s t h f =
    twice-back (eqb (bit_and s t) 0) (none-empty (bit_and s t) (common-bound s t h) (λ a k.
    T_not (has t a) (f a (common-left s t a k)) (common-right s t a k)))

-- ---- it does not matter how three sets are joined

digits-assoc : (x y z : ℕ) → x < 2 → y < 2 → z < 2 → bit_or (bit_or x y) z ≡ bit_or x (bit_or y z)
digits-assoc x y z f g h =
    digit-cases (λ (x : ℕ). bit_or (bit_or x y) z ≡ bit_or x (bit_or y z))
    refl
    (digit-cases (λ (y : ℕ). bit_or (bit_or 1 y) z ≡ bit_or 1 (bit_or y z))
    (digit-cases (λ (z : ℕ). bit_or (bit_or 1 0) z ≡ bit_or 1 (bit_or 0 z)) refl refl z h)
    (digit-cases (λ (z : ℕ). bit_or (bit_or 1 1) z ≡ bit_or 1 (bit_or 1 z)) refl refl z h) y g) x f

binary : (n : ℕ) → n % 2 < 2
binary n = mod-lt n (zero-lt-suc 1)

or_assoc : (a b c : ℕ) → bit_or (bit_or a b) c ≡ bit_or a (bit_or b c)
or_assoc = bin_ind (λ (a : ℕ). (b c : ℕ) → bit_or (bit_or a b) c ≡ bit_or a (bit_or b c)) (λ b c. refl) step
  where
    step : (n : ℕ) → ((b c : ℕ) → bit_or (bit_or (n / 2) b) c ≡ bit_or (n / 2) (bit_or b c)) → (b c : ℕ) → bit_or (bit_or n b) c ≡ bit_or n (bit_or b c)
    step n ih b c =
        let x = bit_or (bit_or n b) c in let y = bit_or n (bit_or b c) in
        let high : x / 2 ≡ y / 2 =
        or_shr (bit_or n b) c 1 ∙ ap (λ (k : ℕ). bit_or k (c / 2)) (or_shr n b 1) ∙ ih (b / 2) (c / 2)
        ∙ sym (or_shr n (bit_or b c) 1 ∙ ap (bit_or (n / 2)) (or_shr b c 1)) in
        let low : x % 2 ≡ y % 2 =
        or_mod (bit_or n b) c 1 ∙ ap (λ (k : ℕ). bit_or k (c % 2)) (or_mod n b 1) ∙ digits-assoc (n % 2) (b % 2) (c % 2) (binary n) (binary b) (binary c)
        ∙ sym (or_mod n (bit_or b c) 1 ∙ ap (bit_or (n % 2)) (or_mod b c 1)) in
        sym (div-add-mod' x 2) ∙ ap₂ (λ (h l : ℕ). h * 2 + l) high low ∙ div-add-mod' y 2

pub union_assoc : (a b c : ActionSet) → union (union a b) c ≡ union a (union b c)
unfolding union
union_assoc a b c = or_assoc a b c

pub union-none : (a : ActionSet) → union EMPTY a ≡ a
unfolding union EMPTY
union-none a = refl

pub union-end : (a : ActionSet) → union a EMPTY ≡ a
unfolding union EMPTY
union-end a = or_zero_r a
