-- Laws of bytes: what is read of bytes that were put, and numbers spelt and read back.
use Prim.Native.Nat.{ℕ, zero, suc, ◌+◌, ◌-◌, ◌*◌, ◌/◌, ◌%◌, ◌^◌, ◌≤◌, ◌<◌}
use native.Mathlib.Nat.{one-le-pow, zero-lt-suc, pow-succ', mod-eq_of_lt, mod-one, add-mul, mul_assoc, add_assoc, mul-add-mod_self_right}
use native.Mathlib.Omega.{arith}
use mathlib.Core.Path.{◌≡◌, refl, sym, ap, ap₂, ◌∙◌, subst}
use mathlib.Core.List.{List, [], ◌∷◌, ◌++◌, append_assoc}
use lib.Arith.{digits_lt, digits_div, mod-mul}
use lib.Dec.{T, eqb, eqb→eq}
use lib.ListN.{length, replicate, take, drop, set, length-append, length-take, length-drop, take-append-drop}
use lib.Seq.{get_or-drop, take-append-le, drop-append-le, drop-append-add, drop_at, drop-drop, length-take-le, sets, sets-eq}
use Rattle.actions.proofs.Tests.{and_left, and_right}
use Rattle.spec_policy.specs.Lists.{every}
use Rattle.spec_policy.proofs.ListLaws.{every_take, every_drop}
use Rattle.spec_policy.specs.Bytes.{Bytes, spelt, number, spell, put, Small}

-- ---- parts of lists

module _ {A : Type 0} where
  -- a part that lies in the front of two lists
  pub part-front : (xs ys : List A) (j size : ℕ) → j + size ≤ length xs → take size (drop j (xs ++ ys)) ≡ take size (drop j xs)
  part-front xs ys j size h =
      let a : j ≤ length xs = omega arith in
      let b : size ≤ length (drop j xs) = simp length-drop (omega arith) in
      ap (λ (zs : List A). take size zs) (drop-append-le j xs ys a) ∙ take-append-le size (drop j xs) ys b

  -- a part of a part
  pub part-part : (xs : List A) (i n k size : ℕ) → k + size ≤ n → i + n ≤ length xs → take size (drop k (take n (drop i xs))) ≡ take size (drop (i + k) xs)
  part-part xs i n k size h f =
      let e : length (take n (drop i xs)) ≡ n = simp (length-take, length-drop) (omega arith) in
      sym (part-front (take n (drop i xs)) (drop n (drop i xs)) k size (omega arith))
      ∙ ap (λ (zs : List A). take size (drop k zs)) (take-append-drop n (drop i xs))
      ∙ ap (λ (zs : List A). take size zs) (drop-drop k i xs)

-- ---- bytes that were put

pub put-length : (bs : Bytes) (i : ℕ) (over : Bytes) → i + length over ≤ length bs → length (put bs i over) ≡ length bs
unfolding put
put-length bs i over h = simp (length-append, length-take, length-drop) (omega arith)

pub put-none : (bs : Bytes) (i : ℕ) → put bs i [] ≡ bs
unfolding put
put-none bs i = let e : i + 0 ≡ i = omega arith in ap (λ (k : ℕ). take i bs ++ drop k bs) e ∙ take-append-drop i bs

-- a part that ends where they begin, or before
pub part-before : (bs : Bytes) (i : ℕ) (over : Bytes) (j size : ℕ) → i + length over ≤ length bs → j + size ≤ i
    → take size (drop j (put bs i over)) ≡ take size (drop j bs)
unfolding put
part-before bs i over j size h b =
    let e : length (take i bs) ≡ i = length-take-le i bs (omega arith) in
    part-front (take i bs) (over ++ drop (i + length over) bs) j size (omega arith)
    ∙ sym (part-front (take i bs) (drop i bs) j size (omega arith))
    ∙ ap (λ (zs : Bytes). take size (drop j zs)) (take-append-drop i bs)

-- all from where they end on
pub drop-after : (bs : Bytes) (i : ℕ) (over : Bytes) (j : ℕ) → i + length over ≤ length bs → i + length over ≤ j → drop j (put bs i over) ≡ drop j bs
unfolding put
drop-after bs i over j h b =
    let n : ℕ = i + length over in
    let m : ℕ = j - n in
    let e : n + m ≡ j = omega arith in
    let f : length (take i bs ++ over) ≡ n = simp (length-append, length-take) (omega arith) in
    let g : drop n (put bs i over) ≡ drop n bs = ap (λ (zs : Bytes). drop n zs) (sym (append_assoc (take i bs) over (drop n bs))) ∙ drop_at (take i bs ++ over) (drop n bs) n f in
    ap (λ (k : ℕ). drop k (put bs i over)) (sym e) ∙ sym (drop-drop m n (put bs i over)) ∙ ap (λ (zs : Bytes). drop m zs) g ∙ drop-drop m n bs
    ∙ ap (λ (k : ℕ). drop k bs) e

-- a part of them
pub part-inside : (bs : Bytes) (i : ℕ) (over : Bytes) (k size : ℕ) → i + length over ≤ length bs → k + size ≤ length over
    → take size (drop (i + k) (put bs i over)) ≡ take size (drop k over)
unfolding put
part-inside bs i over k size h b =
    let e : length (take i bs) ≡ i = length-take-le i bs (omega arith) in
    ap (λ (n : ℕ). take size (drop (n + k) (put bs i over))) (sym e)
    ∙ ap (λ (zs : Bytes). take size zs) (drop-append-add (take i bs) (over ++ drop (i + length over) bs) k)
    ∙ part-front over (drop (i + length over) bs) k size b

-- a number in a part
pub number-part : (bs : Bytes) (i n k size : ℕ) → k + size ≤ n → i + n ≤ length bs → number (take n (drop i bs)) k size ≡ number bs (i + k) size
unfolding number
number-part bs i n k size h f = ap (spelt 0) (part-part bs i n k size h f)

-- byte after byte, as code stores them
pub put-sets : (bs : Bytes) (i : ℕ) (over : Bytes) → i + length over ≤ length bs → put bs i over ≡ sets bs i over
unfolding put
put-sets bs i over h = sym (append_assoc (take i bs) over (drop (i + length over) bs)) ∙ sym (sets-eq over bs i h)

-- bytes put after bytes
pub sets-append : (l : Bytes) (i : ℕ) (xs ys : Bytes) → sets (sets l i xs) (i + length xs) ys ≡ sets l i (xs ++ ys)
sets-append l i [] ys = let e : i + 0 ≡ i = omega arith in ap (λ (k : ℕ). sets l k ys) e
sets-append l i (x ∷ xs) ys =
    let e : i + suc (length xs) ≡ suc i + length xs = omega arith in
    ap (λ (k : ℕ). sets (sets (set l i x) (suc i) xs) k ys) e ∙ sets-append (set l i x) (suc i) xs ys

pub put-append : (bs : Bytes) (i : ℕ) (xs : Bytes) (j : ℕ) (ys : Bytes) → j ≡ i + length xs → j + length ys ≤ length bs
    → put (put bs i xs) j ys ≡ put bs i (xs ++ ys)
put-append bs i xs j ys e h =
    let g : i + length xs ≤ length bs = omega arith in
    let k : j + length ys ≤ length (put bs i xs) = rw put-length h in
    put-sets (put bs i xs) j ys k
    ∙ ap₂ (λ (m : Bytes) (n : ℕ). sets m n ys) (put-sets bs i xs g) e
    ∙ sets-append bs i xs ys
    ∙ sym (put-sets bs i (xs ++ ys) (rw length-append (omega arith)))

-- ---- bytes that are bytes

small-nil : Small []
small-nil i = omega arith

small-cons : (b : ℕ) (bs : Bytes) → b < 256 → Small bs → Small (b ∷ bs)
small-cons b bs h k zero = h
small-cons b bs h k (suc i) = k i

pub small-take : (n : ℕ) (bs : Bytes) → Small bs → Small (take n bs)
small-take zero bs h = small-nil
small-take (suc n) [] h = h
small-take (suc n) (b ∷ bs) h = small-cons b (take n bs) (h 0) (small-take n bs (λ i. h (suc i)))

pub small-drop : (n : ℕ) (bs : Bytes) → Small bs → Small (drop n bs)
small-drop n bs h i = rw get_or-drop (h (n + i))

-- ---- numbers

pub spell-length : (k n : ℕ) → length (spell k n) ≡ k
unfolding spell
spell-length zero n = refl
spell-length (suc k) n = ap suc (spell-length k n)

pub spelt-append : (n : ℕ) (xs ys : Bytes) → spelt n (xs ++ ys) ≡ spelt (spelt n xs) ys
unfolding spelt
spelt-append n [] ys = refl
spelt-append n (x ∷ xs) ys = spelt-append (n * 256 + x) xs ys

pow_pos : (k : ℕ) → 0 < 256 ^ k
pow_pos k = one-le-pow k 256 (zero-lt-suc 255)

-- (n * 256 + b) places up, and then s: the digit b goes before s
digit-up : (n b p s : ℕ) → (n * 256 + b) * p + s ≡ n * (256 * p) + (b * p + s)
digit-up n b p s = ap (λ (x : ℕ). x + s) (add-mul (n * 256) b p ∙ ap (λ (x : ℕ). x + b * p) (mul_assoc n 256 p)) ∙ add_assoc (n * (256 * p)) (b * p) s

-- the first byte alone
pub spelt-cons : (n b : ℕ) (bs : Bytes) → spelt n (b ∷ bs) ≡ spelt (n * 256 + b) bs
unfolding spelt
spelt-cons n b bs = refl

pub spelt-head : (b : ℕ) (bs : Bytes) → spelt 0 (b ∷ bs) ≡ spelt b bs
spelt-head b bs = let e : 0 * 256 + b ≡ b = omega arith in spelt-cons 0 b bs ∙ ap (λ (n : ℕ). spelt n bs) e

-- what stands before goes up by the length
pub spelt-from : (n : ℕ) (bs : Bytes) → spelt n bs ≡ n * 256 ^ length bs + spelt 0 bs
spelt-from n [] = unfold spelt in omega arith
spelt-from n (b ∷ bs) =
    spelt-cons n b bs
    ∙ spelt-from (n * 256 + b) bs
    ∙ digit-up n b (256 ^ length bs) (spelt 0 bs)
    ∙ ap (λ (x : ℕ). n * x + (b * 256 ^ length bs + spelt 0 bs)) (sym (pow-succ' 256 (length bs)))
    ∙ ap (λ (x : ℕ). n * 256 ^ suc (length bs) + x) (sym (spelt-head b bs ∙ spelt-from b bs))

-- bytes that are bytes spell less than a power
pub spelt-less : (bs : Bytes) → Small bs → spelt 0 bs < 256 ^ length bs
spelt-less [] small = unfold spelt in omega arith
spelt-less (b ∷ bs) small =
    let s : spelt 0 bs < 256 ^ length bs = spelt-less bs (λ i. small (suc i)) in
    rw (pow-succ', spelt-head b bs, spelt-from b bs) (digits_lt (small 0) s)

pub number-less : (bs : Bytes) (i size : ℕ) → Small bs → i + size ≤ length bs → number bs i size < 256 ^ size
unfolding number
number-less bs i size small h =
    let e : length (take size (drop i bs)) ≡ size = length-take-le size (drop i bs) (simp length-drop (omega arith)) in
    subst (λ (n : ℕ). spelt 0 (take size (drop i bs)) < 256 ^ n) e (spelt-less (take size (drop i bs)) (small-take size (drop i bs) (small-drop i bs small)))

-- a number that was spelt, read again after n
pub spelt-spell : (n k m : ℕ) → spelt n (spell k m) ≡ n * 256 ^ k + m % 256 ^ k
unfolding spell
spelt-spell n zero m = unfold spelt in rw mod-one (omega arith)
spelt-spell n (suc k) m =
    let b : ℕ = m / 256 ^ k % 256 in
    spelt-cons n b (spell k m)
    ∙ spelt-spell (n * 256 + b) k m
    ∙ digit-up n b (256 ^ k) (m % 256 ^ k)
    ∙ rw (pow-succ', mod-mul m (zero-lt-suc 255) (pow_pos k))

pub spelt-of-spell : (k n : ℕ) → n < 256 ^ k → spelt 0 (spell k n) ≡ n
spelt-of-spell k n h = let e : n % 256 ^ k ≡ n = mod-eq_of_lt h in omega (arith, spelt-spell 0 k n)

-- bytes that were read, spelt again, whatever stood before them
pub spell-spelt : (n : ℕ) (bs : Bytes) → Small bs → spell (length bs) (spelt n bs) ≡ bs
unfolding spell
spell-spelt n [] small = refl
spell-spelt n (b ∷ bs) small =
    let p : ℕ = 256 ^ length bs in
    let d : spelt (n * 256 + b) bs / p ≡ n * 256 + b = rw (spelt-from (n * 256 + b) bs) (digits_div (n * 256 + b) (spelt-less bs (λ i. small (suc i)))) in
    let m : (n * 256 + b) % 256 ≡ b = mul-add-mod_self_right n 256 b ∙ mod-eq_of_lt (small 0) in
    rw (spelt-cons n b bs, d, m, spell-spelt (n * 256 + b) bs (λ i. small (suc i)))

-- ---- zeros

pub zeros-every : (n : ℕ) → T (every (λ b. eqb b 0) (replicate n zero))
unfolding every
zeros-every zero = tt
zeros-every (suc n) = zeros-every n

pub zeros-are : (bs : Bytes) → T (every (λ b. eqb b 0) bs) → bs ≡ replicate (length bs) zero
unfolding every
zeros-are [] h = refl
zeros-are (b ∷ bs) h =
    ap₂ {C = Bytes} (λ (x : ℕ) (xs : Bytes). x ∷ xs) (eqb→eq b 0 (and_left (eqb b 0) (every (λ x. eqb x 0) bs) h))
    (zeros-are bs (and_right (eqb b 0) (every (λ x. eqb x 0) bs) h))

spelt-zeros : (bs : Bytes) → T (every (λ b. eqb b 0) bs) → spelt 0 bs ≡ 0
unfolding every
spelt-zeros [] h = unfold spelt in refl
spelt-zeros (b ∷ bs) h =
    let e : b ≡ 0 = eqb→eq b 0 (and_left (eqb b 0) (every (λ x. eqb x 0) bs) h) in
    spelt-head b bs ∙ ap (λ (n : ℕ). spelt n bs) e ∙ spelt-zeros bs (and_right (eqb b 0) (every (λ x. eqb x 0) bs) h)

-- a number in zeros is zero
pub number-zeros : (bs : Bytes) (i size : ℕ) → T (every (λ b. eqb b 0) bs) → number bs i size ≡ 0
unfolding number
number-zeros bs i size h = spelt-zeros (take size (drop i bs)) (every_take (λ b. eqb b 0) size (drop i bs) (every_drop (λ b. eqb b 0) i bs h))
