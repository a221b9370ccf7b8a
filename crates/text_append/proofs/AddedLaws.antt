-- Text put after text: nothing, two pieces, numbers and members of a set.
use Prim.Native.Nat.{ℕ, zero, suc, ◌+◌, ◌-◌, ◌/◌, ◌%◌, ◌^◌, ◌≤◌, ◌<◌, min}
use native.Mathlib.Nat.{pow-suc}
use native.Mathlib.Omega.{arith}
use mathlib.Core.Path.{◌≡◌, refl, sym, ap, ap₂, ◌∙◌, subst}
use mathlib.Core.Bool.{Bool, true, false, ◌&&◌, not}
use mathlib.Core.List.{List, [], ◌∷◌, ◌++◌, append-nil}
use mathlib.Core.Logic.{⊎_elim}
use lib.Dec.{ltb}
use lib.ListN.{length, take, drop, length-append, length-take, length-drop, take-append-drop}
use lib.Seq.{take_at, take_all, take-nil, take-append-le, take-append-add, length-take-le, drop-drop}
use borrow.Author.Tests.{lt-ltb, le-ltb}
use borrow.Rule.Slice.PartMut.{put_mid}
use Rattle.actions.specs.Sets.{ActionSet, has}
use Rattle.spec_policy.specs.Bytes.{Bytes, put}
use Rattle.spec_policy.proofs.ByteLaws.{put-length, put-append}
use Rattle.spec_check.proofs.Ahead.{in-or-out}
use Rattle.spec_text.specs.Words.{space, ascii}
use Rattle.spec_text.specs.Numerals.{digit, digits, decimal}
use Rattle.spec_text.specs.Printing.{listing, spaced}
use Rattle.text_append.specs.Added.{limit, reached, moved, Added, Tells, led}
use Rattle.spec_policy.specs.Spots.{Spot, nowhere, on_record, Fault}
use Rattle.text_append.specs.Refusal.{spot_words, refusal}

-- ---- places

-- no byte more is no move, and two moves are one
pub moved-place : (at n : ℕ) → at ≤ limit → moved at n ≡ reached (at + n)
unfolding moved
moved-place at zero h = omega arith
moved-place at (suc n) h = refl

pub moved_on : (at n : ℕ) → (n ≡ 0 → ⊥) → moved at n ≡ reached (at + n)
unfolding moved
moved_on at zero h = absurd (h refl)
moved_on at (suc n) h = refl

moved_twice : (at n m : ℕ) → moved (moved at n) m ≡ moved at (n + m)
unfolding moved
moved_twice at zero m = let z : m ≡ 0 + m = omega arith in ap (moved at) z
moved_twice at (suc n) zero = let z : suc n ≡ suc n + 0 = omega arith in ap (moved at) z
moved_twice at (suc n) (suc m) =
    let z : reached (reached (at + suc n) + suc m) ≡ reached (at + (suc n + suc m)) = omega arith in
    z ∙ sym (moved_on at (suc n + suc m) (λ e. omega arith))

-- in a buffer, and past it
module _ (at n l : ℕ) (k : l ≤ limit) where
  moved-near : at + n ≤ l → moved at n ≡ at + n
  moved-near h = moved-place at n (omega arith) ∙ omega arith

  moved-far : l < at + n → l ≤ moved at n
  unfolding moved
  moved-far h = go n h
    where
      go : (n : ℕ) → l < at + n → l ≤ moved at n
      go zero h = omega arith
      go (suc n) h = omega arith

-- ---- as much of a text as there is room for

-- bytes that are put where the buffer is over, or none
put-none : (a : Bytes) (at : ℕ) → put a at [] ≡ a
unfolding put
put-none a at = let z : at + 0 ≡ at = omega arith in ap (λ (k : ℕ). take at a ++ drop k a) z ∙ take-append-drop at a

part_length : (a x : Bytes) (at : ℕ) → length (put a at (take (length a - at) x)) ≡ length a
unfolding put
part_length a x at = simp (length-append, length-take, length-drop) (omega arith)

module _ {a b x : Bytes} {at r : ℕ} (p : Added a at x b r) where
  pub ends_at : at ≤ limit → r ≡ reached (at + length x)
  ends_at h = p.ends ∙ moved-place at (length x) h

  -- with room for all of it
  pub fits : at + length x ≤ length a → (b ≡ put a at x) × (r ≡ at + length x)
  fits h = (p.told ∙ ap (put a at) (take_all (length a - at) x (omega arith)), p.inside h)

  same-room : length b ≡ length a
  same-room = ap length p.told ∙ part_length a x at

  module _ {c y : Bytes} {s : ℕ} (q : Added b r y c s) where
    -- the first text fits: of the second as much as there is room for after it
    joined-inside : at + length x ≤ length a → c ≡ put a at (take (length a - at) (x ++ y))
    joined-inside h =
        let f = fits h in
        let n : length b - r ≡ length a - at - length x = omega (arith, f.1, same-room) in
        let m : length x + (length a - at - length x) ≡ length a - at = omega arith in
        let l : length (take (length a - at - length x) y) ≤ length a - at - length x = rw length-take (omega arith) in
        q.told ∙ ap₂ (λ (z : Bytes) (k : ℕ). put z r (take k y)) f.0 n
        ∙ put-append a at x r (take (length a - at - length x) y) f.1 (omega (arith, f.1, l))
        ∙ ap (put a at) (sym (take-append-add x y (length a - at - length x)) ∙ ap (λ (k : ℕ). take k (x ++ y)) m)

    -- it does not: the buffer is full, and nothing of the second is written
    joined-outside : length a < at + length x → c ≡ put a at (take (length a - at) (x ++ y))
    joined-outside h =
        let n : length b - r ≡ 0 = omega (arith, p.outside h, same-room) in
        q.told ∙ ap (λ (k : ℕ). put b r (take k y)) n ∙ put-none b r ∙ p.told
        ∙ ap (put a at) (sym (take-append-le (length a - at) x y (omega arith)))

pub nothing : (a : Bytes) (at : ℕ) → Added a at [] a at
unfolding moved
nothing a at = record {
  ends = refl;
  told = sym (ap (put a at) (take-nil (length a - at)) ∙ put-none a at);
  inside = λ h. omega arith;
  outside = λ h. omega arith;
}

pub joined : {a b c x y : Bytes} {at r s : ℕ} → Added a at x b r → Added b r y c s → Added a at (x ++ y) c s
joined {a} {b} {c} {x} {y} {at} {r} {s} p q =
    let n : length (x ++ y) ≡ length x + length y = length-append x y in
    let m : length b ≡ length a = same-room p in
    record {
      ends = q.ends ∙ ap (λ (k : ℕ). moved k (length y)) p.ends ∙ moved_twice at (length x) (length y) ∙ ap (moved at) (sym n);
      told = ⊎_elim (λ h. joined-outside p q h) (λ h. joined-inside p q h) (in-or-out (at + length x) (length a));
      inside = λ h. let e = p.inside (omega arith) in omega (arith, q.inside (omega arith));
      outside = λ h. ⊎_elim
          (λ l. let e = p.outside l in ⊎_elim (λ k. omega (arith, q.outside k)) (λ k. omega (arith, q.inside k)) (in-or-out (r + length y) (length b)))
          (λ l. let e = p.inside l in omega (arith, q.outside (omega arith))) (in-or-out (at + length x) (length a));
    }

pub named : {a b x y : Bytes} {at r : ℕ} → Added a at x b r → x ≡ y → Added a at y b r
named {a} {b} {x} {y} {at} {r} p e = subst (λ (z : Bytes). Added a at z b r) e p

-- what was put at the beginning, with room for it
pub tells : {a b x : Bytes} {r : ℕ} → Added a 0 x b r → length x ≤ length a → Tells b r x
unfolding put
tells {a} {b} {x} {r} p h =
    let f = fits p (omega arith) in
    record {
      text = ap (take r) f.0 ∙ take_at x (drop (0 + length x) a) r (omega (arith, f.1));
      inside = omega (arith, f.1, ap length f.0, put-length a 0 x (omega arith));
    }

-- ---- a piece copied to its place

copied : (out t : Bytes) (at k : ℕ) → k ≡ length t → put_mid at k out t ≡ put out at t
unfolding put
copied out t at k e = ap (λ (z : Bytes). take at out ++ (t ++ z)) (drop-drop k at out ∙ ap (λ (n : ℕ). drop (at + n) out) e)

-- as much of it as there is room for
module _ (out t : Bytes) (at part : ℕ) (h : at < length out) (p : part ≡ min (length t) (length out - at)) where
  part-is : length (take part t) ≡ part
  part-is = length-take-le part t (omega arith)

  pub copied-part : put_mid at (at + part - at) out (take part t) ≡ put out at (take (length out - at) t)
  copied-part =
      copied out (take part t) at (at + part - at) (omega (arith, part-is))
      ∙ ap (put out at) (⊎_elim (λ l. take_all part t (omega arith) ∙ sym (take_all (length out - at) t (omega arith)))
      (λ l. let z : part ≡ length out - at = omega arith in ap (λ (k : ℕ). take k t) z) (in-or-out (length out - at) (length t)))

pub placed : (out t after : Bytes) (at end : ℕ) → length out ≤ limit → end ≡ moved at (length t) → after ≡ put out at (take (length out - at) t) → Added out at t after end
placed out t after at end k e f = record {
  ends = e;
  told = f;
  inside = λ h. e ∙ moved-near at (length t) (length out) k h;
  outside = λ h. omega (arith, e, moved-far at (length t) (length out) k h);
}

-- where the buffer is over nothing is written
pub unwritten : (out t : Bytes) (at : ℕ) → length out ≤ at → out ≡ put out at (take (length out - at) t)
unwritten out t at h = let z : length out - at ≡ 0 = omega arith in sym (ap (λ (k : ℕ). put out at (take k t)) z ∙ put-none out at)

-- ---- numbers

digits-short : (k n : ℕ) → n < 10 → digits k n ≡ digit n ∷ []
unfolding digits
digits-short zero n h = refl
digits-short (suc k) n h = rw (digits, lt-ltb n 10 h)

-- as many digits as there may be are enough
digits_same : (k m n : ℕ) → n ≤ k + 9 → n ≤ m + 9 → digits k n ≡ digits m n
unfolding digits
digits_same zero m n h l = sym (digits-short m n (omega arith))
digits_same (suc k) zero n h l = digits-short (suc k) n (omega arith)
digits_same (suc k) (suc m) n h l = go (ltb n 10) refl (digits_same k m (n / 10))
  where
    go : (b : Bool) → ltb n 10 ≡ b → (n / 10 ≤ k + 9 → n / 10 ≤ m + 9 → digits k (n / 10) ≡ digits m (n / 10)) → digits (suc k) n ≡ digits (suc m) n
    go true e r = rw (digits, e)
    go false e r = rw (digits, e) (ap (λ (w : Bytes). w ++ (digit (n % 10) ∷ [])) (r (omega arith) (omega arith)))

pub decimal-one : (n : ℕ) → n < 10 → digit n ∷ [] ≡ decimal n
unfolding decimal
decimal-one n h = sym (digits-short n n h)

-- the first digits and the last
pub decimal-last : (n : ℕ) → 10 ≤ n → decimal (n / 10) ++ (digit (n % 10) ∷ []) ≡ decimal n
unfolding decimal digits
decimal-last zero h = absurd (omega arith)
decimal-last (suc k) h =
    rw (le-ltb (suc k) 10 h, digits) (ap (λ (w : Bytes). w ++ (digit (suc k % 10) ∷ [])) (digits_same (suc k / 10) k (suc k / 10) (omega arith) (omega arith)))

-- ---- members

module _ (f : Bool) (v : ActionSet) (a : ℕ) where
  pub member-none : has v a ≡ false → [] ≡ led f (listing v a 1)
  unfolding listing led spaced
  member-none e = rw (e, listing) (none f)
    where
      none : (g : Bool) → [] ≡ led g []
      none true = refl
      none false = refl

  pub member-first : has v a ≡ true → f ≡ true → decimal a ≡ led f (listing v a 1)
  unfolding listing led spaced
  member-first e g = rw (g, e, listing)

  pub member-next : has v a ≡ true → f ≡ false → space ∷ decimal a ≡ led f (listing v a 1)
  unfolding listing led spaced
  member-next e g = rw (g, e, listing)

  -- the first of them, and the others
  led-more : (xs : List ℕ) → led f (a ∷ []) ++ led false xs ≡ led f (a ∷ xs)
  unfolding led spaced
  led-more [] = append-nil (led f (a ∷ []))
  led-more (x ∷ xs) = go f
    where
      go : (g : Bool) → led g (a ∷ []) ++ led false (x ∷ xs) ≡ led g (a ∷ x ∷ xs)
      go true = refl
      go false = refl

  pub members-next : (n : ℕ) → led f (listing v a 1) ++ led (f && not (has v a)) (listing v (suc a) n) ≡ led f (listing v a (suc n))
  unfolding listing led spaced
  members-next n = go (has v a) refl
    where
      none : (g : Bool) (xs : List ℕ) → led g [] ++ led (g && true) xs ≡ led g xs
      none true xs = refl
      none false xs = refl

      never : (g : Bool) → (g && false) ≡ false
      never true = refl
      never false = refl

      go : (b : Bool) → has v a ≡ b → led f (listing v a 1) ++ led (f && not (has v a)) (listing v (suc a) n) ≡ led f (listing v a (suc n))
      go true e = rw (listing, e) (ap (λ (g : Bool). led f (a ∷ []) ++ led g (listing v (suc a) n)) (never f) ∙ led-more (listing v (suc a) n))
      go false e = rw (listing, e) (none f (listing v (suc a) n))

  pub members-more : a < 64 → led f (listing v a 1) ++ led (f && not (has v a)) (listing v (a + 1) (64 - (a + 1))) ≡ led f (listing v a (64 - a))
  members-more h =
      let z : a + 1 ≡ suc a = omega arith in
      let y : suc (64 - (a + 1)) ≡ 64 - a = omega arith in
      ap (λ (k : ℕ). led f (listing v a 1) ++ led (f && not (has v a)) (listing v k (64 - (a + 1)))) z ∙ members-next (64 - (a + 1)) ∙ ap (λ (k : ℕ). led f (listing v a k)) y

  pub none_left : 64 ≤ a → [] ≡ led f (listing v a (64 - a))
  unfolding listing led spaced
  none_left h = let z : 64 - a ≡ 0 = omega arith in none f ∙ ap (λ (k : ℕ). led f (listing v a k)) (sym z)
    where
      none : (g : Bool) → [] ≡ led g (listing v a 0)
      none true = refl
      none false = refl

-- ---- how long a number is

digits-below : (j k n : ℕ) → n < 10 ^ suc j → length (digits k n) ≤ suc j
unfolding digits
digits-below zero k n h = rw (digits-short k n (omega arith)) (omega arith)
digits-below (suc j) zero n h = omega arith
digits-below (suc j) (suc k) n h = go (ltb n 10) refl (digits-below j k (n / 10) (omega (arith, h, pow-suc 10 (suc j))))
  where
    go : (b : Bool) → ltb n 10 ≡ b → length (digits k (n / 10)) ≤ suc j → length (digits (suc k) n) ≤ suc (suc j)
    go true e l = rw (digits, e) (omega arith)
    go false e l = rw (digits, e) (simp length-append (omega arith))

pub decimal-below : (j n : ℕ) → n < 10 ^ suc j → length (decimal n) ≤ suc j
unfolding decimal
decimal-below j n h = digits-below j n n h

spot-short : (w : Spot) → ((p : ℕ) → w ≡ on_record p → p < 1000) → length (spot_words w) ≤ 7
unfolding spot_words ascii
spot-short nowhere h = omega arith
spot-short (on_record p) h = simp length-append (omega (arith, decimal-below 2 p (h p refl)))

-- a number of two digits, and a record's of three
pub refusal-short : (f : Fault) → f.number < 100 → ((p : ℕ) → f.spot ≡ on_record p → p < 1000) → length (refusal f) ≤ 18
unfolding refusal ascii
refusal-short f h k = simp length-append (omega (arith, decimal-below 1 f.number (omega arith), spot-short f.spot k))
