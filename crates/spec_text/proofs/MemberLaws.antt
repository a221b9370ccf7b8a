-- A set that was printed is read back.
use Prim.Native.Nat.{ℕ, zero, suc, ◌+◌, ◌≤◌, ◌<◌, ◌/◌, ◌%◌, ◌^◌}
use native.Mathlib.Omega.{arith}
use mathlib.Core.Path.{◌≡◌, refl, ap, ◌∙◌, sym, subst}
use mathlib.Core.Logic.{◌⊎◌, inl, inr, ⊎_elim}
use mathlib.Core.Bool.{Bool, true, false}
use mathlib.Core.List.{List, [], ◌∷◌, ◌++◌, map}
use lib.Dec.{T, eqb, ltb, leb→le}
use borrow.Author.Tests.{ltb-true, ltb-false}
use Rattle.actions.specs.Sets.{ActionSet, is_action, has, EMPTY, single, union}
use Rattle.actions.proofs.Tests.{of-yes, no_of, and_intro, and_left, and_right, both, true-not-false, yes_of}
use Rattle.actions.proofs.SetLaws.{has-empty, has-union-left, has-union-right, has-union-cases, in-single, single-only, EMPTY-bound, single-bound, union-bound, same}
use Rattle.spec_policy.specs.Bytes.{Bytes}
use Rattle.spec_policy.specs.Lists.{every}
use Rattle.spec_text.specs.Words.{ascii, same_bytes, mark}
use Rattle.spec_text.specs.Numerals.{decimal}
use Rattle.spec_text.specs.Reading.{took, members}
use Rattle.spec_text.specs.Printing.{listing}
use Rattle.spec_text.proofs.WordLaws.{same-eq, in_line, plain}
use Rattle.spec_text.proofs.NumeralLaws.{numeral-decimal, decimal-word}

-- the actions listed, joined to s
joined : ActionSet → List ℕ → ActionSet
joined s [] = s
joined s (a ∷ xs) = joined (union s (single a)) xs

-- ---- what is read

-- a number is no closing brace
no-brace : (a : ℕ) → same_bytes (decimal a) (ascii "}") ≡ false
unfolding ascii plain in_line mark every
no-brace a = no_of (same_bytes (decimal a) (ascii "}")) (λ h. subst (λ (w : Bytes). T (every plain w)) (same-eq (decimal a) (ascii "}") h) (decimal-word a).letters)

members-read : (s : ActionSet) (xs : List ℕ) (rest : List Bytes) → T (every is_action xs) → members s (map decimal xs ++ (ascii "}" ∷ rest)) ≡ took (joined s xs) rest
unfolding members joined ascii same_bytes every is_action
members-read s [] rest h = refl
members-read s (a ∷ xs) rest h =
    let l : a ≤ 63 = leb→le a 63 (and_left (is_action a) (every is_action xs) h) in
    rw (members, no-brace a, numeral-decimal 63 a l) (members-read (union s (single a)) xs rest (and_right (is_action a) (every is_action xs) h))

-- ---- the actions of a set, joined

here-or-later : (a b : ℕ) → a ≤ b → (a ≡ b) ⊎ (suc a ≤ b)
here-or-later a b h = go (ltb a b) refl
  where
    go : (p : Bool) → ltb a b ≡ p → (a ≡ b) ⊎ (suc a ≤ b)
    go true e = inr (ltb-true a b e)
    go false e = let k : b ≤ a = ltb-false a b e in inl (omega arith)

module _ (s : ActionSet) where
  member-action : (a : ℕ) → T (has s a) → T (is_action a)
  unfolding has
  member-action a h = and_left (is_action a) (eqb (s / 2 ^ a % 2) 1) h

  listing-actions : (a n : ℕ) → T (every is_action (listing s a n))
  unfolding listing every
  listing-actions a zero = tt
  listing-actions a (suc n) = go (has s a) refl (listing-actions (suc a) n)
    where
      go : (b : Bool) → has s a ≡ b → T (every is_action (listing s (suc a) n)) → T (every is_action (listing s a (suc n)))
      go true e h = rw (listing, e) (and_intro (is_action a) (every is_action (listing s (suc a) n)) (member-action a (of-yes (has s a) e)) h)
      go false e h = rw (listing, e) h

  -- what is joined was there, or is in s
  from-listing : (t : ActionSet) (a n b : ℕ) → T (has (joined t (listing s a n)) b) → T (has t b) ⊎ T (has s b)
  unfolding listing joined
  from-listing t a zero b h = inl h
  from-listing t a (suc n) b h = go (has s a) refl (from-listing t (suc a) n b) (from-listing (union t (single a)) (suc a) n b)
    where
      go : (p : Bool) → has s a ≡ p → (T (has (joined t (listing s (suc a) n)) b) → T (has t b) ⊎ T (has s b))
          → (T (has (joined (union t (single a)) (listing s (suc a) n)) b) → T (has (union t (single a)) b) ⊎ T (has s b)) → T (has t b) ⊎ T (has s b)
      go true e f g =
          ⊎_elim (λ u. ⊎_elim (λ v. inl v) (λ v. inr (subst (λ (x : ℕ). T (has s x)) (single-only a b v) (of-yes (has s a) e))) (has-union-cases t (single a) b u))
          (λ u. inr u) (g (rw (listing, e) at h))
      go false e f g = f (rw (listing, e) at h)

  -- what was there stays
  stays : (t : ActionSet) (xs : List ℕ) (b : ℕ) → T (has t b) → T (has (joined t xs) b)
  unfolding joined
  stays t [] b h = h
  stays t (x ∷ xs) b h = stays (union t (single x)) xs b (has-union-left t (single x) b h)

  in-listing : (t : ActionSet) (a n b : ℕ) → T (has s b) → a ≤ b → b < a + n → T (has (joined t (listing s a n)) b)
  unfolding listing joined
  in-listing t a zero b h l m = absurd (omega arith)
  in-listing t a (suc n) b h l m =
      go (has s a) refl (λ (r : ActionSet) (k : suc a ≤ b). in-listing r (suc a) n b h k (omega arith))
    where
      go : (p : Bool) → has s a ≡ p → ((r : ActionSet) → suc a ≤ b → T (has (joined r (listing s (suc a) n)) b)) → T (has (joined t (listing s a (suc n))) b)
      go true e f =
          rw (listing, e) (⊎_elim (λ (k : a ≡ b). subst (λ (x : ℕ). T (has (joined (union t (single a)) (listing s (suc a) n)) x)) k
          (stays (union t (single a)) (listing s (suc a) n) a (has-union-right t (single a) a (in-single a (member-action a (of-yes (has s a) e))))))
          (λ (k : suc a ≤ b). f (union t (single a)) k) (here-or-later a b l))
      go false e f =
          rw (listing, e) (⊎_elim (λ (k : a ≡ b). true-not-false (yes_of (has s a) (subst (λ (x : ℕ). T (has s x)) (sym k) h)) e)
          (λ (k : suc a ≤ b). f t k) (here-or-later a b l))

  joined-bound : (t : ActionSet) (xs : List ℕ) → t < 2 ^ 64 → joined t xs < 2 ^ 64
  unfolding joined
  joined-bound t [] h = h
  joined-bound t (x ∷ xs) h = joined-bound (union t (single x)) xs (union-bound t (single x) h (single-bound x))

  joined-listing : s < 2 ^ 64 → joined EMPTY (listing s 0 64) ≡ s
  unfolding is_action
  joined-listing h =
      same (joined EMPTY (listing s 0 64)) s (joined-bound EMPTY (listing s 0 64) EMPTY-bound) h
      (λ b. both (has (joined EMPTY (listing s 0 64)) b) (has s b)
      (λ u. ⊎_elim (λ v. absurd (subst T (has-empty b) v)) (λ v. v) (from-listing EMPTY 0 64 b u))
      (λ u. in-listing EMPTY 0 64 b u (omega arith) (omega (arith, leb→le b 63 (member-action b u)))))

  pub set-read : (rest : List Bytes) → s < 2 ^ 64 → members EMPTY (map decimal (listing s 0 64) ++ (ascii "}" ∷ rest)) ≡ took s rest
  set-read rest h = members-read EMPTY (listing s 0 64) rest (listing-actions 0 64) ∙ ap (λ (x : ActionSet). took x rest) (joined-listing h)
