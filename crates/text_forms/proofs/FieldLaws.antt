-- A record's fields: its line says the whole of it just where each is named or zero.
use Prim.Native.Nat.{ℕ, zero, suc, ◌^◌, ◌≤◌, ◌<◌}
use native.Mathlib.Omega.{arith}
use mathlib.Core.Path.{◌≡◌, refl, sym, ap, ◌∙◌, subst}
use mathlib.Core.Bool.{Bool, true, false, ◌&&◌, ◌||◌}
use mathlib.Core.List.{List, [], ◌∷◌}
use lib.Dec.{T, eqb, leb, eqb→eq, lit≤}
use lib.ListN.{length, get_or, set, length-set}
use lib.Seq.{get_or-set_same, get_or-set_other}
use borrow.Author.Tests.{eq-eqb, eqb-true, eqb-false}
use Rattle.actions.proofs.Tests.{both, of-yes}
use Rattle.spec_policy.specs.Bytes.{Bytes, spelt, number, spell, Small}
use Rattle.spec_policy.specs.Records.{node_at, step_record_at}
use Rattle.spec_policy.specs.Parts as parts
use Rattle.spec_policy.proofs.ByteLaws.{number-less, spelt-of-spell}
use Rattle.spec_policy.proofs.NumberLaws.{number-byte}
use Rattle.spec_text.specs.Words.{same_bytes}
use Rattle.spec_text.specs.Forms.{Sort, node, step, size, Fields, fields_in, record_of, Slot, place, Form, bare}
use Rattle.spec_text.specs.Printing.{said, count_in, says}
use Rattle.spec_text.proofs.WordLaws.{same_refl, same-eq}
use Rattle.spec_text.proofs.RecordLaws.{record-again}
use Rattle.text_forms.specs.Whole.{names, named, whole, fit}

-- ---- what the code reads

pub size-least : (s : Sort) → 12 ≤ size s
unfolding size
size-least node = lit≤ tt
size-least step = lit≤ tt

pub first-four : (s : Sort) (bs : Bytes) (i : ℕ) → i < 4 → number bs i 1 ≡ get_or (fields_in s bs) i 0
unfolding fields_in node_at step_record_at
first-four node bs zero h = refl
first-four node bs (suc zero) h = refl
first-four node bs (suc (suc zero)) h = refl
first-four node bs (suc (suc (suc zero))) h = refl
first-four step bs zero h = refl
first-four step bs (suc zero) h = refl
first-four step bs (suc (suc zero)) h = refl
first-four step bs (suc (suc (suc zero))) h = refl
first-four s bs (suc (suc (suc (suc i)))) h = absurd (omega arith)

-- ---- the fields that a line says

picked : Bool → ℕ → ℕ → ℕ
picked true x y = x
picked false x y = y

picked_same : (b : Bool) (x : ℕ) → picked b x x ≡ x
unfolding picked
picked_same true x = refl
picked_same false x = refl

picked-less : (b : Bool) {x n : ℕ} → x < n → picked b x 0 < n
unfolding picked
picked-less true h = h
picked-less false h = omega arith

named-picked : (b : Bool) (x : ℕ) → T (b || eqb x 0) → picked b x 0 ≡ x
unfolding picked
named-picked true x h = refl
named-picked false x h = sym (eqb→eq x 0 h)

picked-named : (b : Bool) (x : ℕ) → picked b x 0 ≡ x → T (b || eqb x 0)
unfolding picked
picked-named true x e = tt
picked-named false x e = of-yes (eqb x 0) (eq-eqb x 0 (sym e))

said_at : (ps : List Slot) (xs ys : Fields) (i : ℕ) → i < length ys → get_or (said ps xs ys) i 0 ≡ picked (names ps i) (get_or xs i 0) (get_or ys i 0)
unfolding said names picked
said_at [] xs ys i h = refl
said_at (p ∷ ps) xs ys i h =
    said_at ps xs (set ys (place p) (get_or xs (place p) 0)) i (rw length-set h) ∙ go (eqb (place p) i) refl
  where
    v : ℕ
    v = get_or xs i 0

    go : (b : Bool) → eqb (place p) i ≡ b
        → picked (names ps i) v (get_or (set ys (place p) (get_or xs (place p) 0)) i 0) ≡ picked (eqb (place p) i || names ps i) v (get_or ys i 0)
    go true e =
        let q : place p ≡ i = eqb-true (place p) i e in
        rw (e, q) (ap (picked (names ps i) v) (get_or-set_same ys i v 0 h) ∙ picked_same (names ps i) v)
    go false e = rw e (ap (picked (names ps i) v) (get_or-set_other ys (place p) i (get_or xs (place p) 0) 0 (λ q. eqb-false (place p) i e (sym q))))

-- ---- the whole record

pub all-four : {a b c d a' b' c' d' : Bool} → a ≡ a' → b ≡ b' → c ≡ c' → d ≡ d' → (a && b && c && d) ≡ (a' && b' && c' && d')
all-four p q r s = cc

and-four : (a b c d : Bool) → T (a && b && c && d) → T a × T b × T c × T d
and-four true true true true h = (tt, tt, tt, tt)
and-four true true true false h = absurd h
and-four true true false d h = absurd h
and-four true false c d h = absurd h
and-four false b c d h = absurd h

four-and : (a b c d : Bool) → T a → T b → T c → T d → T (a && b && c && d)
four-and true true true true h i j k = tt
four-and true true true false h i j k = absurd k
four-and true true false d h i j k = absurd j
four-and true false c d h i j k = absurd i
four-and false b c d h i j k = absurd h

module _ (f : Form) (bs : Bytes) (small : Small bs) (is : get_or bs 0 0 ≡ f.kind) where
  module _ (s : Sort) (l : length bs ≡ size s) where
    xs : Fields
    xs = fields_in s bs

    ys : Fields
    ys = said f.slots xs (bare f)

    -- what the line says of a field after the kind
    at : (i : ℕ) → get_or (bare f) i 0 ≡ 0 → i < 6 → get_or ys i 0 ≡ picked (names f.slots i) (get_or xs i 0) 0
    unfolding bare xs ys
    at i e h = said_at f.slots xs (bare f) i h ∙ ap (picked (names f.slots i) (get_or xs i 0)) e

    kind-at : get_or ys 0 0 ≡ get_or xs 0 0
    unfolding bare xs ys
    kind-at =
        let e : f.kind ≡ get_or xs 0 0 = sym is ∙ sym (number-byte bs 0 (omega (arith, size-least s))) ∙ first-four s bs 0 (lit≤ tt) in
        said_at f.slots xs (bare f) 0 (lit≤ tt) ∙ ap (picked (names f.slots 0) (get_or xs 0 0)) e ∙ picked_same (names f.slots 0) (get_or xs 0 0)

    same_at : (i : ℕ) → get_or (bare f) i 0 ≡ 0 → i < 6 → T (named f.slots xs i) → get_or ys i 0 ≡ get_or xs i 0
    unfolding named
    same_at i e h t = at i e h ∙ named-picked (names f.slots i) (get_or xs i 0) t

    named-at : (i : ℕ) → get_or (bare f) i 0 ≡ 0 → i < 6 → get_or ys i 0 ≡ get_or xs i 0 → T (named f.slots xs i)
    unfolding named
    named-at i e h q = picked-named (names f.slots i) (get_or xs i 0) (sym (at i e h) ∙ q)

    less-at : (i : ℕ) {n : ℕ} → get_or (bare f) i 0 ≡ 0 → i < 6 → get_or xs i 0 < n → get_or ys i 0 < n
    less-at i {n} e h q = subst (λ (y : ℕ). y < n) (sym (at i e h)) (picked-less (names f.slots i) q)

    -- a number that was spelt in the same place of both
    spelt-same : (k i : ℕ) → get_or (bare f) i 0 ≡ 0 → i < 6 → get_or xs i 0 < 256 ^ k → spelt 0 (spell k (get_or ys i 0)) ≡ spelt 0 (spell k (get_or xs i 0)) → get_or ys i 0 ≡ get_or xs i 0
    spelt-same k i e h b q = sym (spelt-of-spell k (get_or ys i 0) (less-at i e h b)) ∙ q ∙ spelt-of-spell k (get_or xs i 0) b

  whole_same : (s : Sort) (l : length bs ≡ size s) → T (whole s f.slots (xs s l)) → record_of s (count_in s bs) (ys s l) ≡ record_of s (count_in s bs) (xs s l)
  unfolding whole record_of bare
  whole_same node l h =
      let t = and-four (named f.slots (xs node l) 1) (named f.slots (xs node l) 2) (named f.slots (xs node l) 4) (named f.slots (xs node l) 5) h in
      let a = kind-at node l in
      let b = same_at node l 1 refl (lit≤ tt) t.0 in
      let c = same_at node l 2 refl (lit≤ tt) t.1 in
      let d = same_at node l 4 refl (lit≤ tt) t.2 in
      let e = same_at node l 5 refl (lit≤ tt) t.3 in
      cc
  whole_same step l h =
      let t = and-four (named f.slots (xs step l) 1) (named f.slots (xs step l) 2) (named f.slots (xs step l) 3) (named f.slots (xs step l) 4) h in
      let a = kind-at step l in
      let b = same_at step l 1 refl (lit≤ tt) t.0 in
      let c = same_at step l 2 refl (lit≤ tt) t.1 in
      let d = same_at step l 3 refl (lit≤ tt) t.2 in
      let e = same_at step l 4 refl (lit≤ tt) t.3 in
      cc

  same_whole : (s : Sort) (l : length bs ≡ size s) → record_of s (count_in s bs) (ys s l) ≡ record_of s (count_in s bs) (xs s l) → T (whole s f.slots (xs s l))
  unfolding whole record_of bare parts.node parts.step spell number size xs fields_in node_at step_record_at
  same_whole node l q =
      four-and (named f.slots (xs node l) 1) (named f.slots (xs node l) 2) (named f.slots (xs node l) 4) (named f.slots (xs node l) 5)
      (named-at node l 1 refl (lit≤ tt) (ap (λ (b : Bytes). get_or b 1 0) q))
      (named-at node l 2 refl (lit≤ tt) (ap (λ (b : Bytes). get_or b 2 0) q))
      (named-at node l 4 refl (lit≤ tt) (spelt-same node l 4 4 refl (lit≤ tt) (number-less bs 4 4 small (omega arith)) (ap (λ (b : Bytes). number b 4 4) q)))
      (named-at node l 5 refl (lit≤ tt) (spelt-same node l 8 5 refl (lit≤ tt) (number-less bs 8 8 small (omega arith)) (ap (λ (b : Bytes). number b 8 8) q)))
  same_whole step l q =
      four-and (named f.slots (xs step l) 1) (named f.slots (xs step l) 2) (named f.slots (xs step l) 3) (named f.slots (xs step l) 4)
      (named-at step l 1 refl (lit≤ tt) (ap (λ (b : Bytes). get_or b 1 0) q))
      (named-at step l 2 refl (lit≤ tt) (ap (λ (b : Bytes). get_or b 2 0) q))
      (named-at step l 3 refl (lit≤ tt) (ap (λ (b : Bytes). get_or b 3 0) q))
      (named-at step l 4 refl (lit≤ tt) (spelt-same step l 8 4 refl (lit≤ tt) (number-less bs 4 8 small (omega arith)) (ap (λ (b : Bytes). number b 4 8) q)))

  -- a line's test of the whole record
  pub says_is : (s : Sort) → length bs ≡ size s
      → (whole s f.slots (fields_in s bs) && fit f.slots (fields_in s bs) && leb (count_in s bs) f.room) ≡ says s f bs
  unfolding says fit xs ys
  says_is s l =
      let w = whole s f.slots (fields_in s bs) in
      let r = record_of s (count_in s bs) (said f.slots (fields_in s bs) (bare f)) in
      let again : record_of s (count_in s bs) (fields_in s bs) ≡ bs = record-again bs small s l in
      let e : w ≡ same_bytes r bs =
      both w (same_bytes r bs) (λ h. subst (λ (b : Bytes). T (same_bytes r b)) (whole_same s l h ∙ again) (same_refl r)) (λ h. same_whole s l (same-eq r bs h ∙ sym again)) in
      ap (λ (b : Bool). b && fit f.slots (fields_in s bs) && leb (count_in s bs) f.room) e
