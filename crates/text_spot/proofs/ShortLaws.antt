-- How long the words of a refusal are: the numbers in them are a machine's, which have at most 20 digits.
use Prim.Native.Nat.{ℕ, suc, ◌+◌, ◌-◌, ◌*◌, ◌/◌, ◌≤◌, ◌<◌}
use native.Mathlib.Omega.{arith}
use mathlib.Core.Path.{◌≡◌, refl, sym, ap, ◌∙◌}
use mathlib.Core.Bool.{Bool, true, false}
use mathlib.Core.List.{List, [], ◌∷◌}
use lib.Dec.{eqb, ltb}
use lib.ListN.{length, length-append}
use Rattle.spec_policy.specs.Bytes.{Bytes}
use Rattle.spec_policy.specs.Records.{Node, node_at, node_size}
use Rattle.spec_policy.specs.Spots.{Spot, nowhere, on_record, Fault, bare_fault, fault_on}
use Rattle.spec_policy.proofs.ListLaws.{listed-length}
use Rattle.spec_text.specs.Words.{ascii}
use Rattle.spec_text.specs.Numerals.{decimal}
use Rattle.spec_text.specs.Forms.{Sort, node, step}
use Rattle.spec_text.specs.Where.{Which, no_record, aRecord, node_or_step, rule_sort, which, Owner, no_leaf, leaf_at, owner_from, step_words, record_words, nodes_held, nodes_spelt, spot_says, place_words, fault_says}
use Rattle.text_append.proofs.AddedLaws.{decimal-below}

-- below the first number that no machine number is
abbrev pub word : ℕ
word = 18_446_744_073_709_551_616

short : (n : ℕ) → n < word → length (decimal n) ≤ 20
short n h = decimal-below 19 n (omega arith)

-- ---- a step's leaf

data Below : Owner → Type 0 where
  none : Below no_leaf
  both : {i o : ℕ} → i < word → o < word → Below (leaf_at i o)

owner-below : (i : ℕ) (xs : List Node) (s : ℕ) → i + length xs < word → s < word → Below (owner_from i xs s)
unfolding owner_from
owner-below i [] s h k = none
owner-below i (x ∷ xs) s h k = go (ltb s x.count) refl (λ t l. owner-below (suc i) xs t (omega arith) l)
  where
    go : (b : Bool) → ltb s x.count ≡ b → ((t : ℕ) → t < word → Below (owner_from (suc i) xs t)) → Below (owner_from i (x ∷ xs) s)
    go true e ih = rw (owner_from, e) (both {i = i} (omega arith) k)
    go false e ih = rw (owner_from, e) (ih _ (omega arith))

step-short : (s : ℕ) (o : Owner) → s < word → Below o → length (step_words s o) ≤ 54
unfolding step_words ascii
step-short s o h none = simp length-append (omega (arith, short s h))
step-short s o h (both {i} {o = p} a b) = simp length-append (omega (arith, short i a, short p b))

-- ---- a record

-- a record's number is at most the spot's
by-rule : (n k p : ℕ) (s : Sort) (i : ℕ) → which n (fault_on k p) ≡ aRecord s i → i ≤ p
unfolding which node_or_step
by-rule n k p s i e = go (eqb k 4) refl (ltb p n) refl
  where
    go : (a : Bool) → eqb k 4 ≡ a → (b : Bool) → ltb p n ≡ b → i ≤ p
    go true q true r = let u : aRecord node p ≡ aRecord s i = rw (node_or_step, r) at (rw (which, q) at e) in let z : p ≡ i = cc in omega arith
    go true q false r = let u : aRecord step (p - n) ≡ aRecord s i = rw (node_or_step, r) at (rw (which, q) at e) in let z : p - n ≡ i = cc in omega arith
    go false q b r = let u : aRecord (rule_sort k) p ≡ aRecord s i = rw (which, q) at e in let z : p ≡ i = cc in omega arith

which-below : (n : ℕ) (f : Fault) (w : Spot) → f.spot ≡ w → ((p : ℕ) → f.spot ≡ on_record p → p < word) → (s : Sort) (i : ℕ) → which n f ≡ aRecord s i → i < word
unfolding which
which-below n f nowhere q h s i e =
    let u : which n (bare_fault f.number) ≡ aRecord s i = ap (λ (w : Spot). which n (record { number = f.number; spot = w })) (sym q) ∙ e in
    let z : ◌≡◌ {A = ℕ} 0 1 = cc in
    absurd (omega arith)
which-below n f (on_record p) q h s i e =
    let u : which n (fault_on f.number p) ≡ aRecord s i = ap (λ (w : Spot). which n (record { number = f.number; spot = w })) (sym q) ∙ e in
    omega (arith, by-rule n f.number p s i u, h p q)

module _ (ns : Bytes) (long : length ns < word) where
  record-short : (w : Which) → ((s : Sort) (i : ℕ) → w ≡ aRecord s i → i < word) → length (record_words (nodes_spelt ns) w) ≤ 54
  unfolding record_words ascii nodes_spelt nodes_held
  record-short no_record h = omega arith
  record-short (aRecord node i) h = simp length-append (omega (arith, short i (h node i refl)))
  record-short (aRecord step i) h =
      let l : length (nodes_spelt ns) ≡ length ns / node_size = listed-length (λ j. node_at ns (node_size * j)) 0 (length ns / node_size) in
      step-short i (owner_from 0 (nodes_spelt ns) i) (h step i refl) (owner-below 0 (nodes_spelt ns) i (omega arith) (h step i refl))

  place_short : (w : Spot) (words : Bytes) → ((p : ℕ) → w ≡ on_record p → p < word) → length words ≤ 54 → length (place_words w words) ≤ 80
  unfolding place_words ascii
  place_short nowhere words h k = omega arith
  place_short (on_record p) words h k = simp length-append (omega (arith, short p (h p refl)))

  pub fault-short : (f : Fault) → f.number < word → ((p : ℕ) → f.spot ≡ on_record p → p < word) → length (fault_says ns f) ≤ 108
  unfolding fault_says spot_says ascii
  fault-short f k h =
      simp length-append
      (omega (arith, short f.number k, place_short f.spot (spot_says ns f) h (record-short (which (nodes_held ns) f) (λ s i e. which-below (nodes_held ns) f f.spot refl h s i e))))
