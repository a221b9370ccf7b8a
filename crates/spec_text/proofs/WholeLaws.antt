-- A record that keeps rule 4 is all said by its line: by kind, over the fields.
use Prim.Native.Nat.{ℕ, zero, suc, ◌^◌, ◌≤◌, ◌<◌}
use native.Mathlib.Omega.{arith}
use mathlib.Core.Path.{◌≡◌, refl}
use mathlib.Core.Bool.{◌&&◌, not}
use mathlib.Core.List.{List, [], ◌∷◌}
use mathlib.Core.Option.{some}
use lib.Dec.{T, eqb, leb, eqb→eq, leb→le, le→leb}
use lib.ListN.{get_or, set}
use Rattle.actions.specs.Sets.{is_action, is_empty}
use Rattle.actions.proofs.Tests.{and_intro, and_left, and_right}
use Rattle.spec_policy.specs.Lists.{every}
use Rattle.spec_policy.specs.Tree.{node_kind}
use Rattle.spec_check.specs.Layout.{node_fits, no_action, no_first, no_second, no_operand, step_fits}
use Rattle.spec_text.specs.Forms.{Sort, node, step, same_sort, Fields, record_of, Slot, actions, place, bound, byte, word, Form, forms, first_of, of_kind}
use Rattle.spec_text.specs.Printing.{said}
use Rattle.spec_text.proofs.LineLaws.{Fits}

-- The slots say every field that is not zero, and what they say fits.
pub record Whole (s : Sort) (kind room : ℕ) (slots : List Slot) (count : ℕ) (xs : Fields) : Type 0 where
  pub same : record_of s count (said slots xs (kind ∷ 0 ∷ 0 ∷ 0 ∷ 0 ∷ 0 ∷ [])) ≡ record_of s count xs
  pub fits : Fits xs slots
  pub few : count ≤ room

-- ---- tests in a row

zero-2 : (a b : ℕ) → T (eqb a 0 && eqb b 0) → (a ≡ 0) × (b ≡ 0)
zero-2 a b h = (eqb→eq a 0 (and_left (eqb a 0) (eqb b 0) h), eqb→eq b 0 (and_right (eqb a 0) (eqb b 0) h))

pub zero-3 : (a b c : ℕ) → T (eqb a 0 && eqb b 0 && eqb c 0) → (a ≡ 0) × (b ≡ 0) × (c ≡ 0)
zero-3 a b c h =
    let p = eqb a 0 && eqb b 0 in
    let u = zero-2 a b (and_left p (eqb c 0) h) in (u.0, u.1, eqb→eq c 0 (and_right p (eqb c 0) h))

pub zero-4 : (a b c d : ℕ) → T (eqb a 0 && eqb b 0 && eqb c 0 && eqb d 0) → (a ≡ 0) × (b ≡ 0) × (c ≡ 0) × (d ≡ 0)
zero-4 a b c d h =
    let p = eqb a 0 && eqb b 0 && eqb c 0 in
    let u = zero-3 a b c (and_left p (eqb d 0) h) in (u.0, u.1, u.2, eqb→eq d 0 (and_right p (eqb d 0) h))

fits_more : (p : Slot) (ps : List Slot) (xs : Fields) → get_or xs (place p) 0 ≤ bound p → Fits xs ps → Fits xs (p ∷ ps)
unfolding every
fits_more p ps xs h k = and_intro (leb (get_or xs (place p) 0) (bound p)) (every (λ q. leb (get_or xs (place q) 0) (bound q)) ps) (le→leb (get_or xs (place p) 0) (bound p) h) k

fits-none : (xs : Fields) → Fits xs []
unfolding every
fits-none xs = tt

-- ---- nodes

module _ (k l r c s t : ℕ) where
  abbrev node_fields : Fields
  node_fields = k ∷ l ∷ r ∷ c ∷ s ∷ t ∷ []

  leaf-whole : c ≤ 255 → s ≤ 4_294_967_295 → t < 2 ^ 64 → T (eqb l 0 && eqb r 0 && leb 1 c && leb c 64 && not (is_empty t))
      → Whole node k 255 (actions 5 ∷ word 4 ∷ []) c node_fields
  unfolding record_of said place bound
  leaf-whole bc bs bt h =
      let p = eqb l 0 && eqb r 0 in
      let u = zero-2 l r (and_left p (leb 1 c) (and_left (p && leb 1 c) (leb c 64) (and_left (p && leb 1 c && leb c 64) (not (is_empty t)) h))) in
      let el : l ≡ 0 = u.0 in
      let er : r ≡ 0 = u.1 in
      record { same = (cc); fits = fits_more (actions 5) (word 4 ∷ []) node_fields (omega arith) (fits_more (word 4) [] node_fields bs (fits-none node_fields)); few = bc }

  lone-whole : T (eqb l 0 && eqb r 0 && eqb c 0 && eqb s 0 && eqb t 0) → Whole node k 0 [] c node_fields
  unfolding record_of said
  lone-whole h =
      let p = eqb l 0 && eqb r 0 && eqb c 0 && eqb s 0 in
      let u = zero-4 l r c s (and_left p (eqb t 0) h) in
      let el : l ≡ 0 = u.0 in
      let er : r ≡ 0 = u.1 in
      let es : s ≡ 0 = u.3 in
      let et : t ≡ 0 = eqb→eq t 0 (and_right p (eqb t 0) h) in
      record { same = (cc); fits = fits-none node_fields; few = omega (arith, u.2) }

  pair-whole : l ≤ 255 → r ≤ 255 → T (eqb c 0 && eqb s 0 && eqb t 0) → Whole node k 0 (byte 1 ∷ byte 2 ∷ []) c node_fields
  unfolding record_of said place bound
  pair-whole bl br h =
      let u = zero-3 c s t h in
      let es : s ≡ 0 = u.1 in
      let et : t ≡ 0 = u.2 in
      record { same = (cc); fits = fits_more (byte 1) (byte 2 ∷ []) node_fields bl (fits_more (byte 2) [] node_fields br (fits-none node_fields)); few = omega (arith, u.0) }

-- a form that says all of a record of kind k
pub record Told (s : Sort) (k count : ℕ) (xs : Fields) : Type 0 where
  pub form : Form
  pub is : of_kind s k ≡ some form
  pub whole : Whole s form.kind form.room form.slots count xs

pub node-told : (k l r c s t : ℕ) → l ≤ 255 → r ≤ 255 → c ≤ 255 → s ≤ 4_294_967_295 → t < 2 ^ 64
    → T (node_fits (node_kind k) (record { kind = k; left = l; right = r; count = c; start = s; set = t })) → Told node k c (k ∷ l ∷ r ∷ c ∷ s ∷ t ∷ [])
unfolding node_kind node_fits of_kind first_of forms same_sort
node-told zero l r c s t bl br bc bs bt h = absurd h
node-told (suc zero) l r c s t bl br bc bs bt h = record { form = _; is = refl; whole = leaf-whole 1 l r c s t bc bs bt h }
node-told (suc (suc zero)) l r c s t bl br bc bs bt h = record { form = _; is = refl; whole = lone-whole 2 l r c s t h }
node-told (suc (suc (suc zero))) l r c s t bl br bc bs bt h = record { form = _; is = refl; whole = lone-whole 3 l r c s t h }
node-told (suc (suc (suc (suc zero)))) l r c s t bl br bc bs bt h = record { form = _; is = refl; whole = pair-whole 4 l r c s t bl br h }
node-told (suc (suc (suc (suc (suc zero))))) l r c s t bl br bc bs bt h = record { form = _; is = refl; whole = pair-whole 5 l r c s t bl br h }
node-told (suc (suc (suc (suc (suc (suc zero)))))) l r c s t bl br bc bs bt h = record { form = _; is = refl; whole = pair-whole 6 l r c s t bl br h }
node-told (suc (suc (suc (suc (suc (suc (suc zero))))))) l r c s t bl br bc bs bt h = record { form = _; is = refl; whole = pair-whole 7 l r c s t bl br h }
node-told (suc (suc (suc (suc (suc (suc (suc (suc k)))))))) l r c s t bl br bc bs bt h = absurd h

-- ---- steps

module _ (k a f s o : ℕ) where
  abbrev step_fields : Fields
  step_fields = k ∷ a ∷ f ∷ s ∷ o ∷ []

  -- both targets, before or after an operand
  targets-fit : f ≤ 255 → s ≤ 255 → Fits step_fields (byte 2 ∷ byte 3 ∷ [])
  unfolding place bound
  targets-fit bf bs = fits_more (byte 2) (byte 3 ∷ []) step_fields bf (fits_more (byte 3) [] step_fields bs (fits-none step_fields))

  next-whole : f ≤ 255 → s ≤ 255 → T (eqb a 0 && eqb o 0) → Whole step k 0 (byte 2 ∷ byte 3 ∷ []) 0 step_fields
  unfolding record_of said place
  next-whole bf bs h =
      let u = zero-2 a o h in
      let ea : a ≡ 0 = u.0 in
      let eo : o ≡ 0 = u.1 in
      record { same = (cc); fits = targets-fit bf bs; few = omega arith }

  ok-whole : f ≤ 255 → T (eqb a 0 && eqb s 0 && eqb o 0) → Whole step k 0 (byte 2 ∷ []) 0 step_fields
  unfolding record_of said place bound
  ok-whole bf h =
      let u = zero-3 a s o h in
      let ea : a ≡ 0 = u.0 in
      let es : s ≡ 0 = u.1 in
      let eo : o ≡ 0 = u.2 in
      record { same = (cc); fits = fits_more (byte 2) [] step_fields bf (fits-none step_fields); few = omega arith }

  ins-whole : a ≤ 255 → f ≤ 255 → T (is_action a && eqb s 0 && eqb o 0) → Whole step k 0 (byte 1 ∷ byte 2 ∷ []) 0 step_fields
  unfolding record_of said place bound
  ins-whole ba bf h =
      let es : s ≡ 0 = eqb→eq s 0 (and_right (is_action a) (eqb s 0) (and_left (is_action a && eqb s 0) (eqb o 0) h)) in
      let eo : o ≡ 0 = eqb→eq o 0 (and_right (is_action a && eqb s 0) (eqb o 0) h) in
      record { same = (cc); fits = fits_more (byte 1) (byte 2 ∷ []) step_fields ba (fits_more (byte 2) [] step_fields bf (fits-none step_fields)); few = omega arith }

  acase-whole : f ≤ 255 → s ≤ 255 → o < 2 ^ 64 → T (eqb a 0) → Whole step k 0 (actions 4 ∷ byte 2 ∷ byte 3 ∷ []) 0 step_fields
  unfolding record_of said place bound
  acase-whole bf bs bo h =
      let ea : a ≡ 0 = eqb→eq a 0 h in
      record { same = (cc); fits = fits_more (actions 4) (byte 2 ∷ byte 3 ∷ []) step_fields (omega arith) (targets-fit bf bs); few = omega arith }

  spend-whole : f ≤ 255 → s ≤ 255 → T (eqb a 0 && leb o 4_294_967_295) → Whole step k 0 (word 4 ∷ byte 2 ∷ byte 3 ∷ []) 0 step_fields
  unfolding record_of said place bound
  spend-whole bf bs h =
      let ea : a ≡ 0 = eqb→eq a 0 (and_left (eqb a 0) (leb o 4_294_967_295) h) in
      let bo : o ≤ 4_294_967_295 = leb→le o 4_294_967_295 (and_right (eqb a 0) (leb o 4_294_967_295) h) in
      record { same = (cc); fits = fits_more (word 4) (byte 2 ∷ byte 3 ∷ []) step_fields bo (targets-fit bf bs); few = omega arith }

  end_whole : T (eqb a 0 && eqb f 0 && eqb s 0 && eqb o 0) → Whole step k 0 [] 0 step_fields
  unfolding record_of said
  end_whole h =
      let u = zero-4 a f s o h in
      let ea : a ≡ 0 = u.0 in
      let ef : f ≡ 0 = u.1 in
      let es : s ≡ 0 = u.2 in
      let eo : o ≡ 0 = u.3 in
      record { same = (cc); fits = fits-none step_fields; few = omega arith }

pub row_told : (k a f s o : ℕ) → a ≤ 255 → f ≤ 255 → s ≤ 255 → o < 2 ^ 64
    → T (step_fits (record { kind = k; action = a; first = f; second = s; operand = o })) → Told step k 0 (k ∷ a ∷ f ∷ s ∷ o ∷ [])
unfolding step_fits no_action no_first no_second no_operand of_kind first_of forms same_sort
row_told zero a f s o ba bf bs bo h = absurd h
row_told (suc zero) a f s o ba bf bs bo h = record { form = _; is = refl; whole = next-whole 1 a f s o bf bs h }
row_told (suc (suc zero)) a f s o ba bf bs bo h = record { form = _; is = refl; whole = ok-whole 2 a f s o bf h }
row_told (suc (suc (suc zero))) a f s o ba bf bs bo h = record { form = _; is = refl; whole = ok-whole 3 a f s o bf h }
row_told (suc (suc (suc (suc zero)))) a f s o ba bf bs bo h = record { form = _; is = refl; whole = ins-whole 4 a f s o ba bf h }
row_told (suc (suc (suc (suc (suc zero))))) a f s o ba bf bs bo h = record { form = _; is = refl; whole = acase-whole 5 a f s o bf bs bo h }
row_told (suc (suc (suc (suc (suc (suc zero)))))) a f s o ba bf bs bo h = record { form = _; is = refl; whole = spend-whole 6 a f s o bf bs h }
row_told (suc (suc (suc (suc (suc (suc (suc zero))))))) a f s o ba bf bs bo h = record { form = _; is = refl; whole = end_whole 7 a f s o h }
row_told (suc (suc (suc (suc (suc (suc (suc (suc zero)))))))) a f s o ba bf bs bo h = record { form = _; is = refl; whole = end_whole 8 a f s o h }
row_told (suc (suc (suc (suc (suc (suc (suc (suc (suc k))))))))) a f s o ba bf bs bo h = absurd h
