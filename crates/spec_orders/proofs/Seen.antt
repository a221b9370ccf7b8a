-- What holds of every list formed from a trace: its counts, its events, and what is kept of it by a test.
use Prim.Native.Nat.{ℕ, ◌+◌}
use native.Mathlib.Omega.{arith}
use mathlib.Core.Path.{◌≡◌, refl, sym, ◌∙◌, ap, ap₂, subst}
use mathlib.Core.Logic.{◌⊎◌, inl, inr}
use mathlib.Core.Bool.{Bool, true, false}
use mathlib.Core.List.{List, [], ◌∷◌, ◌++◌, append-nil}
use lib.ListN.{length, length-append}
use Rattle.spec_turns.specs.Process.{Item, ran, lets, sups, accepts, suppresses, Trace, none, one, two, items}
use Rattle.spec_turns.specs.Events.{Event, event_of, events, steps_run}
use Rattle.spec_orders.specs.Orders.{Mixed, nil, from_left, from_right, Formed, formed-none, formed-one, formed-two, Told, told_none, told-one, told-two, only}
use Rattle.laws_turns.proofs.Count.{events-append}

-- ---- interleavings

pub mixed-left : {A : Type 0} (xs : List A) {us vs zs : List A} → Mixed us vs zs → Mixed (xs ++ us) vs (xs ++ zs)
mixed-left [] m = m
mixed-left (x ∷ xs) m = from_left (mixed-left xs m)

pub mixed-right : {A : Type 0} (xs : List A) {us vs zs : List A} → Mixed us vs zs → Mixed us (xs ++ vs) (xs ++ zs)
mixed-right [] m = m
mixed-right (x ∷ xs) m = from_right (mixed-right xs m)

turned : {A : Type 0} {xs ys zs : List A} → Mixed xs ys zs → Mixed ys xs zs
turned nil = nil
turned (from_left m) = from_right (turned m)
turned (from_right m) = from_left (turned m)

-- ---- a count that adds up is the same of every list formed from a trace

module _ (count : List Item → ℕ) (adds : (xs ys : List Item) → count (xs ++ ys) ≡ count xs + count ys) where
  count-nil : count [] ≡ 0
  count-nil = omega (arith, adds [] [])

  count-mixed : {xs ys zs : List Item} → Mixed xs ys zs → count zs ≡ count xs + count ys
  count-mixed nil = omega (arith, count-nil)
  count-mixed (from_left {a = i} {xs = xs} {zs = zs} m) = omega (arith, adds (i ∷ []) xs, adds (i ∷ []) zs, count-mixed m)
  count-mixed (from_right {a = i} {ys = ys} {zs = zs} m) = omega (arith, adds (i ∷ []) ys, adds (i ∷ []) zs, count-mixed m)

  pub same_count : {t : Trace} {xs : List Item} → Formed t xs → count xs ≡ count (items t)
  unfolding items
  same_count formed-none = refl
  same_count (formed-one {i = i} {t = t} {xs = xs} f) = omega (arith, adds (i ∷ []) xs, adds (i ∷ []) (items t), same_count f)
  same_count (formed-two {s = s} {t = t} {u = u} {zs = zs} {ws = ws} a b m c) =
      omega (arith, adds zs ws, adds (items s ++ items t) (items u), adds (items s) (items t), count-mixed m, same_count a, same_count b, same_count c)

steps-add : (xs ys : List Item) → steps_run (xs ++ ys) ≡ steps_run xs + steps_run ys
unfolding steps_run
steps-add [] ys = omega arith
steps-add (ran i o ∷ xs) ys = omega (arith, steps-add xs ys)
steps-add (lets b ∷ xs) ys = steps-add xs ys
steps-add (sups a ∷ xs) ys = steps-add xs ys
steps-add (accepts a ∷ xs) ys = steps-add xs ys
steps-add (suppresses a ∷ xs) ys = steps-add xs ys

pub same-steps : {t : Trace} {xs : List Item} → Formed t xs → steps_run xs ≡ steps_run (items t)
same-steps f = same_count steps_run steps-add f

-- ---- the events

events-add : (xs ys : List Item) → length (events (xs ++ ys)) ≡ length (events xs) + length (events ys)
events-add xs ys = ap (λ (l : List Event). length l) (events-append xs ys) ∙ length-append (events xs) (events ys)

pub same-events : {t : Trace} {xs : List Item} → Formed t xs → length (events xs) ≡ length (events (items t))
same-events f = same_count (λ xs. length (events xs)) events-add f

mixed-events : {xs ys zs : List Item} → Mixed xs ys zs → Mixed (events xs) (events ys) (events zs)
unfolding events
mixed-events nil = nil
mixed-events (from_left {a = i} m) = mixed-left (event_of i) (mixed-events m)
mixed-events (from_right {a = i} m) = mixed-right (event_of i) (mixed-events m)

pub tell : {t : Trace} {xs : List Item} → Formed t xs → Told t (events xs)
unfolding events
tell formed-none = told_none
tell (formed-one f) = told-one (tell f)
tell (formed-two {s = s} {t = t} {u = u} {zs = zs} {ws = ws} a b m c) =
    subst (λ (l : List Event). Told (two s t u) l) (sym (events-append zs ws)) (told-two (tell a) (tell b) (mixed-events m) (tell c))

-- ---- what a test keeps

nil-left : (xs ys : List Item) → xs ++ ys ≡ [] → xs ≡ []
nil-left [] ys e = refl
nil-left (x ∷ xs) ys e = cc

nil-right : (xs ys : List Item) → xs ++ ys ≡ [] → ys ≡ []
nil-right [] ys e = e
nil-right (x ∷ xs) ys e = cc

module _ (f : Item → Bool) where
  pub only-append : (xs ys : List Item) → only f (xs ++ ys) ≡ only f xs ++ only f ys
  unfolding only
  only-append [] ys = refl
  only-append (x ∷ xs) ys = go (f x) refl (only-append xs ys)
    where
      go : (b : Bool) → f x ≡ b → only f (xs ++ ys) ≡ only f xs ++ only f ys → only f (x ∷ (xs ++ ys)) ≡ only f (x ∷ xs) ++ only f ys
      go true e h = rw (e, only) cc
      go false e h = rw (e, only) cc

  -- item i, if the test keeps it
  kept : Item → List Item
  kept i = only f (i ∷ [])

  only-cons : (i : Item) (xs : List Item) → only f (i ∷ xs) ≡ kept i ++ only f xs
  unfolding kept
  only-cons i xs = only-append (i ∷ []) xs

  -- a side of which nothing is kept may be left out
  without-right : {xs ys zs : List Item} → Mixed xs ys zs → only f ys ≡ [] → only f zs ≡ only f xs
  without-right nil e = refl
  without-right (from_left {a = i} {xs = xs} {zs = zs} m) e =
      only-cons i zs ∙ ap (λ (l : List Item). kept i ++ l) (without-right m e) ∙ sym (only-cons i xs)
  without-right (from_right {a = i} {ys = ys} {zs = zs} m) e =
      let h = sym (only-cons i ys) ∙ e in
      only-cons i zs ∙ ap (λ (l : List Item). l ++ only f zs) (nil-left (kept i) (only f ys) h) ∙ without-right m (nil-right (kept i) (only f ys) h)

  -- wherever the order of two sides is free, nothing is kept of one of them
  unfoldable pub Lone : Trace → Type 0
  Lone none = Unit {0}
  Lone (one i t) = Lone t
  Lone (two s t u) = ((only f (items s) ≡ []) ⊎ (only f (items t) ≡ [])) × Lone s × Lone t × Lone u

  one_side : {xs ys zs : List Item} (ss ts : List Item) → Mixed xs ys zs → only f xs ≡ only f ss → only f ys ≡ only f ts
      → (only f ss ≡ []) ⊎ (only f ts ≡ []) → only f zs ≡ only f (ss ++ ts)
  one_side ss ts m p q (inl e) = without-right (turned m) (p ∙ e) ∙ q ∙ sym (only-append ss ts ∙ ap (λ (l : List Item). l ++ only f ts) e)
  one_side ss ts m p q (inr e) =
      without-right m (q ∙ e) ∙ p ∙ sym (only-append ss ts ∙ ap (λ (l : List Item). only f ss ++ l) e ∙ append-nil (only f ss))

  pub same-only : {t : Trace} {xs : List Item} → Formed t xs → Lone t → only f xs ≡ only f (items t)
  unfolding items Lone
  same-only formed-none h = refl
  same-only (formed-one {i = i} {t = t} {xs = xs} a) h =
      only-cons i xs ∙ ap (λ (l : List Item). kept i ++ l) (same-only a h) ∙ sym (only-cons i (items t))
  same-only (formed-two {s = s} {t = t} {u = u} {zs = zs} {ws = ws} a b m c) h =
      only-append zs ws
      ∙ ap₂ (λ (x y : List Item). x ++ y) (one_side (items s) (items t) m (same-only a h.1) (same-only b h.2) h.0) (same-only c h.3)
      ∙ sym (only-append (items s ++ items t) (items u))
