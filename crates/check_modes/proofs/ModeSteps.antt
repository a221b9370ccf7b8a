-- One step of the mode rule: there is room for its marks, its marks are those that the table leads to, and its test is the table's.
--
use Prim.Native.Nat.{ℕ, zero, suc, ◌+◌, ◌/◌, ◌%◌, ◌≤◌, ◌<◌}
use native.Mathlib.Omega.{arith}
use mathlib.Core.Path.{◌≡◌, refl, sym, ap, ◌∙◌, subst}
use mathlib.Core.Bool.{Bool, true, false, ◌&&◌, ◌||◌, not, or-true, or-false, or_assoc}
use mathlib.Core.List.{List, [], ◌∷◌, ◌++◌, append_assoc, append-nil}
use lib.Dec.{T, eqb, ltb, ltb→lt, lt→ltb}
use lib.ListN.{get_or-eq_default}
use Rattle.actions.specs.Sets.{has}
use Rattle.actions.proofs.Tests.{and_intro, and_left, and_right, and-true, true-not-false}
use Rattle.spec_policy.specs.Lists.{one, every}
use Rattle.spec_policy.specs.Steps.{Step, next, ok, sup, ins, acase, spend, end, halt, targets, is_next}
use Rattle.spec_check.specs.Modes.{Mode, idle, pending, closing, is_idle, same_mode, Mark, stands, onward, leads, marked, reached_by, leads_if, mode_fits, stepped}
use Rattle.check_modes.specs.declared.Marks.{Marks}
use Rattle.check_modes.specs.declared.Led.{Led}
use Rattle.check_modes.specs.Table.{mode_number, entry_at, reaching, led_by, may_stand, Tells}
use Rattle.check_modes.specs.Marks.{word, Agrees, Adds, Aside, room_for, only_if, fits_in, followed, LedBy, once_at, StepLed, ReachedHere}
use Rattle.check_modes.proofs.Final.{leads-elsewhere}

-- ---- room for the marks

pub room-one : (mode o : ℕ) → mode < 3 → T (room_for (reaching mode o)) → o < 64
unfolding reaching room_for every
room-one zero o h t = ltb→lt o 64 (and_left (ltb o 64) true t)
room-one (suc zero) o h t = ltb→lt o 64 (and_left (ltb o 64) true t)
room-one (suc (suc zero)) o h t = ltb→lt o 64 (and_left (ltb o 64) true t)
room-one (suc (suc (suc n))) o h t = absurd (omega arith)

room-first : (xs ys : List Mark) → T (room_for (xs ++ ys)) → T (room_for xs)
unfolding room_for every
room-first [] ys t = tt
room-first (x ∷ xs) ys t = and_intro (ltb x.offset 64) (room_for xs) (and_left (ltb x.offset 64) (room_for (xs ++ ys)) t)
    (room-first xs ys (and_right (ltb x.offset 64) (room_for (xs ++ ys)) t))

room-second : (xs ys : List Mark) → T (room_for (xs ++ ys)) → T (room_for ys)
unfolding room_for every
room-second [] ys t = t
room-second (x ∷ xs) ys t = room-second xs ys (and_right (ltb x.offset 64) (room_for (xs ++ ys)) t)

pub room-parts : (e first second : ℕ) → T (room_for (led_by e first second)) → T (room_for (reaching (e / 4 % 4) first)) × T (room_for (reaching (e % 4) second))
unfolding led_by
room-parts e first second t =
    let xs = reaching (e / 4 % 4) first in let ys = reaching (e % 4) second in
    (room-first xs ys t, room-second xs ys t)

room-onward : (s : Step) (m : Mode) → T (every (λ t. ltb t 64) (targets s)) → T (room_for (onward s m))
unfolding room_for every targets onward
room-onward (next t d) m h = h
room-onward (ok t) m h = h
room-onward (sup t) m h = h
room-onward (ins b t) m h = h
room-onward (acase s y z) m h = h
room-onward (spend n y z) m h = h
room-onward end m h = h
room-onward halt m h = h

room-led : (s : Step) (m : Mode) → T (every (λ t. ltb t 64) (targets s)) → T (room_for (leads s m))
unfolding room_for every leads
room-led s m h = go (stands s m) refl
  where
    go : (b : Bool) → stands s m ≡ b → T (room_for (leads s m))
    go true e = rw (e, leads) (room-onward s m h)
    go false e = rw (e, leads) tt

-- a step whose targets are inside leads where there is room
pub room-step : (s : Step) (m : Mode) (kind first second e : ℕ) → Tells kind first second s m → T (every (λ t. ltb t 64) (targets s))
    → e ≡ entry_at kind (mode_number m) → T (room_for (led_by e first second))
room-step s m kind first second e t h q =
    subst (λ (ks : List Mark). T (room_for ks)) (t.led ∙ ap (λ (x : ℕ). led_by x first second) (sym q)) (room-led s m h)

-- ---- a step

marked-both : (m : Mode) (o : ℕ) (xs ys : List Mark) → marked m o (xs ++ ys) ≡ (marked m o xs || marked m o ys)
unfolding marked
marked-both m o [] ys = refl
marked-both m o (k ∷ xs) ys = ap (λ (b : Bool). (same_mode m k.mode && eqb o k.offset) || b) (marked-both m o xs ys) ∙ sym (or_assoc (same_mode m k.mode && eqb o k.offset) (marked m o xs) (marked m o ys))

pub adds_none : (bs : Marks) (mode o : ℕ) → 3 ≤ mode → Adds bs bs (reaching mode o)
unfolding Adds reaching marked
adds_none bs mode o h m q l = subst (λ (new : List Mark). has (word bs m) q ≡ (marked m q new || has (word bs m) q)) (sym (get_or-eq_default choices [] h)) refl
  where
    choices : List (List Mark)
    choices = (record { mode = idle; offset = o } ∷ []) ∷ (record { mode = pending; offset = o } ∷ []) ∷ (record { mode = closing; offset = o } ∷ []) ∷ []

-- an entry's two marks
pub lead-both : (e first second : ℕ) (x y z : Marks) → Adds x y (reaching (e % 4) second) → Adds y z (reaching (e / 4 % 4) first) → Adds x z (led_by e first second)
unfolding Adds led_by
lead-both e first second x y z u v m q l =
    let a = reaching (e / 4 % 4) first in let b = reaching (e % 4) second in
    v m q l ∙ ap (λ (t : Bool). marked m q a || t) (u m q l) ∙ sym (or_assoc (marked m q a) (marked m q b) (has (word x m) q))
    ∙ sym (ap (λ (t : Bool). t || has (word x m) q) (marked-both m q a b))

-- what the words add, the marks have
pub adds-agree : (v w : Marks) (new ks : List Mark) → Adds v w new → Agrees v ks → Agrees w (new ++ ks)
unfolding Adds
adds-agree v w new ks a g = record { at = λ m q l. a m q l ∙ ap (λ (t : Bool). marked m q new || t) (g.at m q l) ∙ sym (marked-both m q new ks) }

-- two additions, one after the other
pub adds-both : (x y z : Marks) (new more : List Mark) → Adds x y new → Adds y z more → Adds x z (more ++ new)
unfolding Adds
adds-both x y z new more u v m o l =
    v m o l ∙ ap (λ (b : Bool). marked m o more || b) (u m o l) ∙ sym (or_assoc (marked m o more) (marked m o new) (has (word x m) o))
    ∙ ap (λ (b : Bool). b || has (word x m) o) (sym (marked-both m o more new))

pub adds-nothing : (x : Marks) → Adds x x []
unfolding Adds marked
adds-nothing x m o l = refl

-- ---- reached in one mode: that one is followed

pub room-as : {e f : ℕ} (first second : ℕ) → f ≡ e → T (room_for (led_by e first second)) → T (room_for (led_by f first second))
room-as first second q t = subst (λ (x : ℕ). T (room_for (led_by x first second))) (sym q) t

pub led-as : {e f first second : ℕ} {seen : Marks} {r : Led} → e ≡ f → LedBy e first second seen r → LedBy f first second seen r
led-as {first = first} {second} {seen} {r} q d = subst (λ (x : ℕ). LedBy x first second seen r) q d

module _ (e f h : ℕ) where
  pub in-pending : (p c : Bool) → p ≡ true → f ≡ followed e f h p c
  unfolding followed
  in-pending p c x = rw x refl

  pub in-closing : (p c : Bool) → p ≡ false → c ≡ true → h ≡ followed e f h p c
  unfolding followed
  in-closing p c x y = rw (x, y) refl

  pub in-idle : (p c : Bool) → p ≡ false → c ≡ false → e ≡ followed e f h p c
  unfolding followed
  in-idle p c x y = rw (x, y) refl

  fits-once : (i p c : Bool) → T (eqb (one i + one p + one c) 1) → may_stand (followed e f h p c) ≡ fits_in e f h i p c
  unfolding fits_in followed one
  fits-once true true true t = absurd t
  fits-once true true false t = absurd t
  fits-once true false true t = absurd t
  fits-once true false false t = sym (ap (λ (b : Bool). b && true) (and-true (may_stand e)) ∙ and-true (may_stand e))
  fits-once false true true t = absurd t
  fits-once false true false t = sym (and-true (may_stand f))
  fits-once false false true t = refl
  fits-once false false false t = absurd t

  led-once : (x y z : List Mark) (g : ℕ → List Mark) → x ≡ g e → y ≡ g f → z ≡ g h → (i p c : Bool) → T (eqb (one i + one p + one c) 1)
      → g (followed e f h p c) ≡ only_if i x ++ (only_if p y ++ only_if c z)
  unfolding followed only_if one
  led-once x y z g ex ey ez true true true t = absurd t
  led-once x y z g ex ey ez true true false t = absurd t
  led-once x y z g ex ey ez true false true t = absurd t
  led-once x y z g ex ey ez true false false t = sym ex ∙ sym (append-nil x)
  led-once x y z g ex ey ez false true true t = absurd t
  led-once x y z g ex ey ez false true false t = sym ey ∙ sym (append-nil y)
  led-once x y z g ex ey ez false false true t = sym ez
  led-once x y z g ex ey ez false false false t = absurd t

append-three : (a b c d : List Mark) → (a ++ (b ++ c)) ++ d ≡ a ++ (b ++ (c ++ d))
append-three a b c d = simp append_assoc

and-four : (a b c d : Bool) → (((a && b) && c) && d) ≡ (a && b && c && d)
and-four true true true d = refl
and-four true true false d = refl
and-four true false c d = refl
and-four false b c d = refl

module _ (s : Step) (kind first second : ℕ) (tells : (m : Mode) → Tells kind first second s m)
    (o : ℕ) (ks : List Mark) (i p c : Bool) (f : ReachedHere kind i p c o ks) where
  idly-reached : i ≡ reached_by ks idle o s
  unfolding reached_by is_idle
  idly-reached = f.idly ∙ ap (λ (t : Bool). marked idle o ks || t) (sym (tells idle).next)

  pendingly-reached : p ≡ reached_by ks pending o s
  unfolding reached_by is_idle
  pendingly-reached = f.pendingly ∙ sym (or-false (marked pending o ks))

  closingly-reached : c ≡ reached_by ks closing o s
  unfolding reached_by is_idle
  closingly-reached = f.closingly ∙ sym (or-false (marked closing o ks))

  led : (m : Mode) (x : Bool) → x ≡ reached_by ks m o s
      → only_if x (led_by (entry_at kind (mode_number m)) first second) ≡ leads_if (reached_by ks m o s) s m
  unfolding only_if leads_if
  led m x e = ap (λ (t : Bool). only_if t (led_by (entry_at kind (mode_number m)) first second)) e ∙ go (reached_by ks m o s)
    where
      go : (t : Bool) → only_if t (led_by (entry_at kind (mode_number m)) first second) ≡ leads_if t s m
      go true = sym (tells m).led
      go false = refl

  pub lead-law : (before after : Marks)
      → Adds before after (only_if i (led_by (entry_at kind 0) first second)
      ++ (only_if p (led_by (entry_at kind 1) first second) ++ only_if c (led_by (entry_at kind 2) first second)))
      → Agrees before ks → Agrees after (stepped o s ks)
  unfolding stepped mode_number
  lead-law before after x g =
      let u = led idle i idly-reached in let v = led pending p pendingly-reached in let w = led closing c closingly-reached in
      subst (λ (l : List Mark). Agrees after l)
      (append-three (only_if i (led_by (entry_at kind 0) first second)) (only_if p (led_by (entry_at kind 1) first second))
      (only_if c (led_by (entry_at kind 2) first second)) ks ∙ (λ j. u j ++ (v j ++ (w j ++ ks)))) (adds-agree before after _ ks x g)

  pub fits-law : fits_in (entry_at kind 0) (entry_at kind 1) (entry_at kind 2) i p c ≡ mode_fits ks o s
  unfolding mode_fits mode_number fits_in
  fits-law =
      let x = idly-reached in let y = pendingly-reached in let z = closingly-reached in
      let a = sym (tells idle).may in let b = sym (tells pending).may in let d = sym (tells closing).may in
      and-four (eqb (one i + one p + one c) 1) (not i || may_stand (entry_at kind 0)) (not p || may_stand (entry_at kind 1)) (not c || may_stand (entry_at kind 2))
      ∙ (λ j. eqb (one (x j) + one (y j) + one (z j)) 1 && (not (x j) || a j) && (not (y j) || b j) && (not (z j) || d j))

-- ---- a step as it was met

pub none_inside : T (every (λ (u : ℕ). ltb u 64) [])
unfolding every
none_inside = tt

pub one_inside : (t : ℕ) → t < 64 → T (every (λ u. ltb u 64) (t ∷ []))
unfolding every
one_inside t h = and_intro (ltb t 64) true (lt→ltb t 64 h) tt

pub two-inside : (t d : ℕ) → t < 64 → d < 64 → T (every (λ u. ltb u 64) (t ∷ d ∷ []))
unfolding every
two-inside t d h g = and_intro (ltb t 64) (ltb d 64 && true) (lt→ltb t 64 h) (and_intro (ltb d 64) true (lt→ltb d 64 g) tt)

module _ (s : Step) (kind first second : ℕ) (tells : (m : Mode) → Tells kind first second s m) where
  pub room-met : T (every (λ t. ltb t 64) (targets s)) → (m : Mode) (e : ℕ) → e ≡ entry_at kind (mode_number m) → T (room_for (led_by e first second))
  room-met h m e w = room-step s m kind first second e (tells m) h w

  -- an entry's marks lie at targets
  led-aside : (n : Mode) (before after : Marks) → Adds before after (led_by (entry_at kind (mode_number n)) first second) → Aside s before after
  unfolding Adds Aside marked
  led-aside n before after a m q l d =
      a m q l ∙ ap (λ (b : Bool). b || has (word before m) q)
      (ap (marked m q) (sym (tells n).led ∙ sym (append-nil (leads s n))) ∙ leads-elsewhere q m s d n [])

  pub aside-by : (n : Mode) {e : ℕ} → e ≡ entry_at kind (mode_number n) → (before after : Marks) → Adds before after (led_by e first second) → Aside s before after
  aside-by n q before after a = led-aside n before after (subst (λ (x : ℕ). Adds before after (led_by x first second)) q a)

  -- the entries as they were read
  pub led-met : (o : ℕ) → o < 64 → {e₀ e₁ e₂ : ℕ} → e₀ ≡ entry_at kind 0 → e₁ ≡ entry_at kind 1 → e₂ ≡ entry_at kind 2 → (seen : Marks) (r : Led)
      → LedBy (followed e₀ e₁ e₂ (has seen.pending o) (has seen.closing o)) first second seen r → StepLed o s seen r
  unfolding once_at word mode_number followed
  led-met o l {e₀} {e₁} {e₂} q₀ q₁ q₂ seen r d = record { test = test; marks = marks; aside = aside p c refl refl }
    where
      i : Bool
      i = has seen.idle o || is_next s

      p : Bool
      p = has seen.pending o

      c : Bool
      c = has seen.closing o

      found : (ks : List Mark) → Agrees seen ks → ReachedHere kind i p c o ks
      found ks g = record { idly = (λ j. g.at idle o l j || (tells idle).next j); pendingly = g.at pending o l; closingly = g.at closing o l }

      entry : followed e₀ e₁ e₂ p c ≡ followed (entry_at kind 0) (entry_at kind 1) (entry_at kind 2) p c
      entry = λ j. followed (q₀ j) (q₁ j) (q₂ j) p c

      test : (ks : List Mark) → Agrees seen ks → T (once_at seen o s) → r.fits ≡ mode_fits ks o s
      test ks g t =
          d.test ∙ ap may_stand entry ∙ fits-once (entry_at kind 0) (entry_at kind 1) (entry_at kind 2) i p c t
          ∙ fits-law s kind first second tells o ks i p c (found ks g)

      marks : (ks : List Mark) → Agrees seen ks → T (once_at seen o s) → Agrees r.marks (stepped o s ks)
      marks ks g t =
          lead-law s kind first second tells o ks i p c (found ks g) seen r.marks
          (subst (Adds seen r.marks) (ap (λ (e : ℕ). led_by e first second) entry
          ∙ led-once (entry_at kind 0) (entry_at kind 1) (entry_at kind 2) _ _ _ (λ e. led_by e first second) refl refl refl i p c t) d.adds) g

      aside : (a b : Bool) → p ≡ a → c ≡ b → Aside s seen r.marks
      aside true b x y = aside-by pending (ap (λ (t : Bool). followed e₀ e₁ e₂ t c) x ∙ q₁) seen r.marks d.adds
      aside false true x y = aside-by closing ((λ j. followed e₀ e₁ e₂ (x j) (y j)) ∙ q₂) seen r.marks d.adds
      aside false false x y = aside-by idle ((λ j. followed e₀ e₁ e₂ (x j) (y j)) ∙ q₀) seen r.marks d.adds

-- ---- a next: it counts as reached idle, and leads nowhere in the other modes, where it may not stand

pub next-led : (t d o : ℕ) (ks : List Mark) (w : Marks) → Agrees w (leads (next t d) idle ++ ks) → Agrees w (stepped o (next t d) ks)
unfolding stepped leads_if reached_by is_next is_idle stands onward leads
next-led t d o ks w g = record { at = λ m q h. g.at m q h ∙ sym (all m q (marked idle o ks || true) (marked pending o ks || false) (marked closing o ks || false) (or-true (marked idle o ks))) }
  where
    all : (m : Mode) (q : ℕ) (a b c : Bool) → a ≡ true
        → marked m q (leads_if a (next t d) idle ++ (leads_if b (next t d) pending ++ (leads_if c (next t d) closing ++ ks))) ≡ marked m q (leads (next t d) idle ++ ks)
    all m q true true true e = refl
    all m q true true false e = refl
    all m q true false true e = refl
    all m q true false false e = refl
    all m q false b c e = true-not-false refl (sym e)

-- ---- the test of a step by all marks

module _ (e f h : ℕ) (i c : Bool) where
  pub fits-pending : {p : Bool} → p ≡ true → ((not i && not c) && may_stand f) ≡ fits_in e f h i p c
  unfolding fits_in one
  fits-pending t = rw t (go i c)
    where
      go : (i c : Bool) → ((not i && not c) && may_stand f) ≡ fits_in e f h i true c
      go true true = refl
      go true false = refl
      go false true = refl
      go false false = sym (and-true (may_stand f))

  pub fits-closing : {p : Bool} → p ≡ false → c ≡ true → (not i && may_stand h) ≡ fits_in e f h i p c
  unfolding fits_in one
  fits-closing t u = rw (t, u) (go i)
    where
      go : (i : Bool) → (not i && may_stand h) ≡ fits_in e f h i false true
      go true = refl
      go false = refl

  pub fits-idle : {p : Bool} → p ≡ false → c ≡ false → (i && may_stand e) ≡ fits_in e f h i p c
  unfolding fits_in one
  fits-idle t u = rw (t, u) (go i)
    where
      go : (i : Bool) → (i && may_stand e) ≡ fits_in e f h i false false
      go true = sym (ap (λ (b : Bool). b && true) (and-true (may_stand e)) ∙ and-true (may_stand e))
      go false = refl
