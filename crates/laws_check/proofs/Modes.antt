-- The mode pass finds just what the paper says: an offset is marked in a mode where a chain of steps reaches it.
use Prim.Native.Nat.{ℕ, zero, suc, ◌+◌, ◌≤◌, ◌<◌}
use native.Mathlib.Nat.{le_refl, le_of_suc-le-suc, not-suc-le-zero}
use native.Mathlib.Omega.{arith}
use mathlib.Core.Path.{◌≡◌, refl, sym, ◌∙◌, ap, subst}
use mathlib.Core.Logic.{◌⊎◌, inl, inr, ⊎_elim, ◌↔◌}
use mathlib.Core.Bool.{Bool, true, false, ◌&&◌}
use mathlib.Core.List.Memᴰ
use mathlib.Core.List.{List, [], ◌∷◌, ◌++◌, Memᴰ}
use lib.Dec.{T, eqb, eqb→eq, eqb_refl}
use lib.ListN.{length, get_or}
use Rattle.actions.specs.Sets.{ActionSet}
use Rattle.actions.proofs.Tests.{and_intro, and_left, and_right, or_left, or_right, or_cases, yes_of, of-yes}
use Rattle.spec_policy.specs.Steps.{Step, next, ok, sup, ins, acase, spend, end, halt, targets, is_next}
use Rattle.spec_check.specs.Targets.{targets_fit}
use Rattle.spec_check.specs.Modes.{Mode, idle, pending, closing, is_idle, is_pending, is_closing, same_mode, stands, Mark, onward, leads, Reached, first, waits, led}
use Rattle.spec_check.specs.Modes.{marked, reached_by, leads_if, stepped, walked, marks}
use Rattle.spec_check.specs.Lawful.{reached_in}
use Rattle.spec_check.proofs.Ahead.{in-or-out, Suffix, whole, suffix-head, suffix-tail, out_of, never_back}

-- ---- marks

abbrev mark : Mode → ℕ → Mark
mark m o = record { mode = m; offset = o }

pub same-itself : (m : Mode) → T (same_mode m m)
unfolding same_mode is_idle is_pending is_closing
same-itself idle = tt
same-itself pending = tt
same-itself closing = tt

pub same-mode : (m m' : Mode) → T (same_mode m m') → m ≡ m'
unfolding same_mode is_idle is_pending is_closing
same-mode idle idle h = refl
same-mode idle pending h = absurd h
same-mode idle closing h = absurd h
same-mode pending idle h = absurd h
same-mode pending pending h = refl
same-mode pending closing h = absurd h
same-mode closing idle h = absurd h
same-mode closing pending h = absurd h
same-mode closing closing h = refl

pub idle-only : (m : Mode) → T (is_idle m) → idle ≡ m
unfolding same_mode
idle-only m h = same-mode idle m h

pub pending-only : (m : Mode) → T (is_pending m) → pending ≡ m
unfolding same_mode
pending-only m h = same-mode pending m h

-- the test `marked` is membership
mem-marked : (m : Mode) (o : ℕ) (ks : List Mark) → Memᴰ (mark m o) ks → T (marked m o ks)
unfolding marked
mem-marked m o [] d = absurd (Memᴰ.not-nil d)
mem-marked m o (k ∷ ks) d =
    ⊎_elim (λ (e : mark m o ≡ k). or_left (same_mode m k.mode && eqb o k.offset) (marked m o ks)
    (subst (λ (x : Mark). T (same_mode m x.mode && eqb o x.offset)) e (and_intro (same_mode m m) (eqb o o) (same-itself m) (eqb_refl o))))
    (λ u. or_right (same_mode m k.mode && eqb o k.offset) (marked m o ks) (mem-marked m o ks u)) (Memᴰ.cases_cons d)

marked-mem : (m : Mode) (o : ℕ) (ks : List Mark) → T (marked m o ks) → Memᴰ (mark m o) ks
unfolding marked
marked-mem m o [] h = absurd h
marked-mem m o (k ∷ ks) h =
    ⊎_elim (λ u. Memᴰ.head (ap (λ (x : Mode). mark x o) (same-mode m k.mode (and_left (same_mode m k.mode) (eqb o k.offset) u))
    ∙ ap (λ (x : ℕ). mark k.mode x) (eqb→eq o k.offset (and_right (same_mode m k.mode) (eqb o k.offset) u))))
    (λ u. Memᴰ.tail (marked-mem m o ks u)) (or_cases (same_mode m k.mode && eqb o k.offset) (marked m o ks) h)

-- the test `reached_by` likewise: a mark, or "every next counts as reached idle."
next-reached : (ks : List Mark) (o : ℕ) (s : Step) → T (is_next s) → T (reached_by ks idle o s)
unfolding reached_by is_idle
next-reached ks o s n = or_right (marked idle o ks) (is_next s) n

mem-reached : (ks : List Mark) (m : Mode) (o : ℕ) (s : Step) → Memᴰ (mark m o) ks → T (reached_by ks m o s)
unfolding reached_by
mem-reached ks m o s d = or_left (marked m o ks) (is_idle m && is_next s) (mem-marked m o ks d)

reached-cases : (ks : List Mark) (m : Mode) (o : ℕ) (s : Step) → T (reached_by ks m o s) → Memᴰ (mark m o) ks ⊎ ((idle ≡ m) × T (is_next s))
unfolding reached_by
reached-cases ks m o s h =
    ⊎_elim (λ u. inl (marked-mem m o ks u)) (λ u. inr (idle-only m (and_left (is_idle m) (is_next s) u), and_right (is_idle m) (is_next s) u))
    (or_cases (marked m o ks) (is_idle m && is_next s) h)

-- ---- one step

one_of : {a k : Mark} → Memᴰ k (a ∷ []) → Memᴰ k.offset (a.offset ∷ [])
one_of h = Memᴰ.head (ap (λ (x : Mark). x.offset) (Memᴰ.eq_of_singleton h))

two-of : {a b k : Mark} → Memᴰ k (a ∷ b ∷ []) → Memᴰ k.offset (a.offset ∷ b.offset ∷ [])
two-of {a} {b} {k} h = ⊎_elim (λ (e : k ≡ a). Memᴰ.head (ap (λ (x : Mark). x.offset) e)) (λ u. Memᴰ.tail (one_of u)) (Memᴰ.cases_cons h)

onward-target : (s : Step) (m : Mode) (k : Mark) → Memᴰ k (onward s m) → Memᴰ k.offset (targets s)
unfolding onward targets
onward-target (next t d) m k h = two-of h
onward-target (ok t) m k h = one_of h
onward-target (sup t) m k h = one_of h
onward-target (ins b t) m k h = one_of h
onward-target (acase s y z) m k h = two-of h
onward-target (spend n y z) m k h = two-of h
onward-target end m k h = absurd (Memᴰ.not-nil h)
onward-target halt m k h = absurd (Memᴰ.not-nil h)

-- where a step may stand it leads on, and elsewhere nowhere
pub leads-onward : (s : Step) (m : Mode) → T (stands s m) → leads s m ≡ onward s m
unfolding leads
leads-onward s m h = rw (yes_of (stands s m) h, leads)

leads-standing : (s : Step) (m : Mode) (k : Mark) → Memᴰ k (leads s m) → T (stands s m) × Memᴰ k (onward s m)
unfolding leads
leads-standing s m k h = go (stands s m) refl
  where
    go : (b : Bool) → stands s m ≡ b → T (stands s m) × Memᴰ k (onward s m)
    go true e = (of-yes (stands s m) e, rw (e, leads) at h)
    go false e = let u : Memᴰ k [] = rw (e, leads) at h in absurd (Memᴰ.not-nil u)

-- the marks that a step makes are at its targets
leads-target : (s : Step) (m : Mode) (k : Mark) → Memᴰ k (leads s m) → Memᴰ k.offset (targets s)
leads-target s m k h = onward-target s m k (leads-standing s m k h).1

-- a next leads on from idle alone
next-stands : (s : Step) (m : Mode) → T (is_next s) → T (stands s m) → idle ≡ m
unfolding stands is_next
next-stands (next t d) m n h = idle-only m h
next-stands (ok t) m n h = absurd n
next-stands (sup t) m n h = absurd n
next-stands (ins b t) m n h = absurd n
next-stands (acase s y z) m n h = absurd n
next-stands (spend a y z) m n h = absurd n
next-stands end m n h = absurd n
next-stands halt m n h = absurd n

next-leads : (s : Step) (m : Mode) (k : Mark) → T (is_next s) → Memᴰ k (leads s m) → Memᴰ k (leads s idle)
next-leads s m k n d = subst (λ (x : Mode). Memᴰ k (leads s x)) (sym (next-stands s m n (leads-standing s m k d).0)) d

-- what the step at o marks for its being reached in mode m
abbrev news : ℕ → Step → List Mark → Mode → List Mark
news o s ks m = leads_if (reached_by ks m o s) s m

stepped-keeps : (o : ℕ) (s : Step) (ks : List Mark) (k : Mark) → Memᴰ k ks → Memᴰ k (stepped o s ks)
unfolding stepped
stepped-keeps o s ks k d = Memᴰ.append_right (news o s ks idle) (Memᴰ.append_right (news o s ks pending) (Memᴰ.append_right (news o s ks closing) d))

-- where the step is reached in a mode, what it then leads to is marked
stepped-led : (o : ℕ) (s : Step) (ks : List Mark) (m : Mode) (k : Mark) → T (reached_by ks m o s) → Memᴰ k (leads s m) → Memᴰ k (stepped o s ks)
unfolding stepped leads_if
stepped-led o s ks m k h d = by m (if-led (reached_by ks m o s) h)
  where
    if-led : (b : Bool) → T b → Memᴰ k (leads_if b s m)
    if-led true h = d
    if-led false h = absurd h

    by : (m : Mode) → Memᴰ k (news o s ks m) → Memᴰ k (stepped o s ks)
    by idle u = Memᴰ.append_left (news o s ks pending ++ (news o s ks closing ++ ks)) u
    by pending u = Memᴰ.append_right (news o s ks idle) (Memᴰ.append_left (news o s ks closing ++ ks) u)
    by closing u = Memᴰ.append_right (news o s ks idle) (Memᴰ.append_right (news o s ks pending) (Memᴰ.append_left ks u))

-- mark k is new at the step at o
Made : ℕ → Step → List Mark → Mark → Type 0
Made o s ks k = (m : Mode) × T (reached_by ks m o s) × Memᴰ k (leads s m)

-- and no other mark is new
stepped-cases : (o : ℕ) (s : Step) (ks : List Mark) (k : Mark) → Memᴰ k (stepped o s ks) → Made o s ks k ⊎ Memᴰ k ks
unfolding stepped leads_if Made
stepped-cases o s ks k d = from idle (news o s ks pending ++ (news o s ks closing ++ ks)) (from pending (news o s ks closing ++ ks) (from closing ks (λ u. inr u))) d
  where
    made : (b : Bool) (m : Mode) → reached_by ks m o s ≡ b → Memᴰ k (leads_if b s m) → Made o s ks k
    made true m e d = (m, subst T (sym e) tt, d)
    made false m e d = absurd (Memᴰ.not-nil d)

    from : (m : Mode) (rest : List Mark) → (Memᴰ k rest → Made o s ks k ⊎ Memᴰ k ks) → Memᴰ k (news o s ks m ++ rest) → Made o s ks k ⊎ Memᴰ k ks
    from m rest f d = ⊎_elim (λ u. inl (made (reached_by ks m o s) m refl u)) f (Memᴰ.append_cases (news o s ks m) d)

-- ---- the walk

walked_keeps : (o : ℕ) (ss : List Step) (ks : List Mark) (k : Mark) → Memᴰ k ks → Memᴰ k (walked o ss ks)
unfolding walked
walked_keeps o [] ks k d = d
walked_keeps o (s ∷ ss) ks k d = walked_keeps (suc o) ss (stepped o s ks) k (stepped-keeps o s ks k d)

-- every mark that the paper makes is found, as no step leads back but to a next
module _ (r : ActionSet) (code : List Step) (six : T (targets_fit r code)) where
  -- from o on nothing new is marked at an earlier step, unless that is a next
  walked-late : (o p : ℕ) (m : Mode) (ss : List Step) (ks : List Mark) → Suffix code o ss → p ≤ o → is_next (get_or code p halt) ≡ false
      → Memᴰ (mark m p) (walked o ss ks) → Memᴰ (mark m p) ks
  unfolding walked Made
  walked-late o p m [] ks f l n d = d
  walked-late o p m (s ∷ ss) ks f l n d =
      ⊎_elim (λ (h : Made o s ks (mark m p)). absurd (never_back r code six o p l n
      (subst (λ (x : Step). Memᴰ p (targets x)) (suffix-head code o s ss f) (leads-target s h.0 (mark m p) h.2))))
      (λ u. u)
      (stepped-cases o s ks (mark m p) (walked-late (suc o) p m ss (stepped o s ks) (suffix-tail code o s ss f) (omega arith) n d))

  -- where the step at o is reached at the walk's end, what it leads to is marked at the walk's end
  led_on : (o : ℕ) (s : Step) (ss : List Step) (ks : List Mark) → Suffix code o (s ∷ ss) → (m : Mode) (k : Mark)
      → T (reached_by (walked o (s ∷ ss) ks) m o s) → Memᴰ k (leads s m) → Memᴰ k (walked o (s ∷ ss) ks)
  unfolding walked
  led_on o s ss ks f m k h d = go (is_next s) refl
    where
      on : (m : Mode) → T (reached_by ks m o s) → Memᴰ k (leads s m) → Memᴰ k (walked o (s ∷ ss) ks)
      on m h d = walked_keeps (suc o) ss (stepped o s ks) k (stepped-led o s ks m k h d)

      go : (b : Bool) → is_next s ≡ b → Memᴰ k (walked o (s ∷ ss) ks)
      go true n =
          let i : T (is_next s) = of-yes (is_next s) n in
          on idle (next-reached ks o s i) (next-leads s m k i d)
      go false n =
          let i : is_next (get_or code o halt) ≡ false = sym (ap is_next (suffix-head code o s ss f)) ∙ n in
          ⊎_elim (λ u. on m (mem-reached ks m o s (walked-late o o m (s ∷ ss) ks f (le_refl o) i u)) d) (λ u. absurd (subst T n u.1))
          (reached-cases (walked o (s ∷ ss) ks) m o s h)

  closed : (o : ℕ) (ss : List Step) (ks : List Mark) → Suffix code o ss → (j p : ℕ) → j < length ss → o + j ≡ p → (m : Mode) (k : Mark)
      → T (reached_by (walked o ss ks) m p (get_or code p halt)) → Memᴰ k (leads (get_or code p halt) m) → Memᴰ k (walked o ss ks)
  unfolding walked
  closed o [] ks f j p l e m k = absurd (not-suc-le-zero l)
  closed o (s ∷ ss) ks f zero p l e m k =
      let z : o ≡ p = omega arith in
      subst (λ (x : ℕ). T (reached_by (walked o (s ∷ ss) ks) m x (get_or code x halt)) → Memᴰ k (leads (get_or code x halt) m) → Memᴰ k (walked o (s ∷ ss) ks)) z
      (subst (λ (x : Step). T (reached_by (walked o (s ∷ ss) ks) m o x) → Memᴰ k (leads x m) → Memᴰ k (walked o (s ∷ ss) ks)) (suffix-head code o s ss f)
      (led_on o s ss ks f m k))
  closed o (s ∷ ss) ks f (suc j) p l e m k = closed (suc o) ss (stepped o s ks) (suffix-tail code o s ss f) j p (le_of_suc-le-suc l) (omega arith) m k

  marks-closed : (m : Mode) (o : ℕ) (k : Mark) → T (reached_in code m o) → Memᴰ k (leads (get_or code o halt) m) → Memᴰ k (marks code)
  unfolding reached_in marks leads stands onward
  marks-closed m o k h d =
      ⊎_elim (λ l. closed 0 code (mark idle 0 ∷ []) (whole code) o o l (omega arith) m k h d)
      (λ l. absurd (Memᴰ.not-nil (subst (λ (x : Step). Memᴰ k (leads x m)) (out_of code o l) d))) (in-or-out (length code) o)

  pub modes-found : (m : Mode) (o : ℕ) → Reached code m o → T (reached_in code m o)
  unfolding reached_in marks
  modes-found _ _ first = mem-reached (marks code) idle 0 (get_or code 0 halt) (walked_keeps 0 code (mark idle 0 ∷ []) (mark idle 0) (Memᴰ.head refl))
  modes-found _ _ (waits {o = o} n) = next-reached (marks code) o (get_or code o halt) n
  modes-found _ _ (led {m = m} {m' = m'} {o = o} {o' = o'} h d) =
      mem-reached (marks code) m' o' (get_or code o' halt) (marks-closed m o (mark m' o') (modes-found m o h) d)

-- and every mark is one that the paper makes
module _ (code : List Step) where
  AllReached : List Mark → Type 0
  AllReached ks = (k : Mark) → Memᴰ k ks → Reached code k.mode k.offset

  reached-by : (o : ℕ) (s : Step) (ks : List Mark) → s ≡ get_or code o halt → AllReached ks → (m : Mode) → T (reached_by ks m o s) → Reached code m o
  unfolding AllReached
  reached-by o s ks e all m h =
      ⊎_elim (λ d. all (mark m o) d) (λ u. subst (λ (x : Mode). Reached code x o) u.0 (waits (subst (λ (x : Step). T (is_next x)) e u.1)))
      (reached-cases ks m o s h)

  walked-real : (o : ℕ) (ss : List Step) (ks : List Mark) → Suffix code o ss → AllReached ks → AllReached (walked o ss ks)
  unfolding walked AllReached Made
  walked-real o [] ks f all = all
  walked-real o (s ∷ ss) ks f all = walked-real (suc o) ss (stepped o s ks) (suffix-tail code o s ss f) (λ k d. ⊎_elim (by k) (all k) (stepped-cases o s ks k d))
    where
      by : (k : Mark) → Made o s ks k → Reached code k.mode k.offset
      by k h =
          let e : s ≡ get_or code o halt = suffix-head code o s ss f in
          led (reached-by o s ks e all h.0 h.1) (subst (λ (x : Step). Memᴰ k (leads x h.0)) e h.2)

  start : AllReached (mark idle 0 ∷ [])
  unfolding AllReached
  start k d =
      ⊎_elim (λ (e : k ≡ mark idle 0). subst (λ (x : Mark). Reached code x.mode x.offset) (sym e) first) (λ u. absurd (Memᴰ.not-nil u)) (Memᴰ.cases_cons d)

  pub modes-real : (m : Mode) (o : ℕ) → T (reached_in code m o) → Reached code m o
  unfolding reached_in marks
  modes-real m o h = reached-by o (get_or code o halt) (marks code) refl (walked-real 0 code (mark idle 0 ∷ []) (whole code) start) m h

pub modes-exact : (r : ActionSet) (code : List Step) → T (targets_fit r code) → (m : Mode) (o : ℕ) → Reached code m o ↔ T (reached_in code m o)
modes-exact r code six m o = (modes-found r code six m o, modes-real code m o)
