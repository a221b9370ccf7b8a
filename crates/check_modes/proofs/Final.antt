-- What is marked at a step when the walk comes to it is what is marked there at the end, unless it is a next; and what a next's test is.
--
use Prim.Native.Nat.{ℕ, suc, ◌+◌, ◌^◌, ◌≤◌, ◌<◌}
use native.Mathlib.Omega.{arith}
use mathlib.Core.Path.{◌≡◌, refl, sym, ap, ◌∙◌, subst}
use mathlib.Core.Bool.{Bool, true, false, ◌&&◌, ◌||◌, not, or-true, or-false}
use mathlib.Core.List.{List, [], ◌∷◌, ◌++◌, Memᴰ}
use lib.Dec.{T, eqb, ltb, ltb→lt}
use lib.ListN.{length, get_or}
use borrow.Author.Tests.{ne_eqb, lt-ltb}
use Rattle.actions.specs.Sets.{ActionSet, has, union, common, within, meets}
use Rattle.actions.proofs.SetLaws.{has-union, has-common, within_has, has_within, meets-apart, apart-meets}
use Rattle.actions.proofs.Tests.{true-not-false, of-yes, yes_of, no_of, and_intro, and_left, and_right, both}
use Rattle.spec_policy.specs.Lists.{one, every_at}
use Rattle.spec_policy.specs.Steps.{Step, next, ok, sup, ins, acase, spend, end, halt, targets, is_next}
use Rattle.spec_policy.proofs.ListLaws.{every_at-from-0}
use Rattle.spec_check.specs.Targets.{targets_fit}
use Rattle.spec_check.specs.Modes.{Mode, idle, pending, closing, is_idle, is_pending, is_closing, same_mode, stands, Mark, onward, leads, marked, reached_by, leads_if, walked, stepped}
use Rattle.spec_check.specs.Modes.{marks, mode_fits, modes_fit}
use Rattle.spec_check.proofs.Ahead.{Suffix, suffix-head, suffix-tail, never_back}
use Rattle.check_modes.specs.Marks.{word, Agrees, MarkedHere, NextsAre, once_at, all_once, others_fit, nexts_fit}
use Rattle.check_modes.specs.declared.Marks.{Marks}

-- ---- marks elsewhere

module _ (o : ℕ) (m : Mode) where
  one-elsewhere : (n : Mode) (t : ℕ) (ks : List Mark) → (o ≡ t → ⊥) → marked m o (record { mode = n; offset = t } ∷ ks) ≡ marked m o ks
  unfolding marked
  one-elsewhere n t ks h = ap (λ (b : Bool). (same_mode m n && b) || marked m o ks) (ne_eqb o t h) ∙ off (same_mode m n) (marked m o ks)
    where
      off : (a b : Bool) → ((a && false) || b) ≡ b
      off true b = refl
      off false b = refl

  module _ (s : Step) (h : Memᴰ o (targets s) → ⊥) where
    onward-elsewhere : (n : Mode) (ks : List Mark) → marked m o (onward s n ++ ks) ≡ marked m o ks
    unfolding onward targets
    onward-elsewhere n ks = go s h
      where
        two : (a b : Mode) (t d : ℕ) → (Memᴰ o (t ∷ d ∷ []) → ⊥)
            → marked m o (record { mode = a; offset = t } ∷ record { mode = b; offset = d } ∷ ks) ≡ marked m o ks
        two a b t d g =
            one-elsewhere a t (record { mode = b; offset = d } ∷ ks) (λ e. g (Memᴰ.head e)) ∙ one-elsewhere b d ks (λ e. g (Memᴰ.tail (Memᴰ.head e)))

        go : (s : Step) → (Memᴰ o (targets s) → ⊥) → marked m o (onward s n ++ ks) ≡ marked m o ks
        go (next t d) g = two pending closing t d g
        go (ok t) g = one-elsewhere idle t ks (λ e. g (Memᴰ.head e))
        go (sup t) g = one-elsewhere idle t ks (λ e. g (Memᴰ.head e))
        go (ins b t) g = one-elsewhere n t ks (λ e. g (Memᴰ.head e))
        go (acase r y z) g = two n n y z g
        go (spend a y z) g = two n n y z g
        go end g = refl
        go halt g = refl

    -- and where it may not stand it marks nothing at all
    pub leads-elsewhere : (n : Mode) (ks : List Mark) → marked m o (leads s n ++ ks) ≡ marked m o ks
    unfolding leads
    leads-elsewhere n ks = go (stands s n) refl
      where
        go : (b : Bool) → stands s n ≡ b → marked m o (leads s n ++ ks) ≡ marked m o ks
        go true e = rw (e, leads) (onward-elsewhere n ks)
        go false e = rw (e, leads) refl

    if-elsewhere : (b : Bool) (n : Mode) (ks : List Mark) → marked m o (leads_if b s n ++ ks) ≡ marked m o ks
    unfolding leads_if
    if-elsewhere true n ks = leads-elsewhere n ks
    if-elsewhere false n ks = refl

    stepped-elsewhere : (p : ℕ) (ks : List Mark) → marked m o (stepped p s ks) ≡ marked m o ks
    unfolding stepped
    stepped-elsewhere p ks =
        if-elsewhere (reached_by ks idle p s) idle _ ∙ if-elsewhere (reached_by ks pending p s) pending _ ∙ if-elsewhere (reached_by ks closing p s) closing ks

-- ---- the walk

module _ (r : ActionSet) (code : List Step) (six : T (targets_fit r code)) (o : ℕ) (n : is_next (get_or code o halt) ≡ false) (m : Mode) where
  pub walked-elsewhere : (p : ℕ) (ss : List Step) (ks : List Mark) → Suffix code p ss → o ≤ p → marked m o (walked p ss ks) ≡ marked m o ks
  unfolding walked stepped
  walked-elsewhere p [] ks f l = refl
  walked-elsewhere p (s ∷ ss) ks f l =
      walked-elsewhere (suc p) ss (stepped p s ks) (suffix-tail code p s ss f) (omega arith)
      ∙ stepped-elsewhere o m s (λ d. never_back r code six p o l n (subst (λ (x : Step). Memᴰ o (targets x)) (suffix-head code p s ss f) d)) p ks

-- a step's test asks for nothing but its own marks
pub fits_by : (ks js : List Mark) (o : ℕ) (s : Step) → ((m : Mode) → marked m o ks ≡ marked m o js) → mode_fits ks o s ≡ mode_fits js o s
unfolding mode_fits reached_by
fits_by ks js o s e =
    let x : reached_by ks idle o s ≡ reached_by js idle o s = ap (λ (b : Bool). b || (is_idle idle && is_next s)) (e idle) in
    let y : reached_by ks pending o s ≡ reached_by js pending o s = ap (λ (b : Bool). b || (is_idle pending && is_next s)) (e pending) in
    let z : reached_by ks closing o s ≡ reached_by js closing o s = ap (λ (b : Bool). b || (is_idle closing && is_next s)) (e closing) in
    (λ j. eqb (one (x j) + one (y j) + one (z j)) 1 && (not (x j) || stands s idle) && (not (y j) || stands s pending) && (not (z j) || stands s closing))

-- ---- a next

-- it counts as reached idle, so it is to be marked in no other mode
pub next_fits : (s : Step) (o : ℕ) (i p c : Bool) (ks : List Mark) → is_next s ≡ true → MarkedHere i p c o ks → (not p && not c) ≡ mode_fits ks o s
unfolding mode_fits reached_by is_next is_idle is_pending is_closing stands one
next_fits (next t d) o i p c ks n h =
    (λ j. not (h.pendingly j) && not (h.closingly j)) ∙ go (marked idle o ks) (marked pending o ks) (marked closing o ks) refl refl refl
  where
    go : (x y z : Bool) → marked idle o ks ≡ x → marked pending o ks ≡ y → marked closing o ks ≡ z → (not (marked pending o ks) && not (marked closing o ks)) ≡ mode_fits ks o (next t d)
    go true true true e f g = rw (e, f, g) refl
    go true true false e f g = rw (e, f, g) refl
    go true false true e f g = rw (e, f, g) refl
    go true false false e f g = rw (e, f, g) refl
    go false true true e f g = rw (e, f, g) refl
    go false true false e f g = rw (e, f, g) refl
    go false false true e f g = rw (e, f, g) refl
    go false false false e f g = rw (e, f, g) refl
next_fits (ok t) o i p c ks n h = true-not-false n refl
next_fits (sup t) o i p c ks n h = true-not-false n refl
next_fits (ins b t) o i p c ks n h = true-not-false n refl
next_fits (acase s y z) o i p c ks n h = true-not-false n refl
next_fits (spend a y z) o i p c ks n h = true-not-false n refl
next_fits end o i p c ks n h = true-not-false n refl
next_fits halt o i p c ks n h = true-not-false n refl

-- ---- the two parts are the whole

parts : (f : ℕ → Step → Bool) (o : ℕ) (ss : List Step) → (every_at (λ p s. is_next s || f p s) o ss && every_at (λ p s. not (is_next s) || f p s) o ss) ≡ every_at f o ss
unfolding every_at
parts f o [] = refl
parts f o (s ∷ ss) = go (is_next s) (f o s) (every_at (λ p s. is_next s || f p s) (suc o) ss) (every_at (λ p s. not (is_next s) || f p s) (suc o) ss) ∙ ap (λ (b : Bool). f o s && b) (parts f (suc o) ss)
  where
    go : (n a x y : Bool) → (((n || a) && x) && ((not n || a) && y)) ≡ (a && (x && y))
    go true true x y = refl
    go true false true y = refl
    go true false false y = refl
    go false true x y = refl
    go false false x y = refl

pub modes-parts : (code : List Step) → (others_fit code && nexts_fit code) ≡ modes_fit code
unfolding others_fit nexts_fit modes_fit
modes-parts code = parts (mode_fits (marks code)) 0 code

-- ---- lists of steps

every-by : {A : Type 0} (f : ℕ → A → Bool) (i : ℕ) (xs : List A) (d : A) → ((j : ℕ) → j < length xs → T (f (i + j) (get_or xs j d))) → T (every_at f i xs)
unfolding every_at
every-by f i [] d h = tt
every-by f i (x ∷ xs) d h =
    let z : i + 0 ≡ i = omega arith in
    and_intro (f i x) (every_at f (suc i) xs) (subst (λ (n : ℕ). T (f n x)) z (h 0 (omega arith)))
    (every-by f (suc i) xs d (λ j l. let y : i + suc j ≡ suc i + j = omega arith in subst (λ (n : ℕ). T (f n (get_or xs j d))) y (h (suc j) (omega (arith, l)))))

-- ---- every step in one mode, by words

ones_apart : Bool → Bool → Bool → Bool
ones_apart i p c = ((i && p) || (i && c)) || (p && c)

once-of : (i p c : Bool) → T ((i || p) || c) → T (not (ones_apart i p c)) → T (eqb (one i + one p + one c) 1)
unfolding ones_apart one
once-of true true c a b = absurd b
once-of true false true a b = absurd b
once-of true false false a b = tt
once-of false true true a b = absurd b
once-of false true false a b = tt
once-of false false true a b = tt
once-of false false false a b = absurd a

of-once : (i p c : Bool) → T (eqb (one i + one p + one c) 1) → T ((i || p) || c) × T (not (ones_apart i p c))
unfolding ones_apart one
of-once true true true t = absurd t
of-once true true false t = absurd t
of-once true false true t = absurd t
of-once true false false t = (tt, tt)
of-once false true true t = absurd t
of-once false true false t = (tt, tt)
of-once false false true t = (tt, tt)
of-once false false false t = absurd t

module _ (all nexts : ℕ) (small : all < 2 ^ 64) (seen : Marks) (code : List Step) (below : (q : ℕ) → has all q ≡ ltb q (length code)) (are : NextsAre nexts code) where
  abbrev idly : ActionSet
  idly = union seen.idle nexts

  abbrev reached : ActionSet
  reached = union (union idly seen.pending) seen.closing

  abbrev twice : ActionSet
  twice = union (union (common idly seen.pending) (common idly seen.closing)) (common seen.pending seen.closing)

  has-idly : (o : ℕ) → has idly o ≡ (has seen.idle o || is_next (get_or code o halt))
  has-idly o = has-union seen.idle nexts o ∙ ap (λ (b : Bool). has seen.idle o || b) (are o)

  has-reached : (o : ℕ) → has reached o ≡ (((has seen.idle o || is_next (get_or code o halt)) || has seen.pending o) || has seen.closing o)
  has-reached o =
      has-union (union idly seen.pending) seen.closing o ∙ ap (λ (b : Bool). b || has seen.closing o)
      (has-union idly seen.pending o ∙ ap (λ (b : Bool). b || has seen.pending o) (has-idly o))

  has-twice : (o : ℕ) → has twice o ≡ ones_apart (has seen.idle o || is_next (get_or code o halt)) (has seen.pending o) (has seen.closing o)
  unfolding ones_apart
  has-twice o =
      has-union (union (common idly seen.pending) (common idly seen.closing)) (common seen.pending seen.closing) o
      ∙ (λ j. has-union (common idly seen.pending) (common idly seen.closing) o j || has-common seen.pending seen.closing o j)
      ∙ (λ j. (has-common idly seen.pending o j || has-common idly seen.closing o j) || (has seen.pending o && has seen.closing o))
      ∙ (λ j. ((has-idly o j && has seen.pending o) || (has-idly o j && has seen.closing o)) || (has seen.pending o && has seen.closing o))

  words-once : T (within all reached && not (meets all twice)) → T (all_once seen code)
  unfolding all_once once_at
  words-once t = every-by (once_at seen) 0 code halt here
    where
      here : (o : ℕ) → o < length code → T (once_at seen (0 + o) (get_or code o halt))
      here o l =
          let z : o ≡ 0 + o = omega arith in
          let h : T (has all o) = of-yes (has all o) (below o ∙ lt-ltb o (length code) l) in
          let a = within_has all reached (and_left (within all reached) (not (meets all twice)) t) o h in
          let b = meets-apart all twice (and_right (within all reached) (not (meets all twice)) t) o h in
          subst (λ (n : ℕ). T (once_at seen n (get_or code o halt))) z
          (once-of (has seen.idle o || is_next (get_or code o halt)) (has seen.pending o) (has seen.closing o)
          (subst T (has-reached o) a) (subst (λ (x : Bool). T (not x)) (has-twice o) b))

  once-words : T (all_once seen code) → T (within all reached && not (meets all twice))
  unfolding all_once once_at
  once-words t = and_intro (within all reached) (not (meets all twice))
      (has_within all reached small (λ o h. subst T (sym (has-reached o)) (here o h).0))
      (apart-meets all twice small (λ o h. subst (λ (x : Bool). T (not x)) (sym (has-twice o)) (here o h).1))
    where
      here : (o : ℕ) → T (has all o) → T (((has seen.idle o || is_next (get_or code o halt)) || has seen.pending o) || has seen.closing o)
          × T (not (ones_apart (has seen.idle o || is_next (get_or code o halt)) (has seen.pending o) (has seen.closing o)))
      here o h =
          of-once (has seen.idle o || is_next (get_or code o halt)) (has seen.pending o) (has seen.closing o)
          (every_at-from-0 (once_at seen) code halt t o (ltb→lt o (length code) (of-yes (ltb o (length code)) (sym (below o) ∙ yes_of (has all o) h))))

  pub once-by-words : (within all reached && not (meets all twice)) ≡ all_once seen code
  once-by-words = both (within all reached && not (meets all twice)) (all_once seen code) words-once once-words

-- ---- what that says of the nexts, where the words agree with the marks and each other step is reached in one mode

module _ (seen : Marks) (code : List Step) (short : length code ≤ 64) (agree : Agrees seen (marks code))
    (others : (o : ℕ) → o < length code → is_next (get_or code o halt) ≡ false → T (once_at seen o (get_or code o halt))) where
  at_next : (o : ℕ) → o < 64 → is_next (get_or code o halt) ≡ true → once_at seen o (get_or code o halt) ≡ mode_fits (marks code) o (get_or code o halt)
  unfolding once_at word one
  at_next o l e =
      (λ j. eqb (one (has seen.idle o || e j) + one (has seen.pending o) + one (has seen.closing o)) 1)
      ∙ (λ j. eqb (one (or-true (has seen.idle o) j) + one (has seen.pending o) + one (has seen.closing o)) 1)
      ∙ neither (has seen.pending o) (has seen.closing o)
      ∙ next_fits (get_or code o halt) o (has seen.idle o) (has seen.pending o) (has seen.closing o) (marks code) e
      (record { idly = agree.at idle o l; pendingly = agree.at pending o l; closingly = agree.at closing o l })
    where
      neither : (p c : Bool) → eqb (1 + one p + one c) 1 ≡ (not p && not c)
      neither true true = refl
      neither true false = refl
      neither false true = refl
      neither false false = refl

  at_each : (o : ℕ) → o < length code → once_at seen o (get_or code o halt) ≡ (not (is_next (get_or code o halt)) || mode_fits (marks code) o (get_or code o halt))
  at_each o l = go (is_next (get_or code o halt)) refl
    where
      go : (b : Bool) → is_next (get_or code o halt) ≡ b → once_at seen o (get_or code o halt) ≡ (not (is_next (get_or code o halt)) || mode_fits (marks code) o (get_or code o halt))
      go true e = at_next o (omega (arith, l, short)) e ∙ sym (ap (λ (x : Bool). not x || mode_fits (marks code) o (get_or code o halt)) e)
      go false e = yes_of _ (others o l e) ∙ sym (ap (λ (x : Bool). not x || mode_fits (marks code) o (get_or code o halt)) e)

  pub once-nexts : all_once seen code ≡ nexts_fit code
  unfolding all_once nexts_fit
  once-nexts = both (every_at (once_at seen) 0 code) (every_at test 0 code)
      (λ t. every-by test 0 code halt (λ o l. let z : o ≡ 0 + o = omega arith in subst (λ (n : ℕ). T (test n (get_or code o halt))) z (subst T (at_each o l) (every_at-from-0 (once_at seen) code halt t o l))))
      (λ t. every-by (once_at seen) 0 code halt (λ o l. let z : o ≡ 0 + o = omega arith in subst (λ (n : ℕ). T (once_at seen n (get_or code o halt))) z (subst T (sym (at_each o l)) (every_at-from-0 test code halt t o l))))
    where
      test : ℕ → Step → Bool
      test o s = not (is_next s) || mode_fits (marks code) o s

-- one step that is not reached in one mode
pub not-all-once : (seen : Marks) (code : List Step) (o : ℕ) → o < length code → once_at seen o (get_or code o halt) ≡ false → all_once seen code ≡ false
unfolding all_once
not-all-once seen code o l e = no_of _ (λ t. subst T e (every_at-from-0 (once_at seen) code halt t o l))

-- such a step breaks the rule
pub once-asked : (seen : Marks) (ks : List Mark) (o : ℕ) (s : Step) → o < 64 → Agrees seen ks → once_at seen o s ≡ false → mode_fits ks o s ≡ false
unfolding mode_fits reached_by once_at word is_idle
once-asked seen ks o s l g e =
    let x = sym (g.at idle o l) in
    let y = or-false (marked pending o ks) ∙ sym (g.at pending o l) in
    let z = or-false (marked closing o ks) ∙ sym (g.at closing o l) in
    ap (λ (b : Bool). b && (not (reached_by ks idle o s) || stands s idle) && (not (reached_by ks pending o s) || stands s pending) && (not (reached_by ks closing o s) || stands s closing))
    ((λ j. eqb (one (x j || is_next s) + one (y j) + one (z j)) 1) ∙ e)

-- ---- one step of the walk

pub walked_step : (o : ℕ) (s : Step) (ss : List Step) (ks : List Mark) → walked o (s ∷ ss) ks ≡ walked (o + 1) ss (stepped o s ks)
unfolding walked stepped
walked_step o s ss ks = let z : suc o ≡ o + 1 = omega arith in ap (λ (n : ℕ). walked n ss (stepped o s ks)) z
