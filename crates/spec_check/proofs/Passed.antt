-- What the check's answer says of the rules: a pass that none is broken; a refusal that its rule is the broken one with the lowest number, and that its
-- spot is told with it.
use Prim.Native.Nat.{ℕ, zero, suc, ◌+◌, ◌≤◌, ◌<◌}
use native.Mathlib.Omega.{arith}
use mathlib.Core.Path.{◌≡◌, refl, sym, ◌∙◌, ap, subst}
use mathlib.Core.Bool.{Bool, true, false, ◌&&◌, not}
use mathlib.Core.List.{List, [], ◌∷◌, map}
use lib.Dec.{T, eqb, eqb→eq, ltb, ltb→lt, nltb→le}
use lib.ListN.{get_or}
use Rattle.actions.proofs.Tests.{of-yes, and_left, and_right}
use Rattle.actions.specs.Sets.{ActionSet}
use Rattle.spec_policy.specs.Bytes.{Bytes}
use Rattle.spec_policy.specs.Spots.{Spot, nowhere, on_record, somewhere, Fault}
use Rattle.spec_policy.specs.Tree.{regulated, tree}
use Rattle.spec_check.specs.Layout.{wrong4, broken4}
use Rattle.spec_check.specs.Children.{wrong5, broken5}
use Rattle.spec_check.specs.Targets.{wrong6, broken6}
use Rattle.spec_check.specs.Modes.{wrong7, broken7}
use Rattle.spec_check.specs.Possible.{wrong8, broken8}
use Rattle.spec_check.specs.Interference.{effects, wrong9, broken9}
use Rattle.spec_check.specs.Spread.{wrong10, broken10}
use Rattle.spec_check.specs.Check.{Rule, told_of, rules, Answer, passes, refused, tried, check}
use Rattle.spec_check.specs.Passed.{Passed, breaks, spot_by, LowestBroken, Lowest, here, after, Carries, carries-none, carries-one}

module _ (file : Bytes) where
  Unbroken : List Rule → Type 0
  Unbroken [] = Unit {0}
  Unbroken (r ∷ rs) = (r.broken file ≡ false) × Unbroken rs

  -- what an answer says of the rules that were tried
  Says : List Rule → Answer → Type 0
  Says rs (passes r e) = (r ≡ regulated (tree file)) × (e ≡ effects (tree file)) × Unbroken rs
  Says rs (refused f) = Lowest file f rs

  says-after : (r : Rule) (rs : List Rule) → r.broken file ≡ false → (a : Answer) → Says rs a → Says (r ∷ rs) a
  unfolding Says Unbroken
  says-after r rs e (passes x y) s = (s.0, s.1, (e, s.2))
  says-after r rs e (refused f) s = after e s

  says : (rs : List Rule) → Says rs (tried rs file)
  unfolding Says Unbroken tried
  says [] = (refl, refl, tt)
  says (r ∷ rs) = go (r.broken file) refl (says rs)
    where
      go : (b : Bool) → r.broken file ≡ b → Says rs (tried rs file) → Says (r ∷ rs) (tried (r ∷ rs) file)
      go true e s = rw (e, tried) (here e refl)
      go false e s = rw (e, tried) (says-after r rs e (tried rs file) s)

  answered : (a : Answer) → check file ≡ a → Says rules a
  unfolding check
  answered a h = subst (λ (x : Answer). Says rules x) h (says rules)

  pub passed : (r e : ActionSet) → check file ≡ passes r e → Passed file
  unfolding Says Unbroken rules
  passed r e h =
      let u = (answered (passes r e) h).2 in
      record {
        kept1 = u.0;
        kept2 = u.1.0;
        kept3 = u.1.1.0;
        kept4 = u.1.1.1.0;
        kept5 = u.1.1.1.1.0;
        kept6 = u.1.1.1.1.1.0;
        kept7 = u.1.1.1.1.1.1.0;
        kept8 = u.1.1.1.1.1.1.1.0;
        kept9 = u.1.1.1.1.1.1.1.1.0;
        kept10 = u.1.1.1.1.1.1.1.1.1.0;
      }

  -- the two sets of a pass are the root's
  pub passed-sets : (r e : ActionSet) → check file ≡ passes r e → (r ≡ regulated (tree file)) × (e ≡ effects (tree file))
  unfolding Says
  passed-sets r e h = ((answered (passes r e) h).0, (answered (passes r e) h).1)

  pub refused-lowest : (f : Fault) → check file ≡ refused f → Lowest file f rules
  unfolding Says
  refused-lowest f h = answered (refused f) h

  -- ---- and back

  tried-all : (rs : List Rule) → Unbroken rs → tried rs file ≡ passes (regulated (tree file)) (effects (tree file))
  unfolding Unbroken tried
  tried-all [] u = refl
  tried-all (r ∷ rs) u = rw (u.0, tried) (tried-all rs u.1)

  pub passes-all : Passed file → check file ≡ passes (regulated (tree file)) (effects (tree file))
  unfolding check rules Unbroken
  passes-all ok =
      tried-all rules (ok.kept1, (ok.kept2, (ok.kept3, (ok.kept4, (ok.kept5, (ok.kept6, (ok.kept7, (ok.kept8, (ok.kept9, (ok.kept10, tt))))))))))

  tried-lowest : (f : Fault) (rs : List Rule) → Lowest file f rs → tried rs file ≡ refused f
  unfolding tried
  tried-lowest f rs (here e s) = rw (e, tried) (ap refused s)
  tried-lowest f rs (after {rs = rest} e l) = rw (e, tried) (tried-lowest f rest l)

  pub lowest-refused : (f : Fault) → Lowest file f rules → check file ≡ refused f
  unfolding check
  lowest-refused f l = tried-lowest f rules l

  -- ---- which refusals have a spot

  -- a rule of the list that is broken has one where it should
  Tells : List Rule → Type 0
  Tells [] = Unit {0}
  Tells (r ∷ rs) = (r.broken file ≡ true → Carries (told_of file r)) × Tells rs

  lowest-tells : (f : Fault) (rs : List Rule) → Tells rs → Lowest file f rs → Carries f
  unfolding Tells
  lowest-tells f [] t x = elim x [ ]
  lowest-tells f (r ∷ rs) t (here b e) = subst Carries e (t.0 b)
  lowest-tells f (r ∷ rs) t (after b l) = lowest-tells f rs t.1 l

  found : (k : ℕ) (w : Spot) → 4 ≤ k → k ≤ 10 → somewhere w ≡ true → Carries (record { number = k; spot = w })
  unfolding somewhere
  found k nowhere a b e = absurd (subst T (sym e) tt)
  found k (on_record p) a b e = carries-one p a b refl

  pub refused-carries : (f : Fault) → check file ≡ refused f → Carries f
  unfolding rules Tells broken4 broken5 broken6 broken7 broken8 broken9 broken10
  refused-carries f h =
      lowest-tells f rules (
        (λ e. carries-none (omega arith) refl),
        (
          (λ e. carries-none (omega arith) refl),
          (
            (λ e. carries-none (omega arith) refl),
            (
              found 4 (wrong4 file) (omega arith) (omega arith),
              (
                found 5 (wrong5 file) (omega arith) (omega arith),
                (
                  found 6 (wrong6 file) (omega arith) (omega arith),
                  (
                    found 7 (wrong7 file) (omega arith) (omega arith),
                    (
                      found 8 (wrong8 file) (omega arith) (omega arith),
                      (
                        found 9 (wrong9 file) (omega arith) (omega arith),
                        (found 10 (wrong10 file) (omega arith) (omega arith), tt),
                      ),
                    ),
                  ),
                ),
              ),
            ),
          ),
        ),
      ) (refused-lowest f h)

  -- ---- by number

  -- the rules are numbered k, k + 1, ..
  counted : ℕ → List Rule → Bool
  counted k [] = true
  counted k (r ∷ rs) = eqb r.number k && counted (suc k) rs

  -- whether the rule that stands i-th in the list is broken, and its spot
  breaks_in : List Rule → ℕ → Bool
  breaks_in rs i = get_or (map (λ r. r.broken file) rs) i false

  spot_in : List Rule → ℕ → Spot
  spot_in rs i = get_or (map (λ r. r.spot file) rs) i nowhere

  -- the tables begin at 0, which is no rule, and the list at 1
  breaks-in : (n : ℕ) → breaks file (suc n) ≡ breaks_in rules n
  unfolding breaks breaks_in rules
  breaks-in n = refl

  spot-in : (n : ℕ) → spot_by file (suc n) ≡ spot_in rules n
  unfolding spot_by spot_in rules
  spot-in n = refl

  unbroken-in : (rs : List Rule) → Unbroken rs → (i : ℕ) → breaks_in rs i ≡ false
  unfolding Unbroken breaks_in
  unbroken-in [] u i = refl
  unbroken-in (r ∷ rs) u zero = u.0
  unbroken-in (r ∷ rs) u (suc i) = unbroken-in rs u.1 i

  -- of rules numbered from k on, the one that f tells of is the first broken one
  record FirstIn (k : ℕ) (f : Fault) (rs : List Rule) : Type 0 where
    index : ℕ
    is : k + index ≡ f.number
    there : f.spot ≡ spot_in rs index
    applies : breaks_in rs index ≡ true
    before : (i : ℕ) → k + i < f.number → breaks_in rs i ≡ false

  -- none below the first of the list is broken where none below it in the rest is
  before-next : (k n : ℕ) (r : Rule) (rs : List Rule) → r.broken file ≡ false → ((i : ℕ) → suc k + i < n → breaks_in rs i ≡ false)
      → (i : ℕ) → k + i < n → breaks_in (r ∷ rs) i ≡ false
  unfolding breaks_in
  before-next k n r rs e u zero h = e
  before-next k n r rs e u (suc i) h = u i (omega arith)

  lowest-in : (k : ℕ) (f : Fault) (rs : List Rule) → T (counted k rs) → Lowest file f rs → FirstIn k f rs
  unfolding counted breaks_in spot_in
  lowest-in k f [] c x = elim x [ ]
  lowest-in k f (r ∷ rs) c (here e s) =
      let same : r.number ≡ k = eqb→eq r.number k (and_left (eqb r.number k) (counted (suc k) rs) c) in
      let told : r.number ≡ f.number = ap (λ (x : Fault). x.number) s in
      record { index = 0; is = omega arith; there = sym (ap (λ (x : Fault). x.spot) s); applies = e; before = λ i h. absurd (omega arith) }
  lowest-in k f (r ∷ rs) c (after e l) =
      let u : FirstIn (suc k) f rs = lowest-in (suc k) f rs (and_right (eqb r.number k) (counted (suc k) rs) c) l in
      record {
        index = suc u.index;
        is = omega (arith, u.is);
        there = u.there;
        applies = u.applies;
        before = before-next k f.number r rs e u.before;
      }

  -- rule 0 is none, and from rule 1 on they are those of the list
  lower-first : (n : ℕ) → ((i : ℕ) → 1 + i < n → breaks_in rules i ≡ false) → (k : ℕ) → k < n → breaks file k ≡ false
  unfolding breaks
  lower-first n u zero h = refl
  lower-first n u (suc i) h = breaks-in i ∙ u i (omega arith)

  -- the list is numbered from 1 on, so the first broken rule is the one with the lowest number
  pub refused-number : (f : Fault) → check file ≡ refused f → LowestBroken file f
  unfolding counted rules
  refused-number f h =
      let u : FirstIn 1 f rules = lowest-in 1 f rules tt (refused-lowest f h) in
      let is : suc u.index ≡ f.number = omega (arith, u.is) in
      record {
        applies = subst (λ (k : ℕ). breaks file k ≡ true) is (breaks-in u.index ∙ u.applies);
        lower-kept = lower-first f.number u.before;
        there = subst (λ (k : ℕ). f.spot ≡ spot_by file k) is (u.there ∙ sym (spot-in u.index));
      }

  not-both : {b : Bool} → b ≡ true → b ≡ false → ⊥
  not-both p q = let z : ◌≡◌ {A = ℕ} 0 1 = cc in omega arith

  none-lower : (f g : Fault) → LowestBroken file f → LowestBroken file g → g.number ≤ f.number
  none-lower f g a b = go (ltb f.number g.number) refl
    where
      go : (t : Bool) → ltb f.number g.number ≡ t → g.number ≤ f.number
      go true e = absurd (not-both a.applies (b.lower-kept f.number (ltb→lt f.number g.number (of-yes (ltb f.number g.number) e))))
      go false e = nltb→le f.number g.number (subst (λ (t : Bool). T (not t)) (sym e) tt)

  -- so one file has one refusal
  one-lowest : (f g : Fault) → LowestBroken file f → LowestBroken file g → f ≡ g
  one-lowest f g a b =
      let same : f.number ≡ g.number = omega (arith, none-lower f g a b, none-lower g f b a) in
      let spots : f.spot ≡ g.spot = a.there ∙ (ap (spot_by file) same ∙ sym b.there) in
      λ t. record { number = same t; spot = spots t }

  pub number-refused : (f : Fault) → LowestBroken file f → check file ≡ refused f
  unfolding Says
  number-refused f b = go (check file) refl
    where
      none-broken : Unbroken rules → (n : ℕ) → breaks file n ≡ false
      none-broken u zero = unfold breaks in refl
      none-broken u (suc n) = breaks-in n ∙ unbroken-in rules u n

      go : (a : Answer) → check file ≡ a → check file ≡ refused f
      go (passes r e) h = absurd (not-both b.applies (none-broken (answered (passes r e) h).2 f.number))
      go (refused g) h = h ∙ ap refused (one-lowest g f (refused-number g h) b)
