-- The walk through a leaf, step after step: what is found so far, and what is left to walk. What is asked of a step by the marks and sets
-- before it is what is asked of it by those at the end, as no step leads back but to a next.
use Prim.Native.Nat.{ℕ, suc, ◌+◌, ◌*◌, ◌-◌, ◌≤◌, ◌<◌}
use native.Mathlib.Omega.{arith}
use mathlib.Core.Path.{◌≡◌, refl, sym, ap, ap₂, ◌∙◌, subst}
use mathlib.Core.Bool.{Bool, true, false, ◌&&◌, ◌||◌}
use mathlib.Core.List.Memᴰ
use mathlib.Core.List.{List, [], ◌∷◌, Memᴰ}
use mathlib.Core.Logic.{◌⊎◌, inl, inr, ⊎_elim}
use lib.Dec.{T, eqb, ltb, ltb→lt}
use lib.ListN.{length, get_or, take, replicate, get_or-eq_default}
use lib.Seq.{get_or-take}
use borrow.Author.Tests.{lt-ltb, le-ltb}
use Rattle.actions.specs.Sets.{ActionSet, has, EMPTY, union}
use Rattle.actions.proofs.Tests.{of-yes, and_left, and_right, or_cases, or-false-left, or-false-right, and_assoc, and-true}
use Rattle.spec_policy.specs.Bytes.{Bytes}
use Rattle.spec_policy.specs.Lists.{one, listed, every, every_at}
use Rattle.spec_policy.specs.Records.{step_record_at}
use Rattle.spec_policy.specs.Steps.{Step, halt, step_of, targets, is_next, is_ins}
use Rattle.spec_policy.proofs.EveryLoop.{Left, all_left, one_less, one-fails, none_left}
use Rattle.spec_policy.proofs.ListLaws.{listed-length, listed_at, listed-rest, listed-over, every_at-rest}
use Rattle.file_records.specs.Code.{code_at}
use Rattle.file_records.proofs.CodeLaws.{code-length, code-at}
use Rattle.spec_check.specs.Targets.{target_fits, asks_within, targets_fit}
use Rattle.spec_check.specs.Layout.{step_fits}
use Rattle.spec_check.specs.Modes.{Mode, idle, pending, closing, Mark, marked, walked, marks, mode_fits, modes_fit, stepped}
use Rattle.spec_check.specs.Possible.{passed_on, possible, branches_taken, all_taken}
use Rattle.spec_check.specs.Interference.{step_effects, code_effects, leaf_effects}
use Rattle.spec_check.specs.Spread.{ins_count}
use Rattle.spec_check.proofs.Ahead.{in-or-out, Suffix}
use Rattle.check_targets.proofs.TargetLaws.{fit_from, fit-whole, fit-rest, fit-over, test-inside}
use Rattle.check_modes.specs.Table.{reaching}
use Rattle.check_modes.specs.Marks.{word, Agrees, Aside, once_at, all_once, NextsBefore, NextsAre, others_fit, nexts_fit}
use Rattle.check_modes.proofs.Final.{walked_step, walked-elsewhere, fits_by, modes-parts, once-nexts, not-all-once, once-asked}
use Rattle.check_possible.proofs.PossibleLaws.{pass-length, passed-step, passed-elsewhere, branches-alone, effects-by}
use Rattle.actions.proofs.SetLaws.{has-empty, union_assoc, union-none, union-end}
use Rattle.check_layout.specs.Fits.{steps_fit}
use Rattle.check_steps.specs.declared.Walk.{Walk}
use Rattle.check_steps.specs.Met.{Stands, Went}
use Rattle.check_steps.proofs.StepLaws.{nexts-on}
use Rattle.check_leaf.specs.Leaf.{Begun}

-- a test that is made only of a step that is no next
unless-next : (n x y : Bool) → (n ≡ false → x ≡ y) → (n || x) ≡ (n || y)
unless-next true x y e = refl
unless-next false x y e = e refl

and-false : (a : Bool) → (a && false) ≡ false
and-false true = refl
and-false false = refl

every-mem : (f : ℕ → Bool) (xs : List ℕ) → T (every f xs) → (x : ℕ) → Memᴰ x xs → T (f x)
unfolding every
every-mem f [] h x d = absurd (Memᴰ.not-nil d)
every-mem f (y ∷ ys) h x d =
    ⊎_elim (λ (e : x ≡ y). subst (λ (n : ℕ). T (f n)) (sym e) (and_left (f y) (every f ys) h))
    (λ u. every-mem f ys (and_right (f y) (every f ys) h) x u) (Memᴰ.cases_cons d)

pub one-small : (b : Bool) → one b ≤ 1
unfolding one
one-small true = omega arith
one-small false = omega arith

module _ (file : Bytes) (at count : ℕ) where
  abbrev pub step_in : ℕ → Step
  step_in o = step_of (step_record_at file (at + 12 * o))

  abbrev pub code : List Step
  code = code_at file at count

  -- the steps from offset o on
  abbrev pub rest : ℕ → List Step
  rest o = listed step_in o (count - o)

  code-rest : code ≡ rest 0
  unfolding code_at
  code-rest = let z : count ≡ count - 0 = omega arith in ap (λ (n : ℕ). listed step_in 0 n) z

  suffix : (o : ℕ) → o ≤ count → Suffix code o (rest o)
  unfolding Suffix
  suffix o h j = ⊎_elim inside outside (in-or-out (count - o) j)
    where
      inside : j < count - o → get_or (rest o) j halt ≡ get_or code (o + j) halt
      inside l = listed_at step_in o (count - o) halt j l ∙ sym (code-at file at count (o + j) (omega arith))

      outside : count - o ≤ j → get_or (rest o) j halt ≡ get_or code (o + j) halt
      outside l =
          get_or-eq_default (rest o) halt (omega (arith, listed-length step_in o (count - o)))
          ∙ sym (get_or-eq_default code halt (omega (arith, code-length file at count)))

  module _ (r : ActionSet) where
    -- rule 7 but for the nexts, rule 8 and the effects, of the steps from o on
    abbrev others_from : ℕ → Bool
    others_from o = every_at (λ p s. is_next s || mode_fits (marks code) p s) o (rest o)

    abbrev taken_from : ℕ → Bool
    taken_from o = every_at (branches_taken (possible r code)) o (rest o)

    abbrev effects_from : ℕ → ActionSet
    effects_from o = code_effects (possible r code) o (rest o)

    -- So far every step but the nexts is reached in one mode: the words say the marks, and rule 7 is found as far as the walk is.
    pub record Going (o : ℕ) (w : Walk) (ks : List Mark) : Type 0 where
      pub once : (p : ℕ) → p < o → is_next (get_or code p halt) ≡ false → T (once_at w.marks p (get_or code p halt))
      pub agrees : Agrees w.marks ks
      pub others : T (targets_fit r code) → others_fit code ≡ (w.modes && others_from o)

    -- A step is not: that breaks rule 7, and the words will still say it at the end.
    pub record Lost (o : ℕ) (w : Walk) : Type 0 where
      pub place : ℕ
      pub before : place < o
      pub other : is_next (get_or code place halt) ≡ false
      pub unsettled : once_at w.marks place (get_or code place halt) ≡ false
      pub others : T (targets_fit r code) → others_fit code ≡ false

    -- what is found when the walk stands at o
    pub record Walking (o : ℕ) (w : Walk) (sets : List ActionSet) : Type 0 where
      pub below : o ≤ count
      pub short : count ≤ 64
      pub step_records : Left step_fits (λ k. step_record_at file (at + 12 * k)) count o
      pub fit : targets_fit r code ≡ fit_from r file at count o
      pub ks : List Mark
      pub settled : Going o w ks ⊎ Lost o w
      pub walk : marks code ≡ walked o (rest o) ks
      pub nexts : NextsBefore o w.nexts code
      pub room : length sets ≡ 64
      pub pass : possible r code ≡ passed_on r o (rest o) (take count sets)
      pub branches : T (targets_fit r code) → all_taken r code ≡ (w.taken && taken_from o)
      pub affects : T (targets_fit r code) → leaf_effects r code ≡ union w.effects.bits (effects_from o)
      pub few : w.inserts ≤ o
      pub ins : ins_count code ≡ w.inserts + ins_count (rest o)

    pub walk-starts : (w : Walk) (sets : List ActionSet) → Begun w → count ≤ 64 → length sets ≡ 64 → take count sets ≡ replicate count EMPTY → Walking 0 w sets
    unfolding marks possible reaching others_fit all_taken leaf_effects EMPTY
    walk-starts w sets b n l e = record {
      below = omega arith;
      short = n;
      step_records = all_left step_fits (λ k. step_record_at file (at + 12 * k)) count;
      fit = fit-whole r file at count;
      ks = reaching 0 0;
      settled = inl record {
        once = λ p h. absurd (omega arith);
        agrees = b.marks;
        others = λ six. ap (λ (ss : List Step). every_at (λ p s. is_next s || mode_fits (marks code) p s) 0 ss) code-rest ∙ sym (ap (λ (t : Bool). t && others_from 0) b.modes);
      };
      walk = ap (λ (ss : List Step). walked 0 ss (reaching 0 0)) code-rest;
      nexts = λ q. ap (λ (n : ℕ). has n q) b.nexts ∙ has-empty q ∙ sym (ap (λ (t : Bool). t && is_next (get_or code q halt)) (le-ltb q 0 (omega arith)));
      room = l;
      pass = ap (λ (n : ℕ). passed_on r 0 code (replicate n EMPTY)) (code-length file at count)
          ∙ ap₂ (λ (ss : List Step) (ps : List ActionSet). passed_on r 0 ss ps) code-rest (sym e);
      branches = λ six. ap (λ (ss : List Step). every_at (branches_taken (possible r code)) 0 ss) code-rest ∙ sym (ap (λ (t : Bool). t && taken_from 0) b.taken);
      affects = λ six. ap (λ (ss : List Step). code_effects (possible r code) 0 ss) code-rest ∙ sym (union-none (effects_from 0)) ∙ sym (ap (λ (x : ActionSet). union x (effects_from 0)) b.effects);
      few = omega (arith, b.inserts);
      ins = ap ins_count code-rest ∙ omega (arith, b.inserts);
    }

    module _ (o : ℕ) (w : Walk) (sets : List ActionSet) (g : Walking o w sets) (h : o < count) where
      -- at a step that is no next, the marks and the set are as they will be
      not-next : is_next (step_in o) ≡ false → is_next (get_or code o halt) ≡ false
      not-next n = ap is_next (code-at file at count o h) ∙ n

      final-marks : T (targets_fit r code) → is_next (step_in o) ≡ false → (m : Mode) → marked m o (marks code) ≡ marked m o g.ks
      final-marks six n m =
          ap (marked m o) g.walk ∙ walked-elsewhere r code six o (not-next n) m o (rest o) g.ks (suffix o (omega arith)) (omega arith)

      final-set : T (targets_fit r code) → is_next (step_in o) ≡ false → get_or (possible r code) o EMPTY ≡ get_or sets o EMPTY
      final-set six n =
          ap (λ (ps : List ActionSet). get_or ps o EMPTY) g.pass
          ∙ passed-elsewhere r code six o (not-next n) o (rest o) (take count sets) (suffix o (omega arith)) (omega arith)
          ∙ get_or-take count sets o EMPTY h

      rest-is : rest o ≡ step_in o ∷ rest (o + 1)
      rest-is = listed-rest step_in o count h

      -- the walk stands at the step
      pub stands_here : Stands code o count (step_in o) w
      stands_here = record { size = code-length file at count; here = code-at file at count o h; nexts = g.nexts }

      -- a step that keeps rules 4 and 6
      module _ (w' : Walk) (sets' : List ActionSet) (row : step_fits (step_record_at file (at + 12 * o)) ≡ true)
          (tested : (asks_within r (step_in o) && every (target_fits code o) (targets (step_in o))) ≡ true) (went : Went r o (step_in o) g.ks w w' sets sets') where
        abbrev p : ActionSet
        p = get_or sets o EMPTY

        inside : T (every (λ t. ltb t count) (targets (step_in o)))
        inside = test-inside r file at count o (step_in o) (of-yes _ tested)

        fit_on : targets_fit r code ≡ fit_from r file at count (o + 1)
        fit_on = g.fit ∙ fit-rest r file at count o h ∙ ap (λ (b : Bool). b && fit_from r file at count (o + 1)) tested

        walk-on : marks code ≡ walked (o + 1) (rest (o + 1)) (stepped o (step_in o) g.ks)
        walk-on = g.walk ∙ ap (λ (l : List Step). walked o l g.ks) rest-is ∙ walked_step o (step_in o) (rest (o + 1)) g.ks

        pass-on : possible r code ≡ passed_on r (o + 1) (rest (o + 1)) (take count sets')
        pass-on =
            g.pass ∙ ap (λ (l : List Step). passed_on r o l (take count sets)) rest-is
            ∙ passed-step count r o (step_in o) (rest (o + 1)) sets sets' h inside went.possible

        -- no step that is past is marked again, but a next
        not-target : (q : ℕ) → q ≤ o → is_next (get_or code q halt) ≡ false → Memᴰ q (targets (step_in o)) → ⊥
        unfolding target_fits
        not-target q l n d =
            ⊎_elim (λ u. let v = ltb→lt o q u in omega arith) (λ u. subst T n u) (or_cases (ltb o q) (is_next (get_or code q halt)) (and_right (ltb q (length code)) (ltb o q || is_next (get_or code q halt))
            (every-mem (target_fits code o) (targets (step_in o)) (and_right (asks_within r (step_in o)) (every (target_fits code o) (targets (step_in o))) (of-yes _ tested)) q d)))

        same_once : (q : ℕ) → q ≤ o → is_next (get_or code q halt) ≡ false → (s : Step) → once_at w'.marks q s ≡ once_at w.marks q s
        unfolding once_at word Aside
        same_once q l n s =
            let k : q < 64 = omega (arith, l, h, g.short) in
            let x = went.aside idle q k (not-target q l n) in
            let y = went.aside pending q k (not-target q l n) in
            let z = went.aside closing q k (not-target q l n) in
            λ j. eqb (one (x j || is_next s) + one (y j) + one (z j)) 1

        -- rule 7 of the step, by the marks before it and by those at the end
        fits-here : T (targets_fit r code) → (is_next (step_in o) || mode_fits (marks code) o (step_in o)) ≡ (is_next (step_in o) || mode_fits g.ks o (step_in o))
        fits-here six = unless-next (is_next (step_in o)) _ _ (λ n. fits_by (marks code) g.ks o (step_in o) (final-marks six n))

        others-rest : T (targets_fit r code) → others_from o ≡ ((is_next (step_in o) || mode_fits g.ks o (step_in o)) && others_from (o + 1))
        others-rest six = every_at-rest (λ p s. is_next s || mode_fits (marks code) p s) step_in o count h ∙ ap (λ (b : Bool). b && others_from (o + 1)) (fits-here six)

        going_on : Going o w g.ks → Going (o + 1) w' (stepped o (step_in o) g.ks) ⊎ Lost (o + 1) w'
        going_on u = go (is_next (step_in o) || once_at w.marks o (step_in o)) refl
          where
            at-o : get_or code o halt ≡ step_in o
            at-o = code-at file at count o h

            once-on : T (is_next (step_in o) || once_at w.marks o (step_in o)) → (q : ℕ) → q < o + 1 → is_next (get_or code q halt) ≡ false → T (once_at w'.marks q (get_or code q halt))
            once-on t q l n = subst T (sym (same_once q (omega arith) n (get_or code q halt))) (⊎_elim (λ k. u.once q k n) here (in-or-out o q))
              where
                here : o ≤ q → T (once_at w.marks q (get_or code q halt))
                here k =
                    let z : o ≡ q = omega arith in
                    subst (λ (x : ℕ). T (once_at w.marks x (get_or code x halt))) z (subst (λ (s : Step). T (once_at w.marks o s)) (sym at-o)
                    (subst (λ (b : Bool). T (b || once_at w.marks o (step_in o))) (sym (ap is_next at-o) ∙ subst (λ (x : ℕ). is_next (get_or code x halt) ≡ false) (sym z) n) t))

            go : (b : Bool) → (is_next (step_in o) || once_at w.marks o (step_in o)) ≡ b → Going (o + 1) w' (stepped o (step_in o) g.ks) ⊎ Lost (o + 1) w'
            go true e = inl record {
              once = once-on (of-yes _ e);
              agrees = went.marks u.agrees (of-yes _ e);
              others = λ six. u.others six ∙ ap (λ (b : Bool). w.modes && b) (others-rest six)
                  ∙ and_assoc w.modes _ (others_from (o + 1)) ∙ sym (ap (λ (b : Bool). b && others_from (o + 1)) (went.modes u.agrees (of-yes _ e)));
            }
            go false e =
                let n = or-false-left (is_next (step_in o)) (once_at w.marks o (step_in o)) e in
                let f = or-false-right (is_next (step_in o)) (once_at w.marks o (step_in o)) e in
                inr record {
                  place = o;
                  before = omega arith;
                  other = not-next n;
                  unsettled = same_once o (omega arith) (not-next n) (get_or code o halt) ∙ ap (once_at w.marks o) at-o ∙ f;
                  others = λ six. u.others six ∙ ap (λ (b : Bool). w.modes && b)
                      (others-rest six ∙ (λ j. (n j || once-asked w.marks g.ks o (step_in o) (omega (arith, h, g.short)) u.agrees f j) && others_from (o + 1))) ∙ and-false w.modes;
                }

        settled_on : Going (o + 1) w' (stepped o (step_in o) g.ks) ⊎ Lost (o + 1) w'
        settled_on = ⊎_elim going_on
            (λ d. inr record {
              place = d.place;
              before = omega (arith, d.before);
              other = d.other;
              unsettled = same_once d.place (omega (arith, d.before)) d.other (get_or code d.place halt) ∙ d.unsettled;
              others = d.others;
            }) g.settled

        branches-on : T (targets_fit r code) → all_taken r code ≡ (w'.taken && taken_from (o + 1))
        branches-on six =
            let here : branches_taken (possible r code) o (step_in o) ≡ branches_taken (p ∷ []) 0 (step_in o) =
            branches-alone (possible r code) o p (step_in o) (λ n. final-set six n) in
            g.branches six
            ∙ ap (λ (b : Bool). w.taken && b) (every_at-rest (branches_taken (possible r code)) step_in o count h ∙ ap (λ (b : Bool). b && taken_from (o + 1)) here)
            ∙ and_assoc w.taken _ (taken_from (o + 1)) ∙ sym (ap (λ (b : Bool). b && taken_from (o + 1)) went.taken)

        affects-on : T (targets_fit r code) → leaf_effects r code ≡ union w'.effects.bits (effects_from (o + 1))
        unfolding code_effects
        affects-on six =
            let z : suc o ≡ o + 1 = omega arith in
            let here : step_effects (get_or (possible r code) o EMPTY) (step_in o) ≡ step_effects p (step_in o) = effects-by _ p (step_in o) (λ n. final-set six n) in
            g.affects six
            ∙ ap (union w.effects.bits) (ap (code_effects (possible r code) o) rest-is
            ∙ ap₂ (λ (q : ActionSet) (n : ℕ). union q (code_effects (possible r code) n (rest (o + 1)))) here z)
            ∙ sym (union_assoc w.effects.bits (step_effects p (step_in o)) (effects_from (o + 1))) ∙ ap (λ (x : ActionSet). union x (effects_from (o + 1))) (sym went.effects)

        ins-on : ins_count (rest o) ≡ one (is_ins (step_in o)) + ins_count (rest (o + 1))
        unfolding ins_count
        ins-on = ap ins_count rest-is

        pub walk-goes : Walking (o + 1) w' sets'
        walk-goes = record {
          below = omega arith;
          step_records = one_less step_fits (λ k. step_record_at file (at + 12 * k)) count o h g.step_records row;
          fit = fit_on;
          ks = stepped o (step_in o) g.ks;
          short = g.short;
          settled = settled_on;
          walk = walk-on;
          nexts = nexts-on code o (ap is_next (code-at file at count o h)) w.nexts w'.nexts g.nexts went.nexts;
          room = ap (length {A = ℕ}) went.possible ∙ pass-length r (step_in o) p sets ∙ g.room;
          pass = pass-on;
          branches = branches-on;
          affects = affects-on;
          few = omega (arith, g.few, went.inserts, one-small (is_ins (step_in o)));
          ins = omega (arith, g.ins, ins-on, went.inserts);
        }

    -- ---- the end

    module _ (o : ℕ) (w : Walk) (sets : List ActionSet) (g : Walking o w sets) (h : count ≤ o) where
      none-left-here : rest o ≡ []
      none-left-here = listed-over step_in o count h

      pub all-records : steps_fit file at count ≡ true
      unfolding steps_fit
      all-records = sym (none_left step_fits (λ k. step_record_at file (at + 12 * k)) count o h g.step_records)

      all-marks : Going o w g.ks → Agrees w.marks (marks code)
      unfolding walked
      all-marks u = subst (λ (ks : List Mark). Agrees w.marks ks) (sym (g.walk ∙ ap (λ (l : List Step). walked o l g.ks) none-left-here)) u.agrees

      pub all-nexts : NextsAre w.nexts code
      unfolding is_next
      all-nexts q = g.nexts q ∙ ⊎_elim inside outside (in-or-out o q)
        where
          inside : q < o → (ltb q o && is_next (get_or code q halt)) ≡ is_next (get_or code q halt)
          inside l = ap (λ (t : Bool). t && is_next (get_or code q halt)) (lt-ltb q o l)

          outside : o ≤ q → (ltb q o && is_next (get_or code q halt)) ≡ is_next (get_or code q halt)
          outside l = ap (λ (t : Bool). t && is_next (get_or code q halt)) (le-ltb q o l) ∙ sym (ap is_next (get_or-eq_default code halt (omega (arith, code-length file at count, h, l))))

      pub all_fit : targets_fit r code ≡ true
      all_fit = g.fit ∙ fit-over r file at count o h

      all_others : Going o w g.ks → others_fit code ≡ w.modes
      unfolding every_at
      all_others u =
          u.others (of-yes _ all_fit) ∙ ap (λ (l : List Step). w.modes && every_at (λ p s. is_next s || mode_fits (marks code) p s) o l) none-left-here ∙ and-true w.modes

      -- rule 7, in its two parts
      pub all-modes : {b : Bool} → b ≡ all_once w.marks code → (w.modes && b) ≡ modes_fit code
      all-modes {b} e = ⊎_elim going lost g.settled ∙ modes-parts code
        where
          size : length code ≡ count
          size = code-length file at count

          going : Going o w g.ks → (w.modes && b) ≡ (others_fit code && nexts_fit code)
          going u =
              let n = e ∙ once-nexts w.marks code (omega (arith, size, g.short)) (all-marks u) (λ q l. u.once q (omega (arith, l, size))) in
              λ j. sym (all_others u) j && n j

          lost : Lost o w → (w.modes && b) ≡ (others_fit code && nexts_fit code)
          lost d =
              ap (λ (x : Bool). w.modes && x) (e ∙ not-all-once w.marks code d.place (omega (arith, d.before, g.below, size)) d.unsettled) ∙ and-false w.modes
              ∙ sym (ap (λ (x : Bool). x && nexts_fit code) (d.others (of-yes _ all_fit)))

      pub all-branches : w.taken ≡ all_taken r code
      unfolding every_at
      all-branches = sym (g.branches (of-yes _ all_fit) ∙ ap (λ (l : List Step). w.taken && every_at (branches_taken (possible r code)) o l) none-left-here ∙ and-true w.taken)

      pub all-effects : w.effects.bits ≡ leaf_effects r code
      unfolding code_effects
      all-effects = sym (g.affects (of-yes _ all_fit) ∙ ap (λ (l : List Step). union w.effects.bits (code_effects (possible r code) o l)) none-left-here ∙ union-end w.effects.bits)

      pub all-inserts : w.inserts ≡ ins_count code
      unfolding ins_count
      all-inserts = sym (g.ins ∙ ap (λ (l : List Step). w.inserts + ins_count l) none-left-here ∙ omega arith)

    -- a step that breaks rule 4, or rule 6
    pub row-stops : (o : ℕ) (w : Walk) (sets : List ActionSet) → Walking o w sets → o < count → step_fits (step_record_at file (at + 12 * o)) ≡ false → steps_fit file at count ≡ false
    unfolding steps_fit
    row-stops o w sets g h e = sym (one-fails step_fits (λ k. step_record_at file (at + 12 * k)) count o h g.step_records e)

    pub target-stops : (o : ℕ) (w : Walk) (sets : List ActionSet) → Walking o w sets → o < count
        → (asks_within r (step_in o) && every (target_fits code o) (targets (step_in o))) ≡ false → targets_fit r code ≡ false
    target-stops o w sets g h e = g.fit ∙ fit-rest r file at count o h ∙ ap (λ (x : Bool). x && fit_from r file at count (o + 1)) e
