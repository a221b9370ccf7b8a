-- What a step of each kind gives, put together.
use Prim.Native.Nat.{ℕ, ◌+◌, ◌<◌, ◌≤◌}
use native.Mathlib.Omega.{arith}
use native.Mathlib.Nat.{add-zero}
use mathlib.Core.Path.{◌≡◌, refl, sym, ap, ◌∙◌, subst}
use mathlib.Core.Bool.{Bool, true, false, ◌&&◌, ◌||◌, or-false}
use mathlib.Core.List.{List, [], ◌∷◌}
use mathlib.Core.Logic.{⊎_elim}
use lib.Dec.{T, eqb, ltb}
use lib.ListN.{length, get_or}
use borrow.Author.Tests.{lt-ltb, le-ltb, eq-eqb, ne_eqb}
use Rattle.actions.specs.Sets.{ActionSet, has, EMPTY, union}
use Rattle.actions.specs.declared.ActionSet.{ActionSet as Set}
use Rattle.actions.proofs.SetLaws.{union-end, has-union}
use Rattle.actions.proofs.Tests.{and-true}
use Rattle.std.specs.Prelude.{Option}
use Rattle.spec_check.specs.Targets.{target_fits, asks_within}
use Rattle.spec_policy.specs.Lists.{one, every}
use Rattle.spec_policy.specs.Steps.{Step, halt, targets, is_next, is_ins}
use Rattle.spec_check.specs.Possible.{join_at, pass_on, branches_taken}
use Rattle.spec_check.specs.Interference.{step_effects}
use Rattle.spec_check.specs.Modes.{Mark, stepped, mode_fits}
use Rattle.spec_check.proofs.Ahead.{in-or-out}
use Rattle.check_modes.specs.Marks.{Agrees, Aside, once_at, StepLed, NextsBefore}
use Rattle.check_modes.specs.declared.Led.{Led}
use Rattle.check_modes.specs.declared.Marks.{Marks}
use Rattle.check_possible.proofs.PossibleLaws.{join-length}
use Rattle.check_targets.proofs.TargetLaws.{tested, tested-all}
use Rattle.check_steps.specs.declared.Walk.{Walk}
use Rattle.check_steps.specs.Met.{Stands, Settled, LedOn, Went, Met, Meets}

-- ---- the nexts before the next offset

lone : (x b : Bool) → x ≡ (x || (b && false))
lone true b = refl
lone false true = refl
lone false false = refl

module _ (code : List Step) (o : ℕ) {b : Bool} (e : is_next (get_or code o halt) ≡ b) where
  -- below, at and above o
  by-offset : (q : ℕ) → (ltb q (o + 1) && is_next (get_or code q halt)) ≡ ((ltb q o && is_next (get_or code q halt)) || (b && eqb q o))
  by-offset q = ⊎_elim below (λ h. ⊎_elim (here h) above (in-or-out (o + 1) q)) (in-or-out o q)
    where
      below : q < o → (ltb q (o + 1) && is_next (get_or code q halt)) ≡ ((ltb q o && is_next (get_or code q halt)) || (b && eqb q o))
      below h = rw (lt-ltb q (o + 1) (omega arith), lt-ltb q o h, ne_eqb q o (λ z. omega (arith, z))) (lone (is_next (get_or code q halt)) b)

      here : o ≤ q → q < o + 1 → (ltb q (o + 1) && is_next (get_or code q halt)) ≡ ((ltb q o && is_next (get_or code q halt)) || (b && eqb q o))
      here h g =
          let z : q ≡ o = omega arith in
          rw (lt-ltb q (o + 1) g, le-ltb q o h, eq-eqb q o z) (ap (λ (n : ℕ). is_next (get_or code n halt)) z ∙ e ∙ sym (and-true b))

      above : o + 1 ≤ q → (ltb q (o + 1) && is_next (get_or code q halt)) ≡ ((ltb q o && is_next (get_or code q halt)) || (b && eqb q o))
      above g = rw (le-ltb q (o + 1) g, le-ltb q o (omega arith), ne_eqb q o (λ z. omega (arith, z, g))) (lone false b)

  pub nexts-on : (n n' : ActionSet) → NextsBefore o n code → ((q : ℕ) → has n' q ≡ (has n q || (b && eqb q o))) → NextsBefore (o + 1) n' code
  nexts-on n n' are f q = f q ∙ ap (λ (t : Bool). t || (b && eqb q o)) (are q) ∙ sym (by-offset q)

-- ---- a next

pub next-has : (w b : ActionSet) (o : ℕ) → ((p : ℕ) → has b p ≡ (true && eqb p o)) → (q : ℕ) → has (union w b) q ≡ (has w q || (true && eqb q o))
next-has w b o f q = has-union w b q ∙ ap (λ (t : Bool). has w q || t) (f q)

pub next_past : {code : List Step} {o count : ℕ} {s : Step} {w : Walk} → Stands code o count s w → is_next s ≡ true → (b : ActionSet) → ((p : ℕ) → has b p ≡ (true && eqb p o))
    → NextsBefore (o + 1) (union w.nexts b) code
next_past {code} {o} {w = w} st n b f = nexts-on code o (ap is_next st.here ∙ n) w.nexts (union w.nexts b) st.nexts (next-has w.nexts b o f)

-- ---- the sets keep their number

pub length-joined : (ps qs : List ActionSet) (o : ℕ) (more : ActionSet) → qs ≡ join_at ps o more → length qs ≡ length ps
length-joined ps qs o more e = ap (length {A = ℕ}) e ∙ join-length ps o more

-- ---- a step that breaks rule 6

pub off-left : (a b : Bool) → a ≡ false → (a && b) ≡ false
off-left a b e = ap (λ (x : Bool). x && b) e

pub off-right : (a b : Bool) → b ≡ false → (a && b) ≡ false
off-right true b e = e
off-right false b e = refl

pub stray-met : (code : List Step) (r : ActionSet) (o : ℕ) (s : Step) → tested r code o s ≡ false → (asks_within r s && every (target_fits code o) (targets s)) ≡ false
stray-met code r o s f = sym (tested-all r code o s) ∙ f

-- ---- a step that is no next

module _ {code : List Step} {o count : ℕ} {s : Step} {w : Walk} (st : Stands code o count s w) (n : is_next s ≡ false) where
  no-next : is_next (get_or code o halt) ≡ false
  no-next = ap is_next st.here ∙ n

  pub nexts-same : (q : ℕ) → has w.nexts q ≡ (has w.nexts q || (is_next s && eqb q o))
  nexts-same q = sym (ap (λ (b : Bool). has w.nexts q || (b && eqb q o)) n ∙ or-false (has w.nexts q))

  pub nexts-past : NextsBefore (o + 1) w.nexts code
  nexts-past = nexts-on code o (ap is_next st.here) w.nexts w.nexts st.nexts nexts-same

  module _ {led : Led} (l : StepLed o s w.marks led) where
    once-here : Settled w o s → T (once_at w.marks o s)
    once-here t = subst (λ (b : Bool). T (b || once_at w.marks o s)) n t

    modes-on : {ks : List Mark} {m : Bool} → m ≡ (w.modes && led.fits) → Agrees w.marks ks → Settled w o s → m ≡ (w.modes && (is_next s || mode_fits ks o s))
    modes-on {ks} e g t = e ∙ ap (λ (b : Bool). w.modes && b) (l.test ks g (once-here t) ∙ sym (ap (λ (b : Bool). b || mode_fits ks o s) n))

    marks-on : {ks : List Mark} {x : Marks} → x ≡ led.marks → Agrees w.marks ks → Settled w o s → Agrees x (stepped o s ks)
    marks-on {ks} e g t = subst (λ (y : Marks). Agrees y (stepped o s ks)) (sym e) (l.marks ks g (once-here t))

    aside-on : {x : Marks} → x ≡ led.marks → Aside s w.marks x
    aside-on e = subst (Aside s w.marks) (sym e) l.aside

    -- what the walk has then, in the parts that the code gives
    pub went-by : {r : ActionSet} {ks : List Mark} {ps qs : List ActionSet} (x : Walk) → x.modes ≡ (w.modes && led.fits) → x.marks ≡ led.marks
        → x.taken ≡ (w.taken && branches_taken (get_or ps o EMPTY ∷ []) 0 s) → x.effects.bits ≡ union w.effects.bits (step_effects (get_or ps o EMPTY) s)
        → x.inserts ≡ w.inserts + one (is_ins s) → x.nexts ≡ w.nexts → qs ≡ pass_on r s (get_or ps o EMPTY) ps → Went r o s ks w x ps qs
    went-by x em ek et ee ei en ep = record {
      modes = modes-on em;
      marks = marks-on ek;
      aside = aside-on ek;
      taken = et;
      effects = ee;
      inserts = ei;
      nexts = λ q. ap (λ (y : ℕ). has y q) en ∙ nexts-same q;
      possible = ep;
    }

    -- of a step with no effect, no branches and no insert
    pub plain-went : {r : ActionSet} {ks : List Mark} {ps qs : List ActionSet} {x : Walk} → LedOn w led x → step_effects (get_or ps o EMPTY) s ≡ EMPTY
        → branches_taken (get_or ps o EMPTY ∷ []) 0 s ≡ true → is_ins s ≡ false → qs ≡ pass_on r s (get_or ps o EMPTY) ps → Went r o s ks w x ps qs
    unfolding one
    plain-went {x = x} d e b i p = went-by x d.modes d.marks
        (d.taken ∙ sym (ap (λ (t : Bool). w.taken && t) b ∙ and-true w.taken))
        (ap (λ (a : Set). a.bits) d.effects ∙ sym (ap (union w.effects.bits) e ∙ union-end w.effects.bits))
        (d.inserts ∙ sym (ap (λ (t : Bool). w.inserts + one t) i ∙ add-zero w.inserts))
        d.nexts p

-- ---- the step that a value of the enum means

pub of-meant : (r : ActionSet) (o count : ℕ) {s s' : Step} (w : Walk) (x : Option Walk) (ps qs : List ActionSet) → s ≡ s' → Meets r o count s' w x ps qs → Meets r o count s w x ps qs
of-meant r o count w x ps qs e m = subst (λ (s : Step). Meets r o count s w x ps qs) (sym e) m

-- what was met of a step, of an equal answer
pub met-as : (code : List Step) (r : ActionSet) (o : ℕ) (s : Step) (ks : List Mark) (w : Walk) (x y : Option Walk) (ps qs : List ActionSet)
    → x ≡ y → Met code r o s ks w x ps qs → Met code r o s ks w y ps qs
met-as code r o s ks w x y ps qs e m = subst (λ (z : Option Walk). Met code r o s ks w z ps qs) e m
