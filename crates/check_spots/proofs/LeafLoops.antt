-- The passes over a leaf's steps: all marks of the modes, and what is possible at each offset.
use Prim.Native.Nat.{ℕ, ◌+◌, ◌*◌, ◌-◌, ◌≤◌, ◌<◌}
use native.Mathlib.Omega.{arith}
use mathlib.Core.Path.{◌≡◌, sym, ap, ap₂, ◌∙◌, subst}
use mathlib.Core.List.{List}
use lib.Dec.{T, ltb, ltb→lt, lt→ltb}
use lib.ListN.{length, get_or, take, replicate}
use Rattle.actions.specs.Sets.{ActionSet, EMPTY}
use Rattle.spec_policy.specs.Bytes.{Bytes}
use Rattle.spec_policy.specs.Lists.{listed, every}
use Rattle.spec_policy.specs.Records.{step_record_at}
use Rattle.spec_policy.specs.Steps.{Step, halt, step_of}
use Rattle.spec_policy.proofs.ListLaws.{listed-rest, listed-over, every_at-from-0}
use Rattle.file_records.specs.Code.{code_at}
use Rattle.file_records.proofs.CodeLaws.{code-length, code-at}
use Rattle.spec_check.specs.Targets.{leads_well, targets_fit}
use Rattle.spec_check.specs.Modes.{Mark, walked, marks, stepped}
use Rattle.spec_check.specs.Possible.{pass_on, passed_on, possible}
use Rattle.check_targets.proofs.TargetLaws.{every-weaker, test-inside}
use Rattle.check_possible.proofs.PossibleLaws.{pass-length, passed-step}
use Rattle.check_modes.proofs.Final.{walked_step}
use Rattle.check_modes.specs.declared.Marks.{Marks}
use Rattle.check_modes.specs.Table.{reaching}
use Rattle.check_modes.specs.Marks.{Agrees}
use Rattle.check_spots.specs.Leaf.{TargetsIn}

-- ---- targets inside the leaf

-- a longer leaf has room for the targets of a shorter one
pub wider : (n m : ℕ) → n ≤ m → (ts : List ℕ) → T (every (λ t. ltb t n) ts) → T (every (λ t. ltb t m) ts)
wider n m h = every-weaker (λ t. ltb t n) (λ t. ltb t m) (λ t e. let l : t < n = ltb→lt t n e in lt→ltb t m (omega arith))

pub six-inside : (r : ActionSet) (file : Bytes) (at count : ℕ) → T (targets_fit r (code_at file at count)) → TargetsIn file at count
unfolding targets_fit leads_well
six-inside r file at count six o h =
    test-inside r file at count o (step_of (step_record_at file (at + 12 * o)))
    (subst (λ (s : Step). T (leads_well r (code_at file at count) o s)) (code-at file at count o h)
    (every_at-from-0 (leads_well r (code_at file at count)) (code_at file at count) halt six o (omega (arith, code-length file at count))))

module _ (file : Bytes) (at count : ℕ) where
  abbrev pub step_in : ℕ → Step
  step_in o = step_of (step_record_at file (at + 12 * o))

  abbrev pub code : List Step
  code = code_at file at count

  -- the steps from offset o on
  abbrev rest : ℕ → List Step
  rest o = listed step_in o (count - o)

  code-rest : code ≡ rest 0
  unfolding code_at
  code-rest = let z : count ≡ count - 0 = omega arith in ap (λ (n : ℕ). listed step_in 0 n) z

  -- ---- the marks

  -- before the step at o: the marks that are made, and what is left to walk
  pub record Marking (o : ℕ) (seen : Marks) : Type 0 where
    pub ks : List Mark
    pub agrees : Agrees seen ks
    pub walk : marks code ≡ walked o (rest o) ks

  pub marking-start : (seen : Marks) → Agrees seen (reaching 0 0) → Marking 0 seen
  unfolding marks reaching
  marking-start seen g = record { ks = reaching 0 0; agrees = g; walk = ap (λ (ss : List Step). walked 0 ss (reaching 0 0)) code-rest }

  pub marking-next : (o : ℕ) (seen after : Marks) → o < count → (g : Marking o seen) → Agrees after (stepped o (step_in o) g.ks) → Marking (o + 1) after
  marking-next o seen after h g a = record {
    ks = stepped o (step_in o) g.ks;
    agrees = a;
    walk = g.walk ∙ ap (λ (l : List Step). walked o l g.ks) (listed-rest step_in o count h) ∙ walked_step o (step_in o) (rest (o + 1)) g.ks;
  }

  pub marking-end : (o : ℕ) (seen : Marks) → count ≤ o → Marking o seen → Agrees seen (marks code)
  unfolding walked
  marking-end o seen h g =
      subst (λ (ks : List Mark). Agrees seen ks) (sym (g.walk ∙ ap (λ (l : List Step). walked o l g.ks) (listed-over step_in o count h))) g.agrees

  -- ---- what is possible

  module _ (r : ActionSet) where
    -- before the step at o: the sets so far, and what is left to pass on
    pub record Passing (o : ℕ) (sets : List ActionSet) : Type 0 where
      pub room : length sets ≡ 64
      pub pass : possible r code ≡ passed_on r o (rest o) (take count sets)

    pub passing-start : (sets : List ActionSet) → length sets ≡ 64 → take count sets ≡ replicate count EMPTY → Passing 0 sets
    unfolding possible
    passing-start sets l e = record {
      room = l;
      pass = ap (λ (n : ℕ). passed_on r 0 code (replicate n EMPTY)) (code-length file at count)
          ∙ ap₂ (λ (ss : List Step) (ps : List ActionSet). passed_on r 0 ss ps) code-rest (sym e);
    }

    pub passing-next : TargetsIn file at count → (o : ℕ) (sets after : List ActionSet) → o < count → Passing o sets
        → after ≡ pass_on r (step_in o) (get_or sets o EMPTY) sets → Passing (o + 1) after
    passing-next inside o sets after h g e = record {
      room = ap (length {A = ℕ}) e ∙ pass-length r (step_in o) (get_or sets o EMPTY) sets ∙ g.room;
      pass = g.pass ∙ ap (λ (l : List Step). passed_on r o l (take count sets)) (listed-rest step_in o count h)
          ∙ passed-step count r o (step_in o) (rest (o + 1)) sets after h (inside o h) e;
    }

    pub passing-end : (o : ℕ) (sets : List ActionSet) → count ≤ o → Passing o sets → take count sets ≡ possible r code
    unfolding passed_on
    passing-end o sets h g = sym (g.pass ∙ ap (λ (l : List Step). passed_on r o l (take count sets)) (listed-over step_in o count h))
