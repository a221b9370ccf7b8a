-- `pass_on` meets its contract: what a step of each kind joins to the sets of its targets.
use native.Mathlib.Omega.{arith}
use Prim.Native.Nat.{ℕ}
use mathlib.Core.Path.{◌≡◌, refl, sym, ap, ◌∙◌, subst}
use lib.Dec.{T, ltb}
use lib.ListN.{length, get_or}
use Rattle.actions.specs.Sets.{EMPTY, common, difference}
use Rattle.actions.specs.declared.ActionSet.{ActionSet}
use Rattle.spec_policy.specs.Lists.{every}
use Rattle.spec_policy.specs.Steps.{Step, targets}
use Rattle.spec_check.specs.Possible.{join_at, pass_on}
use Rattle.file_records.specs.Kinds.{step_meant}
use Rattle.file_records.proofs.Rows.{step-meant}
use Rattle.check_possible.proofs.PossibleLaws.{first-inside, second-inside, two-joins, join-length}
use Rattle.check_spots.proofs.ByKind.{ins-is, spend-is, asks, others-pass}
use Rattle.check_spots.proofs.pass_on.Goals as goal

-- the targets of the step that is read are those of the step that it is
inside : {k s : Step} → k ≡ s → T (every (λ t. ltb t 64) (targets s)) → T (every (λ t. ltb t 64) (targets k))
inside e h = subst (λ (x : Step). T (every (λ t. ltb t 64) (targets x))) (sym e) h

pub join_at-requires : goal.join_at-requires
unfolding step_meant targets
join_at-requires c =
    let t = inside (step-meant c.in-Next.ensures) c.requires.t in
    (omega (arith, c.from.ensures, first-inside 64 _ _ t), c.requires.step_size_in_bounds.2)

pub join_at-requires-in-Ins : goal.join_at-requires-in-Ins
unfolding targets
join_at-requires-in-Ins c =
    let k = ins-is _ c.in-Ins.ensures in
    let t = inside k.1 c.requires.t in
    (omega (arith, first-inside 64 _ _ t), c.requires.step_size_in_bounds.2)

pub join_at-requires-in-Acase : goal.join_at-requires-in-Acase
unfolding targets
join_at-requires-in-Acase c =
    let a = asks _ c.in-Acase.ensures in
    let t = inside a.step c.requires.t in
    (omega (arith, first-inside 64 _ _ t), c.requires.step_size_in_bounds.2)

pub join_at-requires-in-Acase-2 : goal.join_at-requires-in-Acase-2
unfolding targets
join_at-requires-in-Acase-2 c =
    let a = asks _ c.in-Acase.ensures in
    let t = inside a.step c.requires.t in
    (omega (arith, second-inside 64 _ _ _ t), ap (length {A = ℕ}) c.join_at-in-Acase.ensures ∙ join-length _ _ _ ∙ c.requires.step_size_in_bounds.2)

pub join_at-requires-in-Spend : goal.join_at-requires-in-Spend
unfolding targets
join_at-requires-in-Spend c =
    let k = spend-is _ c.in-Spend.ensures in
    let t = inside k.1 c.requires.t in
    (omega (arith, first-inside 64 _ _ t), c.requires.step_size_in_bounds.2)

pub join_at-requires-in-Spend-2 : goal.join_at-requires-in-Spend-2
unfolding targets
join_at-requires-in-Spend-2 c =
    let k = spend-is _ c.in-Spend.ensures in
    let t = inside k.1 c.requires.t in
    (omega (arith, second-inside 64 _ _ _ t), ap (length {A = ℕ}) c.join_at-in-Spend.ensures ∙ join-length _ _ _ ∙ c.requires.step_size_in_bounds.2)

pub returns-in-Next : goal.returns-in-Next
unfolding step_meant pass_on EMPTY
returns-in-Next c =
    c.join_at.ensures ∙ ap (λ (t : ℕ). join_at c.args.sets.now t c.args.set.bits) c.from.ensures
    ∙ ap (λ (s : Step). pass_on c.args.set.bits s (get_or c.args.sets.now c.args.o EMPTY) c.args.sets.now) (step-meant c.in-Next.ensures)

pub returns-in-Ins : goal.returns-in-Ins
unfolding pass_on EMPTY
returns-in-Ins c =
    let k = ins-is _ c.in-Ins.ensures in
    c.join_at-in-Ins.ensures ∙ ap (λ (t : ℕ). join_at c.args.sets.now t (get_or c.args.sets.now c.args.o EMPTY)) c.from-in-Ins.ensures
    ∙ ap (λ (s : Step). pass_on c.args.set.bits s (get_or c.args.sets.now c.args.o EMPTY) c.args.sets.now) k.1

pub returns-in-Acase : goal.returns-in-Acase
unfolding pass_on EMPTY
returns-in-Acase c =
    let p = get_or c.args.sets.now c.args.o EMPTY in
    let a = asks _ c.in-Acase.ensures in
    let set = c.set_in-asked.ensures a.set a.operand in
    two-joins _ _ _ c.join_at-in-Acase.ensures c.join_at-in-Acase-2.ensures (c.common.ensures ∙ ap (λ (s : ActionSet). common p s.bits) set) (c.difference.ensures ∙ ap (λ (s : ActionSet). difference p s.bits) set)
    ∙ (λ i. join_at (join_at c.args.sets.now (c.from-in-Acase.ensures i) (common p a.set.bits)) (c.from-in-Acase-2.ensures i) (difference p a.set.bits))
    ∙ ap (λ (s : Step). pass_on c.args.set.bits s (get_or c.args.sets.now c.args.o EMPTY) c.args.sets.now) a.step

pub returns-in-Spend : goal.returns-in-Spend
unfolding pass_on EMPTY
returns-in-Spend c =
    let p = get_or c.args.sets.now c.args.o EMPTY in
    let k = spend-is _ c.in-Spend.ensures in
    two-joins _ _ _ c.join_at-in-Spend.ensures c.join_at-in-Spend-2.ensures refl refl
    ∙ (λ i. join_at (join_at c.args.sets.now (c.from-in-Spend.ensures i) p) (c.from-in-Spend-2.ensures i) p)
    ∙ ap (λ (s : Step). pass_on c.args.set.bits s (get_or c.args.sets.now c.args.o EMPTY) c.args.sets.now) k.1

pub returns-in_default : goal.returns-in_default
returns-in_default c = others-pass _ _ _ _ c.step_at.ensures c.in_default.not-Next c.in_default.not-Ins c.in_default.not-Acase c.in_default.not-Spend
