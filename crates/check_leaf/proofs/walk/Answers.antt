-- `walk` meets its contract: the invariant is what is found so far, with what is left to walk.
use native.Mathlib.Omega.{arith}
use Prim.Native.Nat.{◌≤◌}
use mathlib.Core.Path.{◌≡◌, refl, sym, ap, ◌∙◌}
use mathlib.Core.Bool.{true, false}
use Rattle.std.specs.Prelude.{Option, Result, Some, None, Ok, Err}
use Rattle.std.specs.Option.{ok_or}
use Rattle.std.proofs.lemmas.Result.{err_from_is_err_and}
use Rattle.faults.specs.declared.Refusal.{Refusal}
use Rattle.faults.specs.declared.Refusal.TheVariants as refusals
use Rattle.file_records.specs.declared.Step.{Step}
use Rattle.file_records.specs.Kinds.{step_value}
use Rattle.spec_policy.specs.Records.{StepRecord}
use Rattle.spec_policy.specs.Steps.{step_of}
use Rattle.spec_check.specs.Layout.{step_fits}
use Rattle.std.specs.Result.{result_or}
use Rattle.check_layout.specs.Fits.{read_as}
use Rattle.check_layout.proofs.Rows.{step-given, no-step-given}
use Rattle.actions.specs.Sets.{EMPTY}
use Rattle.file_records.proofs.CodeLaws.{code-length}
use Rattle.file_records.proofs.Rows.{step-meant}
use Rattle.check_steps.proofs.StepLaws.{of-meant, met-as}
use Rattle.check_possible.proofs.PossibleLaws.{none-possible}
use Rattle.check_leaf.proofs.LeafWalk.{walk-starts, stands_here, walk-goes, row-stops, target-stops, all-records, all-nexts, all_fit, all-modes, all-branches, all-effects, all-inserts}
use Rattle.check_leaf.proofs.walk.Goals as goal

pub loop-o-init : goal.loop-o-init
unfolding EMPTY
loop-o-init c = walk-starts _ _ _ _ _ _ c.begun-w.ensures c.requires.2 refl (none-possible c.args.count c.requires.2)

err-told : {A : Type 0} (o : Option A) (e f : Refusal) → ok_or o e ≡ Err f → f ≡ e
err-told None e f p = cc
err-told (Some s) e f p = absurd (let h : Ok s ≡ Err f = p in cc)

-- what is told of a step record, as it was read
broken-step : (r : StepRecord) (x : Result Step Step) (e f : Refusal) → x ≡ read_as r → result_or x (Err e) ≡ Err f → (step_fits r ≡ false) × (f ≡ e)
broken-step r (Err s) e f p q = (no-step-given r s (sym p), cc)
broken-step r (Ok s) e f p q = absurd (let h : Ok s ≡ Err f = q in cc)

same-step : (x y : Result Step Refusal) (s t : Step) → x ≡ y → x ≡ Ok s → y ≡ Ok t → s ≡ t
same-step x y s t p q r = cc

given-step : (r : StepRecord) (x : Result Step Step) (e : Refusal) (s : Step) → x ≡ read_as r → result_or x (Err e) ≡ Ok s
    → (step_fits r ≡ true) × (s ≡ step_value (step_of r))
given-step r (Ok t) e s p q =
    step-given r s (sym p ∙ ap Ok (same-step _ _ t s q refl refl))
given-step r (Err t) e s p q = absurd (let h : Err e ≡ Ok s = q in cc)

pub returns-in_err-step : goal.returns-in_err-step
returns-in_err-step c =
    let p = err_from_is_err_and c.from_residual.result c.from_residual.ensures.1 in
    let broken = broken-step _ _ _ _ c.read_step.ensures (sym c.or.ensures ∙ c.in_err-step.was) in
    rw (p.1, p.2, broken.1) (row-stops _ _ _ _ _ _ _ c.loop-o.invariant (omega arith) broken.0)

pub meet-requires : goal.meet-requires
meet-requires c = ((omega arith, (c.requires.2, omega (arith, c.loop-o.invariant.few, c.loop-o.invariant.below, c.requires.1))), c.loop-o.invariant.room)

pub returns-in_err-w : goal.returns-in_err-w
returns-in_err-w c =
    let p = err_from_is_err_and c.from_residual-in_err-w.result c.from_residual-in_err-w.ensures.1 in
    let none : c.meet.result ≡ None = grind arith in
    let told : c.in_err-w.field-0.0 ≡ refusals.Targets = err-told _ _ _ (sym c.ok_or.ensures.value ∙ c.in_err-w.was) in
    let given = given-step _ _ _ _ c.read_step.ensures (sym c.or.ensures ∙ c.in_ok-step.was) in
    let m = of-meant _ _ _ _ _ _ _ (sym (step-meant given.1)) c.meet.ensures _ c.loop-o.invariant.ks (stands_here _ _ _ _ _ _ _ c.loop-o.invariant (omega arith)) in
    rw (p.1, p.2, told) (target-stops _ _ _ _ _ _ _ c.loop-o.invariant (omega arith) (met-as _ _ _ _ _ _ _ _ _ _ none m))

pub loop-o-preserved : goal.loop-o-preserved
loop-o-preserved c =
    let some : c.meet.result ≡ Some c.in_ok-w.w = grind arith in
    let given = given-step _ _ _ _ c.read_step.ensures (sym c.or.ensures ∙ c.in_ok-step.was) in
    let m = of-meant _ _ _ _ _ _ _ (sym (step-meant given.1)) c.meet.ensures _ c.loop-o.invariant.ks (stands_here _ _ _ _ _ _ _ c.loop-o.invariant (omega arith)) in
    let met = met-as _ _ _ _ _ _ _ _ _ _ some m in
    walk-goes _ _ _ _ _ _ _ c.loop-o.invariant (omega arith) _ _ given.0 met.0 met.1

pub returns : goal.returns
returns c =
    let over : c.args.count ≤ c.loop-o.o = omega arith in
    record {
      step_records = all-records _ _ _ _ _ _ _ c.loop-o.invariant over;
      targets = all_fit _ _ _ _ _ _ _ c.loop-o.invariant over;
      modes = all-modes _ _ _ _ _ _ _ c.loop-o.invariant over (c.each_once.ensures _ (code-length _ _ _) (all-nexts _ _ _ _ _ _ _ c.loop-o.invariant over));
      taken = all-branches _ _ _ _ _ _ _ c.loop-o.invariant over;
      effects = all-effects _ _ _ _ _ _ _ c.loop-o.invariant over;
      inserts = all-inserts _ _ _ _ _ _ _ c.loop-o.invariant over;
    }
