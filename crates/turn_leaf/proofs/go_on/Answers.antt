-- `go_on` meets its contract. The invariant: the leaf came to this offset by silent items, whose steps are counted; the measure: how far it can still go.
use native.Mathlib.Omega.{arith}
use mathlib.Core.Path.{sym, ◌∙◌}
use Rattle.spec_policy.specs.Records.{step_place}
use Rattle.file_records.proofs.Rows.{step-meant}
use Rattle.turn_leaf.proofs.LeafSteps.{of-move}
use Rattle.file_records.proofs.CodeLaws.{code-length, code-number}
use Rattle.turn_leaf.proofs.LeafRuns.{in_code, in_count, going-first, going_less, going_on, going-ends, going-stays, past-count, halts-past}
use Rattle.turn_leaf.proofs.go_on.Goals as goal

pub overflow_add-first : goal.overflow_add-first
overflow_add-first c = omega (arith, c.requires.0.1)

pub returns-then-offset-count : goal.returns-then-offset-count
returns-then-offset-count c =
    record {
      stops = halts-past c.requires.1 _ _ _ (past-count _ _ _ _ c.if-offset-count.true) c.count_step.ensures;
      less = omega arith;
    }

pub loop-t-init : goal.loop-t-init
loop-t-init c = going-first _ _ _ _ (in_code _ _ _ _ c.if-offset-count.false)

pub overflow_cast-number : goal.overflow_cast-number
overflow_cast-number c = omega (arith, code-length c.args.policy.now (step_place c.args.policy.now c.args.first) c.args.count)

pub overflow_add-number : goal.overflow_add-number
overflow_add-number c = omega (arith, c.requires.0.1, code-length c.args.policy.now (step_place c.args.policy.now c.args.first) c.args.count)

pub view_step-step-requires : goal.view_step-step-requires
view_step-step-requires c = (c.requires.0.0, omega (arith, c.requires.0.1, code-length c.args.policy.now (step_place c.args.policy.now c.args.first) c.args.count))

pub loop-t-smaller : goal.loop-t-smaller
loop-t-smaller c =
    going_less c.requires.1 c.loop-t.invariant (step-meant c.view_step-step.ensures ∙ sym (code-number _ _ _ _ (in_count _ _ _ _ c.loop-t.invariant.in_leaf)))
    (of-move c.in-On.is c.one_step-m.ensures)

pub loop-t-preserved : goal.loop-t-preserved
loop-t-preserved c =
    going_on c.requires.1 c.loop-t.invariant (step-meant c.view_step-step.ensures ∙ sym (code-number _ _ _ _ (in_count _ _ _ _ c.loop-t.invariant.in_leaf)))
    (of-move c.in-On.is c.one_step-m.ensures) c.count_step-in-On.ensures

pub returns-in-Ends : goal.returns-in-Ends
returns-in-Ends c =
    record {
      stops = going-ends c.requires.1 c.loop-t.invariant (step-meant c.view_step-step.ensures ∙ sym (code-number _ _ _ _ (in_count _ _ _ _ c.loop-t.invariant.in_leaf)))
          (of-move c.in-Ends.is c.one_step-m.ensures) c.count_step-in-Ends.ensures;
      less = c.loop-t.invariant.less;
    }

pub returns-in-Stays : goal.returns-in-Stays
returns-in-Stays c =
    record {
      stops = going-stays c.requires.1 c.loop-t.invariant (step-meant c.view_step-step.ensures ∙ sym (code-number _ _ _ _ (in_count _ _ _ _ c.loop-t.invariant.in_leaf)))
          (of-move c.in-Stays.is c.one_step-m.ensures);
      less = c.loop-t.invariant.less;
    }
