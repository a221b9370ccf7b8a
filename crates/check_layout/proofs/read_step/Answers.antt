-- `read_step` meets its contract: with its kind known, a record's step and its test are the arm's.
use mathlib.Core.Path.{◌≡◌, sym, ap, ap₂, ◌∙◌}
use mathlib.Core.Bool.{Bool, ◌&&◌}
use Prim.Native.Nat.{ℕ, ◌+◌, ◌*◌, ◌<◌}
use lib.Dec.{eqb, leb}
use Rattle.std.proofs.Common.{rules}
use Rattle.actions.specs.Sets.{is_action}
use Rattle.spec_policy.specs.Steps.{step_of}
use Rattle.file_records.specs.Kinds.{step_value}
use Rattle.spec_check.specs.Layout.{step_fits, no_action, no_first, no_second, no_operand}
use Rattle.file_records.specs.declared.Step.{Step}
use Rattle.file_records.proofs.Rows.{steps-else}
use Rattle.check_layout.specs.Fits.{kept_if, read_as}
use Rattle.check_layout.proofs.Fields.{record-read, no-step, halves, high-alone, both}
use Rattle.check_layout.proofs.read_step.Goals as goal

-- a spend asks of its operand that the high half is zero
amount-kept : (allowed : Bool) (high low : ℕ) (s : Step) → low < 4294967296
    → kept_if (allowed && eqb high 0) s ≡ kept_if (allowed && leb (high * 4294967296 + low) 4294967295) s
amount-kept allowed high low s h = ap (λ (b : Bool). kept_if (allowed && b) s) (high-alone high low h)

pub returns-in-1 : goal.returns-in-1
unfolding read_as step_value step_of step_fits no_action no_operand
returns-in-1 c =
    (rw (← halves) c.kept.ensures)
    ∙ ap read_as (record-read _ _ _ _ _ _ _ (sym c.in-1.is ∙ c.byte.ensures) c.byte-action.ensures c.byte-first.ensures c.byte-second.ensures (both _ _ _ _ c.word32-high.ensures.0 c.word32-low.ensures.0 c.requires))

pub returns-in-2 : goal.returns-in-2
unfolding read_as step_value step_of step_fits no_action no_second no_operand
returns-in-2 c =
    (rw (← halves) c.kept-in-2.ensures)
    ∙ ap read_as (record-read _ _ _ _ _ _ _ (sym c.in-2.is ∙ c.byte.ensures) c.byte-action.ensures c.byte-first.ensures c.byte-second.ensures (both _ _ _ _ c.word32-high.ensures.0 c.word32-low.ensures.0 c.requires))

pub returns-in-3 : goal.returns-in-3
unfolding read_as step_value step_of step_fits no_action no_second no_operand
returns-in-3 c =
    (rw (← halves) c.kept-in-3.ensures)
    ∙ ap read_as (record-read _ _ _ _ _ _ _ (sym c.in-3.is ∙ c.byte.ensures) c.byte-action.ensures c.byte-first.ensures c.byte-second.ensures (both _ _ _ _ c.word32-high.ensures.0 c.word32-low.ensures.0 c.requires))

pub returns-in-4 : goal.returns-in-4
unfolding read_as step_value step_of step_fits is_action no_second no_operand
returns-in-4 c =
    (rw (← halves) c.kept-in-4.ensures)
    ∙ ap read_as (record-read _ _ _ _ _ _ _ (sym c.in-4.is ∙ c.byte.ensures) c.byte-action.ensures c.byte-first.ensures c.byte-second.ensures (both _ _ _ _ c.word32-high.ensures.0 c.word32-low.ensures.0 c.requires))

pub returns-in-5 : goal.returns-in-5
unfolding read_as step_value step_of step_fits no_action
returns-in-5 c =
    c.kept-in-5.ensures
    ∙ ap read_as (record-read _ _ _ _ _ _ _ (sym c.in-5.is ∙ c.byte.ensures) c.byte-action.ensures c.byte-first.ensures c.byte-second.ensures (both _ _ _ _ c.word32-high.ensures.0 c.word32-low.ensures.0 c.requires))

pub returns-in-6 : goal.returns-in-6
unfolding read_as step_value step_of step_fits no_action
returns-in-6 c =
    c.kept-in-6.ensures
    ∙ amount-kept _ _ _ _ c.word32-low.ensures.1
    ∙ ap read_as (record-read _ _ _ _ _ _ _ (sym c.in-6.is ∙ c.byte.ensures) c.byte-action.ensures c.byte-first.ensures c.byte-second.ensures (both _ _ _ _ c.word32-high.ensures.0 c.word32-low.ensures.0 c.requires))

pub returns-in-7 : goal.returns-in-7
unfolding read_as step_value step_of step_fits no_action no_first no_second no_operand
returns-in-7 c =
    (rw (← halves) c.kept-in-7.ensures)
    ∙ ap read_as (record-read _ _ _ _ _ _ _ (sym c.in-7.is ∙ c.byte.ensures) c.byte-action.ensures c.byte-first.ensures c.byte-second.ensures (both _ _ _ _ c.word32-high.ensures.0 c.word32-low.ensures.0 c.requires))

pub returns-in-8 : goal.returns-in-8
unfolding read_as step_value step_of step_fits no_action no_first no_second no_operand
returns-in-8 c =
    (rw (← halves) c.kept-in-8.ensures)
    ∙ ap read_as (record-read _ _ _ _ _ _ _ (sym c.in-8.is ∙ c.byte.ensures) c.byte-action.ensures c.byte-first.ensures c.byte-second.ensures (both _ _ _ _ c.word32-high.ensures.0 c.word32-low.ensures.0 c.requires))

pub returns-in_default : goal.returns-in_default
unfolding read_as step_value kept_if
returns-in_default c =
    let none = no-step _ _ _ _ _ (search rules) (search rules) (search rules) (search rules) (search rules) (search rules) (search rules) (search rules) in
    let halts = steps-else _ (search rules) (search rules) (search rules) (search rules) (search rules) (search rules) (search rules) in
    sym (ap₂ kept_if none (ap step_value halts))
    ∙ ap read_as (record-read _ _ _ _ _ _ _ c.byte.ensures c.byte-action.ensures c.byte-first.ensures c.byte-second.ensures (both _ _ _ _ c.word32-high.ensures.0 c.word32-low.ensures.0 c.requires))
