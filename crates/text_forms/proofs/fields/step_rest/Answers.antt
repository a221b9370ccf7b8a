-- `step_rest` meets its contract.
use mathlib.Core.Path.{sym, ap, ◌∙◌}
use Prim.Native.Nat.{ℕ}
use native.Mathlib.Omega.{arith}
use lib.ListN.{get_or, get_or-eq_default}
use Rattle.spec_policy.specs.Records.{step_record_at}
use Rattle.spec_text.specs.Forms.{step, size, fields_in}
use Rattle.text_forms.proofs.fields.step_rest.Goals as goal

pub word64-requires : goal.word64-requires
unfolding size
word64-requires c = omega (arith, c.requires.0)

pub returns-in-4 : goal.returns-in-4
unfolding fields_in step_record_at
returns-in-4 c = c.word64.ensures ∙ ap (λ (i : ℕ). get_or (fields_in step c.args.bytes.now) i 0) (sym c.in-4.is)

pub returns-in_default : goal.returns-in_default
unfolding fields_in
returns-in_default c = sym (get_or-eq_default (fields_in step c.args.bytes.now) 0 {n = c.args.place} (omega arith))
