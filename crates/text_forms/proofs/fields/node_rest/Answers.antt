-- `node_rest` meets its contract.
use mathlib.Core.Path.{sym, ap, ◌∙◌}
use Prim.Native.Nat.{ℕ}
use native.Mathlib.Omega.{arith}
use lib.ListN.{get_or, get_or-eq_default}
use Rattle.spec_text.specs.Forms.{node, size, fields_in}
use Rattle.text_forms.proofs.fields.node_rest.Goals as goal

pub node_start-requires : goal.node_start-requires
unfolding size
node_start-requires c = omega (arith, c.requires.0)

pub node_set-requires : goal.node_set-requires
unfolding size
node_set-requires c = omega (arith, c.requires.0)

pub returns-in-4 : goal.returns-in-4
unfolding fields_in
returns-in-4 c = c.node_start.ensures.0 ∙ ap (λ (i : ℕ). get_or (fields_in node c.args.bytes.now) i 0) (sym c.in-4.is)

pub returns-in-5 : goal.returns-in-5
unfolding fields_in
returns-in-5 c = c.node_set.ensures ∙ ap (λ (i : ℕ). get_or (fields_in node c.args.bytes.now) i 0) (sym c.in-5.is)

pub returns-in_default : goal.returns-in_default
unfolding fields_in
returns-in_default c = sym (get_or-eq_default (fields_in node c.args.bytes.now) 0 {n = c.args.place} (omega arith))
