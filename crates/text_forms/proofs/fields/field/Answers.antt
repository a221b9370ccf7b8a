-- `field` meets its contract.
use Prim.Native.Nat.{ℕ}
use mathlib.Core.Path.{sym, ap, ◌∙◌}
use native.Mathlib.Omega.{arith}
use lib.ListN.{get_or}
use Rattle.spec_policy.specs.Bytes.{number}
use Rattle.spec_text.specs.Forms.{size, fields_in}
use Rattle.text_forms.specs.declared.forms.Sort.{Sort}
use Rattle.text_forms.specs.Meant.{sort_of}
use Rattle.text_forms.proofs.FieldLaws.{size-least, first-four}
use borrow.Author.Rules.{rules}
use Rattle.text_forms.proofs.fields.field.Goals as goal

pub byte-requires : goal.byte-requires
byte-requires c = omega (arith, c.requires, size-least (sort_of c.args.sort))

pub returns-then-place-lt4 : goal.returns-then-place-lt4
returns-then-place-lt4 c =
    let f = first-four (sort_of c.args.sort) c.args.bytes.now c.args.place c.if-place-lt4.true in
    c.from-then-place-lt4.ensures ∙ c.byte.ensures ∙ ap (λ (k : ℕ). number c.args.bytes.now k 1) c.from.ensures ∙ f

pub node_rest-requires : goal.node_rest-requires
unfolding sort_of
node_rest-requires c = (c.requires ∙ ap (λ (s : Sort). size (sort_of s)) c.in-Node.is, search rules)

pub step_rest-requires : goal.step_rest-requires
unfolding sort_of
step_rest-requires c = (c.requires ∙ ap (λ (s : Sort). size (sort_of s)) c.in-Step.is, search rules)

pub returns-in-Node : goal.returns-in-Node
unfolding sort_of
returns-in-Node c = c.node_rest.ensures ∙ ap (λ (s : Sort). get_or (fields_in (sort_of s) c.args.bytes.now) c.args.place 0) (sym c.in-Node.is)

pub returns-in-Step : goal.returns-in-Step
unfolding sort_of
returns-in-Step c = c.step_rest.ensures ∙ ap (λ (s : Sort). get_or (fields_in (sort_of s) c.args.bytes.now) c.args.place 0) (sym c.in-Step.is)
