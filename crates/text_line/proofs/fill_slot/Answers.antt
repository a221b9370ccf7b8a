-- `fill_slot` meets its contract: a number or a set.
use mathlib.Core.Path.{sym, ap, subst, ◌∙◌}
use lib.Dec.{T}
use lib.ListN.{drop}
use Rattle.spec_text.specs.Words.{words}
use Rattle.spec_text.specs.Forms.{Slot, number, actions, place}
use Rattle.text_forms.specs.declared.forms.Slot as code
use Rattle.text_forms.specs.Meant.{slot_of}
use Rattle.text_words.specs.Scanned.{taken_of}
use Rattle.text_line.specs.Lines.{fitting, Fills}
use Rattle.text_line.specs.declared.Filled.{Filled}
use Rattle.spec_policy.specs.Bytes.{Bytes}
use Rattle.std.specs.Prelude.{Option, Some}
use mathlib.Core.Path.{◌≡◌}
use Rattle.text_line.proofs.SlotLaws.{number_fits, actions-fit, taken-number, taken-actions, fills-none, fills_one}
use Rattle.text_line.proofs.fill_slot.Goals as goal

pub number-requires : goal.number-requires
unfolding slot_of
number-requires c = (c.requires.0.inside, (number_fits c.in-Number.i c.in-Number.most (subst (λ (s : code.Slot). T (fitting (slot_of s))) c.in-Number.is c.requires.1)).1)

pub put-requires : goal.put-requires
unfolding slot_of
put-requires c = (c.requires.0.six, (number_fits c.in-Number.i c.in-Number.most (subst (λ (s : code.Slot). T (fitting (slot_of s))) c.in-Number.is c.requires.1)).0)

pub put-requires-in-Actions : goal.put-requires-in-Actions
unfolding slot_of
put-requires-in-Actions c = (c.requires.0.six, actions-fit c.in-Actions.i (subst (λ (s : code.Slot). T (fitting (slot_of s))) c.in-Actions.is c.requires.1))

-- what was read of this slot is what was read of that one
fills_as : {line : Bytes} {f : Filled} {r s : Option Filled} {p q : Slot} → Fills line f p r → p ≡ q → r ≡ s → Fills line f q s
fills_as {line} {f} {r} {s} {p} {q} h e d = subst (λ (x : Option Filled). Fills line f q x) d (subst (λ (x : Slot). Fills line f x r) e h)

pub returns-in_err-number-in-Number : goal.returns-in_err-number-in-Number
unfolding slot_of taken_of
returns-in_err-number-in-Number c =
    let ws = words (drop c.args.begun.at c.args.line.now) in
    let p = number c.in-Number.i c.in-Number.most in
    fills_as (fills-none c.args.line.now c.args.begun p (c.in_err-number-in-Number.ensures.is ∙ taken-number 0 c.in-Number.i c.in-Number.most ws)) (ap slot_of (sym c.in-Number.is)) (sym c.from_residual.ensures)

pub returns-in_err-set-in-Actions : goal.returns-in_err-set-in-Actions
unfolding slot_of taken_of
returns-in_err-set-in-Actions c =
    let ws = words (drop c.args.begun.at c.args.line.now) in
    fills_as (fills-none c.args.line.now c.args.begun (actions c.in-Actions.i) (c.in_err-set-in-Actions.ensures.is ∙ taken-actions 0 c.in-Actions.i ws)) (ap slot_of (sym c.in-Actions.is)) (sym c.from_residual-in_err-set-in-Actions.ensures)

pub returns-in_ok-number-in-Number : goal.returns-in_ok-number-in-Number
unfolding slot_of place taken_of
returns-in_ok-number-in-Number c =
    let ws = words (drop c.args.begun.at c.args.line.now) in
    let p = number c.in-Number.i c.in-Number.most in
    fills_as
    (fills_one c.args.line.now c.args.begun p c.requires.0.six c.in_ok-number-in-Number.field-0 (c.in_ok-number-in-Number.ensures.is ∙ taken-number 0 c.in-Number.i c.in-Number.most ws) c.in_ok-number-in-Number.ensures.inside)
    (ap slot_of (sym c.in-Number.is)) (ap Some (sym c.put.ensures))

pub returns-in_ok-set-in-Actions : goal.returns-in_ok-set-in-Actions
unfolding slot_of place taken_of
returns-in_ok-set-in-Actions c =
    let ws = words (drop c.args.begun.at c.args.line.now) in
    fills_as
    (fills_one c.args.line.now c.args.begun (actions c.in-Actions.i) c.requires.0.six c.in_ok-set-in-Actions.field-0 (c.in_ok-set-in-Actions.ensures.is ∙ taken-actions 0 c.in-Actions.i ws) c.in_ok-set-in-Actions.ensures.inside)
    (ap slot_of (sym c.in-Actions.is)) (ap Some (sym c.put-in-Actions.ensures))
