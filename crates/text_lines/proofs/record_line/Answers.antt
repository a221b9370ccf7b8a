-- A line that says all of the record, or its bytes: its kind is no form's, or the form's line does not say all of it.
use Rattle.std.proofs.Common.{◌≡◌, sym, ap, ◌∙◌, arith, get_or}
use Rattle.spec_policy.proofs.NumberLaws.{number-byte}
use Rattle.spec_text.specs.Forms.{of_kind}
use Rattle.text_forms.specs.Table.{form_at, form_found}
use Rattle.text_forms.specs.Meant.{sort_of}
use Rattle.text_forms.proofs.FormLaws.{kind-found}
use Rattle.text_forms.proofs.FieldLaws.{size-least}
use Rattle.text_append.proofs.AddedLaws.{named}
use Rattle.text_lines.proofs.LineLaws.{record-unknown, record-told, record-untold}
use Rattle.text_lines.proofs.record_line.Goals as goal
use Rattle.text_lines.proofs.record_line.Goals.{After-byte, in_default-via-in-Some+else-says, in_default-via-in_default}

-- the form is sought by the record's first byte
kind-is : (c : After-byte) → of_kind (sort_of c.args.sort) (get_or c.args.bytes.now 0 0) ≡ of_kind (sort_of c.args.sort) c.byte.result
kind-is c =
    sym (ap (of_kind (sort_of c.args.sort)) (c.byte.ensures ∙ number-byte c.args.bytes.now 0 (omega (arith, c.requires, size-least (sort_of c.args.sort)))))

pub byte-requires : goal.byte-requires
byte-requires c = omega (arith, c.requires, size-least (sort_of c.args.sort))

pub says-requires : goal.says-requires
unfolding form_found
says-requires c =
    let kind = kind-is (goal.at.says-requires c).After-byte ∙ c.in-Some.ensures.is in
    (c.requires, c.in-Some.ensures.inside, kind-found (sort_of c.args.sort) (get_or c.args.bytes.now 0 0) (form_at c.in-Some.form) kind)

pub returns-in-Some : goal.returns-in-Some
unfolding form_found
returns-in-Some c =
    let kind = kind-is (goal.at.returns-in-Some c).After-byte ∙ c.in-Some.ensures.is in
    named c.line.ensures (record-told (sort_of c.args.sort) c.args.i c.args.bytes.now (form_at c.in-Some.form) kind (sym c.if-says.ensures))

pub returns-in_default : goal.returns-in_default
unfolding form_found
returns-in_default c =
    let kind = kind-is (goal.at.returns-in_default c).After-byte in
    named c.bytes_line.ensures
    (elim c.in_default.branch [
      | in_default-via-in-Some+else-says w ↦ record-untold (sort_of c.args.sort) c.args.i c.args.bytes.now (form_at w.in-Some.form) (kind ∙ w.in-Some.ensures.is) (sym w.if-says.ensures)
      | in_default-via-in_default w ↦ record-unknown (sort_of c.args.sort) c.args.i c.args.bytes.now (kind ∙ w.in_default.ensures.is)
    ])
