-- The texts of a line, one after another.
use Rattle.std.proofs.Common.{List, [], ◌∷◌, ◌++◌, ap₂}
use Rattle.spec_policy.specs.Bytes.{Bytes}
use Rattle.spec_text.specs.Words.{ascii, newline}
use Rattle.spec_text.specs.Numerals.{decimal}
use Rattle.spec_text.specs.Forms.{Slot, fields_in}
use Rattle.spec_text.specs.Printing.{arguments, indent, remark, line_text}
use Rattle.text_forms.specs.Meant.{sort_of, slots_of}
use Rattle.text_append.proofs.AddedLaws.{joined, named}
use Rattle.text_lines.proofs.line.Goals as goal

pub returns : goal.returns
unfolding line_text remark slots_of ascii
returns c =
    let s = sort_of c.args.sort in
    let xs = fields_in s c.args.bytes.now in
    let marked = joined c.append-parted.ensures c.mark-marked.ensures in
    named (joined (joined c.begin-begun.ensures (joined c.append-named.ensures (joined c.arguments-said.ensures (joined marked c.append_number-end.ensures)))) c.append.ensures)
    (ap₂ (λ (w : Bytes) (ps : List Slot). (indent s ++ (w ++ (arguments ps xs ++ (remark s ++ decimal c.args.i)))) ++ (newline ∷ [])) c.form_at-row.ensures.name c.form_at-row.ensures.slots)
