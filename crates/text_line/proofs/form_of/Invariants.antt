use mathlib.Core.Path.{◌≡◌}
use mathlib.Core.Bool.{Bool}
use Rattle.spec_policy.specs.Bytes.{Bytes}
use Rattle.spec_text.specs.Words.{ascii, same_bytes}
use Rattle.spec_text.specs.Forms.{Form, named}
use Rattle.text_forms.proofs.FormLaws.{first_from}
use Rattle.text_line.proofs.form_of.Given as goal

abbrev pub is_named : Bytes → Form → Bool
is_named w f = same_bytes (ascii f.name) w

abbrev pub invariant-loop-i : goal.invariant-loop-i
invariant-loop-i l = named l.word ≡ first_from (is_named l.word) l.i
