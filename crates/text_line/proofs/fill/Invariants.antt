use mathlib.Core.Path.{◌≡◌}
use lib.Dec.{T}
use lib.ListN.{drop}
use Rattle.std.specs.Prelude.{Some}
use Rattle.spec_policy.specs.Lists.{every}
use Rattle.spec_text.specs.Words.{words}
use Rattle.spec_text.specs.Forms.{bare}
use Rattle.spec_text.specs.Reading.{filled}
use Rattle.text_forms.specs.Table.{form_at}
use Rattle.text_forms.specs.Meant.{slots_in}
use Rattle.text_line.specs.Lines.{fitting, rest, Sound}
use Rattle.text_line.proofs.fill.Given as goal

abbrev pub invariant-loop-slot : goal.invariant-loop-slot
invariant-loop-slot l = record {
  sound : Sound l.line l.filled;
  is : filled (form_at l.form).slots (words (drop l.at l.line)) (bare (form_at l.form)) ≡ rest l.line (Some l.filled) (slots_in (drop l.slot-index l.slot-items));
  fits : T (every fitting (slots_in (drop l.slot-index l.slot-items)));
}
