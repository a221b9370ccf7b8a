use Rattle.std.proofs.Common.{ℕ, drop}
use Rattle.spec_policy.specs.Bytes.{Bytes}
use Rattle.spec_text.specs.Forms.{fields_in}
use Rattle.spec_text.specs.Printing.{arguments}
use Rattle.text_forms.specs.Meant.{sort_of, slots_in}
use Rattle.text_append.specs.Added.{Added}
use Rattle.text_lines.proofs.arguments.Given as goal

-- the slots that are left make the rest of the text
abbrev pub invariant-loop-slot : goal.invariant-loop-slot
invariant-loop-slot l =
    (x : Bytes) (r : ℕ) → Added l.out l.end (arguments (slots_in (drop l.slot-index l.slots)) (fields_in (sort_of l.sort) l.bytes)) x r
    → Added l.initial.out l.at (arguments (slots_in l.slots) (fields_in (sort_of l.sort) l.bytes)) x r
