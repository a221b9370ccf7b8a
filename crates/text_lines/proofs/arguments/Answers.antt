use Rattle.std.proofs.Common.{ap, sym, List, length, ◌<◌, arith}
use Rattle.spec_text.specs.Forms.{Slot, fields_in}
use Rattle.spec_text.specs.Printing.{arguments}
use Rattle.text_forms.specs.Meant.{sort_of}
use Rattle.text_forms.proofs.SlotLaws.{slot-none, slot-some}
use Rattle.text_append.proofs.AddedLaws.{nothing, joined, named}
use Rattle.text_lines.proofs.LineLaws.{arguments_more, arguments-over}
use Rattle.text_lines.proofs.arguments.Goals as goal
use Rattle.text_lines.proofs.arguments.Goals.{in-Some, in_default}

pub loop-slot-preserved : goal.loop-slot-preserved
loop-slot-preserved c = λ x r h.
    let l : c.loop-slot.slot-index < length c.args.slots.now = omega arith in
    let xs = fields_in (sort_of c.args.sort) c.args.bytes.now in
    c.loop-slot.invariant x r
    (elim c.match-slot.branch [
      | in-Some w ↦ named (joined w.argument-end.ensures (rw (w.out-is, w.end-is) at h))
          (arguments_more _ _ _ xs (slot-some _ c.loop-slot.slot-index _ l w.in-Some.slot w.in-Some.is))
      | in_default w ↦ named (rw (w.out-is, w.end-is) at h) (ap (λ (ps : List Slot). arguments ps xs) (sym (slot-none _ c.loop-slot.slot-index _ l w.in_default.is)))
    ])

pub returns : goal.returns
returns c = c.loop-slot.invariant _ _ (named (nothing _ _) (arguments-over c.args.slots.now c.loop-slot.slot-index _ (omega arith)))
