use Prim.Native.Nat.{ℕ, ◌*◌, ◌/◌}
use native.Mathlib.Omega.{arith}
use mathlib.Core.Path.{◌≡◌}
use mathlib.Core.List.{[], ◌++◌}
use lib.ListN.{length, drop}
use Rattle.spec_policy.specs.Bytes.{Bytes}
use Rattle.spec_text.specs.Printing.{shown_left, shown_records}
use Rattle.text_append.proofs.AddedLaws.{joined, named}
use Rattle.text_print.specs.Led.{led_records, steps_owned}
use Rattle.text_print.proofs.PrintLaws.{records-unled}
use Rattle.text_print.proofs.print.Goals as goal

-- the records, and what is left behind the steps told
left-told : (ns ss left : Bytes) (k : ℕ) → k ≡ steps_owned (length ns / 16) ns ss → left ≡ drop (12 * k) ss
    → led_records (λ _. []) ns ss ++ shown_left (length left / 12) k left ≡ shown_records ns ss
left-told ns ss left k e f = rw (f, e) (records-unled ns ss)

pub returns : goal.returns
returns c =
    named (joined c.record_lines-told.ensures.told c.left_lines.ensures) (left-told _ _ _ _ c.record_lines-told.ensures.steps (grind arith))
