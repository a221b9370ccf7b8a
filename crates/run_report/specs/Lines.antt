-- The lines that guardrun prints.
use Rattle.std.specs.Prelude.{ℕ, zero, suc, true, false, [], ◌++◌, eqb, get_or, drop}
use Rattle.spec_policy.specs.Bytes.{Bytes}
use Rattle.spec_text.specs.Words.{ascii}
use Rattle.spec_text.specs.Numerals.{decimal}
use Rattle.spec_turns.specs.Status.{Status, running, ended, ended_left, ended_right, halted, dropped}

-- what, about what, and the line's end
unfoldable pub line : Bytes → Bytes → Bytes
line what about = what ++ (about ++ ascii "\n")

-- "S is running, ended, left, right or halted"; the root is never dropped
unfoldable pub word : Status → Bytes
word running = ascii "running"
word ended = ascii "ended"
word ended_left = ascii "left"
word ended_right = ascii "right"
word halted = ascii "halted"
word dropped = ascii "dropped"

-- "`acc a`, `sup a` or `ins a`", where "Events are two bytes: 1 accepted, 2 suppressed, 3 inserted; then the action."
unfoldable pub kind : ℕ → Bytes
kind k = elim (eqb k 1) [ true ↦ ascii "acc " | false ↦ elim (eqb k 2) [ true ↦ ascii "sup " | false ↦ ascii "ins " ] ]

-- "a line .. per event in decimal": of the first n events in a buffer
unfoldable pub lines : ℕ → Bytes → Bytes
lines zero room = []
lines (suc n) room = line (kind (get_or room 0 0)) (decimal (get_or room 1 0)) ++ lines n (drop 2 room)
