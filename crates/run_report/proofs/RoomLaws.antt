-- No text of a call is longer than `text_room`, since actions are bytes and events are few.
use Prim.Native.Nat.{ℕ, zero, suc, ◌+◌, ◌*◌, ◌≤◌}
use native.Mathlib.Omega.{arith}
use mathlib.Core.Path.{◌≡◌, refl}
use mathlib.Core.Bool.{Bool, true, false}
use lib.Dec.{eqb}
use lib.ListN.{length, drop, get_or, length-append}
use Rattle.spec_policy.specs.Bytes.{Bytes, Small}
use Rattle.spec_policy.proofs.ByteLaws.{small-drop}
use Rattle.spec_text.specs.Words.{ascii}
use Rattle.spec_turns.specs.Status.{Status, running, ended, ended_left, ended_right, halted, dropped}
use Rattle.spec_turns.specs.Turn.{Request, opening, offer, close}
use Rattle.spec_turns.specs.Entries.{answers}
use Rattle.text_append.proofs.AddedLaws.{decimal-below}
use Rattle.run_report.specs.Lines.{line, word, kind, lines}
use Rattle.run_report.specs.Said.{heading, is_last, ending, said}
use Rattle.run_report.specs.Speaks.{text_room}

line-length : (what about : Bytes) → length (line what about) ≡ length what + (length about + 1)
unfolding line ascii
line-length what about = simp length-append

pub word-length : (s : Status) → length (word s) ≤ 7
unfolding word ascii
word-length running = omega arith
word-length ended = omega arith
word-length ended_left = omega arith
word-length ended_right = omega arith
word-length halted = omega arith
word-length dropped = omega arith

kind-length : (k : ℕ) → length (kind k) ≡ 4
unfolding kind ascii
kind-length k = go (eqb k 1) (eqb k 2)
  where
    go : (a b : Bool) → length {A = ℕ} (elim a as (λ _. Bytes) [ true ↦ ascii "acc " | false ↦ elim b [ true ↦ ascii "sup " | false ↦ ascii "ins " ] ]) ≡ 4
    go true b = refl
    go false true = refl
    go false false = refl

lines-length : (n : ℕ) (room : Bytes) → Small room → length (lines n room) ≤ 8 * n
unfolding lines
lines-length zero room small = omega arith
lines-length (suc n) room small =
    let d = decimal-below 2 (get_or room 1 0) (omega (arith, small 1)) in
    let k = kind-length (get_or room 0 0) in
    let m = lines-length n (drop 2 room) (small-drop 2 room small) in
    simp (length-append, line-length) (omega arith)

heading-length : (q : Request) (s : Status) → length (heading q s) ≤ 13
unfolding heading ascii
heading-length opening s = let w = word-length s in rw line-length (omega arith)
heading-length (offer a) s = omega arith
heading-length close s = omega arith

ending-length : (last : Bool) (s : Status) → length (ending last s) ≤ 14
unfolding ending ascii
ending-length true s = let w = word-length s in rw line-length (omega arith)
ending-length false s = omega arith

pub answered-fits : (q : Request) (n : ℕ) (s : Status) (room : Bytes) → n ≤ 256 → Small room → length (said q (answers n s) room).text ≤ text_room
unfolding said
answered-fits q n s room few small =
    let h = heading-length q s in
    let l = lines-length n room small in
    let e = ending-length (is_last q s) s in
    simp length-append (omega arith)
