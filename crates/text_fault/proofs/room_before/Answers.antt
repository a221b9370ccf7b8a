use Rattle.std.proofs.Common.{◌≡◌, ◌+◌, ◌-◌, ℕ, refl, sym, ap, ◌∙◌, take, drop, arith}
use Rattle.spec_text.specs.Reading.{read_lines}
use Rattle.text_fault.specs.Expected.{room_after, room_before}
use Rattle.text_fault.proofs.RoomLaws.{room-on, room-end}
use Rattle.text_fault.proofs.room_before.Goals as goal

pub loop-line-init : goal.loop-line-init
unfolding room_before
loop-line-init c = (omega arith, refl)

pub returns-then-at-text : goal.returns-then-at-text
returns-then-at-text c = sym (c.loop-line.invariant.1 ∙ room-end c.args.text.now c.loop-line.at c.loop-line.room (c.args.n - c.loop-line._line) (omega arith))

pub loop-line-preserved : goal.loop-line-preserved
loop-line-preserved c =
    let k = c.args.n - c.loop-line._line in
    let e : k - 1 ≡ c.args.n - (c.loop-line._line + 1) = omega arith in (
      c.line_at-read.ensures.inside,
      c.loop-line.invariant.1 ∙ room-on c.args.text.now c.loop-line.at c.loop-line.room k c.line_at-read.result.line c.line_at-read.result.next c.line_at-read.ensures (omega arith) c.room_line-room.result c.room_line-room.ensures
          ∙ ap (λ (j : ℕ). room_after c.room_line-room.result (take j (read_lines (drop c.line_at-read.result.next c.args.text.now)))) e,
    )

pub returns : goal.returns
unfolding room_after
returns c =
    let z : c.args.n - c.loop-line._line ≡ 0 = omega arith in
    sym (c.loop-line.invariant.1 ∙ ap (λ (k : ℕ). room_after c.loop-line.room (take k (read_lines (drop c.loop-line.at c.args.text.now)))) z)
