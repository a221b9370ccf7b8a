use Rattle.std.proofs.Common.{ℕ, ◌+◌, ◌/◌, ◌≡◌, length}
use Rattle.std.specs.Iterator.Adapters.{enumerate_source, enumerate_count}
use Rattle.std.specs.Slice.Iter.{chunks_exact_rest, chunks_exact_size}
use Rattle.spec_policy.specs.Bytes.{Bytes}
use Rattle.text_append.specs.Added.{Added}
use Rattle.text_print.specs.Led.{led_steps}
use Rattle.text_print.proofs.step_lines.Given as goal

abbrev pub invariant-loop-i : goal.invariant-loop-i
invariant-loop-i g l =
    let rest = chunks_exact_rest (enumerate_source l.i-iterator) in
    let i = enumerate_count l.i-iterator in
    (goal.iterator-loop-i g).can_next l.i-iterator ×
    (goal.iterator-loop-i g).is_finite l.i-iterator ×
    (chunks_exact_size (enumerate_source l.i-iterator) ≡ 12) ×
    (i + length rest / 12 ≡ length l.steps / 12) ×
    ((x : Bytes) (r : ℕ) → Added l.out l.end (led_steps (g.L.Lead.words l.lead) (length rest / 12) (l.offset + i) (l.first + i) rest) x r → Added l.initial.out l.at (led_steps (g.L.Lead.words l.lead) (length l.steps / 12) l.offset l.first l.steps) x r)
