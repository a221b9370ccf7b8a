use Rattle.std.proofs.Common.{ℕ, ◌+◌, ◌*◌, ◌/◌, ◌≡◌, length}
use Rattle.std.specs.Iterator.Adapters.{enumerate_source, enumerate_count}
use Rattle.std.specs.Slice.Iter.{chunks_exact_rest, chunks_exact_size}
use Rattle.spec_policy.specs.Bytes.{Bytes}
use Rattle.text_append.specs.Added.{Added}
use Rattle.text_print.specs.Led.{led_nodes, led_records, steps_owned}
use Rattle.text_print.proofs.record_lines.Given as goal

abbrev pub invariant-loop-i : goal.invariant-loop-i
invariant-loop-i g l =
    let rest = chunks_exact_rest (enumerate_source l.i-iterator) in
    let i = enumerate_count l.i-iterator in
    (goal.iterator-loop-i g).can_next l.i-iterator ×
    (goal.iterator-loop-i g).is_finite l.i-iterator ×
    (chunks_exact_size (enumerate_source l.i-iterator) ≡ 16) ×
    (12 * l.first + length l.left ≡ length l.steps) ×
    (l.first + steps_owned (length rest / 16) rest l.left ≡ steps_owned (length l.nodes / 16) l.nodes l.steps) ×
    ((x : Bytes) (r : ℕ) → Added l.out l.end (led_nodes (g.L.Lead.words l.lead) (length rest / 16) i l.first rest l.left) x r → Added l.initial.out l.at (led_records (g.L.Lead.words l.lead) l.nodes l.steps) x r)
