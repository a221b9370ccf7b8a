-- `fill` meets its contract: the file of the records or a refusal, a bad line, or more records than a file may have.
use Prim.Native.Nat.{◌*◌, ◌≤◌}
use native.Mathlib.Omega.{arith}
use mathlib.Core.Path.{sym, ap, ◌∙◌}
use lib.ListN.{length}
use lib.Seq.{length-take-le}
use Rattle.spec_policy.specs.Spots.{bare_fault}
use Rattle.std.specs.Prelude.{Err}
use Rattle.text_read.specs.Transcribed.{gave}
use Rattle.text_append.specs.Refusal.{refusal}
use Rattle.text_append.proofs.AddedLaws.{named}
use Rattle.text_fault.specs.Expected.{fault_in}
use Rattle.text_fault.proofs.FaultLaws.{fault-in-short}
use Rattle.guardwrite.proofs.ToldLaws.{instead, as-message, line-tells, refused-tells, three-small, was_read, was-bad, was-short}
use Rattle.guardwrite.proofs.told.fill.Goals as goal

pub overflow_mul-found : goal.overflow_mul-found
overflow_mul-found c =
    let w = was_read c.args.text.now c.args.nodes.now c.args.steps.now c.read.new.nodes c.read.new.steps c.args.out.now c.in-Ok.found.nodes c.in-Ok.found.steps (c.read.ensures ∙ ap (λ a. gave a c.read.new.nodes c.read.new.steps) c.in-Ok.is) in
    omega (arith, w.few-nodes, c.requires.0)

pub slice_bounds-file-end : goal.slice_bounds-file-end
slice_bounds-file-end c =
    let w = was_read c.args.text.now c.args.nodes.now c.args.steps.now c.read.new.nodes c.read.new.steps c.args.out.now c.in-Ok.found.nodes c.in-Ok.found.steps (c.read.ensures ∙ ap (λ a. gave a c.read.new.nodes c.read.new.steps) c.in-Ok.is) in
    omega (arith, w.few-nodes, w.nodes)

pub slice_bounds-file-end-in-Ok : goal.slice_bounds-file-end-in-Ok
slice_bounds-file-end-in-Ok c =
    let w = was_read c.args.text.now c.args.nodes.now c.args.steps.now c.read.new.nodes c.read.new.steps c.args.out.now c.in-Ok.found.nodes c.in-Ok.found.steps (c.read.ensures ∙ ap (λ a. gave a c.read.new.nodes c.read.new.steps) c.in-Ok.is) in
    let l : 16 * c.in-Ok.found.nodes ≤ length c.read.new.nodes = omega (arith, w.few-nodes, w.nodes) in
    sym (length-take-le (16 * c.in-Ok.found.nodes) c.read.new.nodes l)

pub overflow_mul-found-in-Ok : goal.overflow_mul-found-in-Ok
overflow_mul-found-in-Ok c =
    let w = was_read c.args.text.now c.args.nodes.now c.args.steps.now c.read.new.nodes c.read.new.steps c.args.out.now c.in-Ok.found.nodes c.in-Ok.found.steps (c.read.ensures ∙ ap (λ a. gave a c.read.new.nodes c.read.new.steps) c.in-Ok.is) in
    omega (arith, w.few-steps, c.requires.1)

pub slice_bounds-file-end-in-Ok-2 : goal.slice_bounds-file-end-in-Ok-2
slice_bounds-file-end-in-Ok-2 c =
    let w = was_read c.args.text.now c.args.nodes.now c.args.steps.now c.read.new.nodes c.read.new.steps c.args.out.now c.in-Ok.found.nodes c.in-Ok.found.steps (c.read.ensures ∙ ap (λ a. gave a c.read.new.nodes c.read.new.steps) c.in-Ok.is) in
    omega (arith, w.few-steps, w.steps)

pub slice_bounds-file-end-in-Ok-3 : goal.slice_bounds-file-end-in-Ok-3
slice_bounds-file-end-in-Ok-3 c =
    let w = was_read c.args.text.now c.args.nodes.now c.args.steps.now c.read.new.nodes c.read.new.steps c.args.out.now c.in-Ok.found.nodes c.in-Ok.found.steps (c.read.ensures ∙ ap (λ a. gave a c.read.new.nodes c.read.new.steps) c.in-Ok.is) in
    let l : 12 * c.in-Ok.found.steps ≤ length c.read.new.steps = omega (arith, w.few-steps, w.steps) in
    sym (length-take-le (12 * c.in-Ok.found.steps) c.read.new.steps l)

pub returns-in-Ok : goal.returns-in-Ok
returns-in-Ok c =
    let w = was_read c.args.text.now c.args.nodes.now c.args.steps.now c.read.new.nodes c.read.new.steps c.args.out.now c.in-Ok.found.nodes c.in-Ok.found.steps (c.read.ensures ∙ ap (λ a. gave a c.read.new.nodes c.read.new.steps) c.in-Ok.is) in
    instead c.file.ensures w.says

pub returns-in-BadLine : goal.returns-in-BadLine
returns-in-BadLine c =
    let short = fault-in-short c.args.text.now c.in-BadLine.line in
    instead (as-message (line-tells c.in-BadLine.line (omega arith) c.requires.2 (fault_in c.args.text.now c.in-BadLine.line) (omega arith) c.bad_line.ensures))
    (was-bad c.args.text.now c.args.nodes.now c.args.steps.now c.read.new.nodes c.read.new.steps c.args.out.now c.in-BadLine.line (c.read.ensures ∙ ap (λ a. gave a c.read.new.nodes c.read.new.steps) (c.in-Err.is ∙ ap Err c.in-BadLine.is)))

pub returns-in-Short : goal.returns-in-Short
returns-in-Short c =
    instead (as-message (refused-tells (bare_fault 3) three-small c.requires.2 (named c.refuse.ensures (ap refusal c.bare.ensures))))
    (was-short c.args.text.now c.args.nodes.now c.args.steps.now c.read.new.nodes c.read.new.steps c.args.out.now c.requires.0 c.requires.1 (c.read.ensures ∙ ap (λ a. gave a c.read.new.nodes c.read.new.steps) (c.in-Err.is ∙ ap Err c.in-Short.is)))
