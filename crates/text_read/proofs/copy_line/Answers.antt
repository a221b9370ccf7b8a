-- `copy_line` meets its contract: a node, a step, or nothing.
use native.Mathlib.Omega.{arith}
use mathlib.Core.Path.{sym, ap, subst, ◌∙◌}
use Prim.Native.Nat.{ℕ, ◌*◌}
use lib.ListN.{length, drop}
use Rattle.spec_policy.specs.Bytes.{put}
use Rattle.spec_text.specs.Forms.{node, step, size, record_of}
use Rattle.spec_text.specs.Reading.{read_lines}
use Rattle.spec_text.proofs.RecordLaws.{record-size}
use Rattle.text_line.specs.Lines.{line_meant, InTable}
use Rattle.text_read.specs.Written.{BytesFirst}
use Rattle.text_read.proofs.CopyLaws.{node-room, few-steps, node-copied, step-room, step-copied, other-copied, roomy_as, copied_as}
use Rattle.text_read.proofs.copy_line.Goals as goal

pub lead-requires : goal.lead-requires
lead-requires c = omega (arith, c.requires.inside)

pub node_bytes-record-requires : goal.node_bytes-record-requires
unfolding line_meant
node_bytes-record-requires c =
    let b = subst BytesFirst c.in-Record.is c.requires.bytes in
    (b 0 (omega arith), b 1 (omega arith), b 2 (omega arith), omega (arith, c.lead.ensures, few-steps c.in-Record.form c.in-Record.fields (read_lines (drop c.args.next c.args.text.now)) c.args.p.nodes c.args.p.steps c.args.nodes.now c.args.steps.now (roomy_as c.args.line c.requires.roomy (ap line_meant c.in-Record.is)) c.if-form-lt-NODE_FORMS.true))

pub overflow_mul-p : goal.overflow_mul-p
unfolding line_meant
overflow_mul-p c = omega (arith, node-room c.in-Record.form c.in-Record.fields (read_lines (drop c.args.next c.args.text.now)) c.args.p.nodes c.args.p.steps c.args.nodes.now c.args.steps.now (roomy_as c.args.line c.requires.roomy (ap line_meant c.in-Record.is)) c.if-form-lt-NODE_FORMS.true)

pub slice_bounds-store-end : goal.slice_bounds-store-end
unfolding size
slice_bounds-store-end c = sym (ap length c.node_bytes-record.ensures ∙ record-size node _ _)

pub store-requires : goal.store-requires
unfolding line_meant
store-requires c = omega (arith, node-room c.in-Record.form c.in-Record.fields (read_lines (drop c.args.next c.args.text.now)) c.args.p.nodes c.args.p.steps c.args.nodes.now c.args.steps.now (roomy_as c.args.line c.requires.roomy (ap line_meant c.in-Record.is)) c.if-form-lt-NODE_FORMS.true)

pub overflow_add-result : goal.overflow_add-result
unfolding line_meant
overflow_add-result c = omega (arith, node-room c.in-Record.form c.in-Record.fields (read_lines (drop c.args.next c.args.text.now)) c.args.p.nodes c.args.p.steps c.args.nodes.now c.args.steps.now (roomy_as c.args.line c.requires.roomy (ap line_meant c.in-Record.is)) c.if-form-lt-NODE_FORMS.true)

pub shape_of-nodes-then-form-lt-NODE_FORMS : goal.shape_of-nodes-then-form-lt-NODE_FORMS
shape_of-nodes-then-form-lt-NODE_FORMS c = c.store.auto.buffer

pub returns-then-form-lt-NODE_FORMS : goal.returns-then-form-lt-NODE_FORMS
unfolding line_meant
returns-then-form-lt-NODE_FORMS c =
    copied_as c.args.line
    (node-copied c.in-Record.form c.in-Record.fields (read_lines (drop c.args.next c.args.text.now)) c.args.p.nodes c.args.p.steps c.args.nodes.now c.args.steps.now (roomy_as c.args.line c.requires.roomy (ap line_meant c.in-Record.is)) c.if-form-lt-NODE_FORMS.true _
    (c.store.ensures ∙ ap (put c.args.nodes.now (16 * c.args.p.nodes)) (c.node_bytes-record.ensures ∙ ap (λ (k : ℕ). record_of node k c.in-Record.fields) c.lead.ensures)))
    (ap line_meant c.in-Record.is)

pub step_bytes-record-requires : goal.step_bytes-record-requires
step_bytes-record-requires c =
    let b = subst BytesFirst c.in-Record.is c.requires.bytes in
    (b 0 (omega arith), b 1 (omega arith), b 2 (omega arith), b 3 (omega arith))

pub overflow_mul-p-2 : goal.overflow_mul-p-2
unfolding line_meant
overflow_mul-p-2 c = omega (arith, step-room c.in-Record.form c.in-Record.fields (read_lines (drop c.args.next c.args.text.now)) c.args.p.nodes c.args.p.steps c.args.nodes.now c.args.steps.now (roomy_as c.args.line c.requires.roomy (ap line_meant c.in-Record.is)) c.if-form-lt-NODE_FORMS.false (subst InTable c.in-Record.is c.requires.in_table))

pub slice_bounds-store-end-2 : goal.slice_bounds-store-end-2
unfolding size
slice_bounds-store-end-2 c = sym (ap length c.step_bytes-record.ensures ∙ record-size step 0 _)

pub store-requires-2 : goal.store-requires-2
unfolding line_meant
store-requires-2 c = omega (arith, step-room c.in-Record.form c.in-Record.fields (read_lines (drop c.args.next c.args.text.now)) c.args.p.nodes c.args.p.steps c.args.nodes.now c.args.steps.now (roomy_as c.args.line c.requires.roomy (ap line_meant c.in-Record.is)) c.if-form-lt-NODE_FORMS.false (subst InTable c.in-Record.is c.requires.in_table))

pub overflow_add-result-2 : goal.overflow_add-result-2
unfolding line_meant
overflow_add-result-2 c = omega (arith, step-room c.in-Record.form c.in-Record.fields (read_lines (drop c.args.next c.args.text.now)) c.args.p.nodes c.args.p.steps c.args.nodes.now c.args.steps.now (roomy_as c.args.line c.requires.roomy (ap line_meant c.in-Record.is)) c.if-form-lt-NODE_FORMS.false (subst InTable c.in-Record.is c.requires.in_table))

pub returns : goal.returns
unfolding line_meant
returns c =
    copied_as c.args.line
    (step-copied c.in-Record.form c.in-Record.fields (read_lines (drop c.args.next c.args.text.now)) c.args.p.nodes c.args.p.steps c.args.nodes.now c.args.steps.now (roomy_as c.args.line c.requires.roomy (ap line_meant c.in-Record.is)) c.if-form-lt-NODE_FORMS.false (subst InTable c.in-Record.is c.requires.in_table) _
    (c.store-2.ensures ∙ ap (put c.args.steps.now (12 * c.args.p.steps)) c.step_bytes-record.ensures))
    (ap line_meant c.in-Record.is)

pub returns-in_default : goal.returns-in_default
returns-in_default c = other-copied c.args.line c.in_default.not-Record _ _ _ _ _ c.requires.roomy
