-- `read` meets its contract: a bad line, a buffer too short, or all records.
use Rattle.std.proofs.lemmas.Result.{err_from_is_err_and}
use Rattle.text_measure.specs.Measures.{measured}
use Rattle.text_read.proofs.ReadLaws.{gave-bad, counts, short-nodes, short-steps, roomy-all, gave_read}
use Rattle.text_read.proofs.read.Goals as goal
use Rattle.text_read.proofs.read.Goals.{then-found-nodes-via-then-found-nodes, then-found-nodes-via-else-found-nodes+then-found-steps}

pub returns-in_err-found : goal.returns-in_err-found
unfolding measured
returns-in_err-found c =
    let p = err_from_is_err_and c.from_residual.result c.from_residual.ensures.1 in
    rw (p.1, p.2) (gave-bad c.args.text.now c.args.nodes.now c.args.steps.now c.in_err-found.field-0.0.0 c.in_err-found.ensures)

pub returns-then-found-nodes : goal.returns-then-found-nodes
unfolding measured
returns-then-found-nodes c =
    let f = c.in_ok-found.found in
    let k = counts c.args.text.now c.args.nodes.now c.args.steps.now f.nodes f.steps c.in_ok-found.ensures in
    elim c.then-found-nodes.branch [
      | then-found-nodes-via-then-found-nodes w ↦ short-nodes c.args.text.now c.args.nodes.now c.args.steps.now f.nodes f.steps k w.if-found-nodes.true
      | then-found-nodes-via-else-found-nodes+then-found-steps w ↦ short-steps c.args.text.now c.args.nodes.now c.args.steps.now f.nodes f.steps k w.if-found-steps.true
    ]

pub copy-requires : goal.copy-requires
unfolding measured
copy-requires c =
    let f = c.in_ok-found.found in
    let k = counts c.args.text.now c.args.nodes.now c.args.steps.now f.nodes f.steps c.in_ok-found.ensures in
    roomy-all c.args.text.now c.args.nodes.now c.args.steps.now f.nodes f.steps k c.if-found-nodes.false c.if-found-steps.false

pub returns : goal.returns
unfolding measured
returns c =
    let f = c.in_ok-found.found in
    let k = counts c.args.text.now c.args.nodes.now c.args.steps.now f.nodes f.steps c.in_ok-found.ensures in
    gave_read c.args.text.now c.args.nodes.now c.args.steps.now f.nodes f.steps k c.if-found-nodes.false c.if-found-steps.false _ _ c.copy.ensures
