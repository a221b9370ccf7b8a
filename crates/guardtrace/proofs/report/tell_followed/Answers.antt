-- `tell_followed` meets its contract: two texts, for which there is room.
use native.Mathlib.Omega.{arith}
use borrow.Author.Rules.{rules}
use mathlib.Core.Path.{◌∙◌, ap}
use Rattle.spec_policy.specs.Records.{node_place}
use Rattle.spec_turns.specs.Status.{status_of}
use Rattle.spec_trace.specs.Tallies.{Tally}
use Rattle.text_append.proofs.AddedLaws.{joined, named, tells}
use Rattle.text_print.proofs.FileLaws.{has-front, few-nodes, after_front, in-file}
use Rattle.guardtrace.specs.Meaning.{stop_of}
use Rattle.guardtrace.proofs.ShownLaws.{followed-text, followed-less}
use Rattle.guardtrace.proofs.report.tell_followed.Goals as goal

pub nodes_of-requires : goal.nodes_of-requires
nodes_of-requires c = has-front c.args.policy.now c.requires.0

pub node_place-steps-requires : goal.node_place-steps-requires
node_place-steps-requires c = few-nodes c.args.policy.now c.requires.0 _ c.nodes_of.ensures.0

pub slice_bounds-print_tally-count : goal.slice_bounds-print_tally-count
slice_bounds-print_tally-count c = after_front c.args.policy.now c.requires.0 _ (c.node_place-steps.ensures ∙ ap node_place c.nodes_of.ensures.0)

pub slice_bounds-print_tally-start : goal.slice_bounds-print_tally-start
slice_bounds-print_tally-start c = after_front c.args.policy.now c.requires.0 _ (c.node_place-steps.ensures ∙ ap node_place c.nodes_of.ensures.0)

pub slice_bounds-print_tally-end : goal.slice_bounds-print_tally-end
slice_bounds-print_tally-end c = in-file c.args.policy.now c.requires.0 _ (c.node_place-steps.ensures ∙ ap node_place c.nodes_of.ensures.0)

pub slice_bounds-print_tally-count-2 : goal.slice_bounds-print_tally-count-2
slice_bounds-print_tally-count-2 c = in-file c.args.policy.now c.requires.0 _ (c.node_place-steps.ensures ∙ ap node_place c.nodes_of.ensures.0)

pub slice_bounds-print_tally-start-2 : goal.slice_bounds-print_tally-start-2
slice_bounds-print_tally-start-2 c = in-file c.args.policy.now c.requires.0 _ (c.node_place-steps.ensures ∙ ap node_place c.nodes_of.ensures.0)

pub returns : goal.returns
returns c =
    let t : Tally = record { steps = c.args.ran.now; actions = c.args.met.now } in
    let l = followed-less c.args.policy.now c.requires.0 (stop_of c.args.stop) c.args.judged c.args.events (status_of c.args.root) t (λ i. search rules) (λ i. search rules) (λ i. search rules) c.requires.1 (omega (arith, c.ranges.judged)) (omega (arith, c.ranges.events)) in
    tells (named (joined c.head-headed.ensures c.print_tally.ensures) (followed-text c.args.policy.now c.requires.0 (stop_of c.args.stop) c.args.judged c.args.events (status_of c.args.root) t _ (c.node_place-steps.ensures ∙ ap node_place c.nodes_of.ensures.0)))
    (omega (arith, l, c.requires.2))
