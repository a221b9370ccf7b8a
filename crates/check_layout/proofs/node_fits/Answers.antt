-- `node_fits` meets its contract: with its fields read and its kind known, a node's test is the arm's.
use mathlib.Core.Path.{sym, ap, ◌∙◌}
use mathlib.Core.Logic.{⊎_elim}
use Rattle.actions.specs.Sets.{is_empty}
use Rattle.file_records.specs.Kinds.{kind_of}
use Rattle.spec_check.specs.Layout.{node_fits}
use Rattle.check_layout.proofs.Fields.{node-read}
use Rattle.check_layout.proofs.node_fits.Goals as goal

pub returns-in-Leaf : goal.returns-in-Leaf
unfolding node_fits kind_of is_empty
returns-in-Leaf c =
    rw c.is_empty-no_set.ensures (node-read _ _ _ _ _ _ _ c.in-Leaf.ensures c.node_left-no_left.ensures c.node_right-no_right.ensures (c.from-count.ensures ∙ c.node_count.ensures) c.node_start-no_start.ensures.0 c.node_set.ensures)

pub returns-in-Trivial : goal.returns-in-Trivial
unfolding node_fits kind_of is_empty
returns-in-Trivial c =
    ⊎_elim
    (λ e. rw c.is_empty-no_set.ensures (node-read _ _ _ _ _ _ _ (sym (ap kind_of e) ∙ c.node_kind.ensures) c.node_left-no_left.ensures c.node_right-no_right.ensures (c.from-count.ensures ∙ c.node_count.ensures) c.node_start-no_start.ensures.0 c.node_set.ensures))
    (λ e. rw c.is_empty-no_set.ensures (node-read _ _ _ _ _ _ _ (sym (ap kind_of e) ∙ c.node_kind.ensures) c.node_left-no_left.ensures c.node_right-no_right.ensures (c.from-count.ensures ∙ c.node_count.ensures) c.node_start-no_start.ensures.0 c.node_set.ensures))
    c.in-Trivial.is

pub returns-in-Pair : goal.returns-in-Pair
unfolding node_fits kind_of is_empty
returns-in-Pair c =
    rw c.is_empty-no_set.ensures (node-read _ _ _ _ _ _ _ c.in-Pair.ensures c.node_left-no_left.ensures c.node_right-no_right.ensures (c.from-count.ensures ∙ c.node_count.ensures) c.node_start-no_start.ensures.0 c.node_set.ensures)

pub returns-in-Unknown : goal.returns-in-Unknown
unfolding node_fits kind_of
returns-in-Unknown c =
    node-read _ _ _ _ _ _ _ c.in-Unknown.ensures c.node_left-no_left.ensures c.node_right-no_right.ensures (c.from-count.ensures ∙ c.node_count.ensures) c.node_start-no_start.ensures.0 c.node_set.ensures
