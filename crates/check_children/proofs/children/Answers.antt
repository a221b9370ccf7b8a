-- `children` meets its contract: a pair's two children, and no child of any other node.
use Rattle.spec_policy.specs.Records.{node_at}
use Rattle.check_children.specs.Pair.{pair_of}
use Rattle.check_children.proofs.Counted.{pair-read, none-read}
use Rattle.check_children.proofs.children.Goals as goal
use mathlib.Core.Path.{◌∙◌}

pub returns-in-Pair : goal.returns-in-Pair
unfolding pair_of
returns-in-Pair c =
    pair-read (node_at _ _) c.in-Pair.is c.node_kind.ensures (c.from.ensures ∙ c.node_left.ensures) (c.from-in-Pair.ensures ∙ c.node_right.ensures)

pub returns-in_default : goal.returns-in_default
unfolding pair_of
returns-in_default c = none-read (node_at _ _) _ c.in_default.not-Pair c.node_kind.ensures
