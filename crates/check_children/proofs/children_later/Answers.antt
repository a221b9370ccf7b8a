-- `children_later` meets its contract: a pair's two children, and no child of any other node.
use mathlib.Core.Path.{sym}
use Rattle.spec_policy.specs.Records.{node_at}
use Rattle.check_children.specs.Pair.{pair_of}
use Rattle.check_children.proofs.Counted.{later-pair, later-none}
use Rattle.check_children.proofs.children_later.Goals as goal

pub returns-in-Some : goal.returns-in-Some
unfolding pair_of
returns-in-Some c = sym (later-pair _ _ (node_at _ _) c.in-Some.ensures)

pub returns-in-None : goal.returns-in-None
unfolding pair_of
returns-in-None c = sym (later-none _ _ (node_at _ _) c.in-None.ensures)
