-- An enum is known by its meaning: no two values of a node's kind mean the same.
use mathlib.Core.Path.{◌≡◌, refl, sym, ap, ◌∙◌}
use Rattle.spec_policy.specs.Tree as tree
use Rattle.file_records.specs.declared.Way.{Way}
use Rattle.file_records.specs.declared.Way.TheVariants.{Parallel, Sequential}
use Rattle.file_records.specs.declared.Join.{Join}
use Rattle.file_records.specs.declared.Join.TheVariants.{And, Or}
use Rattle.file_records.specs.declared.Kind.{Kind}
use Rattle.file_records.specs.declared.Kind.TheVariants.{Leaf, Trivial, Unsatisfiable, Pair, Unknown}
use Rattle.file_records.specs.Kinds.{way_of, join_of, kind_of}

way_value : tree.Way → Way
way_value tree.parallel = Parallel
way_value tree.sequential = Sequential

join_value : tree.Join → Join
join_value tree.and = And
join_value tree.or = Or

kind_value : tree.NodeKind → Kind
kind_value tree.aLeaf = Leaf
kind_value tree.aTrivial = Trivial
kind_value tree.an_unsatisfiable = Unsatisfiable
kind_value (tree.aPair w j) = Pair (way_value w) (join_value j)
kind_value tree.no_node = Unknown

join-back : (j : Join) → join_value (join_of j) ≡ j
unfolding join_of join_value
join-back And = refl
join-back Or = refl

kind-back : (k : Kind) → kind_value (kind_of k) ≡ k
unfolding kind_of kind_value way_of way_value join_of join_value
kind-back Leaf = refl
kind-back Trivial = refl
kind-back Unsatisfiable = refl
kind-back (Pair Parallel And) = refl
kind-back (Pair Parallel Or) = refl
kind-back (Pair Sequential And) = refl
kind-back (Pair Sequential Or) = refl
kind-back Unknown = refl

pub one-join : (a b : Join) → join_of a ≡ join_of b → a ≡ b
one-join a b e = sym (join-back a) ∙ ap join_value e ∙ join-back b

pub one-kind : (a b : Kind) → kind_of a ≡ kind_of b → a ≡ b
one-kind a b e = sym (kind-back a) ∙ ap kind_value e ∙ kind-back b
