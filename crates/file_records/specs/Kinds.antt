-- What the code's enums stand for, case by case: document 01's kinds of nodes and of steps.
use Rattle.spec_policy.specs.Tree as tree
use Rattle.spec_policy.specs.Steps as steps
use Rattle.file_records.specs.declared.Way.{Way}
use Rattle.file_records.specs.declared.Way.TheVariants.{Parallel, Sequential}
use Rattle.file_records.specs.declared.Join.{Join}
use Rattle.file_records.specs.declared.Join.TheVariants.{And, Or}
use Rattle.file_records.specs.declared.Kind.{Kind}
use Rattle.file_records.specs.declared.Kind.TheVariants.{Leaf, Trivial, Unsatisfiable, Pair, Unknown}
use Rattle.file_records.specs.declared.Operand.{Operand}
use Rattle.file_records.specs.declared.Operand.TheVariants.{Action, Set, Amount}
use Rattle.file_records.specs.declared.Step.{Step}
use Rattle.file_records.specs.declared.Step.TheVariants.{Next, Ok, Sup, Ins, Acase, Spend, End, Halt}

unfoldable pub way_of : Way → tree.Way
way_of Parallel = tree.parallel
way_of Sequential = tree.sequential

unfoldable pub join_of : Join → tree.Join
join_of And = tree.and
join_of Or = tree.or

-- 1 leaf, 2 trivial, 3 unsatisfiable, 4 to 7 a pair; any other number is unknown
unfoldable pub kind_of : Kind → tree.NodeKind
unfolding way_of join_of
kind_of Leaf = tree.aLeaf
kind_of Trivial = tree.aTrivial
kind_of Unsatisfiable = tree.an_unsatisfiable
kind_of (Pair w j) = tree.aPair (way_of w) (join_of j)
kind_of Unknown = tree.no_node

-- A step with the operand of another kind of step stands for none: the reader makes no such value.
unfoldable pub ins_of : Operand → Prim.Native.Nat.ℕ → steps.Step
ins_of (Action a) t = steps.ins a t
ins_of (Set s) t = steps.halt
ins_of (Amount n) t = steps.halt

unfoldable pub acase_of : Operand → Prim.Native.Nat.ℕ → Prim.Native.Nat.ℕ → steps.Step
acase_of (Action a) y z = steps.halt
acase_of (Set s) y z = steps.acase s.bits y z
acase_of (Amount n) y z = steps.halt

unfoldable pub spend_of : Operand → Prim.Native.Nat.ℕ → Prim.Native.Nat.ℕ → steps.Step
spend_of (Action a) y z = steps.halt
spend_of (Set s) y z = steps.halt
spend_of (Amount n) y z = steps.spend n y z

unfoldable pub step_meant : Step → steps.Step
unfolding ins_of acase_of spend_of
step_meant (Next t d) = steps.next t d
step_meant (Ok t) = steps.ok t
step_meant (Sup t) = steps.sup t
step_meant (Ins x t) = ins_of x t
step_meant (Acase x y z) = acase_of x y z
step_meant (Spend x y z) = spend_of x y z
step_meant End = steps.end
step_meant Halt = steps.halt

-- the enum's value for a step, which is the one that the reader makes
unfoldable pub step_value : steps.Step → Step
step_value (steps.next t d) = Next t d
step_value (steps.ok t) = Ok t
step_value (steps.sup t) = Sup t
step_value (steps.ins a t) = Ins (Action a) t
step_value (steps.acase s y z) = Acase (Set (record { bits = s })) y z
step_value (steps.spend n y z) = Spend (Amount n) y z
step_value steps.end = End
step_value steps.halt = Halt
