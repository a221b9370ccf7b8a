-- What is found of the nodes before node i, with what is left.
use Prim.Native.Nat.{ℕ}
use mathlib.Core.Path.{◌≡◌}
use mathlib.Core.Bool.{Bool, true}
use mathlib.Core.List.{List, map}
use Rattle.spec_policy.specs.Bytes.{Bytes}
use Rattle.spec_policy.specs.Lists.{summed}
use Rattle.spec_policy.specs.Records.{nodes}
use Rattle.spec_policy.specs.Tree.{steps_owned}
use Rattle.check_layout.specs.Frame.{Framed}
use Rattle.check_layout.specs.Fits.{nodes_fit}
use Rattle.check_leaves.proofs.WalkLaws.{Walking}
use Rattle.check_leaves.proofs.walk_leaves.Given as goal

-- what is known of the file, and so of the loop's values
pub record Known (policy : Bytes) (n m i at : ℕ) (effects inserts : List ℕ) (modes taken : Bool) : Type 0 where
  pub frame : Framed policy n m
  pub fits : nodes_fit policy ≡ true
  pub all : summed (map steps_owned (nodes policy)) ≡ m
  pub so_far : Walking frame fits all i at effects inserts modes taken

abbrev pub invariant-loop-i : goal.invariant-loop-i
invariant-loop-i l = Known l.file.policy.now l.file.n l.file.m l.i l.at l.effects l.inserts l.modes l.taken
