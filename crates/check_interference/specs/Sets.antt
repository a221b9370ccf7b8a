-- What rule 9 may assume of the file, and the two sets of each node as the code keeps them: a list for each.
use Rattle.std.specs.Prelude.{ℕ, ◌≤◌, ◌<◌, ◌≡◌, Bool, true, false, ◌||◌, List, length, get_or}
use Rattle.actions.specs.Sets.{ActionSet, meets}
use Rattle.spec_policy.specs.Bytes.{Bytes}
use Rattle.spec_policy.specs.Records.{most_nodes}
use Rattle.spec_policy.specs.Tree.{Way, parallel, sequential, regulated}
use Rattle.spec_check.specs.Layout.{broken4}
use Rattle.spec_check.specs.Children.{broken5}
use Rattle.spec_check.specs.Targets.{broken6}
use Rattle.spec_check.specs.Interference.{effects}
use Rattle.spec_policy.specs.Tree.{tree_at}
use Rattle.check_layout.specs.Frame.{Framed}

-- rules 1 to 6 hold, so the nodes make a tree, and each leaf has its steps
pub record Treed (file : Bytes) (n m : ℕ) : Type 0 where
  pub frame : Framed file n m
  pub four : broken4 file ≡ false
  pub five : broken5 file ≡ false
  pub six : broken6 file ≡ false

-- a list with room for every node, which holds f of each node from node i on, of n nodes
pub record Filled {A : Type 0} (f : ℕ → A) (none : A) (i n : ℕ) (xs : List A) : Type 0 where
  pub room : length xs ≡ most_nodes
  pub at : (k : ℕ) → i ≤ k → k < n → get_or xs k none ≡ f k

-- the regulated and the effect set of each node's tree
abbrev pub RegulatedFrom : Bytes → ℕ → ℕ → List ActionSet → Type 0
RegulatedFrom file i n regs = Filled (λ k. regulated (tree_at file k)) 0 i n regs

abbrev pub EffectsFrom : Bytes → ℕ → ℕ → List ActionSet → Type 0
EffectsFrom file i n effs = Filled (λ k. effects (tree_at file k)) 0 i n effs

-- "for kinds 4 and 6": a sequential pair's sides may meet
unfoldable pub is_parallel : Way → Bool
is_parallel parallel = true
is_parallel sequential = false

-- what one of two nodes effects, the other regulates
unfoldable pub clash : List ActionSet → List ActionSet → ℕ → ℕ → Bool
clash regs effs l r = meets (get_or effs l 0) (get_or regs r 0) || meets (get_or effs r 0) (get_or regs l 0)
