-- The nodes of a file by number, and where the steps of each begin.
use Prim.Native.Nat.{ℕ, zero, suc, ◌+◌, ◌≤◌, ◌<◌}
use native.Mathlib.Nat.{le_of_suc-le-suc, not-suc-le-zero}
use native.Mathlib.Numerals.{add-one}
use native.Mathlib.Omega.{arith}
use mathlib.Core.Path.{◌≡◌, refl, ap, ◌∙◌}
use mathlib.Core.List.{List, [], ◌∷◌, map}
use lib.ListN.{length, get_or, take, drop}
use lib.Seq.{take_all, drop-drop}
use Rattle.spec_policy.specs.Bytes.{Bytes}
use Rattle.spec_policy.specs.Lists.{summed}
use Rattle.spec_policy.specs.Records.{Node, node_at, node_place, node_count, nodes, step_records}
use Rattle.spec_policy.specs.Steps.{Step, step_of}
use Rattle.spec_policy.specs.Tree.{steps_owned, first_step, no_node_steps, with_steps, nodes_with_steps}
use Rattle.spec_policy.proofs.ListLaws.{listed-length, listed_at}

-- what stands past the nodes of a list
abbrev pub no_n : Node
no_n = no_node_steps.node

pub nodes-length : (file : Bytes) → length (nodes file) ≡ node_count file
unfolding nodes
nodes-length file = listed-length (λ i. node_at file (node_place i)) 0 (node_count file)

pub node_of : (file : Bytes) (i : ℕ) → i < node_count file → get_or (nodes file) i no_n ≡ node_at file (node_place i)
unfolding nodes
node_of file i h = listed_at (λ i. node_at file (node_place i)) 0 (node_count file) no_n i h ∙ ap (λ (k : ℕ). node_at file (node_place k)) (omega arith)

-- ---- over plain lists

abbrev before : List Node → ℕ → ℕ
before xs i = summed (map steps_owned (take i xs))

before-next : (xs : List Node) (i : ℕ) → i < length xs → before xs (suc i) ≡ before xs i + steps_owned (get_or xs i no_n)
unfolding summed
before-next [] i h = absurd (not-suc-le-zero h)
before-next (x ∷ xs) zero h = omega arith
before-next (x ∷ xs) (suc i) h = let e : before xs (suc i) ≡ before xs i + steps_owned (get_or xs i no_n) = before-next xs i (le_of_suc-le-suc h) in omega arith

before-in : (xs : List Node) (i : ℕ) → i < length xs → before xs i + steps_owned (get_or xs i no_n) ≤ summed (map steps_owned xs)
unfolding summed
before-in [] i h = absurd (not-suc-le-zero h)
before-in (x ∷ xs) zero h = omega arith
before-in (x ∷ xs) (suc i) h = let e : before xs i + steps_owned (get_or xs i no_n) ≤ summed (map steps_owned xs) = before-in xs i (le_of_suc-le-suc h) in omega arith

placed-steps : (xs : List Node) (ss : List Step) (i : ℕ) → i < length xs
    → (get_or (with_steps xs ss) i no_node_steps).steps ≡ take (steps_owned (get_or xs i no_n)) (drop (before xs i) ss)
unfolding with_steps summed
placed-steps [] ss i h = absurd (not-suc-le-zero h)
placed-steps (x ∷ xs) ss zero h = refl
placed-steps (x ∷ xs) ss (suc i) h =
    placed-steps xs (drop (steps_owned x) ss) i (le_of_suc-le-suc h)
    ∙ ap (λ (l : List Step). take (steps_owned (get_or xs i no_n)) l) (drop-drop (before xs i) (steps_owned x) ss)

-- ---- over a file

pub first-none : (file : Bytes) → first_step file 0 ≡ 0
unfolding first_step summed
first-none file = refl

-- once past the last node, all that the nodes own
pub first-over : (file : Bytes) (i : ℕ) → node_count file ≤ i → first_step file i ≡ summed (map steps_owned (nodes file))
unfolding first_step
first-over file i h = ap (λ (xs : List Node). summed (map steps_owned xs)) (take_all i (nodes file) (omega (arith, nodes-length file)))

module _ (file : Bytes) (i : ℕ) (h : i < node_count file) where
  inside : i < length (nodes file)
  inside = omega (arith, nodes-length file)

  pub first_next : first_step file (i + 1) ≡ first_step file i + steps_owned (node_at file (node_place i))
  unfolding first_step
  first_next =
      ap (before (nodes file)) (add-one i) ∙ before-next (nodes file) i inside ∙ ap (λ (x : Node). before (nodes file) i + steps_owned x) (node_of file i h)

  pub first-in : first_step file i + steps_owned (node_at file (node_place i)) ≤ summed (map steps_owned (nodes file))
  unfolding first_step
  first-in = omega (arith, before-in (nodes file) i inside, ap steps_owned (node_of file i h))

  -- node i's steps, in the list of all
  pub steps_of : (get_or (nodes_with_steps file) i no_node_steps).steps ≡ take (steps_owned (node_at file (node_place i))) (drop (first_step file i) (map step_of (step_records file)))
  unfolding nodes_with_steps first_step
  steps_of =
      placed-steps (nodes file) (map step_of (step_records file)) i inside
      ∙ ap (λ (x : Node). take (steps_owned x) (drop (before (nodes file) i) (map step_of (step_records file)))) (node_of file i h)
