-- What a passed policy is, as the turn rules use it: the facts that rules 4 to 9 give of every leaf and of every pair of sides.
--
use Rattle.std.specs.Prelude.{ℕ, ◌<◌, ◌≡◌, ◌⊎◌, Bool, true, false, ◌||◌, not, List, [], ◌∷◌, T, eqb, length, get_or}
use Rattle.actions.specs.Sets.{Action, ActionSet, has, meets}
use Rattle.spec_policy.specs.Steps.{Step, next, ok, sup, ins, acase, spend, end, halt, targets, is_next}
use Rattle.spec_policy.specs.Tree.{Way, parallel, sequential, Tree, leaf, trivial, unsatisfiable, node, regulated}
use Rattle.spec_check.specs.Modes.{Mode, idle, pending, closing, reached_by, marks}
use Rattle.spec_check.specs.Possible.{possible_at}
use Rattle.spec_check.specs.Interference.{leaf_effects, effects}

-- ---- a leaf

-- the mode pass marks offset o as reached in mode m
unfoldable pub reached_in : List Step → Mode → ℕ → Bool
reached_in code m o = reached_by (marks code) m o (get_or code o halt)

-- every action of s is one of t
unfoldable pub Sub : ActionSet → ActionSet → Type 0
Sub s t = (a : Action) → T (has s a) → T (has t a)

-- Rules 7 and 8 of the step at offset o, reached in mode m, of a leaf that regulates r: it may stand there, its targets are reached,
-- and their possible actions have what it passes on. What it inserts or suppresses is in the leaf's effect set.
unfoldable pub Follows : ActionSet → List Step → Mode → ℕ → Step → Type 0
Follows r code m o (next t d) = (m ≡ idle) × T (reached_in code pending t) × T (reached_in code closing d) × Sub r (possible_at r code t)
Follows r code m o (ok t) = (m ≡ pending) × T (reached_in code idle t)
Follows r code m o (sup t) = (m ≡ pending) × T (reached_in code idle t) × Sub (possible_at r code o) (leaf_effects r code)
Follows r code m o (ins b t) = T (reached_in code m t) × Sub (possible_at r code o) (possible_at r code t) × T (has (leaf_effects r code) b)
Follows r code m o (acase s y z) =
    (m ≡ pending) × T (reached_in code m y) × T (reached_in code m z)
    × ((a : Action) → T (has (possible_at r code o) a) → has s a ≡ true → T (has (possible_at r code y) a))
    × ((a : Action) → T (has (possible_at r code o) a) → has s a ≡ false → T (has (possible_at r code z) a))
Follows r code m o (spend n y z) =
    T (reached_in code m y) × T (reached_in code m z) × Sub (possible_at r code o) (possible_at r code y) × Sub (possible_at r code o) (possible_at r code z)
Follows r code m o end = Unit {0}
Follows r code m o halt = Unit {0}

-- rule 6: the target t of the step at o is later than it, or is a next
unfoldable pub Ahead : List Step → ℕ → ℕ → Type 0
Ahead code o t = (o < t) ⊎ T (is_next (get_or code t halt))

-- each of these targets is
unfoldable pub AllAhead : List Step → ℕ → List ℕ → Type 0
AllAhead code o [] = Unit {0}
AllAhead code o (t ∷ ts) = Ahead code o t × AllAhead code o ts

-- every target is in the leaf
unfoldable pub Inside : ℕ → List ℕ → Type 0
Inside n [] = Unit {0}
Inside n (t ∷ ts) = (t < n) × Inside n ts

-- each target of each step is
unfoldable pub Forward : List Step → Type 0
Forward code = (o : ℕ) → AllAhead code o (targets (get_or code o halt))

-- a leaf that rules 6 to 8 let pass: it begins idle, each step that is reached may stand where it does, and targets lie ahead and inside
pub record LawfulLeaf (r : ActionSet) (code : List Step) : Type 0 where
  pub first : T (reached_in code idle 0)
  pub flow : (m : Mode) (o : ℕ) → T (reached_in code m o) → Follows r code m o (get_or code o halt)
  pub forward : Forward code
  pub inside : (o : ℕ) → Inside (length code) (targets (get_or code o halt))

-- ---- a tree

-- n is the number of one of the tree's nodes
unfoldable pub holds : Tree → ℕ → Bool
holds (leaf i r c code) n = eqb i n
holds (trivial i) n = eqb i n
holds (unsatisfiable i) n = eqb i n
holds (node w j i l r) n = eqb i n || (holds l n || holds r n)

-- no number is that of a node on either side
unfoldable pub Disjoint : (ℕ → Bool) → (ℕ → Bool) → Type 0
Disjoint p q = (n : ℕ) → (p n ≡ false) ⊎ (q n ≡ false)

-- from rule 5, of node i with sides l and r: the sides share no number, and neither has i
pub record Numbered (i : ℕ) (l r : Tree) : Type 0 where
  pub sides : Disjoint (holds l) (holds r)
  pub not_left : holds l i ≡ false
  pub not_right : holds r i ≡ false

-- rule 9: of parallel sides neither affects an action that the other regulates
unfoldable pub Spared : Way → Tree → Tree → Type 0
Spared parallel l r = T (not (meets (effects l) (regulated r))) × T (not (meets (effects r) (regulated l)))
Spared sequential l r = Unit {0}

-- all of this, of every leaf and every pair of sides
unfoldable pub Lawful : Tree → Type 0
Lawful (leaf i r c code) = LawfulLeaf r code
Lawful (trivial i) = Unit {0}
Lawful (unsatisfiable i) = Unit {0}
Lawful (node w j i l r) = Lawful l × Lawful r × Spared w l r × Numbered i l r
