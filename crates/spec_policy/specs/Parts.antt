-- Files written out: a file from its records, and for worked examples a leaf with its steps, and files of one, two and more nodes.
--
use Rattle.std.specs.Prelude.{ℕ, suc, ◌+◌, ◌*◌, ◌^◌, List, [], ◌∷◌, ◌++◌}
use Rattle.spec_policy.specs.Bytes.{Bytes, spell}
use Rattle.spec_policy.specs.Records.{front_size, node_size, step_size}

-- kind, left, right, step count, counter start, regulated set
unfoldable pub node : ℕ → ℕ → ℕ → ℕ → ℕ → ℕ → Bytes
node kind left right count start set = kind ∷ left ∷ right ∷ count ∷ (spell 4 start ++ spell 8 set)

-- kind, action, first target, second target, operand
unfoldable pub step : ℕ → ℕ → ℕ → ℕ → ℕ → Bytes
step kind action first second operand = kind ∷ action ∷ first ∷ second ∷ spell 8 operand

unfoldable pub next : ℕ → ℕ → Bytes
next t d = step 1 0 t d 0

unfoldable pub ok : ℕ → Bytes
ok t = step 2 0 t 0 0

unfoldable pub sup : ℕ → Bytes
sup t = step 3 0 t 0 0

unfoldable pub ins : ℕ → ℕ → Bytes
ins b t = step 4 b t 0 0

unfoldable pub acase : ℕ → ℕ → ℕ → Bytes
acase s y z = step 5 0 y z s

unfoldable pub spend : ℕ → ℕ → ℕ → Bytes
spend n y z = step 6 0 y z n

unfoldable pub end : Bytes
end = step 7 0 0 0 0

unfoldable pub halt : Bytes
halt = step 8 0 0 0 0

-- the set of the actions listed
unfoldable pub set_of : List ℕ → ℕ
set_of [] = 0
set_of (a ∷ bs) = 2 ^ a + set_of bs

-- length, version, the number of nodes and of steps, and then the records
unfoldable pub file : ℕ → ℕ → Bytes → Bytes
file n m body = spell 2 (front_size + node_size * n + step_size * m) ++ (1 ∷ n ∷ (spell 2 m ++ body))

-- a node with its steps
pub record Part : Type 0 where
  pub node : Bytes
  pub count : ℕ
  pub steps : Bytes

unfoldable pub joined : List Bytes → Bytes
joined [] = []
joined (s ∷ ss) = s ++ joined ss

unfoldable pub counted : List Bytes → ℕ
counted [] = 0
counted (s ∷ ss) = suc (counted ss)

-- a leaf: its set, its counter start, its steps
unfoldable pub leaf_of : List ℕ → ℕ → List Bytes → Part
leaf_of set start ss = record { node = node 1 0 0 (counted ss) start (set_of set); count = counted ss; steps = joined ss }

unfoldable pub top : Part
top = record { node = node 2 0 0 0 0 0; count = 0; steps = [] }

unfoldable pub bottom : Part
bottom = record { node = node 3 0 0 0 0 0; count = 0; steps = [] }

-- a node of the kind over two others, by their numbers
unfoldable pub pair_of : ℕ → ℕ → ℕ → Part
pair_of kind l r = record { node = node kind l r 0 0 0; count = 0; steps = [] }

unfoldable pub nodes_in : List Part → Bytes
nodes_in [] = []
nodes_in (p ∷ ps) = p.node ++ nodes_in ps

unfoldable pub steps_in : List Part → Bytes
steps_in [] = []
steps_in (p ∷ ps) = p.steps ++ steps_in ps

unfoldable pub nodes_of : List Part → ℕ
nodes_of [] = 0
nodes_of (p ∷ ps) = suc (nodes_of ps)

unfoldable pub steps_of : List Part → ℕ
steps_of [] = 0
steps_of (p ∷ ps) = p.count + steps_of ps

-- the nodes in order, from the root on
unfoldable pub file_of : List Part → Bytes
file_of ps = file (nodes_of ps) (steps_of ps) (nodes_in ps ++ steps_in ps)

unfoldable pub alone : Part → Bytes
alone p = file_of (p ∷ [])

-- two parts under a node of the kind
unfoldable pub pair : ℕ → Part → Part → Bytes
pair kind p q = file_of (pair_of kind 1 2 ∷ p ∷ q ∷ [])

-- ---- document 01, "Small policies to try"

-- "L: set {2}, counter 3; 0 next 1/4, 1 spend 1 2/3, 2 ok 0, 3 halt, 4 end."
unfoldable pub L : Part
L = leaf_of (2 ∷ []) 3 (next 1 4 ∷ spend 1 2 3 ∷ ok 0 ∷ halt ∷ end ∷ [])

-- "V: set {4}; 0 next 1/3, 1 sup 2, 2 ins 3 to 0, 3 ins 3 to 4, 4 end."
unfoldable pub «V» : Part
«V» = leaf_of (4 ∷ []) 0 (next 1 3 ∷ sup 2 ∷ ins 3 0 ∷ ins 3 4 ∷ end ∷ [])

-- "V': V with set {5} and inserting 6."
unfoldable pub V' : Part
V' = leaf_of (5 ∷ []) 0 (next 1 3 ∷ sup 2 ∷ ins 6 0 ∷ ins 6 4 ∷ end ∷ [])

-- "W: set {3}; 0 next 1/2, 1 sup 0, 2 end."
unfoldable pub W : Part
W = leaf_of (3 ∷ []) 0 (next 1 2 ∷ sup 0 ∷ end ∷ [])

-- It accepts the first action of 3 and 6, and suppresses what follows: "a right side that accepts only the first of 3 and 6".
unfoldable pub F : Part
F = leaf_of (3 ∷ 6 ∷ []) 0 (next 1 4 ∷ ok 2 ∷ next 3 4 ∷ sup 2 ∷ end ∷ [])

-- all of the above by one name
unfoldable pub built : Unit {0}
unfolding node step next ok sup ins acase spend end halt set_of file joined counted leaf_of top bottom pair_of nodes_in steps_in nodes_of steps_of file_of alone pair L «V» V' W F
built = tt
