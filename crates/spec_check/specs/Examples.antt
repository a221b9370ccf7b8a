-- The check on small files: each clause of each rule, just kept and just broken, and which record is told. A list for each rule, one statement over
-- all.
use Rattle.std.specs.Prelude.{ℕ, zero, suc, ◌+◌, ◌*◌, ◌^◌, ◌≡◌, List, [], ◌∷◌, ◌++◌, map, replicate}
use Rattle.spec_policy.specs.Bytes.{Bytes}
use Rattle.spec_policy.specs.Parts.{node, step, next, ok, sup, ins, acase, spend, end, halt, file, Part, leaf_of, top, bottom, pair_of, file_of, alone, pair, «V», W, built}
use Rattle.spec_policy.specs.Spots.{bare_fault, fault_on}
use Rattle.spec_check.specs.Check.{Answer, passes, refused, check}

pub record Example : Type 0 where
  pub file : Bytes
  pub answer : Answer

-- a file that is refused by number alone
bare : ℕ → Bytes → Example
bare n f = record { file = f; answer = refused (bare_fault n) }

-- `refused n at p`
off : ℕ → ℕ → Bytes → Example
off n p f = record { file = f; answer = refused (fault_on n p) }

-- a leaf on {1} with these steps, alone in its file
one : List Bytes → Bytes
unfolding built
one ss = alone (leaf_of (1 ∷ []) 0 ss)

-- the same with one step
lone : Bytes → Bytes
unfolding one
lone s = one (s ∷ [])

-- a leaf on {0, 1} with these steps, alone in its file
two : List Bytes → Bytes
unfolding built
two ss = alone (leaf_of (0 ∷ 1 ∷ []) 0 ss)

-- offsets o to o + k - 1 insert 0, each going to the next offset; then end
inserting : ℕ → ℕ → List Bytes
unfolding built
inserting o zero = end ∷ []
inserting o (suc k) = ins 0 (suc o) ∷ inserting (suc o) k

-- a leaf on {1} with k ins steps
wide : ℕ → Part
unfolding inserting
wide k = leaf_of (1 ∷ []) 0 (next 1 2 ∷ ok 0 ∷ inserting 2 k)

-- a leaf's node record, with these fields for left, right, count and set, before one end step
plain : ℕ → ℕ → ℕ → ℕ → Bytes
unfolding built
plain l r n s = file 1 1 (node 1 l r n 7 s ++ end)

front : List Example
unfolding lone bare off built
front =
    -- 1
    bare 1 []
    ∷ bare 1 (0 ∷ 5 ∷ 1 ∷ 1 ∷ 0 ∷ [])
    ∷ bare 1 (lone end ++ (0 ∷ []))
    -- 2
    ∷ bare 2 (0 ∷ 6 ∷ 2 ∷ 0 ∷ 0 ∷ 0 ∷ [])
    -- 3: no node; 31 nodes and 32; 512 steps and 513; a record too few
    ∷ bare 3 (0 ∷ 6 ∷ 1 ∷ 0 ∷ 0 ∷ 0 ∷ [])
    ∷ off 4 0 (file 31 0 (replicate (16 * 31) 0))
    ∷ bare 3 (file 32 0 (replicate (16 * 32) 0))
    ∷ off 4 0 (file 1 512 (replicate (16 + 12 * 512) 0))
    ∷ bare 3 (file 1 513 (replicate (16 + 12 * 513) 0))
    ∷ bare 3 (0 ∷ 22 ∷ 1 ∷ 1 ∷ 0 ∷ 1 ∷ replicate 16 0)
    ∷ []

-- 4: nodes of kinds that are none, or with a field that their kind does not use
bad_nodes : List Bytes
unfolding built
bad_nodes =
    node 0 0 0 0 0 0 ∷ node 8 0 0 0 0 0
    ∷ node 2 1 0 0 0 0 ∷ node 2 0 1 0 0 0 ∷ node 2 0 0 1 0 0 ∷ node 2 0 0 0 1 0 ∷ node 2 0 0 0 0 1
    ∷ node 3 1 0 0 0 0 ∷ node 3 0 1 0 0 0 ∷ node 3 0 0 1 0 0 ∷ node 3 0 0 0 1 0 ∷ node 3 0 0 0 0 1
    ∷ node 4 0 0 1 0 0 ∷ node 4 0 0 0 1 0 ∷ node 4 0 0 0 0 1
    ∷ []

-- each is node 0 of its file; a leaf's counter start is free
fields : List Example
unfolding plain bad_nodes off built
fields =
    record { file = plain 0 0 1 2; answer = passes 2 0 }
    ∷ off 4 0 (plain 1 0 1 2)
    ∷ off 4 0 (plain 0 1 1 2)
    ∷ off 4 0 (plain 0 0 0 2)
    ∷ off 4 0 (plain 0 0 65 2)
    ∷ off 6 0 (plain 0 0 64 2)
    ∷ off 4 0 (plain 0 0 1 0)
    ∷ record { file = file 1 0 (node 2 0 0 0 0 0); answer = passes 0 0 }
    ∷ record { file = file 1 0 (node 3 0 0 0 0 0); answer = passes 0 0 }
    ∷ off 5 0 (file 1 0 (node 4 0 0 0 0 0))
    ∷ map (λ x. off 4 0 (file 1 0 x)) bad_nodes

-- 4: steps, likewise
bad_steps : List Bytes
unfolding built
bad_steps =
    step 0 0 0 0 0 ∷ step 9 0 0 0 0
    ∷ step 1 1 0 0 0 ∷ step 1 0 0 0 1
    ∷ step 2 1 0 0 0 ∷ step 2 0 0 1 0 ∷ step 2 0 0 0 1
    ∷ step 3 1 0 0 0 ∷ step 3 0 0 1 0 ∷ step 3 0 0 0 1
    ∷ step 4 0 0 1 0 ∷ step 4 0 0 0 1
    ∷ step 5 1 0 0 0
    ∷ step 6 1 0 0 0
    ∷ step 7 1 0 0 0 ∷ step 7 0 1 0 0 ∷ step 7 0 0 1 0 ∷ step 7 0 0 0 1
    ∷ step 8 1 0 0 0 ∷ step 8 0 1 0 0 ∷ step 8 0 0 1 0 ∷ step 8 0 0 0 1
    ∷ []

-- each is step 0 of a file with one node: record 1
operands : List Example
unfolding one lone bad_steps off built
operands =
    record { file = one (ins 63 1 ∷ end ∷ []); answer = passes 2 (2 ^ 63) }
    ∷ off 4 1 (one (ins 64 1 ∷ end ∷ []))
    ∷ record { file = one (spend 4_294_967_295 1 1 ∷ end ∷ []); answer = passes 2 0 }
    ∷ off 4 1 (one (spend 4_294_967_296 1 1 ∷ end ∷ []))
    ∷ map (λ x. off 4 1 (lone x)) bad_steps

-- 4: "nodes come before steps, and step i counts as n + i."
layouts : List Example
unfolding one off built
layouts =
    -- node 2 of three; step 1 of a file with three nodes
    off 4 2 (file_of (pair_of 4 1 2 ∷ top ∷ record { node = node 3 0 0 0 1 0; count = 0; steps = [] } ∷ []))
    ∷ off 4 4 (pair 4 top (leaf_of (1 ∷ []) 0 (end ∷ step 9 0 0 0 0 ∷ [])))
    -- node 2 before step 0; the lower of two nodes, and of two steps
    ∷ off 4 2 (pair 4 (leaf_of (1 ∷ []) 0 (step 9 0 0 0 0 ∷ [])) (record { node = node 2 1 0 0 0 0; count = 0; steps = [] }))
    ∷ off 4 1 (file 3 0 (node 4 1 2 0 0 0 ++ (node 2 1 0 0 0 0 ++ node 2 1 0 0 0 0)))
    ∷ off 4 2 (one (end ∷ step 9 0 0 0 0 ∷ step 9 0 0 0 0 ∷ []))
    ∷ []

-- 5: a child that is its parent, that is n, twice a child, never a child
children : List Example
unfolding off built
children =
    record { file = pair 4 top bottom; answer = passes 0 0 }
    ∷ off 5 0 (file_of (pair_of 4 0 1 ∷ top ∷ []))
    ∷ off 5 0 (file_of (pair_of 4 1 0 ∷ top ∷ []))
    ∷ off 5 0 (file_of (pair_of 4 2 1 ∷ top ∷ []))
    ∷ off 5 0 (file_of (pair_of 4 1 2 ∷ top ∷ []))
    ∷ off 5 1 (file_of (pair_of 4 1 1 ∷ top ∷ []))
    ∷ off 5 3 (file_of (pair_of 4 1 2 ∷ top ∷ top ∷ top ∷ []))
    -- node 2 names 1 once more, which is no later than 2: node 1 is lower than 2
    ∷ off 5 1 (file_of (pair_of 4 1 2 ∷ top ∷ pair_of 4 1 3 ∷ top ∷ []))
    -- a bad naming counts too: 2 is named twice, once by 3, which has bad children
    ∷ off 5 2 (file_of (pair_of 4 1 2 ∷ top ∷ top ∷ pair_of 4 2 9 ∷ []))
    -- 2 has a bad child, itself; 3 is no child
    ∷ off 5 2 (file_of (pair_of 4 1 2 ∷ top ∷ pair_of 4 2 4 ∷ top ∷ top ∷ []))
    -- 3 has bad children, 1 among them, which so is a child once
    ∷ off 5 3 (file_of (pair_of 4 2 3 ∷ top ∷ top ∷ pair_of 4 3 1 ∷ []))
    ∷ []

-- 6: leaves on {1}
bad_targets : List Example
unfolding one off built
bad_targets =
    -- an acase set outside the leaf's
    off 6 1 (one (next 1 3 ∷ acase 4 2 2 ∷ ok 0 ∷ end ∷ []))
    -- each kind's targets outside the leaf
    ∷ off 6 0 (one (next 3 1 ∷ end ∷ []))
    ∷ off 6 0 (one (next 1 3 ∷ ok 0 ∷ end ∷ []))
    ∷ off 6 1 (one (next 1 2 ∷ ok 3 ∷ end ∷ []))
    ∷ off 6 1 (one (next 1 2 ∷ sup 3 ∷ end ∷ []))
    ∷ off 6 0 (one (ins 0 2 ∷ end ∷ []))
    ∷ off 6 1 (one (next 1 3 ∷ acase 2 4 2 ∷ ok 0 ∷ end ∷ []))
    ∷ off 6 1 (one (next 1 3 ∷ acase 2 2 4 ∷ ok 0 ∷ end ∷ []))
    ∷ off 6 0 (one (spend 1 2 1 ∷ end ∷ []))
    ∷ off 6 0 (one (spend 1 1 2 ∷ end ∷ []))
    -- each back to a step that is no next; one at itself
    ∷ off 6 1 (one (end ∷ next 0 2 ∷ end ∷ []))
    ∷ off 6 1 (one (end ∷ next 2 0 ∷ ok 1 ∷ end ∷ []))
    ∷ off 6 2 (one (next 2 3 ∷ end ∷ ok 1 ∷ end ∷ []))
    ∷ off 6 2 (one (next 2 3 ∷ end ∷ sup 1 ∷ end ∷ []))
    ∷ off 6 2 (one (ins 0 2 ∷ end ∷ ins 0 1 ∷ []))
    ∷ off 6 2 (one (next 2 4 ∷ ok 0 ∷ acase 2 1 3 ∷ ok 0 ∷ end ∷ []))
    ∷ off 6 2 (one (next 2 4 ∷ ok 0 ∷ acase 2 3 1 ∷ ok 0 ∷ end ∷ []))
    ∷ off 6 1 (one (ins 0 1 ∷ spend 1 0 2 ∷ end ∷ []))
    ∷ off 6 1 (one (ins 0 1 ∷ spend 1 2 0 ∷ end ∷ []))
    ∷ off 6 0 (one (spend 1 0 1 ∷ end ∷ []))
    ∷ []

-- and the sum. "Steps are numbered over the whole file"; nodes are not counted.
targets : List Example
unfolding bad_targets off built
targets =
    off 6 0 (file 1 2 (node 1 0 0 1 0 2 ++ (end ++ end)))
    -- a wrong sum is 0, though step 1 has a bad target
    ∷ off 6 0 (file 1 3 (node 1 0 0 2 0 2 ++ (end ++ (ins 0 9 ++ end))))
    -- step 1 of the second leaf, after the three of W
    ∷ off 6 4 (pair 4 W (leaf_of (1 ∷ []) 0 (next 1 3 ∷ ok 4 ∷ end ∷ end ∷ [])))
    -- in both leaves
    ∷ off 6 1 (pair 4 (leaf_of (1 ∷ []) 0 (end ∷ ins 0 2 ∷ [])) (leaf_of (1 ∷ []) 0 (ins 0 1 ∷ [])))
    -- step 1 breaks rule 7, which does not matter
    ∷ off 6 4 (pair 4 (leaf_of (1 ∷ []) 0 (end ∷ end ∷ [])) (leaf_of (1 ∷ []) 0 (end ∷ end ∷ ins 0 3 ∷ [])))
    ∷ bad_targets

-- 7: leaves on {1}
good_modes : List (List Bytes)
unfolding built
good_modes =
    -- a next that nothing leads to counts as reached
    (end ∷ next 2 3 ∷ ok 1 ∷ end ∷ [])
    -- an ok leads to idle, here to an end
    ∷ (next 1 3 ∷ ok 2 ∷ end ∷ end ∷ [])
    -- spend and halt stand in any mode, as end does
    ∷ (spend 1 1 1 ∷ end ∷ [])
    ∷ (next 1 3 ∷ spend 1 2 2 ∷ ok 0 ∷ end ∷ [])
    ∷ (next 1 2 ∷ ok 0 ∷ spend 1 3 3 ∷ end ∷ [])
    ∷ (halt ∷ [])
    ∷ (next 1 2 ∷ halt ∷ halt ∷ [])
    ∷ (next 1 2 ∷ end ∷ end ∷ [])
    ∷ []

bad_modes : List Example
unfolding one two off built
bad_modes =
    -- ok, sup and acase idle and closing
    off 7 0 (one (ok 1 ∷ end ∷ []))
    ∷ off 7 0 (one (sup 1 ∷ end ∷ []))
    ∷ off 7 0 (one (acase 2 1 1 ∷ end ∷ []))
    ∷ off 7 2 (one (next 1 2 ∷ ok 0 ∷ ok 0 ∷ []))
    ∷ off 7 2 (one (next 1 2 ∷ ok 0 ∷ sup 0 ∷ []))
    ∷ off 7 2 (one (next 1 2 ∷ ok 0 ∷ acase 2 3 3 ∷ end ∷ []))
    -- a next reached pending, after an ins too, and closing
    ∷ off 7 0 (one (next 0 1 ∷ end ∷ []))
    ∷ off 7 0 (one (next 1 2 ∷ ins 0 0 ∷ end ∷ []))
    ∷ off 7 2 (one (next 1 2 ∷ ok 0 ∷ next 3 4 ∷ ok 2 ∷ end ∷ []))
    -- an end reached in two modes; a step never reached
    ∷ off 7 1 (one (next 1 1 ∷ end ∷ []))
    ∷ off 7 1 (one (end ∷ end ∷ []))
    -- the next is reached closing too, by a step after it
    ∷ off 7 0 (one (next 1 2 ∷ ok 0 ∷ spend 1 0 3 ∷ end ∷ []))
    -- "Acase stands only in pending mode and keeps it": one that is reached closing leads nowhere, so that nothing is wrong with the next
    ∷ off 7 2 (two (next 1 2 ∷ ok 0 ∷ acase 2 0 0 ∷ []))
    -- an end reached pending and closing, each past an ins; the two ins are right
    ∷ off 7 3 (one (next 1 2 ∷ ins 0 3 ∷ ins 0 3 ∷ end ∷ []))
    -- step 2 of the second leaf is never reached; in both leaves
    ∷ off 7 5 (pair 4 W (leaf_of (1 ∷ []) 0 (next 1 3 ∷ ok 0 ∷ ok 0 ∷ end ∷ [])))
    ∷ off 7 1 (pair 4 (leaf_of (1 ∷ []) 0 (end ∷ end ∷ [])) (leaf_of (1 ∷ []) 0 (ok 1 ∷ end ∷ [])))
    ∷ []

-- ins and spend keep the mode: an ok after them is pending
modes : List Example
unfolding one good_modes bad_modes built
modes =
    record { file = one (next 1 4 ∷ ins 0 2 ∷ spend 1 3 3 ∷ ok 0 ∷ end ∷ []); answer = passes 2 1 }
    ∷ (map (λ x. record { file = one x; answer = passes 2 0 }) good_modes ++ bad_modes)

-- 8
branches : List Example
unfolding one two off built
branches =
    -- of {0, 1} an acase on {1} takes both branches; where {1} alone is possible, it does not
    record { file = two (next 1 4 ∷ acase 2 2 3 ∷ ok 0 ∷ sup 0 ∷ end ∷ []); answer = passes 3 1 }
    ∷ off 8 1 (one (next 1 4 ∷ acase 2 2 3 ∷ ok 0 ∷ sup 0 ∷ end ∷ []))
    ∷ off 8 1 (one (next 1 4 ∷ acase 0 2 3 ∷ ok 0 ∷ sup 0 ∷ end ∷ []))
    -- nor where another acase on {1} has left {1} alone, which no acase parts
    ∷ off 8 2 (two (next 1 5 ∷ acase 2 2 4 ∷ acase 2 3 4 ∷ ok 0 ∷ sup 0 ∷ end ∷ []))
    ∷ off 8 2 (two (next 1 5 ∷ acase 2 2 4 ∷ acase 1 3 4 ∷ ok 0 ∷ sup 0 ∷ end ∷ []))
    -- in the second leaf, after the three steps of W; in both leaves
    ∷ off 8 4 (pair 5 W (leaf_of (1 ∷ []) 0 (next 1 4 ∷ acase 2 2 3 ∷ ok 0 ∷ sup 0 ∷ end ∷ [])))
    ∷ off 8 1 (pair 5 (leaf_of (1 ∷ []) 0 (next 1 3 ∷ acase 2 2 2 ∷ ok 0 ∷ end ∷ [])) (leaf_of (1 ∷ []) 0 (next 1 3 ∷ acase 2 2 2 ∷ ok 0 ∷ end ∷ [])))
    -- ins and spend pass the set on, spend to either target
    ∷ record { file = two (next 1 6 ∷ ins 0 2 ∷ spend 1 5 3 ∷ acase 2 4 5 ∷ ok 0 ∷ sup 0 ∷ end ∷ []); answer = passes 3 3 }
    ∷ record { file = two (next 1 5 ∷ spend 1 2 4 ∷ acase 2 3 4 ∷ ok 0 ∷ sup 0 ∷ end ∷ []); answer = passes 3 3 }
    -- an acase parts what is possible there: of {0, 1, 2, 3}, one on {0, 1} and then one on {1, 2} leave {1} and {0}
    ∷ record {
      file = alone (leaf_of (0 ∷ 1 ∷ 2 ∷ 3 ∷ []) 0 (next 1 6 ∷ acase 3 2 5 ∷ acase 6 3 4 ∷ sup 0 ∷ sup 0 ∷ ok 0 ∷ end ∷ []));
      answer = passes 15 3;
    }
    -- ins and spend pass on no more: after acase on {1}, a sup past an ins or a spend suppresses 1 alone
    ∷ record { file = two (next 1 5 ∷ acase 2 2 4 ∷ ins 1 3 ∷ sup 0 ∷ ok 0 ∷ end ∷ []); answer = passes 3 2 }
    ∷ record { file = two (next 1 6 ∷ acase 2 2 3 ∷ spend 1 4 5 ∷ ok 0 ∷ sup 0 ∷ ok 0 ∷ end ∷ []); answer = passes 3 2 }
    ∷ record { file = two (next 1 6 ∷ acase 2 2 3 ∷ spend 1 5 4 ∷ ok 0 ∷ sup 0 ∷ ok 0 ∷ end ∷ []); answer = passes 3 2 }
    ∷ []

-- 9
sides : List Example
unfolding off built
sides =
    -- both ways; and not of sequential sides
    off 9 0 (pair 4 «V» W)
    ∷ off 9 0 (pair 6 W «V»)
    ∷ record { file = pair 5 «V» W; answer = passes 24 24 }
    ∷ record { file = pair 7 W «V»; answer = passes 24 24 }
    -- on either side of a node of either way
    ∷ off 9 1 (file_of (pair_of 4 1 2 ∷ pair_of 4 3 4 ∷ top ∷ «V» ∷ W ∷ []))
    ∷ off 9 2 (file_of (pair_of 4 1 2 ∷ top ∷ pair_of 4 3 4 ∷ «V» ∷ W ∷ []))
    ∷ off 9 1 (file_of (pair_of 5 1 2 ∷ pair_of 4 3 4 ∷ top ∷ «V» ∷ W ∷ []))
    ∷ off 9 2 (file_of (pair_of 5 1 2 ∷ top ∷ pair_of 4 3 4 ∷ «V» ∷ W ∷ []))
    -- the lowest of two, which is not the first to be met from the left
    ∷ off 9 1 (file_of (pair_of 5 2 1 ∷ pair_of 6 3 4 ∷ pair_of 4 5 6 ∷ «V» ∷ W ∷ W ∷ W ∷ []))
    ∷ []

-- 10: a parent's spread is never below a child's, so that it is node 0
spreads : List Example
unfolding wide off built
spreads =
    -- "Sides 15 and 15 give 255, passed; 15 and 16 give 271, refused."
    record { file = pair 5 (wide 15) (wide 15); answer = passes 2 1 }
    ∷ off 10 0 (pair 5 (wide 15) (wide 16))
    ∷ off 10 0 (pair 7 (wide 15) (wide 16))
    ∷ record { file = pair 4 (wide 15) (wide 16); answer = passes 2 1 }
    -- 255 and 1 are 256; 8 and 8 are 16, beside 15; kinds 2 and 3 add nothing
    ∷ off 10 0 (file_of (pair_of 4 1 2 ∷ pair_of 5 3 4 ∷ wide 1 ∷ wide 15 ∷ wide 15 ∷ []))
    ∷ off 10 0 (file_of (pair_of 5 1 2 ∷ pair_of 4 3 4 ∷ wide 15 ∷ wide 8 ∷ wide 8 ∷ []))
    ∷ record { file = file_of (pair_of 5 1 2 ∷ pair_of 4 3 4 ∷ wide 15 ∷ wide 15 ∷ top ∷ []); answer = passes 2 1 }
    ∷ record { file = file_of (pair_of 5 1 2 ∷ pair_of 4 3 4 ∷ wide 15 ∷ wide 15 ∷ bottom ∷ []); answer = passes 2 1 }
    ∷ off 10 0 (file_of (pair_of 4 1 2 ∷ top ∷ pair_of 5 3 4 ∷ wide 15 ∷ wide 16 ∷ []))
    ∷ []

-- Files that break two neighbouring rules. (The lists above have some for the other neighbours.)
neighbours : List Example
unfolding one wide off built
neighbours =
    -- 4 in the last record, 5 in the first
    off 4 1 (file_of (pair_of 4 0 0 ∷ record { node = node 2 0 0 0 0 1; count = 0; steps = [] } ∷ []))
    -- 5: twice a child; 6: a target outside
    ∷ off 5 1 (file_of (pair_of 4 1 1 ∷ leaf_of (1 ∷ []) 0 (ins 0 2 ∷ end ∷ []) ∷ []))
    -- 7: the last step is never reached; 8: an acase on all that is possible
    ∷ off 7 5 (one (next 1 4 ∷ acase 2 2 3 ∷ ok 0 ∷ sup 0 ∷ end ∷ end ∷ []))
    -- 8: the same; 9: a side suppresses what the other regulates
    ∷ off 8 1 (pair 4 (leaf_of (1 ∷ []) 0 (next 1 4 ∷ acase 2 2 3 ∷ ok 0 ∷ sup 0 ∷ end ∷ [])) (wide 0))
    -- 9: a side inserts what the other regulates; 10: sides 15 and 16
    ∷ off 9 0 (file_of (pair_of 4 1 2 ∷ pair_of 5 3 4 ∷ leaf_of (0 ∷ []) 0 (end ∷ []) ∷ wide 15 ∷ wide 16 ∷ []))
    ∷ []

unfoldable pub examples : List Example
unfolding front fields operands layouts children targets modes branches sides spreads neighbours
examples =
    front ++ (fields ++ (operands ++ (layouts ++ (children ++ (targets ++ (modes ++ (branches ++ (sides ++ (spreads ++ neighbours)))))))))

unfoldable pub AllAnswered : Type 0
AllAnswered = map (λ x. check x.file) examples ≡ map (λ x. x.answer) examples
