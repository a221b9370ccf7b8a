-- Texts and records: document 01's small policies printed and read back, texts as a person writes them, every way in which a line or
-- a record can be wrong, and which record a refusal is about. Four lists, one statement each.
use Rattle.std.specs.Prelude.{ℕ, zero, suc, ◌+◌, ◌^◌, ◌≡◌, List, [], ◌∷◌, ◌++◌, map}
use Prim.Native.String.{String}
use Rattle.spec_policy.specs.Bytes.{Bytes}
use Rattle.spec_policy.specs.Spots.{Fault, bare_fault, fault_on}
use Rattle.spec_policy.specs.Parts.{Part, node, step, next, ok, sup, ins, acase, spend, end, halt, leaf_of, top, bottom, pair_of, nodes_in, steps_in, L, «V», W, F, built}
use Rattle.spec_text.specs.Words.{ascii}
use Rattle.spec_text.specs.Reading.{Read, records, bad_line, read_text}
use Rattle.spec_text.specs.Printing.{text, no_text, printed, shown_records}
use Rattle.spec_text.specs.Where.{fault_says, spot_line}

-- ---- policies, printed and read back

pub record Kept : Type 0 where
  pub parts : List Part
  pub prints : String

unfoldable pub kept : List Kept
unfolding built
kept =
    record {
      parts = L ∷ [];
      prints = "leaf {2} 3  # node 0\n  next 1 4  # step 0\n  spend 1 2 3  # step 1\n  ok 0  # step 2\n  halt  # step 3\n  end  # step 4\n";
    }
    -- a step's number is counted in its leaf, since a target is
    ∷ record {
      parts = pair_of 5 1 2 ∷ «V» ∷ W ∷ [];
      prints = "seq-and 1 2  # node 0\nleaf {4} 0  # node 1\n  next 1 3  # step 0\n  sup 2  # step 1\n  ins 3 0  # step 2\n  ins 3 4  # step 3\n  end  # step 4\nleaf {3} 0  # node 2\n  next 1 2  # step 0\n  sup 0  # step 1\n  end  # step 2\n";
    }
    ∷ record {
      parts = F ∷ [];
      prints = "leaf {3 6} 0  # node 0\n  next 1 4  # step 0\n  ok 2  # step 1\n  next 3 4  # step 2\n  sup 2  # step 3\n  end  # step 4\n";
    }
    -- the other kinds of nodes; a trivial policy alone; none at all
    ∷ record {
      parts = pair_of 4 1 2 ∷ top ∷ pair_of 6 3 4 ∷ bottom ∷ pair_of 7 5 6 ∷ top ∷ top ∷ [];
      prints = "and 1 2  # node 0\ntrivial  # node 1\nor 3 4  # node 2\nunsatisfiable  # node 3\nseq-or 5 6  # node 4\ntrivial  # node 5\ntrivial  # node 6\n";
    }
    ∷ record { parts = []; prints = "" }
    -- the largest of each field, an empty set, a leaf with no step
    ∷ record {
      parts = leaf_of (0 ∷ 63 ∷ []) 4_294_967_295 (acase (1 + 2 ^ 63) 255 0 ∷ spend 4_294_967_295 0 255 ∷ ins 255 255 ∷ acase 0 1 2 ∷ []) ∷ leaf_of [] 0 [] ∷ pair_of 4 255 0 ∷ [];
      prints = "leaf {0 63} 4294967295  # node 0\n  acase {0 63} 255 0  # step 0\n  spend 4294967295 0 255  # step 1\n  ins 255 255  # step 2\n  acase {} 1 2  # step 3\nleaf {} 0  # node 1\nand 255 0  # node 2\n";
    }
    ∷ []

unfoldable pub AllKept : Type 0
AllKept =
    (map (λ x. printed (nodes_in x.parts) (steps_in x.parts)) kept ≡ map (λ x. text (ascii x.prints)) kept)
    × (map (λ x. read_text (ascii x.prints)) kept ≡ map (λ x. records (nodes_in x.parts) (steps_in x.parts)) kept)

-- ---- texts as a person writes them

-- a text, n times
unfoldable pub repeated : ℕ → Bytes → Bytes
repeated zero t = []
repeated (suc n) t = t ++ repeated n t

pub record Written : Type 0 where
  pub text : Bytes
  pub read : Read

unfoldable pub read_as : List Part → Read
read_as ps = records (nodes_in ps) (steps_in ps)

unfoldable pub written : List Written
unfolding read_as built
written =
    -- comments, empty lines, spaces, tabs, no newline at the end
    record {
      text = ascii "# W\n\n  leaf\t{ 3 }   0 # on\n\n\tnext 1 2\n# done\nsup 0# {\n   \nend";
      read = read_as (W ∷ []);
    }
    -- lines that end in a carriage return and a newline; one alone is a blank, and ends no line
    ∷ record { text = ascii "# W\r\nleaf {3} 0\r\n\r\n  next 1 2\r\n  sup 0 # on\r\n  end\r\n"; read = read_as (W ∷ []) }
    ∷ record { text = ascii "and 1\r2"; read = read_as (pair_of 4 1 2 ∷ []) }
    ∷ record { text = ascii "trivial\rtrivial"; read = bad_line 1 }
    -- a brace is a word wherever it stands; actions in any order, and twice; zeros before a number
    ∷ record { text = ascii "leaf{ 06 3 3}000"; read = read_as (leaf_of (3 ∷ 6 ∷ []) 0 [] ∷ []) }
    ∷ record { text = ascii "leaf {0} 0\nacase{0}1 00000000002"; read = read_as (leaf_of (0 ∷ []) 0 (acase 1 1 2 ∷ []) ∷ []) }
    -- nothing is read as no records; what makes no policy is left to the check
    ∷ record { text = []; read = records [] [] }
    ∷ record { text = ascii " # nothing"; read = records [] [] }
    ∷ record { text = ascii "and 9 0\ntrivial\n"; read = read_as (pair_of 4 9 0 ∷ top ∷ []) }
    -- a leaf's 255 steps, and its 256th
    ∷ record { text = ascii "leaf {1} 0\n" ++ repeated 255 (ascii "end\n"); read = records (node 1 0 0 255 0 2) (repeated 255 end) }
    ∷ record { text = ascii "leaf {1} 0\n" ++ repeated 256 (ascii "end\n"); read = bad_line 257 }
    -- a step that follows no leaf
    ∷ record { text = ascii "end\n"; read = bad_line 1 }
    ∷ record { text = ascii "leaf {1} 0\nend\n\ntrivial\nend\n"; read = bad_line 5 }
    -- the first line is given
    ∷ record { text = ascii "\n# a remark\nleaf {1} 0\n  ende\nend 1\n"; read = bad_line 4 }
    -- no such word, in capitals, with a letter more or less
    ∷ record { text = ascii "Leaf {1} 0"; read = bad_line 1 }
    ∷ record { text = ascii "trivia"; read = bad_line 1 }
    ∷ record { text = ascii "trivially"; read = bad_line 1 }
    ∷ record { text = ascii "{"; read = bad_line 1 }
    -- a word too few, a word too many
    ∷ record { text = ascii "and 1"; read = bad_line 1 }
    ∷ record { text = ascii "and 1 2 3"; read = bad_line 1 }
    ∷ record { text = ascii "leaf {1}"; read = bad_line 1 }
    ∷ record { text = ascii "leaf {1} # 0"; read = bad_line 1 }
    ∷ record { text = ascii "trivial 0"; read = bad_line 1 }
    ∷ record { text = ascii "leaf {1} 0 next 1 2"; read = bad_line 1 }
    -- a number that is none, or does not fit
    ∷ record { text = ascii "and 1 2x"; read = bad_line 1 }
    ∷ record { text = ascii "and 1 -2"; read = bad_line 1 }
    ∷ record { text = ascii "and 1 256"; read = bad_line 1 }
    ∷ record { text = ascii "leaf {1} 4294967296"; read = bad_line 1 }
    ∷ record { text = ascii "leaf {1} 0\nins 256 0"; read = bad_line 2 }
    ∷ record { text = ascii "leaf {1} 0\nspend 4294967296 0 0"; read = bad_line 2 }
    -- a set that is none
    ∷ record { text = ascii "leaf 1 0"; read = bad_line 1 }
    ∷ record { text = ascii "leaf {1 0"; read = bad_line 1 }
    ∷ record { text = ascii "leaf {64} 0"; read = bad_line 1 }
    ∷ record { text = ascii "leaf {1,2} 0"; read = bad_line 1 }
    ∷ record { text = ascii "leaf {{1} 0"; read = bad_line 1 }
    ∷ []

unfoldable pub AllRead : Type 0
AllRead = map (λ x. read_text x.text) written ≡ map (λ x. x.read) written

-- ---- records that have no text, and what is shown of them

pub record Untold : Type 0 where
  pub nodes : Bytes
  pub steps : Bytes
  pub shows : Bytes

-- a leaf on {1} with one step
unfoldable pub beside : Bytes → String → Untold
beside s t = record { nodes = node 1 0 0 1 0 2; steps = s; shows = ascii "leaf {1} 0  # node 0\n" ++ ascii t }

unfoldable pub lone : Bytes → String → Untold
lone x t = record { nodes = x; steps = []; shows = ascii t }

unfoldable pub untold : List Untold
unfolding beside lone built
untold =
    -- kinds that are none
    lone (node 0 0 0 0 0 0) "# node 0: 0 0 0 0 0 0 0 0 0 0 0 0 0 0 0 0\n"
    ∷ lone (node 8 0 0 0 0 0) "# node 0: 8 0 0 0 0 0 0 0 0 0 0 0 0 0 0 0\n"
    ∷ beside (step 0 0 0 0 0) "  # step 0: 0 0 0 0 0 0 0 0 0 0 0 0\n"
    ∷ beside (step 9 0 0 0 0) "  # step 0: 9 0 0 0 0 0 0 0 0 0 0 0\n"
    -- a field that is not used and not zero
    ∷ lone (node 1 1 0 0 0 2) "# node 0: 1 1 0 0 0 0 0 0 0 0 0 0 0 0 0 2\n"
    ∷ lone (node 2 0 0 0 0 1) "# node 0: 2 0 0 0 0 0 0 0 0 0 0 0 0 0 0 1\n"
    ∷ lone (node 4 1 2 0 1 0) "# node 0: 4 1 2 0 0 0 0 1 0 0 0 0 0 0 0 0\n"
    ∷ beside (step 1 1 0 0 0) "  # step 0: 1 1 0 0 0 0 0 0 0 0 0 0\n"
    ∷ beside (step 2 0 0 1 0) "  # step 0: 2 0 0 1 0 0 0 0 0 0 0 0\n"
    ∷ beside (step 7 0 0 0 1) "  # step 0: 7 0 0 0 0 0 0 0 0 0 0 1\n"
    -- a spend of five bytes
    ∷ beside (spend 4_294_967_296 0 0) "  # step 0: 6 0 0 0 0 0 0 1 0 0 0 0\n"
    -- counts: a step too many, one too few, steps of what is no leaf
    ∷ beside (end ++ ok 255) "  end  # step 0\n# steps of no leaf\n  ok 255  # step 1\n"
    ∷ beside [] ""
    ∷ record { nodes = node 2 0 0 1 0 0; steps = end; shows = ascii "# node 0: 2 0 0 1 0 0 0 0 0 0 0 0 0 0 0 0\n  end  # step 0\n" }
    -- the records that have a text beside one that has none
    ∷ record {
      nodes = node 1 0 0 2 0 2 ++ (node 9 0 0 1 0 0 ++ node 1 0 0 2 0 4);
      steps = next 1 1 ++ (step 9 8 7 6 5 ++ (ok 3 ++ (ok 4 ++ (step 255 0 0 0 0 ++ (halt ++ step 9 0 0 0 0)))));
      shows = ascii "leaf {1} 0  # node 0\n  next 1 1  # step 0\n  # step 1: 9 8 7 6 0 0 0 0 0 0 0 5\n# node 1: 9 0 0 1 0 0 0 0 0 0 0 0 0 0 0 0\n  ok 3  # step 0\nleaf {2} 0  # node 2\n  ok 4  # step 0\n  # step 1: 255 0 0 0 0 0 0 0 0 0 0 0\n# steps of no leaf\n  halt  # step 5\n  # step 6: 9 0 0 0 0 0 0 0 0 0 0 0\n";
    }
    -- lengths that are not whole: what is no whole record is not shown
    ∷ lone (node 2 0 0 0 0 0 ++ (0 ∷ [])) "trivial  # node 0\n"
    ∷ beside (end ++ (0 ∷ [])) "  end  # step 0\n"
    -- what is no byte
    ∷ lone (node 4 256 1 0 0 0) "# node 0: 4 256 1 0 0 0 0 0 0 0 0 0 0 0 0 0\n"
    ∷ []

unfoldable pub NoneTold : Type 0
NoneTold = (map (λ x. printed x.nodes x.steps) untold ≡ map (λ x. no_text) untold) × (map (λ x. shown_records x.nodes x.steps) untold ≡ map (λ x. x.shows) untold)

-- ---- which record a refusal is about

-- three nodes and five steps; remarks and empty lines, so that no record has its line's number
unfoldable pub remarked : Bytes
remarked = ascii "# belt and muffle\n\nand 1 2\nleaf {1} 0\n  next 1 2\n  ok 0\n\n  end\nleaf {2} 0 # muffle\n  next 1 1\n  end\n"

unfoldable pub nodes_of_read : Read → Bytes
nodes_of_read (records ns ss) = ns
nodes_of_read (bad_line n) = []

pub record Placed : Type 0 where
  pub fault : Fault
  pub says : String
  pub line : ℕ

unfoldable pub placed : List Placed
placed =
    -- 4: nodes, and then steps
    record { fault = fault_on 4 2; says = "refused 4 at 2: node 2"; line = 9 }
    ∷ record { fault = fault_on 4 3; says = "refused 4 at 3: step 0 of leaf 1"; line = 5 }
    ∷ record { fault = fault_on 4 7; says = "refused 4 at 7: step 1 of leaf 2"; line = 11 }
    -- 6 to 8: steps, "numbered over the whole file"
    ∷ record { fault = fault_on 6 3; says = "refused 6 at 3: step 0 of leaf 2"; line = 10 }
    ∷ record { fault = fault_on 7 2; says = "refused 7 at 2: step 2 of leaf 1"; line = 8 }
    ∷ record { fault = fault_on 8 4; says = "refused 8 at 4: step 1 of leaf 2"; line = 11 }
    -- 5, 9 and 10: nodes
    ∷ record { fault = fault_on 5 1; says = "refused 5 at 1: node 1"; line = 4 }
    ∷ record { fault = fault_on 9 0; says = "refused 9 at 0: node 0"; line = 3 }
    ∷ record { fault = fault_on 10 2; says = "refused 10 at 2: node 2"; line = 9 }
    -- records that the text does not have
    ∷ record { fault = fault_on 7 5; says = "refused 7 at 5: step 5 of no leaf"; line = 0 }
    ∷ record { fault = fault_on 5 3; says = "refused 5 at 3: node 3"; line = 0 }
    -- no record
    ∷ record { fault = bare_fault 3; says = "refused 3"; line = 0 }
    ∷ []

unfoldable pub AllPlaced : Type 0
AllPlaced =
    (map (λ x. fault_says (nodes_of_read (read_text remarked)) x.fault) placed ≡ map (λ x. ascii x.says) placed)
    × (map (λ x. spot_line remarked (nodes_of_read (read_text remarked)) x.fault) placed ≡ map (λ x. x.line) placed)
