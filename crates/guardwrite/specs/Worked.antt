-- Runs of guardwrite, one for each of its sentences and one for each rule that tells a record: one list, one statement.
use Prim.Native.String.{String}
use Rattle.std.specs.Prelude.{◌≡◌, List, [], ◌∷◌, ◌++◌, map}
use Rattle.spec_policy.specs.Bytes.{Bytes}
use Rattle.spec_policy.specs.Parts.{alone, pair, top, L, «V», W, built}
use Rattle.spec_text.specs.Words.{ascii}
use Rattle.spec_text.specs.Examples.{repeated}
use Rattle.guardwrite.specs.Said.{Said, file, message, made}

pub record Case : Type 0 where
  pub text : Bytes
  pub makes : Said

unfoldable pub says : String → String → Case
says t m = record { text = ascii t; makes = message (ascii m) }

-- a leaf that keeps every rule, and a second leaf of these steps
unfoldable pub second : String → Bytes
second steps = ascii "# belt\n\nand 1 2\nleaf {1} 0\n  next 1 2\n  ok 0\n  end\nleaf {2} 0\n" ++ ascii steps

unfoldable pub suppressing : Bytes
suppressing = ascii "leaf {3} 0\n  next 1 2\n  sup 0\n  end\n"

unfoldable pub six_inserts : Bytes
six_inserts = ascii "leaf {1} 0\n  ins 9 1\n  ins 9 2\n  ins 9 3\n  ins 9 4\n  ins 9 5\n  ins 9 6\n  end\n"

unfoldable pub cases : List Case
unfolding says built
cases =
    -- files
    record { text = ascii "# three 2s\nleaf {2} 3\n  next 1 4\n  spend 1 2 3\n  ok 0\n  halt\n  end\n"; makes = file (alone L) }
    ∷ record {
      text = ascii "seq-and 1 2\nleaf {4} 0\r\n\tnext 1 3\n\tsup 2\n\tins 3 0\n\tins 3 4\n\tend\nleaf { 3 } 0\n\tnext 1 2\n\tsup 0\n\tend";
      makes = file (pair 5 «V» W);
    }
    ∷ record { text = ascii "trivial"; makes = file (alone top) }
    -- the writer's refusals that are about no record: no node at all, 32 nodes
    ∷ says "# nothing\n" "refused 3\n"
    ∷ record { text = repeated 32 (ascii "trivial\n"); makes = message (ascii "refused 3\n") }
    -- the refusals that are about a record, each with its line. Rule 4 of a node and of a step, which counts after the nodes
    ∷ says "# belt\n\nand 1 2\ntrivial\nleaf {} 0\n  end\n" "line 5: refused 4 at 2: node 2\n"
    ∷ says "# belt\n\nand 1 2\ntrivial\nleaf {1} 0\n  next 1 2\n  ins 64 2\n  end\n" "line 7: refused 4 at 4: step 1 of leaf 2\n"
    -- a child twice
    ∷ says "# belt\n\nand 1 1\ntrivial\n" "line 4: refused 5 at 1: node 1\n"
    -- a target outside its leaf, an ok on closing, an acase that leaves nothing to its no: in the second leaf
    ∷ record { text = second "  next 1 5\n  end\n"; makes = message (ascii "line 9: refused 6 at 3: step 0 of leaf 2\n") }
    ∷ record { text = second "  next 1 2\n  ok 0\n\n  ok 0\n"; makes = message (ascii "line 12: refused 7 at 5: step 2 of leaf 2\n") }
    ∷ record { text = second "  next 1 4\n  acase {2} 2 3\n  ok 0\n  sup 0\n  end\n"; makes = message (ascii "line 10: refused 8 at 4: step 1 of leaf 2\n") }
    -- two sides that interfere, beneath a node that is kept
    ∷ record { text = ascii "# belt\n\nseq-and 1 2\ntrivial\nand 3 4\n" ++ repeated 2 suppressing; makes = message (ascii "line 5: refused 9 at 2: node 2\n") }
    -- a spread of 342, which is the root's: no node has a larger one
    ∷ record {
      text = ascii "# belt\n\nseq-and 1 2\n" ++ six_inserts ++ ascii "seq-and 3 4\n" ++ repeated 2 six_inserts;
      makes = message (ascii "line 3: refused 10 at 0: node 0\n");
    }
    -- lines that cannot be read, by their first word
    ∷ says "\nleaf {1}\n" "line 2: leaf {ACTIONS} START\n"
    ∷ says "and 1 2\nseq-or 256 1\n" "line 2: seq-or LEFT RIGHT\n"
    ∷ says "leaf {1} 0\n next 1 x\n" "line 2: next TAKE DONE\n"
    ∷ says "leaf {1} 0\n acase 1 2 3\n" "line 2: acase {ACTIONS} YES NO\n"
    ∷ says "leaf {1} 0\n\n# limit\n spend 1 2\n" "line 4: spend AMOUNT YES NO\n"
    ∷ says "trivial 0" "line 1: trivial\n"
    ∷ says "when 1 2" "line 1: leaf, trivial, unsatisfiable, and, seq-and, or, seq-or, next, ok, sup, ins, acase, spend, end or halt\n"
    -- steps that follow no leaf
    ∷ says "end\n" "line 1: a leaf before its steps\n"
    ∷ says "leaf {1} 0\n end\ntrivial\n end\n" "line 4: a leaf before its steps\n"
    ∷ record { text = ascii "leaf {1} 0\n" ++ repeated 256 (ascii "end\n"); makes = message (ascii "line 257: at most 255 steps\n") }
    ∷ []

unfoldable pub AllMade : List Case → Type 0
AllMade cs = map (λ (c : Case). made c.text) cs ≡ map (λ (c : Case). c.makes) cs
