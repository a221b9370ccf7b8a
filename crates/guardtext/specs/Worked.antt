-- Files and what guardtext shows of them: one that passes, and one for each way in which a refused file is shown. One list, one statement.
use Prim.Native.String.{String}
use Rattle.std.specs.Prelude.{◌≡◌, List, [], ◌∷◌, ◌++◌, map, take, replicate}
use Rattle.spec_policy.specs.Bytes.{Bytes}
use Rattle.spec_policy.specs.Parts.{node, step, next, ok, end, halt, file, pair_of, leaf_of, file_of, pair, «V», W, built}
use Rattle.spec_text.specs.Words.{ascii}
use Rattle.guardtext.specs.Shown.{shown}

pub record Case : Type 0 where
  pub file : Bytes
  pub shows : String

unfoldable pub cases : List Case
unfolding built
cases =
    -- V sequential-and W passes
    record {
      file = pair 5 «V» W;
      shows = "seq-and 1 2  # node 0\nleaf {4} 0  # node 1\n  next 1 3  # step 0\n  sup 2  # step 1\n  ins 3 0  # step 2\n  ins 3 4  # step 3\n  end  # step 4\nleaf {3} 0  # node 2\n  next 1 2  # step 0\n  sup 0  # step 1\n  end  # step 2\n";
    }
    -- 4: a node of no kind, which counts a step, and a step that names an action though it is an ok; the lowest is told
    ∷ record {
      file = file 3 4 (node 9 0 0 1 0 0 ++ (node 1 0 0 2 5 6 ++ (node 1 0 0 1 0 256 ++ (end ++ (next 1 1 ++ (step 2 7 1 0 0 ++ end))))));
      shows = "# refused 4 at 0: node 0\n# node 0: 9 0 0 1 0 0 0 0 0 0 0 0 0 0 0 0\n  end  # step 0\nleaf {1 2} 5  # node 1\n  next 1 1  # step 0\n  # step 1: 2 7 1 0 0 0 0 0 0 0 0 0\nleaf {8} 0  # node 2\n  end  # step 0\n";
    }
    -- the same step where all nodes are good: it is told by its leaf
    ∷ record {
      file = file_of (pair_of 4 1 2 ∷ W ∷ leaf_of (1 ∷ []) 0 (next 1 2 ∷ step 2 7 0 0 0 ∷ end ∷ []) ∷ []);
      shows = "# refused 4 at 7: step 1 of leaf 2\nand 1 2  # node 0\nleaf {3} 0  # node 1\n  next 1 2  # step 0\n  sup 0  # step 1\n  end  # step 2\nleaf {1} 0  # node 2\n  next 1 2  # step 0\n  # step 1: 2 7 0 0 0 0 0 0 0 0 0 0\n  end  # step 2\n";
    }
    -- fewer steps counted than there are: the last belong to no leaf, and are numbered over the whole file; refused by 5, by 4 and by 6
    ∷ record {
      file = file 2 4 (node 1 0 0 1 0 2 ++ (node 1 0 0 1 0 4 ++ (end ++ (end ++ (ok 0 ++ halt)))));
      shows = "# refused 5 at 1: node 1\nleaf {1} 0  # node 0\n  end  # step 0\nleaf {2} 0  # node 1\n  end  # step 0\n# steps of no leaf\n  ok 0  # step 2\n  halt  # step 3\n";
    }
    ∷ record {
      file = file 1 3 (node 1 0 0 1 0 2 ++ (end ++ (ok 0 ++ step 9 0 0 0 0)));
      shows = "# refused 4 at 3: step 2 of no leaf\nleaf {1} 0  # node 0\n  end  # step 0\n# steps of no leaf\n  ok 0  # step 1\n  # step 2: 9 0 0 0 0 0 0 0 0 0 0 0\n";
    }
    ∷ record {
      file = file 1 2 (node 1 0 0 1 0 2 ++ (end ++ ok 0));
      shows = "# refused 6 at 0: step 0 of leaf 0\nleaf {1} 0  # node 0\n  end  # step 0\n# steps of no leaf\n  ok 0  # step 1\n";
    }
    -- more steps counted than there are
    ∷ record { file = file 1 1 (node 1 0 0 2 0 2 ++ end); shows = "# refused 6 at 0: step 0 of leaf 0\nleaf {1} 0  # node 0\n  end  # step 0\n" }
    -- 7: a step that nothing leads to
    ∷ record {
      file = file_of (pair_of 6 1 2 ∷ W ∷ leaf_of (4 ∷ []) 0 (next 1 1 ∷ end ∷ end ∷ []) ∷ []);
      shows = "# refused 7 at 4: step 1 of leaf 2\nor 1 2  # node 0\nleaf {3} 0  # node 1\n  next 1 2  # step 0\n  sup 0  # step 1\n  end  # step 2\nleaf {4} 0  # node 2\n  next 1 1  # step 0\n  end  # step 1\n  end  # step 2\n";
    }
    -- 9: the node is told
    ∷ record {
      file = pair 4 W W;
      shows = "# refused 9 at 0: node 0\nand 1 2  # node 0\nleaf {3} 0  # node 1\n  next 1 2  # step 0\n  sup 0  # step 1\n  end  # step 2\nleaf {3} 0  # node 2\n  next 1 2  # step 0\n  sup 0  # step 1\n  end  # step 2\n";
    }
    -- 1 to 3: no record is read
    ∷ record { file = 0 ∷ 22 ∷ 2 ∷ 1 ∷ 0 ∷ 0 ∷ node 2 0 0 0 0 0; shows = "refused 2\n" }
    ∷ record { file = file 32 0 (replicate 512 0); shows = "refused 3\n" }
    ∷ record { file = take 7 (pair 5 «V» W); shows = "refused 1\n" }
    ∷ record { file = replicate 6647 0; shows = "refused 1\n" }
    ∷ []

unfoldable pub AllShown : List Case → Type 0
AllShown cs = map (λ (c : Case). shown c.file) cs ≡ map (λ (c : Case). ascii c.shows) cs
