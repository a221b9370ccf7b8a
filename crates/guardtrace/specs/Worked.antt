-- Runs of guardtrace, one for each way in which a run ends: one list, one statement. A prover computes with an event buffer of 600 bytes; `shown` has one of
-- 4,194,304.
use Prim.Native.String.{String}
use Rattle.std.specs.Prelude.{◌≡◌, List, [], ◌∷◌, ◌++◌, map, take, replicate}
use Rattle.spec_policy.specs.Bytes.{Bytes}
use Rattle.spec_policy.specs.Parts.{alone, pair, top, bottom, L, «V», W, built}
use Rattle.spec_text.specs.Words.{ascii}
use Rattle.guardtrace.specs.Shown.{shown_in}

pub record Case : Type 0 where
  pub input : Bytes
  pub shows : String

unfoldable pub cases : List Case
unfolding built
cases =
    -- L on 1, 2, 2, 2, 2: the fourth 2 halts and is judged, the last action is not, and its end is never reached
    record {
      input = alone L ++ (1 ∷ 2 ∷ 2 ∷ 2 ∷ 2 ∷ 2 ∷ []);
      shows = "judged 5 events 4 status halted\nleaf {2} 3  # node 0\nran 4  next 1 4  # step 0\nran 4  spend 1 2 3  # step 1\nran 3  ok 0  # step 2\nran 1  halt  # step 3\nnever  end  # step 4\naction 1: accepted 1 suppressed 0 inserted 0\naction 2: accepted 3 suppressed 0 inserted 0\n";
    }
    -- V on 4, and closing: every step is reached
    ∷ record {
      input = alone «V» ++ (4 ∷ []);
      shows = "judged 1 events 3 status ended\nleaf {4} 0  # node 0\nran 2  next 1 3  # step 0\nran 1  sup 2  # step 1\nran 1  ins 3 0  # step 2\nran 1  ins 3 4  # step 3\nran 1  end  # step 4\naction 3: accepted 0 suppressed 0 inserted 2\naction 4: accepted 0 suppressed 1 inserted 0\n";
    }
    -- V sequential-and W on 4: what W suppresses is no event, and W's steps are counted after V's
    ∷ record {
      input = pair 5 «V» W ++ (4 ∷ []);
      shows = "judged 1 events 1 status ended\nseq-and 1 2  # node 0\nleaf {4} 0  # node 1\nran 2  next 1 3  # step 0\nran 1  sup 2  # step 1\nran 1  ins 3 0  # step 2\nran 1  ins 3 4  # step 3\nran 1  end  # step 4\nleaf {3} 0  # node 2\nran 3  next 1 2  # step 0\nran 2  sup 0  # step 1\nran 1  end  # step 2\naction 4: accepted 0 suppressed 1 inserted 0\n";
    }
    -- an action of 64 stops the run, with no closing
    ∷ record {
      input = alone «V» ++ (4 ∷ 64 ∷ 4 ∷ []);
      shows = "judged 1 events 2 status running refused 13\nleaf {4} 0  # node 0\nran 1  next 1 3  # step 0\nran 1  sup 2  # step 1\nran 1  ins 3 0  # step 2\nnever  ins 3 4  # step 3\nnever  end  # step 4\naction 3: accepted 0 suppressed 0 inserted 1\naction 4: accepted 0 suppressed 1 inserted 0\n";
    }
    -- 45 actions write 90 bytes: with 510 left there is no room for another call
    ∷ record {
      input = alone top ++ replicate 50 7;
      shows = "judged 45 events 45 status ended refused 15\ntrivial  # node 0\naction 7: accepted 45 suppressed 0 inserted 0\n";
    }
    -- a policy that opens halted: no action is judged
    ∷ record { input = alone bottom ++ (1 ∷ []); shows = "judged 0 events 0 status halted\nunsatisfiable  # node 0\n" }
    -- a policy alone is opened and closed
    ∷ record {
      input = alone W;
      shows = "judged 0 events 0 status ended\nleaf {3} 0  # node 0\nran 1  next 1 2  # step 0\nnever  sup 0  # step 1\nran 1  end  # step 2\n";
    }
    -- refused policies: by rule 9, by its length, and none
    ∷ record { input = pair 4 «V» W ++ (4 ∷ []); shows = "refused 9 at 0\n" }
    ∷ record { input = take 81 (alone L); shows = "refused 1\n" }
    ∷ record { input = 0 ∷ []; shows = "refused 1\n" }
    ∷ record { input = []; shows = "refused 1\n" }
    ∷ []

unfoldable pub AllShown : List Case → Type 0
AllShown cs = map (λ (c : Case). shown_in (replicate 600 0) c.input) cs ≡ map (λ (c : Case). ascii c.shows) cs
