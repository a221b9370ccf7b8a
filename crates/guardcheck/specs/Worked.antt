-- Document 01's small policies, and one refusal or two: what guardcheck shows of each. One list, one statement.
use Rattle.std.specs.Prelude.{ℕ, zero, suc, ◌≡◌, List, [], ◌∷◌, map, take, replicate}
use Prim.Native.String.{String}
use Rattle.spec_policy.specs.Bytes.{Bytes}
use Rattle.spec_policy.specs.Parts.{node, next, ok, ins, end, Part, leaf_of, top, bottom, file_of, pair_of, alone, pair, L, «V», V', W, built}
use Rattle.spec_text.specs.Words.{ascii}
use Rattle.guardcheck.specs.Shown.{shown}

pub record Case : Type 0 where
  pub file : Bytes
  pub shows : String

-- offsets o to o + k - 1 insert 0, each going to the next offset; then end
unfoldable pub inserting : ℕ → ℕ → List Bytes
unfolding built
inserting o zero = end ∷ []
inserting o (suc k) = ins 0 (suc o) ∷ inserting (suc o) k

-- a leaf on {1} with k ins steps
unfoldable pub wide : ℕ → Part
wide k = leaf_of (1 ∷ []) 0 (next 1 2 ∷ ok 0 ∷ inserting 2 k)

unfoldable pub cases : List Case
unfolding built wide inserting
cases =
    -- P1 and P3: L alone, V alone
    record { file = alone L; shows = "regulated {2}\neffects {}\nspread 0\n" }
    ∷ record { file = alone «V»; shows = "regulated {4}\neffects {3 4}\nspread 2\n" }
    -- P4 and P5: the second of L and L passes
    ∷ record { file = pair 4 «V» W; shows = "refused 9 at 0\n" }
    ∷ record { file = pair 4 W W; shows = "refused 9 at 0\n" }
    ∷ record { file = pair 4 L L; shows = "regulated {2}\neffects {}\nspread 0\n" }
    -- P6 and P7
    ∷ record { file = pair 5 «V» W; shows = "regulated {3 4}\neffects {3 4}\nspread 2\n" }
    ∷ record { file = pair 5 W «V»; shows = "regulated {3 4}\neffects {3 4}\nspread 2\n" }
    -- P8, P9 and P10
    ∷ record { file = pair 6 L bottom; shows = "regulated {2}\neffects {}\nspread 0\n" }
    ∷ record { file = pair 6 L top; shows = "regulated {2}\neffects {}\nspread 0\n" }
    ∷ record { file = alone bottom; shows = "regulated {}\neffects {}\nspread 0\n" }
    -- P11
    ∷ record { file = pair 4 «V» V'; shows = "regulated {4 5}\neffects {3 4 5 6}\nspread 4\n" }
    -- "Sides 15 and 15 give 255, passed; 15 and 16 give 271, refused."
    ∷ record { file = pair 5 (wide 15) (wide 15); shows = "regulated {1}\neffects {0}\nspread 255\n" }
    ∷ record { file = pair 5 (wide 15) (wide 16); shows = "refused 10 at 0\n" }
    -- the spread is the root's, not that of the node before it
    ∷ record { file = file_of (pair_of 5 1 2 ∷ wide 3 ∷ wide 1 ∷ []); shows = "regulated {1}\neffects {0}\nspread 7\n" }
    -- a refusal with its record, and without
    ∷ record { file = file_of (pair_of 4 1 2 ∷ L ∷ []); shows = "refused 5 at 0\n" }
    ∷ record { file = 0 ∷ 22 ∷ 2 ∷ 1 ∷ 0 ∷ 0 ∷ node 2 0 0 0 0 0; shows = "refused 2\n" }
    ∷ record { file = take 81 (alone L); shows = "refused 1\n" }
    ∷ record { file = replicate 6647 0; shows = "refused 1\n" }
    ∷ []

unfoldable pub AllShown : List Case → Type 0
AllShown cs = map (λ (c : Case). shown c.file) cs ≡ map (λ (c : Case). ascii c.shows) cs
