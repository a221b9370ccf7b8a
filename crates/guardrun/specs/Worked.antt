-- Document 01's run of guardrun, and one for each of its other sentences: one list, one statement.
use Prim.Native.String.{String}
use Rattle.std.specs.Prelude.{◌≡◌, List, [], ◌∷◌, ◌++◌, map, take}
use Rattle.spec_policy.specs.Bytes.{Bytes}
use Rattle.spec_policy.specs.Parts.{alone, pair, top, bottom, L, «V», W, built}
use Rattle.spec_text.specs.Words.{ascii}
use Rattle.guardrun.specs.Printed.{printed}

pub record Case : Type 0 where
  pub input : Bytes
  pub prints : String

unfoldable pub cases : List Case
unfolding built
cases =
    -- "V sequential-and W, then bytes 4, 3, prints:"
    record { input = pair 5 «V» W ++ (4 ∷ 3 ∷ []); prints = "open running\nsup 4\nsup 3\nclose ended\n" }
    -- "those of closing before the close line"
    ∷ record { input = alone «V» ++ (4 ∷ []); prints = "open running\nsup 4\nins 3\nins 3\nclose ended\n" }
    -- "a refused action prints that line and goes on"; "On a halt it stops reading": the last 1 is not read
    ∷ record { input = alone L ++ (2 ∷ 2 ∷ 2 ∷ 64 ∷ 2 ∷ 1 ∷ []); prints = "open running\nacc 2\nacc 2\nacc 2\nrefused 13\nclose halted\n" }
    ∷ record { input = alone bottom ++ (1 ∷ []); prints = "open halted\nclose halted\n" }
    -- an ended root still reads on
    ∷ record { input = pair 6 L top ++ (2 ∷ 64 ∷ []); prints = "open right\nacc 2\nrefused 13\nclose right\n" }
    -- "A refused policy prints only `refused N`", "guardrun then prints `refused N at P`"
    ∷ record { input = pair 4 «V» W ++ (4 ∷ []); prints = "refused 9 at 0\n" }
    -- fewer bytes than the first two say, one byte, none
    ∷ record { input = take 81 (alone L); prints = "refused 1\n" }
    ∷ record { input = 0 ∷ []; prints = "refused 1\n" }
    ∷ record { input = []; prints = "refused 1\n" }
    ∷ []

unfoldable pub AllPrinted : List Case → Type 0
AllPrinted cs = map (λ (c : Case). printed c.input) cs ≡ map (λ (c : Case). ascii c.prints) cs
