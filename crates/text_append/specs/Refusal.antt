-- The line that says a refusal, the same in every program.
use Rattle.std.specs.Prelude.{[], ◌++◌}
use Rattle.spec_policy.specs.Bytes.{Bytes}
use Rattle.spec_policy.specs.Spots.{Spot, nowhere, on_record, Fault}
use Rattle.spec_text.specs.Words.{ascii}
use Rattle.spec_text.specs.Numerals.{decimal}

-- " at P", or nothing
unfoldable pub spot_words : Spot → Bytes
spot_words nowhere = []
spot_words (on_record p) = ascii " at " ++ decimal p

-- "guardrun then prints `refused N at P`": without a place it is `refused N`
unfoldable pub refusal : Fault → Bytes
refusal f = ascii "refused " ++ (decimal f.number ++ (spot_words f.spot ++ ascii "\n"))
