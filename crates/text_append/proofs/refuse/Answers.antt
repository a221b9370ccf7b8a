-- Four texts, one after the other.
use Rattle.std.proofs.Common.{ap}
use Rattle.faults.specs.Meaning.{fault_of}
use Rattle.spec_text.specs.Words.{ascii}
use Rattle.spec_text.specs.Numerals.{decimal}
use Rattle.text_append.specs.Refusal.{refusal}
use Rattle.text_append.proofs.AddedLaws.{joined, named}
use Rattle.text_append.proofs.refuse.Goals as goal

pub returns : goal.returns
unfolding refusal ascii fault_of
returns c =
    joined c.append-named.ensures
    (joined (named c.append_number-numbered.ensures (ap decimal c.from.ensures)) (joined c.append_spot-placed.ensures c.append.ensures))
