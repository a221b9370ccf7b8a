use native.Mathlib.Omega.{arith}
use Rattle.std.proofs.Common.{ap}
use Rattle.text_append.proofs.AddedLaws.{named}
use Rattle.text_tally.specs.Lines.{ran_words, leads}
use Rattle.text_tally.proofs.RanLead.append_lead.Goals as goal

pub returns : goal.returns
unfolding leads
returns c = named c.append_ran.ensures (ap ran_words (grind arith))
