-- `append_named` meets its contract: three texts, one after another.
use Rattle.spec_text.specs.Words.{ascii}
use Rattle.text_append.proofs.AddedLaws.{joined}
use Rattle.guardcheck.specs.Shown.{set_line}
use Rattle.guardcheck.proofs.append_named.Goals as goal

pub returns : goal.returns
unfolding set_line ascii
returns c = joined c.append-named.ensures (joined c.append_set-end.ensures c.append.ensures)
