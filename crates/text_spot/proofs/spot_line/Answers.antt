use Rattle.std.proofs.Common.{◌≡◌, ◌∙◌, ap, rules}
use Rattle.spec_text.specs.Where.{line_of_record, spot_line}
use Rattle.text_spot.specs.Meaning.{which_of}
use Rattle.text_spot.proofs.spot_line.Goals as goal

pub returns : goal.returns
unfolding spot_line line_of_record
returns c = let e : c.unwrap_or.result ≡ line_of_record c.args.text.now (which_of c.about.result) = search rules in e ∙ ap (line_of_record c.args.text.now) c.about.ensures
