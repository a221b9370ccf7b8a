-- `pair_spread` meets its contract.
use mathlib.Core.Path.{◌≡◌, sym, ap, ◌∙◌}
use Rattle.file_records.specs.declared.Way.{Way}
use Rattle.file_records.specs.Kinds.{way_of}
use Rattle.spec_check.specs.Spread.{spread_of}
use Rattle.check_spread.specs.Spreads.{cap}
use Rattle.check_spread.proofs.SpreadLaws.{cap-min}
use Rattle.check_spread.proofs.pair_spread.Goals.{in-Parallel, in-Sequential}
use Rattle.check_spread.proofs.pair_spread.Goals as goal

pub returns : goal.returns
unfolding spread_of way_of
returns c =
    let spread-is : c.match-way.spread ≡ spread_of (way_of c.args.way) c.args.left c.args.right = elim c.match-way.branch [
      | in-Parallel w ↦ w.spread-is ∙ ap (λ (v : Way). spread_of (way_of v) c.args.left c.args.right) (sym w.in-Parallel.is)
      | in-Sequential w ↦ w.spread-is ∙ ap (λ (v : Way). spread_of (way_of v) c.args.left c.args.right) (sym w.in-Sequential.is)
    ] in
    c.min.ensures ∙ cap-min _ ∙ ap cap spread-is
