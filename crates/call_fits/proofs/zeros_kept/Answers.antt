-- `zeros_kept` meets its contract.
use borrow.Author.Rules.{rules}
use native.Mathlib.Omega.{arith}
use mathlib.Core.Path.{refl, ◌∙◌}
use Rattle.std.proofs.Common.{tests}
use Rattle.std.proofs.lemmas.Iterator.{YieldsList-from_range}
use Rattle.std.proofs.lemmas.Iterator.Search.{all_from_yields_List}
use Rattle.spec_turns.specs.Saved.{cells}
use Rattle.call_fits.proofs.ZeroLaws.{zeros, zeros-all}
use Rattle.call_fits.proofs.zeros_kept.Goals as goal

pub returns : goal.returns
returns c =
    all_from_yields_List (zeros (cells c.args.state.now)) _ _ _ c.all.ensures.ran (YieldsList-from_range 0 c.args.n c.args.n refl (omega arith)) (λ i b q. search (rules, tests))
    ∙ zeros-all (cells c.args.state.now) c.args.n
