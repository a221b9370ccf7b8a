-- `reached` meets its contract: the marks of the offset, and a next as reached idle.
use mathlib.Core.Path.{ap, ◌∙◌}
use mathlib.Core.Bool.{Bool, ◌||◌}
use lib.Dec.{eqb}
use Rattle.spec_check.specs.Modes.{idle, pending, closing}
use Rattle.check_modes.specs.Marks.{word}
use Rattle.check_modes.proofs.reached.Goals as goal

pub returns : goal.returns
unfolding word
returns c ks g =
    record {
      idly = ap (λ (b : Bool). b || eqb c.args.row.kind 1) (c.has_bit.ensures ∙ g.at idle c.args.o c.requires);
      pendingly = c.has_bit-2.ensures ∙ g.at pending c.args.o c.requires;
      closingly = c.has_bit-3.ensures ∙ g.at closing c.args.o c.requires;
    }
