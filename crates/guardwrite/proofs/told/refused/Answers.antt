-- `refused` meets its contract: about no record, or about one.
use mathlib.Core.Path.{sym, ap, subst}
use Rattle.faults.specs.Meaning.{spot_of, fault_of}
use Rattle.text_append.specs.Added.{Tells}
use Rattle.guardwrite.specs.Said.{blamed}
use Rattle.guardwrite.proofs.ToldLaws.{refused-tells}
use Rattle.guardwrite.proofs.told.refused.Goals as goal

pub returns-in-None : goal.returns-in-None
unfolding blamed spot_of
returns-in-None c =
    subst (Tells _ _) (sym (ap (λ w. blamed (spot_of w) c.args.text.now c.args.nodes.now (fault_of c.args.fault)) c.in-None.is))
    (refused-tells (fault_of c.args.fault) c.requires.0 c.requires.1 c.refuse.ensures)

pub returns-in-Some : goal.returns-in-Some
unfolding blamed spot_of
returns-in-Some c =
    subst (Tells _ _) (sym (ap (λ w. blamed (spot_of w) c.args.text.now c.args.nodes.now (fault_of c.args.fault)) c.in-Some.is))
    c.blame.ensures
