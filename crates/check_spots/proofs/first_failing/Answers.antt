-- `first_failing` meets its contract: the loop carries along what is left to look at.
use mathlib.Core.Path.{sym, ◌∙◌}
use Rattle.faults.specs.Meaning.{spot_of}
use Rattle.check_children.proofs.Search.{passed, found, none}
use Rattle.check_spots.proofs.first_failing.Goals as goal

pub returns-then-not-passes : goal.returns-then-not-passes
returns-then-not-passes g c f s same =
    c.on_record.ensures ∙ found f s _ c.loop-o.o c.loop-o-test.true (c.loop-o.invariant f s same) (sym (same _ _ c.loop-o-test.true c.passes.ensures) ∙ c.if-not-passes.true)

pub loop-o-preserved : goal.loop-o-preserved
loop-o-preserved g c f s same =
    passed f s _ c.loop-o.o c.loop-o-test.true (c.loop-o.invariant f s same) (sym (same _ _ c.loop-o-test.true c.passes.ensures) ∙ c.if-not-passes.false)

pub returns : goal.returns
unfolding spot_of
returns g c f s same = none f s _ c.loop-o.o c.loop-o-test.false (c.loop-o.invariant f s same)
