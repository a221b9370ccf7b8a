-- `all_possible` meets its contract: the loop carries along what is left to pass on.
use native.Mathlib.Omega.{arith}
use mathlib.Core.Path.{refl}
use Rattle.check_possible.proofs.PossibleLaws.{none-possible}
use Rattle.check_spots.proofs.LeafLoops.{wider, passing-start, passing-next, passing-end}
use Rattle.check_spots.proofs.all_possible.Goals as goal

pub loop-o-init : goal.loop-o-init
loop-o-init c = passing-start _ _ _ _ _ refl (none-possible c.args.count c.requires.count_in_bounds.1)

pub pass_on-requires : goal.pass_on-requires
pass_on-requires c = record { step_size_in_bounds = (omega arith, omega arith, c.loop-o.invariant.room); t = wider c.args.count 64 c.requires.count_in_bounds.1 _ (c.requires.targets_in c.loop-o.o c.loop-o-test.true) }

pub loop-o-preserved : goal.loop-o-preserved
loop-o-preserved c = passing-next _ _ _ _ c.requires.targets_in c.loop-o.o c.loop-o.sets _ c.loop-o-test.true c.loop-o.invariant c.pass_on.ensures

pub returns : goal.returns
returns c = (passing-end _ _ _ _ c.loop-o.o c.loop-o.sets c.loop-o-test.false c.loop-o.invariant, c.loop-o.invariant.room)
