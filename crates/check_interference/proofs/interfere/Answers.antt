-- `interfere` meets its contract.
use mathlib.Core.Path.{refl, ap₂, ◌∙◌}
use Rattle.actions.specs.Sets.{meets}
use Rattle.file_records.specs.Kinds.{way_of}
use Rattle.check_interference.specs.Sets.{is_parallel, clash}
use Rattle.check_interference.proofs.TreeSets.{or-stop, or-go}
use Rattle.check_interference.proofs.interfere.Goals as goal

pub returns-then-meets : goal.returns-then-meets
unfolding way_of is_parallel clash
returns-then-meets c =
    rw c.in-Parallel.is (or-stop _ _ _ (c.meets.ensures ∙ ap₂ meets c.set_at.ensures c.set_at-in-Parallel.ensures) c.if-meets.true)

pub returns-else-meets : goal.returns-else-meets
unfolding way_of is_parallel clash
returns-else-meets c =
    rw c.in-Parallel.is (or-go _ _ _ _ (c.meets.ensures ∙ ap₂ meets c.set_at.ensures c.set_at-in-Parallel.ensures) c.if-meets.false
    (c.meets-else-meets.ensures ∙ ap₂ meets c.set_at-else-meets.ensures c.set_at-else-meets-2.ensures))

pub returns-in-Sequential : goal.returns-in-Sequential
unfolding way_of is_parallel
returns-in-Sequential c = rw c.in-Sequential.is refl
