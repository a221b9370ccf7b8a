-- `lay` meets its contract: the front, then the nodes, then the steps.
use native.Mathlib.Omega.{arith}
use mathlib.Core.Path.{ap}
use lib.ListN.{length}
use Rattle.spec_policy.specs.Bytes.{spell}
use Rattle.spec_writer.specs.Writing.{holds}
use Rattle.spec_writer.proofs.Files.{written-length}
use Rattle.file_writer.proofs.Lays.{laid_out}
use Rattle.file_writer.proofs.lay.Goals as goal

pub copy_at-requires : goal.copy_at-requires
unfolding spell
copy_at-requires c =
    let w = written-length c.args.nodes.now c.args.steps.now in
    omega (arith, ap length c.front.ensures, c.requires.1)

pub copy_at-requires-2 : goal.copy_at-requires-2
copy_at-requires-2 c =
    let w = written-length c.args.nodes.now c.args.steps.now in
    omega (arith, c.requires.1, c.copy_at.auto.to)

pub copy_at-requires-3 : goal.copy_at-requires-3
copy_at-requires-3 c =
    let w = written-length c.args.nodes.now c.args.steps.now in
    omega (arith, c.requires.1, c.copy_at.auto.to, c.copy_at-2.auto.to)

pub returns : goal.returns
unfolding holds
returns c =
    laid_out c.args.nodes.now c.args.steps.now c.args.out.now c.size-length.ensures.0 c.requires.0 c.requires.1
    c.front.ensures c.copy_at.ensures c.copy_at-2.ensures c.copy_at-3.ensures
