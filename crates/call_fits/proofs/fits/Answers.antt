-- `fits` meets its contract: its tests are those of rule 12, with n for the number of nodes.
use Prim.Native.Nat.{ℕ}
use native.Mathlib.Omega.{arith}
use mathlib.Core.Path.{ap, ◌∙◌}
use mathlib.Core.Bool.{false, ◌&&◌}
use lib.Dec.{eqb}
use lib.ListN.{drop}
use Rattle.spec_policy.specs.Lists.{every}
use Rattle.spec_policy.specs.Records.{node_count}
use Rattle.spec_policy.specs.Tree.{tree}
use Rattle.spec_turns.specs.Saved.{cells, cell_place, fits_under, zeros_up_to, cells_fit, count_fits, fits}
use Rattle.call_fits.proofs.CountLaws.{and_last}
use Rattle.call_fits.proofs.FileLaws.{frame}
use Rattle.call_fits.proofs.fits.Goals as goal

pub zeros_kept-requires : goal.zeros_kept-requires
zeros_kept-requires c = (c.requires.state_len, omega (arith, frame c.requires.passed.0, c.requires.passed.1))

pub is_empty_from-requires : goal.is_empty_from-requires
is_empty_from-requires c = (c.requires.state_len, omega (arith, frame c.requires.passed.0, c.requires.passed.1))

pub returns : goal.returns
unfolding fits cells_fit
returns c =
    let bs = cells c.args.state.now in
    let n = node_count c.args.policy.now in
    let z = c.zeros_kept.ensures ∙ ap (λ (k : ℕ). zeros_up_to bs k) c.requires.passed.1 in
    let r = c.is_empty_from.ensures ∙ ap (λ (k : ℕ). every (λ b. eqb b 0) (drop (cell_place k) bs)) c.requires.passed.1 in
    (λ j. c.tree_fits.ensures j && z j && r j) ∙ and_last (fits_under false (tree c.args.policy.now) bs) (zeros_up_to bs n) (every (λ b. eqb b 0) (drop (cell_place n) bs)) (count_fits (tree c.args.policy.now) c.args.state.now)
