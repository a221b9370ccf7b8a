-- `tidy_alone` meets its contract.
use mathlib.Core.Path.{ap, ◌∙◌}
use native.Mathlib.Omega.{arith}
use lib.ListN.{length-drop}
use Rattle.spec_policy.specs.Bytes.{spell, put}
use Rattle.spec_turns.specs.Saved.{cells, cell_place}
use Prim.Native.Nat.{ℕ}
use Rattle.turn_rest.proofs.TidyLaws.{alone}
use Rattle.turn_rest.proofs.tidy.tidy_alone.Goals as goal

pub returns : goal.returns
unfolding cells
returns c s e =
    alone (cells c.args.state.now) c.args.status s e (simp length-drop (omega (arith, c.requires)))
    (c.save_word.ensures.1 ∙ ap (λ (x : ℕ). put (cells c.args.state.now) (cell_place 0) (spell 8 x)) c.cell.ensures)
    c.clear_from.ensures.1 c.save_count.ensures
