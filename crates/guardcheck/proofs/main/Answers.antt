-- `main` is safe: what was put lies in its room.
use mathlib.Core.Path.{sym}
use lib.Seq.{length-take-le}
use Rattle.guardcheck.proofs.main.Goals as goal

pub slice_bounds-write_all-end : goal.slice_bounds-write_all-end
slice_bounds-write_all-end c = sym (length-take-le _ c.tell-told.new.room c.tell-told.ensures.inside)
