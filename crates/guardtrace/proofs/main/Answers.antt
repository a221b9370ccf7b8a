-- `main` is safe: the event buffer begins as zeros, and what was put lies in its room.
use mathlib.Core.Path.{sym}
use lib.Seq.{length-take-le}
use Rattle.guardtrace.proofs.ShownLaws.{room-enough}
use Rattle.guardtrace.proofs.main.Goals as goal

pub tell-told-requires : goal.tell-told-requires
tell-told-requires c = (c.event_room-events.ensures, room-enough _ c.text_room-room.ensures)

pub slice_bounds-write_all-end : goal.slice_bounds-write_all-end
slice_bounds-write_all-end c = sym (length-take-le _ c.tell-told.new.room c.tell-told.ensures.inside)
