-- `main` is safe: what is written ends in the buffer.
use mathlib.Core.Path.{sym}
use lib.Seq.{length-take-le}
use Rattle.guardwrite.proofs.ToldLaws.{file-inside, message-inside}
use Rattle.guardwrite.proofs.main.Goals as goal

pub slice_bounds-out-end : goal.slice_bounds-out-end
slice_bounds-out-end c = file-inside c.tell.ensures c.in-File.is

pub slice_bounds-write_all-end : goal.slice_bounds-write_all-end
slice_bounds-write_all-end c = sym (length-take-le _ _ (file-inside c.tell.ensures c.in-File.is))

pub slice_bounds-out-end-in-Message : goal.slice_bounds-out-end-in-Message
slice_bounds-out-end-in-Message c = message-inside c.tell.ensures c.in-Message.is

pub slice_bounds-write_all-end-in-Message : goal.slice_bounds-write_all-end-in-Message
slice_bounds-write_all-end-in-Message c = sym (length-take-le _ _ (message-inside c.tell.ensures c.in-Message.is))
