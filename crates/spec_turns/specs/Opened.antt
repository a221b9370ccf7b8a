-- The definitions of this crate that computing opens, by one name: a proof that computes with them says `unfolding opened`.
use Rattle.spec_turns.specs.Status.{status_number, status_of, is_running, has_ended, is_halted, is_decided, joined}
use Rattle.spec_turns.specs.State.{status, asked, offset, counter, left_of, right_of, leaf_over, drop, pair_with, settled}
use Rattle.spec_turns.specs.Process.{touches, then, outcome, trace, items}
use Rattle.spec_turns.specs.Turn.{quiet, affords, which, stepping, goes, take_of, done_of, leaf_work, still_asked, judged, parallel_work, unless_decided, emitted, perhaps, given, feed, sequential_work, is_asked, if_asked, phase, fresh, verdict, call}
use Rattle.spec_turns.specs.Events.{event_of, events, event_bytes, steps_run}
use Rattle.spec_turns.specs.Saved.{cells, cell_place, status_at, offset_at, zeros_at, counter_at, cell, load, store, saved_cells, running_leaves, ahead, saved, dropped_with, is_running_at, statuses, undecided, bare, waits_at, fits_under, zeros_up_to, cells_fit, count_at, count_fits, fits}
use Rattle.spec_turns.specs.Entries.{refusal, carried, carried_out, broken11, broken12, broken13, broken14, refusals, unless, entry, opens, offers, closes}

unfoldable pub opened : Unit {0}
unfolding status_number status_of is_running has_ended is_halted is_decided joined status asked offset counter left_of right_of leaf_over drop pair_with settled touches then outcome trace items quiet affords which stepping goes take_of done_of leaf_work still_asked judged parallel_work unless_decided emitted perhaps given feed sequential_work is_asked if_asked phase fresh verdict call event_of events event_bytes steps_run cells cell_place status_at offset_at zeros_at counter_at cell load store saved_cells running_leaves ahead saved dropped_with is_running_at statuses undecided bare waits_at fits_under zeros_up_to cells_fit count_at count_fits fits refusal carried carried_out broken11 broken12 broken13 broken14 refusals unless entry opens offers closes
opened = tt
