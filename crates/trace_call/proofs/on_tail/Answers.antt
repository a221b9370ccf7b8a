-- `on_tail` meets its contract: 13, 15, or the call carried out on the tail.
use mathlib.Core.Path.{sym, ◌∙◌}
use Rattle.trace_call.proofs.TailLaws.{tail-thirteen, tail-short, tail-allowed, tail-goes}
use Rattle.trace_call.proofs.on_tail.Goals as goal

pub returns-then-no_action : goal.returns-then-no_action
returns-then-no_action c = tail-thirteen c.requires c.bare.ensures (sym c.no_action.ensures ∙ c.if-no_action.true)

pub returns-then-events-at-lt-EVENT_ROOM : goal.returns-then-events-at-lt-EVENT_ROOM
returns-then-events-at-lt-EVENT_ROOM c = tail-short c.requires c.bare-then-events-at-lt-EVENT_ROOM.ensures (sym c.no_action.ensures ∙ c.if-no_action.false) c.if-events-at-lt-EVENT_ROOM.true

pub carry-requires : goal.carry-requires
carry-requires c = tail-allowed c.requires c.if-events-at-lt-EVENT_ROOM.false

pub returns : goal.returns
returns c = tail-goes c.requires (sym c.no_action.ensures ∙ c.if-no_action.false) c.if-events-at-lt-EVENT_ROOM.false c.carry.ensures.gave c.carry.ensures.steps_after c.carry.ensures.actions_after
