-- `lead` meets its contract: the entry of the mode that is followed.
use mathlib.Core.Path.{refl, sym, ◌∙◌}
use lib.Dec.{lit<}
use Rattle.spec_check.specs.Modes.{idle, pending, closing}
use Rattle.check_modes.specs.Table.{mode_number}
use Rattle.check_modes.proofs.ModeSteps.{led-as, in-pending, in-closing, in-idle, led-met, room-as}
use Rattle.check_modes.proofs.lead.Goals as goal

pub has_bit-requires : goal.has_bit-requires
has_bit-requires c = c.requires.0

pub entry-requires : goal.entry-requires
entry-requires c = (c.requires.1.low, c.requires.1.high, lit< tt)

pub lead_in-requires : goal.lead_in-requires
unfolding mode_number
lead_in-requires c = room-as _ _ c.entry.ensures (c.requires.1.room pending)

pub returns-then-has_bit : goal.returns-then-has_bit
returns-then-has_bit c s tells =
    led-met s c.args.row.kind c.args.row.first c.args.row.second tells c.args.o c.requires.0 refl refl refl c.args.seen c.lead_in.result
    (led-as (c.entry.ensures ∙ in-pending _ _ _ _ _ (sym c.has_bit.ensures ∙ c.if-has_bit.true)) c.lead_in.ensures)

pub lead_in-requires-then-has_bit-2 : goal.lead_in-requires-then-has_bit-2
unfolding mode_number
lead_in-requires-then-has_bit-2 c = room-as _ _ c.entry-then-has_bit-2.ensures (c.requires.1.room closing)

pub returns-then-has_bit-2 : goal.returns-then-has_bit-2
returns-then-has_bit-2 c s tells =
    led-met s c.args.row.kind c.args.row.first c.args.row.second tells c.args.o c.requires.0 refl refl refl c.args.seen c.lead_in-then-has_bit-2.result
    (led-as (c.entry-then-has_bit-2.ensures ∙ in-closing _ _ _ _ _ (sym c.has_bit.ensures ∙ c.if-has_bit.false) (sym c.has_bit-2.ensures ∙ c.if-has_bit-2.true))
    c.lead_in-then-has_bit-2.ensures)

pub lead_in-requires-2 : goal.lead_in-requires-2
unfolding mode_number
lead_in-requires-2 c = room-as _ _ c.entry-2.ensures (c.requires.1.room idle)

pub returns : goal.returns
returns c s tells =
    led-met s c.args.row.kind c.args.row.first c.args.row.second tells c.args.o c.requires.0 refl refl refl c.args.seen c.lead_in-2.result
    (led-as (c.entry-2.ensures ∙ in-idle _ _ _ _ _ (sym c.has_bit.ensures ∙ c.if-has_bit.false) (sym c.has_bit-2.ensures ∙ c.if-has_bit-2.false))
    c.lead_in-2.ensures)
