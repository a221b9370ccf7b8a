-- A phase as the code tells it, in one number: the action that it is about, before the verdict; 64 after it; 65 at closing.
use Rattle.std.specs.Prelude.{ℕ, true, false, eqb, ltb}
use Rattle.actions.specs.Sets.{Action}
use Rattle.spec_turns.specs.Turn.{Phase, before, after, closing}

abbrev pub after_number : ℕ
after_number = 64

unfoldable pub phase_of : ℕ → Phase
phase_of p = elim (ltb p after_number) [ true ↦ before p | false ↦ elim (eqb p after_number) [ true ↦ after | false ↦ closing ] ]

-- the action that is pending: none after the verdict and at closing, where the turn rules have 0
unfoldable pub pending_in : Phase → Action
pending_in (before a) = a
pending_in after = 0
pending_in closing = 0
