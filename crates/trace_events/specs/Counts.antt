-- Actions counted by the bytes of their events.
use Rattle.std.specs.Prelude.{ℕ, zero, suc, ◌+◌, true, false, List, eqb, get_or}
use Rattle.spec_policy.specs.Bytes.{Bytes}
use Rattle.spec_trace.specs.Tallies.{action_counts, action_counted, accepted_place, suppressed_place, inserted_place}

-- where the counts of a kind of event begin
unfoldable pub table_place : ℕ → ℕ
table_place kind = elim (eqb kind 1) [
  | true ↦ accepted_place 0
  | false ↦ elim (eqb kind 2) [ true ↦ suppressed_place 0 | false ↦ elim (eqb kind 3) [ true ↦ inserted_place 0 | false ↦ action_counts ] ]
]

unfoldable pub event_counted : (kind action : ℕ) → List ℕ → List ℕ
unfolding table_place
event_counted kind action counts = action_counted counts (table_place kind + action)

-- so many events, from this place on
unfoldable pub bytes_tallied : ℕ → Bytes → (at : ℕ) → List ℕ → List ℕ
unfolding event_counted
bytes_tallied zero bs at counts = counts
bytes_tallied (suc n) bs at counts = bytes_tallied n bs (at + 2) (event_counted (get_or bs at 0) (get_or bs (at + 1) 0) counts)
