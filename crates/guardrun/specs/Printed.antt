-- What guardrun prints of a whole run.
use Rattle.std.specs.Prelude.{ℕ, true, false, List, [], ◌∷◌, ◌++◌, take, drop, replicate}
use Rattle.spec_policy.specs.Bytes.{Bytes, number}
use Rattle.spec_turns.specs.Turn.{Request, opening, offer, close}
use Rattle.spec_turns.specs.Saved.{state_size}
use Rattle.spec_turns.specs.Entries.{event_room, entry}
use Rattle.run_report.specs.Said.{said}
use Rattle.run_input.specs.Ends.{policy_end}

-- a call's text, and unless it is the last, what follows from the bytes that the call left
unfoldable pub told : Bytes → Request → Bytes → Bytes → (Bytes → Bytes → Bytes) → Bytes
told policy q state room rest =
    let x = entry policy q state room in
    let s = said q x.reply x.events in
    s.text ++ elim s.over [ true ↦ [] | false ↦ rest x.state x.events ]

-- "one byte per action until the input ends"
unfoldable pub goes_on : Bytes → List ℕ → Bytes → Bytes → Bytes
goes_on policy [] state room = told policy close state room (λ _ _. [])
goes_on policy (a ∷ rest) state room = told policy (offer a) state room (goes_on policy rest)

-- All that is printed, from all that is read.
unfoldable pub printed : Bytes → Bytes
printed input =
    let end = policy_end (number input 0 2) in
    told (take end input) opening (replicate state_size 0) (replicate event_room 0) (goes_on (take end input) (drop end input))
