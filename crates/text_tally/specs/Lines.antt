-- What is printed of a tally: the policy's records, each step led by how often it ran, and then the actions that have a count.
use Rattle.std.specs.Prelude.{ℕ, zero, suc, ◌+◌, ◌≡◌, true, false, List, [], ◌++◌, eqb, get_or}
use Rattle.actions.specs.Sets.{Action}
use Rattle.spec_policy.specs.Bytes.{Bytes}
use Rattle.spec_policy.specs.Records.{node_bytes, step_bytes}
use Rattle.spec_text.specs.Words.{ascii}
use Rattle.spec_text.specs.Numerals.{decimal}
use Rattle.spec_text.specs.Printing.{shown_records}
use Rattle.spec_trace.specs.Tallies.{Tally, action_table, accepted_place, suppressed_place, inserted_place}
unfoldable pub use Rattle.text_print.specs.Led.{led_steps, led_nodes, led_records}

-- ---- steps

-- how often a step ran: a step that was never reached is told apart
unfoldable pub ran_words : ℕ → Bytes
ran_words zero = ascii "never"
ran_words (suc n) = ascii "ran " ++ decimal (suc n)

-- what leads the step of this number over the whole file
unfoldable pub leads : List ℕ → ℕ → Bytes
leads counts i = ran_words (get_or counts i 0)

-- Without what leads them the lines are those that guardtext prints. So it is of every file that passes: no record of it is left out (`every-file-unled`
-- of proofs/Unled).
unfoldable pub Unled : Bytes → Type 0
Unled file = led_records (λ _. []) (node_bytes file) (step_bytes file) ≡ shown_records (node_bytes file) (step_bytes file)

-- ---- actions

-- a number after its words
unfoldable pub numbered : Bytes → ℕ → Bytes
numbered what n = what ++ decimal n

-- "action 4: accepted 0 suppressed 1 inserted 0"
unfoldable pub action_says : Action → (accepted suppressed inserted : ℕ) → Bytes
action_says a x y z = numbered (ascii "action ") a ++ (numbered (ascii ": accepted ") x ++ (numbered (ascii " suppressed ") y ++ (numbered (ascii " inserted ") z ++ ascii "\n")))

-- an action's line, if one of its counts is not 0
unfoldable pub action_line : List ℕ → Action → Bytes
action_line counts a =
    let x = get_or counts (accepted_place a) 0 in
    let y = get_or counts (suppressed_place a) 0 in
    let z = get_or counts (inserted_place a) 0 in
    elim (eqb (x + y + z) 0) [ true ↦ [] | false ↦ action_says a x y z ]

-- n actions from a on
unfoldable pub action_lines : (n : ℕ) → Action → List ℕ → Bytes
action_lines zero a counts = []
action_lines (suc n) a counts = action_line counts a ++ action_lines n (suc a) counts

-- ---- both

unfoldable pub tally_text : (nodes steps : Bytes) → Tally → Bytes
tally_text ns ss t = led_records (leads t.steps) ns ss ++ action_lines action_table 0 t.actions
