-- What guardtrace prints of a policy and its trace.
use Rattle.std.specs.Prelude.{ℕ, ◌+◌, true, false, ◌++◌, ltb, length, take, drop, replicate}
use Rattle.spec_policy.specs.Bytes.{Bytes, number}
use Rattle.spec_policy.specs.Records.{most_file, node_bytes, step_bytes}
use Rattle.spec_text.specs.Words.{ascii}
use Rattle.spec_turns.specs.Status.{Status}
use Rattle.spec_turns.specs.Saved.{state_size}
use Rattle.spec_trace.specs.Tallies.{Tally, step_counts, action_counts}
use Rattle.spec_trace.specs.Traces.{Stop, unrefused, refused_with, Report, unopened, followed, traces}
use Rattle.run_input.specs.Ends.{policy_end}
use Rattle.run_report.specs.Lines.{word}
use Rattle.text_append.specs.Refusal.{refusal}
use Rattle.text_tally.specs.Lines.{numbered, tally_text}

-- ---- a run

-- the refusal, where one stopped the run
unfoldable pub ending : Stop → Bytes
ending unrefused = ascii "\n"
ending (refused_with f) = ascii " " ++ refusal f

-- `judged 5 events 4 status halted`, `judged 2 events 2 status running refused 13`
unfoldable pub heading : Stop → (judged events : ℕ) → Status → Bytes
heading z j n s = numbered (ascii "judged ") j ++ (numbered (ascii " events ") n ++ (ascii " status " ++ (word s ++ ending z)))

-- where opening is refused there is nothing else to tell
unfoldable pub reported : (policy : Bytes) → Report → Tally → Bytes
reported policy (unopened f) t = refusal f
reported policy (followed z j n s) t = heading z j n s ++ tally_text (node_bytes policy) (step_bytes policy) t

unfoldable pub no_counts : Tally
no_counts = record { steps = replicate step_counts 0; actions = replicate action_counts 0 }

-- The policy run over the trace, its events in this buffer: the state and the tally begin as zeros.
unfoldable pub ran : (room policy trace : Bytes) → Bytes
ran room policy bs = let x = traces policy bs (replicate state_size 0) room no_counts in reported policy x.report x.tally

-- ---- all that is read

-- A week at one command a second has 604,800 actions.
abbrev pub most_trace : ℕ
most_trace = 1_048_576

-- one byte more than the longest policy and the longest trace have together: a trace that is too long is seen by it
abbrev pub input_room : ℕ
input_room = most_file + most_trace + 1

-- Two bytes an event. Where it runs out the run is refused with 15, which is told.
abbrev pub event_bytes : ℕ
event_bytes = 4_194_304

-- No text is longer.
abbrev pub text_room : ℕ
text_room = 147_456

-- a longer trace is told, and not run over its first part
unfoldable pub too_long : Bytes
too_long = ascii "a trace of at most 1048576 actions\n"

-- with any buffer for events
unfoldable pub shown_in : (room input : Bytes) → Bytes
shown_in room input =
    let end = policy_end (number input 0 2) in
    elim (ltb most_trace (length (drop end input))) [ true ↦ too_long | false ↦ ran room (take end input) (drop end input) ]

-- All that is printed, from all that is read: a policy and then its trace, as guardrun reads them.
unfoldable pub shown : Bytes → Bytes
shown input = shown_in (replicate event_bytes 0) input
