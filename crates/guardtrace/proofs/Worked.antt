-- What is shown of every run of the list, by computation.
use mathlib.Core.Path.{refl}
use Rattle.actions.specs.Opened.{opened as sets}
use Rattle.spec_policy.specs.Opened.{opened as files}
use Rattle.spec_policy.specs.Parts.{built}
use Rattle.spec_policy.specs.Tree.{first_step}
use Rattle.spec_check.specs.Opened.{opened as rules}
use Rattle.spec_turns.specs.Opened.{opened as turns}
use Rattle.spec_trace.specs.Opened.{opened as runs}
use Rattle.spec_text.specs.Opened.{opened as texts}
use Rattle.text_append.specs.Refusal.{spot_words, refusal}
use Rattle.text_tally.specs.Lines.{ran_words, leads, led_steps, led_nodes, led_records, numbered, action_says, action_line, action_lines, tally_text}
use Rattle.run_input.specs.Ends.{policy_end}
use Rattle.run_report.specs.Lines.{word}
use Rattle.guardtrace.specs.Shown.{ending, heading, reported, no_counts, ran, too_long, shown_in}
use Rattle.guardtrace.specs.Worked.{cases, AllShown}

pub all_shown : AllShown cases
unfolding AllShown cases built shown_in too_long ran no_counts reported heading ending policy_end word tally_text action_lines action_line action_says numbered led_records led_nodes led_steps leads ran_words spot_words refusal texts runs first_step turns rules files sets
all_shown = refl
