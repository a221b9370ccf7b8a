-- The definitions print what is told of every run, by computation.
use mathlib.Core.Path.{refl}
use Rattle.actions.specs.Opened.{opened as sets}
use Rattle.spec_policy.specs.Opened.{opened as files}
use Rattle.spec_check.specs.Opened.{opened as rules}
use Rattle.spec_turns.specs.Opened.{opened as turns}
use Rattle.spec_text.specs.Opened.{opened as texts}
use Rattle.text_append.specs.Refusal.{spot_words, refusal}
use Rattle.run_report.specs.Lines.{line, word, kind, lines}
use Rattle.run_report.specs.Said.{heading, is_last, ending, last_if_refused, said}
use Rattle.run_input.specs.Ends.{policy_end}
use Rattle.guardrun.specs.Printed.{told, goes_on, printed}
use Rattle.guardrun.specs.Worked.{cases, AllPrinted}

pub all-printed : AllPrinted cases
unfolding AllPrinted cases printed policy_end goes_on told said heading is_last ending last_if_refused spot_words refusal line word kind lines texts turns rules files sets
all-printed = refl
