-- The definitions print what is told of every run, by computation.
use mathlib.Core.Path.{refl}
use Rattle.actions.specs.Opened.{opened as sets}
use Rattle.spec_policy.specs.Opened.{opened as files}
use Rattle.spec_check.specs.Opened.{opened as rules}
use Rattle.spec_text.specs.Opened.{opened as texts}
use Rattle.spec_text.specs.Examples.{repeated}
use Rattle.spec_writer.specs.Writing.{holds, written, whole, from_three, refusal, laid, after, writes}
use Rattle.text_append.specs.Refusal as spelling
use Rattle.text_forms.specs.Usage.{usages, usage}
use Rattle.text_fault.specs.Expected.{heading, line_says, expected, first_word, astray, fault, room_after, room_before, line_number, fault_in}
use Rattle.guardwrite.specs.Said.{blamed, filed, answered, too_long, made_over, made}
use Rattle.guardwrite.specs.Worked.{says, second, suppressing, six_inserts, cases, AllMade}

pub all_made : AllMade cases
unfolding AllMade cases says second suppressing six_inserts repeated spelling.spot_words spelling.refusal blamed filed answered too_long made_over made heading line_says usages usage expected first_word astray fault room_after room_before line_number fault_in holds written whole from_three refusal laid after writes texts rules files sets
all_made = refl
