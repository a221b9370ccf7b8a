-- That a step inserts an action and nothing else: rule 4 says it of every step.
use mathlib.Core.Bool.{Bool, true}
use Rattle.actions.specs.Sets.{is_action}
use Rattle.spec_policy.specs.Steps.{Step, next, ok, sup, ins, acase, spend, end, halt}

unfoldable pub ins_fits : Step → Bool
ins_fits (next t d) = true
ins_fits (ok t) = true
ins_fits (sup t) = true
ins_fits (ins b t) = is_action b
ins_fits (acase s y z) = true
ins_fits (spend n y z) = true
ins_fits end = true
ins_fits halt = true
