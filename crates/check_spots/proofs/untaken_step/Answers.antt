-- `untaken_step` meets its contract: what is possible is known, and the steps are asked in order.
use Prim.Native.Nat.{ℕ, ◌<◌}
use mathlib.Core.Path.{◌≡◌, sym, ap, ◌∙◌}
use mathlib.Core.Bool.{Bool}
use mathlib.Core.List.{List, [], ◌∷◌}
use lib.ListN.{take, get_or}
use lib.Seq.{get_or-take}
use borrow.Author.Rules.{rules}
use Rattle.actions.specs.Sets.{ActionSet, EMPTY}
use Rattle.spec_policy.specs.Spots.{first_off}
use Rattle.spec_policy.specs.Steps.{Step}
use Rattle.file_records.specs.Code.{code_at}
use Rattle.spec_check.specs.Possible.{branches_taken}
use Rattle.check_possible.proofs.PossibleLaws.{branches-alone}
use Rattle.check_spots.proofs.LeafLoops.{step_in}
use Rattle.check_spots.proofs.untaken_step.Goals as goal

-- the test of the step at o by its set alone is its test by all sets
asked : (count : ℕ) (sets : List ActionSet) (o : ℕ) (s : Step) {b : Bool} → o < count → b ≡ branches_taken (get_or sets o 0 ∷ []) 0 s
    → b ≡ branches_taken (take count sets) o s
unfolding EMPTY
asked count sets o s h e = e ∙ sym (branches-alone (take count sets) o _ s (λ n. get_or-take count sets o 0 h))

pub returns : goal.returns
unfolding code_at
returns c =
    c.first_failing.ensures (branches_taken (take c.args.count c.all_possible-sets.result)) (step_in c.args.policy.now c.args.at c.args.count) (λ o b h p. asked _ _ _ _ h (search rules))
    ∙ ap (λ (ps : List ActionSet). first_off (branches_taken ps) 0 (code_at c.args.policy.now c.args.at c.args.count)) c.all_possible-sets.ensures.0
