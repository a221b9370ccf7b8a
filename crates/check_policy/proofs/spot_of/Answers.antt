-- `spot_of` meets its contract: the rule says which record is looked for.
use Prim.Native.Nat.{◌≤◌}
use native.Mathlib.Omega.{arith}
use mathlib.Core.Path.{◌≡◌, refl, sym, ap, ◌∙◌}
use Rattle.faults.specs.declared.Refusal.{Refusal}
use Rattle.faults.specs.declared.Refusal.TheVariants.{Length, Version, Counts, Fields, Children, Targets, Modes, Branches, Interference, Spread, Buffers, State, Action, Halted, Room}
use Rattle.faults.specs.Meaning.{number_of}
use Rattle.spec_check.specs.Passed.{spot_by}
use Rattle.check_layout.proofs.Unfit.{steps_next}
use Rattle.check_policy.proofs.spot_of.Goals as goal

-- of the rules from 4 to 8 it is the last
last : (r : Refusal) → 4 ≤ number_of r → number_of r ≤ 8 → (r ≡ Fields → ⊥) → (r ≡ Children → ⊥) → (r ≡ Targets → ⊥) → (r ≡ Modes → ⊥) → r ≡ Branches
last Length low high a b c d = absurd (omega (arith, low))
last Version low high a b c d = absurd (omega (arith, low))
last Counts low high a b c d = absurd (omega (arith, low))
last Fields low high a b c d = absurd (a refl)
last Children low high a b c d = absurd (b refl)
last Targets low high a b c d = absurd (c refl)
last Modes low high a b c d = absurd (d refl)
last Branches low high a b c d = refl
last Interference low high a b c d = absurd (omega (arith, high))
last Spread low high a b c d = absurd (omega (arith, high))
last Buffers low high a b c d = absurd (omega (arith, high))
last State low high a b c d = absurd (omega (arith, high))
last Action low high a b c d = absurd (omega (arith, high))
last Halted low high a b c d = absurd (omega (arith, high))
last Room low high a b c d = absurd (omega (arith, high))

pub returns-in-Fields : goal.returns-in-Fields
unfolding spot_by
returns-in-Fields c =
    c.unfit_step.ensures ∙ steps_next _ c.requires.nodes-fit ∙ sym (ap (λ (r : Refusal). spot_by c.args.file.policy.now (number_of r)) c.in-Fields.is)

pub returns-in-Children : goal.returns-in-Children
unfolding spot_by
returns-in-Children c =
    c.wrong5.ensures ∙ sym (ap (λ (r : Refusal). spot_by c.args.file.policy.now (number_of r)) c.in-Children.is)

pub returns-in-Targets : goal.returns-in-Targets
unfolding spot_by
returns-in-Targets c =
    c.wrong6.ensures ∙ sym (ap (λ (r : Refusal). spot_by c.args.file.policy.now (number_of r)) c.in-Targets.is)

pub returns-in-Modes : goal.returns-in-Modes
unfolding spot_by
returns-in-Modes c =
    c.wrong7.ensures ∙ sym (ap (λ (r : Refusal). spot_by c.args.file.policy.now (number_of r)) c.in-Modes.is)

pub returns-in_default : goal.returns-in_default
unfolding spot_by
returns-in_default c =
    let d = c.in_default in
    c.wrong8.ensures ∙ sym (ap (λ (r : Refusal). spot_by c.args.file.policy.now (number_of r)) (last c.args.rule c.requires.low c.requires.high d.not-Fields d.not-Children d.not-Targets d.not-Modes))
