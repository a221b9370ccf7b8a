-- Silent items before a run, and the counts of the steps among them.
use Prim.Native.Nat.{ℕ, ◌+◌}
use mathlib.Core.Path.{◌≡◌, refl, sym, ap, ◌∙◌}
use mathlib.Core.Bool.{Bool}
use mathlib.Core.List.{List, [], ◌∷◌, ◌++◌}
use Rattle.spec_policy.specs.Bytes.{Bytes}
use Rattle.spec_policy.specs.Tree.{first_step}
use Rattle.spec_turns.specs.Process.{Item, ran}
use Rattle.spec_trace.specs.Tallies.{step_if, steps_if}
use Rattle.spec_trace.proofs.TallyLaws.{steps-none, steps_then, steps-ran}
use Rattle.turn_paths.specs.Run.{Run, goes, first}
use Rattle.turn_paths.proofs.PathLaws.{first-append}
use Rattle.turn_paths.specs.Run.{silent, AllSilent}
use Rattle.turn_leaf.specs.Leaf.{Quietly}

silent-append : (xs ys : List Item) → AllSilent xs → AllSilent ys → AllSilent (xs ++ ys)
unfolding AllSilent
silent-append [] ys h g = g
silent-append (i ∷ xs) ys h g = (h.0, silent-append xs ys h.1 g)

module _ {on : Bool} {policy : Bytes} where
  pub quietly-same : {cs : List ℕ} {p q : Run} → p ≡ q → Quietly on policy cs cs p q
  unfolding first AllSilent
  quietly-same {cs} e = record { items = []; quiet = tt; is = e; steps = sym (steps-none on policy cs) }

  -- a single step runs
  pub quietly-ran : {cs : List ℕ} (i o : ℕ) (p : Run) → Quietly on policy cs (step_if on cs (first_step policy i + o)) (goes (ran i o) p) p
  unfolding first AllSilent silent
  quietly-ran {cs} i o p = record { items = ran i o ∷ []; quiet = (tt, tt); is = refl; steps = sym (steps-ran on policy i o cs) }

  pub quietly-then : {cs cs₁ cs₂ : List ℕ} {p q r : Run} → Quietly on policy cs cs₁ p q → Quietly on policy cs₁ cs₂ q r → Quietly on policy cs cs₂ p r
  quietly-then {cs} {r = r} h g = record {
    items = h.items ++ g.items;
    quiet = silent-append h.items g.items h.quiet g.quiet;
    is = h.is ∙ ap (first h.items) g.is ∙ sym (first-append h.items g.items r);
    steps = g.steps ∙ ap (steps_if on policy g.items) h.steps ∙ sym (steps_then on policy h.items g.items cs);
  }
