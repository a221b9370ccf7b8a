-- Where each kind of step leads: the move that the code takes for it is the one of the turn rules.
use Prim.Native.Nat.{ℕ, suc, ◌+◌, ◌-◌}
use native.Mathlib.Omega.{arith}
use mathlib.Core.Path.{◌≡◌, refl, sym, subst}
use mathlib.Core.Bool.{Bool, true, false}
use mathlib.Core.List.{List, [], ◌∷◌}
use lib.ListN.{length}
use Rattle.actions.specs.Sets.{Action, has}
use Rattle.spec_policy.specs.Bytes.{Bytes}
use Rattle.spec_policy.specs.Tree.{first_step}
use Rattle.spec_policy.specs.Steps.{Step, next, ok, sup, ins, acase, spend, end, halt, targets, is_next}
use Rattle.spec_check.specs.Lawful.{AllAhead, Inside}
use Rattle.spec_turns.specs.Status.{status_of}
use Rattle.spec_turns.specs.Process.{ran, sups}
use Rattle.spec_turns.specs.Turn.{quiet, affords, which, stepping}
use Rattle.spec_turns.specs.Turn as turn
use Rattle.spec_trace.specs.Tallies.{step_if}
use Rattle.spec_trace.proofs.TallyLaws.{steps-sup}
use Rattle.turn_paths.specs.Run.{flat, first}
use Rattle.turn_paths.specs.Run.{silent, AllSilent}
use Rattle.turn_leaf.specs.declared.Move.{Move}
use Rattle.turn_leaf.specs.declared.Move.TheVariants.{On, Ends, Stays}
use Rattle.turn_leaf.specs.declared.Last.{Last}
use Rattle.turn_leaf.specs.declared.Last.TheVariants.{Stops, Inserts, Over}
use Rattle.turn_leaf.specs.Leaf.{Quietly, goes_on, ends, lasts, follows, move_counted, target, left, Taken}
use Rattle.turn_leaf.proofs.Quiet.{quietly-same, quietly-ran}

-- a step after which the leaf does not go on by itself
still : (s : Step) (a : Action) (c : ℕ) (x : Last)
    → ((on : Bool) (policy : Bytes) (cs : List ℕ) (i o : ℕ) (code : List Step)
    → Quietly on policy cs (step_if on cs (first_step policy i + o)) (flat (stepping i a (turn.goes i code a (suc (length code))) o c s)) (lasts i code a o c x))
    → Taken s a c (Ends x)
unfolding target left follows move_counted AllAhead Inside
still s a c x h = record {
  takes = h;
  ahead = λ code o _. tt;
  inside = λ n _. tt;
  less = omega arith;
  stays = λ _. refl;
}

module _ (a : Action) (c : ℕ) where
  pub takes-next : (t d : ℕ) → Taken (next t d) a c Stays
  unfolding stepping flat lasts ends quiet target left follows move_counted AllAhead Inside
  takes-next t d = record {
    takes = λ on policy cs i o code. quietly-same refl;
    ahead = λ code o _. tt;
    inside = λ n _. tt;
    less = omega arith;
    stays = λ _. refl;
  }

  pub takes-ok : (t : ℕ) → Taken (ok t) a c (Ends (Stops t false))
  unfolding stepping flat lasts ends quiet
  takes-ok t = still (ok t) a c (Stops t false) (λ on policy cs i o code. quietly-ran i o _)

  pub takes-sup : (t : ℕ) → Taken (sup t) a c (Ends (Stops t true))
  unfolding stepping flat lasts ends first AllSilent silent
  takes-sup t =
      still (sup t) a c (Stops t true)
      (λ on policy cs i o code. record { items = ran i o ∷ sups a ∷ []; quiet = (tt, (tt, tt)); is = refl; steps = sym (steps-sup on policy i o a cs) })

  pub takes-ins : (b t : ℕ) → Taken (ins b t) a c (Ends (Inserts b t))
  unfolding stepping flat lasts goes_on
  takes-ins b t = still (ins b t) a c (Inserts b t) (λ on policy cs i o code. quietly-ran i o _)

  pub takes-end : Taken end a c (Ends (Over 2))
  unfolding stepping flat lasts ends quiet status_of
  takes-end = still end a c (Over 2) (λ on policy cs i o code. quietly-ran i o _)

  pub takes-halt : Taken halt a c (Ends (Over 5))
  unfolding stepping flat lasts ends quiet status_of
  takes-halt = still halt a c (Over 5) (λ on policy cs i o code. quietly-ran i o _)

  -- a branch, by its test
  pub takes-yes : (s y z : ℕ) → has s a ≡ true → Taken (acase s y z) a c (On y c)
  unfolding stepping flat follows move_counted goes_on target left which targets is_next AllAhead Inside
  takes-yes s y z e = record {
    takes = λ on policy cs i o code. rw e (quietly-ran i o _);
    ahead = λ code o h. (h.0, tt);
    inside = λ n h. (h.0, tt);
    less = omega arith;
    stays = λ n. absurd n;
  }

  pub takes-no : (s y z : ℕ) → has s a ≡ false → Taken (acase s y z) a c (On z c)
  unfolding stepping flat follows move_counted goes_on target left which targets is_next AllAhead Inside
  takes-no s y z e = record {
    takes = λ on policy cs i o code. rw e (quietly-ran i o _);
    ahead = λ code o h. (h.1.0, tt);
    inside = λ n h. (h.1.0, tt);
    less = omega arith;
    stays = λ n. absurd n;
  }

  pub takes-paid : (n y z : ℕ) → affords c n ≡ true → Taken (spend n y z) a c (On y (c - n))
  unfolding stepping flat follows move_counted goes_on target left which targets is_next AllAhead Inside
  takes-paid n y z e = record {
    takes = λ on policy cs i o code. rw e (quietly-ran i o _);
    ahead = λ code o h. (h.0, tt);
    inside = λ n h. (h.0, tt);
    less = omega arith;
    stays = λ n. absurd n;
  }

  pub takes-unpaid : (n y z : ℕ) → affords c n ≡ false → Taken (spend n y z) a c (On z c)
  unfolding stepping flat follows move_counted goes_on target left which targets is_next AllAhead Inside
  takes-unpaid n y z e = record {
    takes = λ on policy cs i o code. rw e (quietly-ran i o _);
    ahead = λ code o h. (h.1.0, tt);
    inside = λ n h. (h.1.0, tt);
    less = omega arith;
    stays = λ n. absurd n;
  }

-- the step that the code took apart
pub of-step : {s s' : Step} {a : Action} {c : ℕ} {x : Move} → s ≡ s' → Taken s' a c x → Taken s a c x
of-step {a = a} {c = c} {x = x} e h = subst (λ (y : Step). Taken y a c x) (sym e) h

pub of-move : {s : Step} {a : Action} {c : ℕ} {x y : Move} → x ≡ y → Taken s a c x → Taken s a c y
of-move {s} {a} {c} e h = subst (λ (z : Move). Taken s a c z) e h
