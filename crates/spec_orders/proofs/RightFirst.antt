-- P11 closed right side first: the order by computation, what is said of it by the third demand.
use mathlib.Core.Path.{◌≡◌, refl, sym, subst, ◌∙◌}
use mathlib.Core.List.{List, [], ◌∷◌}
use lib.ListN.{length}
use Rattle.spec_policy.specs.Parts.{built}
use Rattle.spec_policy.specs.Tree.{tree}
use Rattle.spec_policy.specs.Spots.{bare_fault}
use Rattle.spec_turns.specs.Status.{running, ended}
use Rattle.spec_turns.specs.Process.{stop, outcome}
use Rattle.spec_turns.specs.Turn.{opening, offer, close}
use Rattle.spec_turns.specs.Events.{events}
use Rattle.spec_turns.specs.State.{status}
use Rattle.spec_turns.specs.Saved.{saved}
use Rattle.spec_turns.specs.Entries.{Reply, answers, refuses, entry}
use Rattle.spec_orders.specs.Orders.{clear, acts, on_left, on_right, meet, Order, start, then, only, is_verdict}
use Rattle.spec_orders.specs.Demand.{no_parallel, premise}
use Rattle.spec_orders.specs.Premise.{closing_items}
use Rattle.spec_orders.specs.Runs.{asked, Runs, over, refused_then, ran_then, AllAgree, Agree, AnyCommands}
use Rattle.spec_orders.specs.RightFirst.{P11, room, unopened, after_opening, after_refusal, closes_it, right_first, requests, gave, RightFirst}
use Rattle.spec_orders.proofs.Runs.{any-commands}

-- every definition that the example computes with
unfoldable opened : Unit {0}
unfolding Rattle.spec_turns.specs.Opened.opened Rattle.spec_check.specs.Opened.opened Rattle.spec_policy.specs.Opened.opened Rattle.actions.specs.Opened.opened
opened = tt

unfoldable worked : Unit {0}
unfolding opened built clear no_parallel premise asked closing_items P11 room unopened after_opening after_refusal right_first requests gave
worked = tt

demand : AnyCommands P11 room
unfolding worked
demand = any-commands P11 room 48 120 refl tt

order : Order closes_it right_first 9 (stop (outcome closes_it))
unfolding worked
order =
    then (on_right acts tt) (then (on_right acts tt) (then (on_right acts tt) (then (on_right acts tt)
    (then (on_left acts tt) (then (on_left acts tt) (then (on_left acts tt) (then (on_left acts tt) (then meet start))))))))

-- opening has one move: both leaves stand at their next
opens-so : Order (asked P11 opening unopened) [] 1 (stop (outcome (asked P11 opening unopened)))
unfolding worked
opens-so = then meet start

opens-to : (entry P11 opening unopened room).reply ≡ answers 0 running
unfolding worked
opens-to = refl

refused : (entry P11 (offer 64) after_opening room).reply ≡ refuses (bare_fault 13)
unfolding worked
refused = refl

closes-to : (entry P11 close after_refusal room).reply ≡ answers 2 ended
unfolding worked
closes-to = refl

-- The replies as a run gives them. They are computed once, in `values`: compared while a run is built, they are computed at each step.
abbrev told-so : List Reply
told-so = answers (length (events [])) (status (outcome (asked P11 opening unopened)).state) ∷ refuses (bare_fault 13) ∷ answers (length (events right_first)) (status (outcome closes_it).state) ∷ []

unfoldable ran : Runs P11 room unopened (opening ∷ offer 64 ∷ close ∷ []) told-so (saved (tree P11) (outcome closes_it).state)
unfolding after_opening after_refusal
ran = ran_then opens-to opens-so (refused_then refused (ran_then closes-to order over))

values : told-so ≡ gave
unfolding worked
values = refl

agrees : Agree (tree P11) closes_it right_first
unfolding AllAgree ran after_opening after_refusal
agrees = (demand.all-agree ran).1.0

pub right-first : RightFirst
unfolding worked only is_verdict
right-first = record {
  opened = refl;
  unchanged = refl;
  order = order;
  seen = refl;
  rules-give = refl;
  run = subst (λ rs. Runs P11 room unopened requests rs (saved (tree P11) (outcome closes_it).state)) values ran;
  own = demand.own-run unopened requests;
  replied = sym values ∙ (demand.any-run ran).0;
  left = (demand.any-run ran).1;
  told = agrees.told;
  verdict = agrees.verdict;
  leaves = agrees.leaves;
  inserts = agrees.inserts;
  steps = agrees.steps;
  completes = λ o. demand.completes after_refusal close {k = 2} refl o;
}
