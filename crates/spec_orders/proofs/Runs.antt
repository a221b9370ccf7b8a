-- The third demand of any commands.
use Prim.Native.Nat.{ℕ}
use mathlib.Core.Path.{◌≡◌, refl, sym, ◌∙◌, ap, ap₂, subst}
use mathlib.Core.List.{List, [], ◌∷◌}
use lib.Dec.{T}
use Rattle.actions.specs.Sets.{ActionSet}
use Rattle.spec_policy.specs.Bytes.{Bytes}
use Rattle.spec_policy.specs.Tree.{tree}
use Rattle.spec_check.specs.Check.{check, passes}
use Rattle.spec_turns.specs.Status.{Status}
use Rattle.spec_turns.specs.Process.{Item, Process}
use Rattle.spec_turns.specs.Turn.{Request, opening, offer, close}
use Rattle.spec_turns.specs.Entries.{Reply, answers, refuses, Result, entry}
use Rattle.laws_turns.proofs.Answered.{Answered, answered, Reads, state-fits}
use Rattle.spec_orders.specs.Orders.{Order}
use Rattle.spec_orders.specs.Demand.{premise, AnyOrder}
use Rattle.spec_orders.specs.Runs.{asked, Runs, over, refused_then, ran_then, replies, last_state, AllAgree, Ends, AnyCommands}
use Rattle.spec_orders.proofs.ThirdDemand.{third-demand, third-demand-opening}
use Rattle.spec_orders.proofs.Completes.{completes}

module _ (policy room : Bytes) (r e : ActionSet) (ok : check policy ≡ passes r e) (h : T (premise (tree policy))) where
  of-answered : (q : Request) (state : Bytes) → Answered policy q state room → AnyOrder policy q state room
  unfolding Reads
  of-answered opening state a = third-demand-opening policy r e ok h state room
  of-answered (offer b) state a = third-demand policy r e ok h state room (state-fits policy (offer b) state room tt a) (offer b)
  of-answered close state a = third-demand policy r e ok h state room (state-fits policy close state room tt a) close

  -- what a call gives that is answered, and that its orders are free
  record Free (q : Request) (state : Bytes) : Type 0 where
    call : Answered policy q state room
    orders : AnyOrder policy q state room

  free_of : (q : Request) (state : Bytes) {k : ℕ} {s : Status} → (entry policy q state room).reply ≡ answers k s → Free q state
  free_of q state {k} {s} f = let a = answered policy q state room k s f in record { call = a; orders = of-answered q state a }

  any-run : {state state' : Bytes} {qs : List Request} {rs : List Reply} → Runs policy room state qs rs state'
      → (rs ≡ replies policy room state qs) × (state' ≡ last_state policy room state qs)
  unfolding replies last_state asked
  any-run over = (refl, refl)
  any-run (refused_then f run) = let g = any-run run in (ap₂ (λ (a : Reply) (b : List Reply). a ∷ b) (sym f) g.0, g.1)
  any-run (ran_then {state = state} {q = q} {qs = qs} f o run) =
      let d = free_of q state f in
      let z = d.orders.same-state o ∙ sym (ap (λ (x : Result). x.state) d.call.given) in
      let y = d.orders.same-reply o ∙ sym (ap (λ (x : Result). x.reply) d.call.given) in
      let g = any-run run in (
        ap₂ (λ (a : Reply) (b : List Reply). a ∷ b) y (g.0 ∙ ap (λ (b : Bytes). replies policy room b qs) z),
        g.1 ∙ ap (λ (b : Bytes). last_state policy room b qs) z,
      )

  all-agree : {state state' : Bytes} {qs : List Request} {rs : List Reply} (run : Runs policy room state qs rs state') → AllAgree run
  unfolding AllAgree asked
  all-agree over = tt
  all-agree (refused_then f run) = all-agree run
  all-agree (ran_then {state = state} {q = q} f o run) =
      let d = (free_of q state f).orders.agree in
      (record { told = d.told o; verdict = d.verdict o; leaves = d.leaves o; inserts = d.inserts o; steps = d.steps o }, all-agree run)

  ends : (state : Bytes) (q : Request) {k n : ℕ} {s : Status} {xs : List Item} {p : Process} → (entry policy q state room).reply ≡ answers k s
      → Order (asked policy q state) xs n p → Ends p
  unfolding asked
  ends state q f o = completes (free_of q state f).orders.agree o

  -- one call more, before a run from the state that demand 2 saves
  own-call : (q : Request) (qs : List Request) (state : Bytes) (y : Reply) → (entry policy q state room).reply ≡ y
      → Runs policy room (entry policy q state room).state qs (replies policy room (entry policy q state room).state qs)
      (last_state policy room (entry policy q state room).state qs)
      → Runs policy room state (q ∷ qs) (y ∷ replies policy room (entry policy q state room).state qs)
      (last_state policy room (entry policy q state room).state qs)
  unfolding asked
  own-call q qs state (refuses n) f run = refused_then f run
  own-call q qs state (answers k s) f run =
      let d = free_of q state f in
      let o = d.orders.agree.left-first in
      let given = d.call.given in
      let z = d.orders.same-state o ∙ sym (ap (λ (x : Result). x.state) given) in
      let y = d.orders.same-reply o ∙ sym (ap (λ (x : Result). x.reply) given) ∙ f in
      let rest = replies policy room (entry policy q state room).state qs in
      let last = last_state policy room (entry policy q state room).state qs in
      subst (λ (a : Reply). Runs policy room state (q ∷ qs) (a ∷ rest) last) y
      (ran_then f o (subst (λ (b : Bytes). Runs policy room b qs rest last) (sym z) run))

  own-run : (state : Bytes) (qs : List Request) → Runs policy room state qs (replies policy room state qs) (last_state policy room state qs)
  unfolding replies last_state
  own-run state [] = over
  own-run state (q ∷ qs) = own-call q qs state (entry policy q state room).reply refl (own-run (entry policy q state room).state qs)

  -- "for a passed policy with no parallel node in the left part of a sequential node .. and any commands"
  pub any-commands : AnyCommands policy room
  any-commands = record { any-run = any-run; all-agree = all-agree; completes = ends; own-run = own-run }
