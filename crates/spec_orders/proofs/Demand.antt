-- The third demand, from what the check gives of a call: that its process is safe.
use mathlib.Core.Path.{ap, ap₂}
use lib.Dec.{T}
use Rattle.spec_policy.specs.Bytes.{Bytes}
use Rattle.spec_policy.specs.Tree.{tree}
use Rattle.spec_turns.specs.State.{status}
use Rattle.spec_turns.specs.Process.{Out}
use Rattle.spec_turns.specs.Turn.{Request, call}
use Rattle.spec_turns.specs.Saved.{cells, load, saved}
use Rattle.spec_turns.specs.Entries.{answers, carried_out}
use Rattle.spec_turns.proofs.Safe.{Safe}
use Rattle.spec_orders.specs.Demand.{premise, AnyOrder}
use Rattle.spec_orders.proofs.Seen.{same-events}
use Rattle.spec_orders.proofs.OrderFree.{order-free}
use Rattle.spec_orders.proofs.Lines.{none-lost}

pub any_order : (policy : Bytes) (q : Request) (state room : Bytes) → Safe (call (tree policy) q (load (tree policy) (cells state))) → T (premise (tree policy))
    → AnyOrder policy q state room
unfolding carried_out
any_order policy q state room safe h =
    let free = order-free (tree policy) (call (tree policy) q (load (tree policy) (cells state))) safe in
    record {
      agree = free;
      none-lost = none-lost (tree policy) h;
      same-reply = λ o. ap₂ answers (same-events (free.formed o)) (ap (λ (x : Out). status x.state) (free.same o));
      same-state = λ o. ap (λ (x : Out). saved (tree policy) x.state) (free.same o);
    }
