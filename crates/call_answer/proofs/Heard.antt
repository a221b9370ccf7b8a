-- What an answer says of the definition's reply, and how many events it has.
use Prim.Native.Nat.{ℕ, ◌*◌, ◌≤◌}
use native.Mathlib.Omega.{arith}
use mathlib.Core.Path.{◌≡◌, sym, ap, ap₂, ◌∙◌, subst}
use lib.ListN.{length}
use Rattle.spec_policy.specs.Bytes.{Bytes}
use Rattle.spec_turns.specs.Status.{status_number, status_of}
use Rattle.spec_turns.specs.Turn.{Request}
use Rattle.spec_turns.specs.Entries.{Reply, answers, refuses, entry}
use Rattle.laws_turns.proofs.Answered.{answered, room-kept}
use Rattle.laws_turns.proofs.Bounds.{answered-emits}
use Rattle.laws_turns.proofs.Cells.{status-back}
use Rattle.faults.specs.declared.Fault.{Fault}
use Rattle.faults.specs.Meaning.{fault_of, fault_value}
use Rattle.faults.proofs.Once.{value-means}
use Rattle.std.specs.Prelude.{Ok, Err}
use Rattle.call_answer.specs.Replies.{Answer, spoken, Gave}
use Rattle.call_answer.specs.declared.Answered.{Answered}

pub heard : (q : Reply) (n k : ℕ) → Ok (record { events = n; status = k }) ≡ spoken q → q ≡ answers n (status_of k)
unfolding spoken
heard (answers m s) n k e =
    let both : ◌≡◌ {A = Answered} (record { events = n; status = k }) (record { events = m; status = status_number s }) = cc in
    let a : m ≡ n = ap (λ (x : Answered). x.events) (sym both) in
    let b : status_number s ≡ k = ap (λ (x : Answered). x.status) (sym both) in
    ap₂ answers a (sym (status-back s) ∙ ap status_of b)
heard (refuses m) n k e = let z : ◌≡◌ {A = ℕ} 0 1 = cc in absurd (omega arith)

pub heard-refusal : (q : Reply) (f : Fault) → Err f ≡ spoken q → q ≡ refuses (fault_of f)
unfolding spoken
heard-refusal (answers m s) f e = let z : ◌≡◌ {A = ℕ} 0 1 = cc in absurd (omega arith)
heard-refusal (refuses m) f e = let a : fault_value m ≡ f = cc in ap refuses (sym (value-means f m a))

module _ (policy : Bytes) where
  -- what one request's call gave is what the same request's gave
  pub gave-as : (state events : Bytes) {saved room : Bytes} {r : Answer} {q k : Request} → k ≡ q → Gave (entry policy k state events) r saved room
      → Gave (entry policy q state events) r saved room
  gave-as state events {saved} {room} {r} e g = subst (λ (x : Request). Gave (entry policy x state events) r saved room) e g

  -- the events are in the buffer, and few
  pub few : (q : Request) (state events : Bytes) {saved room : Bytes} {r : Answer} {n k : ℕ} → Gave (entry policy q state events) r saved room → r ≡ Ok (record { events = n; status = k })
      → (2 * n ≤ length room) × (n ≤ 256)
  few q state events {saved} {room} {r} {n} {k} g e =
      let h = heard (entry policy q state events).reply n k (sym e ∙ g.answer) in
      let m = answered-emits policy q state events n (status_of k) h in
      let o = room-kept policy q state events (answered policy q state events n (status_of k) h) in
      let a = m.room-enough in
      let b : length room ≡ length events = ap (λ (l : Bytes). length l) g.events ∙ m.same_length in
      let d = o.event-room in
      (omega arith, omega arith)
