-- The verdict's event where it is written, and the end of a call.
use Prim.Native.Nat.{ℕ, suc, ◌+◌, ◌*◌, ◌≤◌}
use native.Mathlib.Omega.{arith}
use mathlib.Core.Path.{◌≡◌, refl, sym, ap, ◌∙◌, subst}
use mathlib.Core.Bool.{Bool, true, false}
use mathlib.Core.List.{List, [], ◌∷◌}
use lib.ListN.{length, set}
use Rattle.actions.specs.Sets.{Action}
use Rattle.spec_policy.specs.Bytes.{Bytes, put}
use Rattle.spec_policy.specs.Tree.{Tree, leaf, trivial, unsatisfiable, node, number_of, tree}
use Rattle.spec_policy.proofs.ByteLaws.{put-none, put-sets}
use Rattle.laws_check.proofs.LawfulTree.{lawful}
use Rattle.spec_check.proofs.Numbers.{root-number}
use Rattle.spec_check.specs.Passed.{Passed}
use Rattle.spec_turns.specs.Status.{Status, status_number, is_halted}
use Rattle.spec_turns.specs.State.{State, status}
use Rattle.spec_turns.specs.Turn.{verdict}
use Rattle.spec_turns.specs.Events.{Event, event_of, event_bytes}
use Rattle.spec_turns.specs.Saved.{cells, status_at, cell, saved_cells, saved}
use Rattle.laws_turns.proofs.Cells.{Kept, lawful-apart, status-is, cells-length, cells-kept}
use Rattle.laws_turns.specs.Cells.{cell_at}
use Rattle.laws_turns.proofs.Fits.{saved-cells}
use Rattle.laws_turns.proofs.Lasting.{in_cells}
use Rattle.std.specs.Prelude.{Ok}
use Rattle.call_answer.specs.Replies.{Answer}
use Rattle.call_answer.specs.Ends.{verdicts, Added, Ended}

-- the verdict's event, as code stores it
pub said : (u : Bool) (room : Bytes) (n a b : ℕ) → 2 * n + 2 ≤ length room → event_bytes (event_of (verdict u a)) ≡ b ∷ a ∷ []
    → set (set room (2 * n) b) (2 * n + 1) a ≡ put room (2 * n) (event_bytes (event_of (verdict u a)))
said u room n a b h e =
    let k : 2 * n + 1 ≡ suc (2 * n) = omega arith in
    ap (λ (i : ℕ). set (set room (2 * n) b) i a) k
    ∙ sym (put-sets room (2 * n) (b ∷ a ∷ []) (omega arith))
    ∙ ap (put room (2 * n)) (sym e)

-- ---- the verdict

pub no-verdict : (s : Status) (u : Bool) (a : Action) (room : Bytes) (n : ℕ) → is_halted s ≡ true → 2 * n + 2 ≤ length room → Added (verdicts s u a) room room n n
unfolding verdicts event_bytes
no-verdict s u a room n e h = rw (e, verdicts) (record { told = sym (put-none room (2 * n)); counted = omega arith })

verdict-one : (u : Bool) (a : Action) → length (event_of (verdict u a)) ≡ 1
unfolding event_of verdict
verdict-one true a = refl
verdict-one false a = refl

pub one-verdict : (s : Status) (u : Bool) (a : Action) {room room' : Bytes} (n : ℕ) → is_halted s ≡ false
    → room' ≡ put room (2 * n) (event_bytes (event_of (verdict u a))) → Added (verdicts s u a) room room' n (n + 1)
unfolding verdicts
one-verdict s u a n e f = rw (e, verdicts) (record { told = f; counted = ap (λ (k : ℕ). n + k) (sym (verdict-one u a)) })

pub few-verdicts : (s : Status) (u : Bool) (a : Action) → length (verdicts s u a) ≤ 1
unfolding verdicts
few-verdicts s u a = go (is_halted s)
  where
    go : (h : Bool) → length {A = Event} (elim h as (λ _. List Event) [ true ↦ [] | false ↦ event_of (verdict u a) ]) ≤ 1
    go true = omega arith
    go false = omega (arith, verdict-one u a)

-- ---- the end of a call

kept-root : (t : Tree) (s : State) (bs : Bytes) → Kept t s bs → cell_at bs (number_of t) ≡ cell s
unfolding Kept number_of
kept-root (leaf i r c code) s bs k = k
kept-root (trivial i) s bs k = k
kept-root (unsatisfiable i) s bs k = k
kept-root (node w j i l r) s bs k = k.0

module _ {policy : Bytes} (ok : Passed policy) where
  -- the first byte of the saved state's cells is the root's status
  saved-root : (s : State) → status_at (saved_cells (tree policy) s) 0 ≡ status_number (status s)
  saved-root s =
      let t : Tree = tree policy in
      status-is (saved_cells t s) 0 (cells-length t (in_cells policy ok) s) (omega arith) s
      (subst (λ (i : ℕ). cell_at (saved_cells t s) i ≡ cell s) (root-number policy)
      (kept-root t s (saved_cells t s) (cells-kept t (lawful-apart t (lawful policy ok)) (in_cells policy ok) s)))

  pub ended : {s : State} (n : ℕ) {b : ℕ} {bytes : Bytes} → bytes ≡ saved (tree policy) s → b ≡ status_at (cells bytes) 0 → Ended (tree policy) s n (Ok (record { events = n; status = b })) bytes
  ended {s} n e f =
      let said : ℕ → Answer = λ k. Ok (record { events = n; status = k }) in
      record { answer = ap said (f ∙ ap (λ (bs : Bytes). status_at (cells bs) 0) e ∙ ap (λ (bs : Bytes). status_at bs 0) (saved-cells (tree policy) s) ∙ saved-root s); state = e }
