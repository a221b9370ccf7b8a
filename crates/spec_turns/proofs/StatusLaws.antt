-- Statuses as numbers: what a comparison of one tells of the status that it stands for.
use Prim.Native.Nat.{ℕ, zero, suc, ◌≤◌}
use native.Mathlib.Omega.{arith}
use mathlib.Core.Path.{◌≡◌, refl, sym, ap, ◌∙◌}
use mathlib.Core.Bool.{true, false, ◌&&◌}
use mathlib.Core.List.{[], ◌∷◌}
use lib.Dec.{eqb, leb}
use lib.ListN.{get_or-eq_default}
use borrow.Author.Tests.{ne_eqb, le-leb, lt-leb}
use Rattle.actions.proofs.Tests.{true-not-false}
use Rattle.spec_turns.specs.Status.{Status, running, ended, ended_left, ended_right, halted, dropped, status_of, is_running, has_ended, is_halted}

-- the first seven numbers, and all beyond them
by-status : (P : ℕ → Type 0) → P 0 → P 1 → P 2 → P 3 → P 4 → P 5 → P 6 → ((x : ℕ) → 7 ≤ x → P x) → (x : ℕ) → P x
by-status P a b c d e f g h zero = a
by-status P a b c d e f g h (suc zero) = b
by-status P a b c d e f g h (suc (suc zero)) = c
by-status P a b c d e f g h (suc (suc (suc zero))) = d
by-status P a b c d e f g h (suc (suc (suc (suc zero)))) = e
by-status P a b c d e f g h (suc (suc (suc (suc (suc zero))))) = f
by-status P a b c d e f g h (suc (suc (suc (suc (suc (suc zero)))))) = g
by-status P a b c d e f g h (suc (suc (suc (suc (suc (suc (suc k))))))) = h (suc (suc (suc (suc (suc (suc (suc k))))))) (omega arith)

no-status : (x : ℕ) → 7 ≤ x → status_of x ≡ dropped
unfolding status_of
no-status x h = get_or-eq_default (dropped ∷ running ∷ ended ∷ ended_left ∷ ended_right ∷ halted ∷ dropped ∷ []) dropped h

pub running-one : (x : ℕ) → eqb x 1 ≡ is_running (status_of x)
unfolding status_of is_running
running-one =
    by-status (λ x. eqb x 1 ≡ is_running (status_of x)) refl refl refl refl refl refl refl
    (λ x h. ne_eqb x 1 (λ e. omega arith) ∙ sym (ap is_running (no-status x h)))

pub ended-between : (x : ℕ) → (leb 2 x && leb x 4) ≡ has_ended (status_of x)
unfolding status_of has_ended
ended-between =
    by-status (λ x. (leb 2 x && leb x 4) ≡ has_ended (status_of x)) refl refl refl refl refl refl refl
    (λ x h. rw (le-leb 2 x (omega arith), lt-leb x 4 (omega arith)) (sym (ap has_ended (no-status x h))))

pub halted-five : (x : ℕ) → eqb x 5 ≡ is_halted (status_of x)
unfolding status_of is_halted
halted-five =
    by-status (λ x. eqb x 5 ≡ is_halted (status_of x)) refl refl refl refl refl refl refl
    (λ x h. ne_eqb x 5 (λ e. omega arith) ∙ sym (ap is_halted (no-status x h)))

pub not-running : (x : ℕ) → (x ≡ 1 → ⊥) → is_running (status_of x) ≡ false
not-running x f = sym (running-one x) ∙ ne_eqb x 1 f

pub not-halted : (x : ℕ) → (x ≡ 5 → ⊥) → is_halted (status_of x) ≡ false
not-halted x f = sym (halted-five x) ∙ ne_eqb x 5 f

pub is-running : (s : Status) → is_running s ≡ true → s ≡ running
unfolding is_running
is-running running e = refl
is-running ended e = true-not-false e refl
is-running ended_left e = true-not-false e refl
is-running ended_right e = true-not-false e refl
is-running halted e = true-not-false e refl
is-running dropped e = true-not-false e refl
