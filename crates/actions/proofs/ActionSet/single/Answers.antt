-- `ActionSet::single` meets its contract.
use Prim.Native.Nat.{ℕ, ◌*◌, ◌%◌, ◌^◌, ◌≤◌}
use native.Mathlib.Omega.{arith}
use native.Mathlib.Nat.{one-mul}
use mathlib.Core.Path.{◌≡◌, ◌∙◌, sym}
use lib.Dec.{lit<}
use lib.Pow.{shl_exact}
use Rattle.actions.specs.Sets.{single, EMPTY}
use Rattle.actions.proofs.SetLaws.{single-action, single-none}
use Rattle.actions.proofs.ActionSet.single.Goals as goal

-- the shift loses no bit
one_shifted : (a : ℕ) → a ≤ 63 → (1 * 2 ^ a) % 2 ^ 64 ≡ single a
one_shifted a h = shl_exact 1 a 64 (lit< tt) (omega arith) ∙ one-mul (2 ^ a) ∙ sym (single-action a h)

pub returns-then-a-le-LAST_ACTION : goal.returns-then-a-le-LAST_ACTION
returns-then-a-le-LAST_ACTION c = one_shifted c.args.a (omega arith)

pub returns-else-a-le-LAST_ACTION : goal.returns-else-a-le-LAST_ACTION
unfolding EMPTY
returns-else-a-le-LAST_ACTION c = sym (single-none c.args.a (omega arith))
