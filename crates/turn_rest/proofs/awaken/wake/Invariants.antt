use Prim.Native.Nat.{ℕ}
use mathlib.Core.Path.{◌≡◌}
use Rattle.spec_policy.specs.Bytes.{number}
use Rattle.spec_turns.specs.Saved.{cell_size, cells, cell_place}
use Rattle.turn_rest.proofs.Awakened.{Filled}
use Rattle.turn_rest.proofs.awaken.wake.Given as goal

abbrev pub invariant-loop-i : goal.invariant-loop-i
invariant-loop-i l = Filled (λ (k x : ℕ). x ≡ number (cells l.state) (cell_place k) cell_size) l.n l.initial.mem l.mem l.i
