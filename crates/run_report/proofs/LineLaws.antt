-- One event's line after the others'.
use Prim.Native.Nat.{ℕ, zero, suc, ◌+◌, ◌*◌}
use native.Mathlib.Numerals.{add-one}
use native.Mathlib.Omega.{arith}
use mathlib.Core.Path.{◌≡◌, sym, ap, ap₂, ◌∙◌}
use mathlib.Core.List.{◌++◌, append_assoc, append-nil}
use lib.ListN.{drop, get_or}
use lib.Seq.{get_or-drop}
use Rattle.spec_policy.specs.Bytes.{Bytes}
use Rattle.spec_text.specs.Numerals.{decimal}
use Rattle.run_report.specs.Lines.{line, kind, lines}

one_more : (n : ℕ) (room : Bytes) → lines n room ++ line (kind (get_or room (2 * n) 0)) (decimal (get_or room (2 * n + 1) 0)) ≡ lines (suc n) room
unfolding lines
one_more zero room = sym (append-nil (line (kind (get_or room 0 0)) (decimal (get_or room 1 0))))
one_more (suc n) room =
    append_assoc (line (kind (get_or room 0 0)) (decimal (get_or room 1 0))) (lines n (drop 2 room)) (line (kind (get_or room (2 * suc n) 0)) (decimal (get_or room (2 * suc n + 1) 0)))
    ∙ ap (λ (l : Bytes). line (kind (get_or room 0 0)) (decimal (get_or room 1 0)) ++ l)
    (ap (λ (e : Bytes). lines n (drop 2 room) ++ e) (ap₂ (λ (k a : ℕ). line (kind k) (decimal a)) (later (2 * n) (2 * suc n) (omega arith)) (later (2 * n + 1) (2 * suc n + 1) (omega arith)))
    ∙ one_more n (drop 2 room))
  where
    later : (i j : ℕ) → j ≡ 2 + i → get_or room j 0 ≡ get_or (drop 2 room) i 0
    later i j e = ap (λ (k : ℕ). get_or room k 0) e ∙ sym (get_or-drop 2 room i 0)

pub line-more : (n : ℕ) (room : Bytes) → lines n room ++ line (kind (get_or room (2 * n) 0)) (decimal (get_or room (2 * n + 1) 0)) ≡ lines (n + 1) room
line-more n room = one_more n room ∙ ap (λ (k : ℕ). lines k room) (sym (add-one n))
