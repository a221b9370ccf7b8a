-- Events written one after another.
use Prim.Native.Nat.{ℕ, ◌+◌, ◌*◌, ◌≤◌}
use native.Mathlib.Omega.{arith}
use mathlib.Core.Path.{◌≡◌, refl, sym, ap, ◌∙◌}
use mathlib.Core.List.{List, [], ◌∷◌, ◌++◌}
use lib.ListN.{length, length-append}
use Rattle.spec_policy.specs.Bytes.{Bytes, put}
use Rattle.spec_policy.proofs.ByteLaws.{put-append}
use Rattle.laws_turns.proofs.Bounds.{two-each}
use Rattle.spec_turns.specs.Events.{Event, accepted, suppressed, inserted, event_bytes}
use Rattle.call_answer.specs.Ends.{Added}

bytes-append : (es fs : List Event) → event_bytes (es ++ fs) ≡ event_bytes es ++ event_bytes fs
unfolding event_bytes
bytes-append [] fs = refl
bytes-append (accepted a ∷ es) fs = ap (λ (bs : Bytes). 1 ∷ a ∷ bs) (bytes-append es fs)
bytes-append (suppressed a ∷ es) fs = ap (λ (bs : Bytes). 2 ∷ a ∷ bs) (bytes-append es fs)
bytes-append (inserted a ∷ es) fs = ap (λ (bs : Bytes). 3 ∷ a ∷ bs) (bytes-append es fs)

-- some, and others after them
pub added_then : {es fs : List Event} {room room₁ room₂ : Bytes} {n n₁ n₂ : ℕ} → Added es room room₁ n n₁ → Added fs room₁ room₂ n₁ n₂
    → 2 * (n₁ + length fs) ≤ length room → Added (es ++ fs) room room₂ n n₂
added_then {es} {fs} {room} {n = n} {n₁} h k fit = record {
  told =
      let at : 2 * n₁ ≡ 2 * n + length (event_bytes es) = omega (arith, two-each es, h.counted) in
      k.told ∙ ap (λ (bs : Bytes). put bs (2 * n₁) (event_bytes fs)) h.told
      ∙ put-append room (2 * n) (event_bytes es) (2 * n₁) (event_bytes fs) at (omega (arith, two-each fs))
      ∙ ap (put room (2 * n)) (sym (bytes-append es fs));
  counted = omega (arith, k.counted, h.counted, length-append es fs);
}
