-- A file laid over other bytes, piece after piece, and the writer's answers in their order.
use Prim.Native.Nat.{ℕ, ◌+◌, ◌*◌, ◌-◌, ◌≤◌, ◌<◌}
use native.Mathlib.Omega.{arith}
use mathlib.Core.Path.{◌≡◌, refl, sym, ap, ◌∙◌, subst}
use mathlib.Core.Bool.{false}
use mathlib.Core.List.{◌∷◌, ◌++◌, append_assoc}
use lib.ListN.{length, take, drop, length-append}
use lib.Seq.{drop-drop}
use borrow.Author.Tests.{lt-ltb, le-ltb}
use borrow.Rule.Slice.PartMut.{put_mid}
use Rattle.spec_policy.specs.Bytes.{Bytes, spell, put}
use Rattle.spec_policy.specs.Records.{node_size, step_size}
use Rattle.spec_policy.specs.Parts.{file}
use Rattle.spec_policy.proofs.ByteLaws.{put-append}
use Rattle.spec_policy.specs.Spots as spots
use Rattle.spec_check.specs.Check.{Answer, passes, refused, check}
use Rattle.spec_writer.specs.Writing.{holds, written, Result, refusal, laid, after, writes}
use Rattle.spec_writer.specs.Lent.{lendable, Lent}
use Rattle.faults.specs.declared.Fault.{Fault}
use Rattle.faults.specs.Meaning.{fault_of, fault_value}
use Rattle.faults.proofs.Once.{same-fault}
use Rattle.file_writer.specs.Replies.{spoken, Gave}
use Rattle.std.specs.Prelude.{Result as Given, Ok, Err}
use Rattle.spec_writer.proofs.Files.{written-length, unlent, by-check}

-- bytes copied over as many bytes from a place on
pub copied : (bs from : Bytes) (at : ℕ) → put_mid at (at + length from - at) bs from ≡ put bs at from
unfolding put
copied bs from at =
    let k : at + length from - at ≡ length from = omega arith in
    ap (λ (n : ℕ). take at bs ++ (from ++ drop n (drop at bs))) k ∙ ap (λ (zs : Bytes). take at bs ++ (from ++ zs)) (drop-drop (length from) at bs)

-- the front, the nodes and the steps
pub laid_out : (nodes steps out : Bytes) {front a b c : Bytes} {size : ℕ} → size ≡ length (written nodes steps) → Lent nodes steps → length (written nodes steps) ≤ length out
    → front ≡ spell 2 size ++ (1 ∷ holds node_size nodes ∷ spell 2 (holds step_size steps))
    → a ≡ put out 0 front → b ≡ put a 6 nodes → c ≡ put b (6 + length nodes) steps → c ≡ put out 0 (written nodes steps)
unfolding written file spell
laid_out nodes steps out {front} {a} {b} {c} {size} e l h f p q r =
    let w = written-length nodes steps in
    let k : size ≡ 6 + node_size * holds node_size nodes + step_size * holds step_size steps = omega arith in
    let s : length front ≡ 6 = ap length f in
    r ∙ ap (λ (zs : Bytes). put zs (6 + length nodes) steps) (q ∙ ap (λ (zs : Bytes). put zs 6 nodes) p ∙ put-append out 0 front 6 nodes (omega arith) (omega arith))
    ∙ put-append out 0 (front ++ nodes) (6 + length nodes) steps (rw length-append (omega arith)) (omega arith)
    ∙ ap (put out 0) (append_assoc front nodes steps ∙ ap (λ (zs : Bytes). zs ++ (nodes ++ steps)) f)
    ∙ ap (λ (j : ℕ). put out 0 (spell 2 j ++ (1 ∷ holds node_size nodes ∷ (spell 2 (holds step_size steps) ++ (nodes ++ steps))))) k

-- ---- the answers in their order

-- a refusal that means g is the one that g has
told : (f : Fault) {g : spots.Fault} → fault_of f ≡ g → ◌≡◌ {A = Given ℕ Fault} (Err f) (Err (fault_value g))
told f e = ap Err (sym (same-fault f) ∙ ap fault_value e)

module _ (nodes steps out : Bytes) where
  pub gave-3 : lendable nodes steps ≡ false → (f : Fault) → fault_of f ≡ spots.bare_fault 3 → Gave (writes nodes steps out) (Err f) out
  unfolding refusal spoken
  gave-3 e f t = subst (λ (x : Result). Gave x (Err f) out) (sym (unlent nodes steps out e)) (record { answer = told f t; out = refl })

  module _ (l : Lent nodes steps) where
    so : {a : Answer} {r : Given ℕ Fault} {bytes : Bytes} → check (written nodes steps) ≡ a → Gave (after a (written nodes steps) out) r bytes → Gave (writes nodes steps out) r bytes
    so {a} {r} {bytes} e g =
        subst (λ (x : Result). Gave x r bytes) (sym (by-check nodes steps out l ∙ ap (λ (x : Answer). after x (written nodes steps) out) e)) g

    pub gave-refused : {g : spots.Fault} → check (written nodes steps) ≡ refused g → (f : Fault) → fault_of f ≡ g → Gave (writes nodes steps out) (Err f) out
    unfolding after refusal spoken
    gave-refused e f t = so e (record { answer = told f t; out = refl })

    pub gave-15 : {r e : ℕ} → check (written nodes steps) ≡ passes r e → length out < length (written nodes steps) → (f : Fault) → fault_of f ≡ spots.bare_fault 15
        → Gave (writes nodes steps out) (Err f) out
    unfolding after laid refusal spoken
    gave-15 e h f t = so e (rw (lt-ltb (length out) (length (written nodes steps)) h, laid) (record { answer = told f t; out = refl }))

    pub gave-file : {r e n : ℕ} {bytes : Bytes} → check (written nodes steps) ≡ passes r e → length (written nodes steps) ≤ length out → n ≡ length (written nodes steps)
        → bytes ≡ put out 0 (written nodes steps) → Gave (writes nodes steps out) (Ok n) bytes
    unfolding after laid spoken
    gave-file e h f g = so e (rw (le-ltb (length out) (length (written nodes steps)) h, laid) (record { answer = ap Ok f; out = g }))

-- ---- two answers that meet the contract are one

pub gave-once : {x : Result} {r r' : Given ℕ Fault} {bytes bytes' : Bytes} → Gave x r bytes → Gave x r' bytes' → (r ≡ r') × (bytes ≡ bytes')
gave-once g h = (g.answer ∙ sym h.answer, g.out ∙ sym h.out)
