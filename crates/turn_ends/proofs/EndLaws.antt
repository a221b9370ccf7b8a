-- A node's status as it is read and written.
use Prim.Native.Nat.{ℕ, zero, suc, ◌+◌, ◌<◌}
use native.Mathlib.Omega.{arith}
use mathlib.Core.Path.{◌≡◌, refl, sym, ap, ap₂, ◌∙◌, subst}
use mathlib.Core.Bool.{Bool, true, false, ◌&&◌, ◌||◌, not}
use lib.Dec.{eqb}
use lib.ListN.{length, set}
use Rattle.spec_policy.specs.Bytes.{Bytes}
use Rattle.spec_policy.specs.Records.{most_nodes}
use Rattle.spec_turns.specs.Status.{status_of, is_running, is_halted}
use Rattle.spec_turns.specs.Turn.{Phase, still_asked}
use Rattle.turn_paths.specs.Memory.{Cell}
use Rattle.turn_paths.specs.Choices.{end_sup}
use Rattle.turn_paths.specs.Paths.{done, stopped}
use Rattle.turn_memory.specs.Words.{Words, packed, memory_of, Only}
use Rattle.turn_memory.proofs.CellLaws.{celled-packed, view-here, only_set, view-only}
use Rattle.turn_ends.specs.Ends.{ended, sides_give, SettledAt, ParEnd, SeqEnd, waiting_gives, Rereads, Reread}

-- the cell that was written
written : (ws ws' : Words) (i s m : ℕ) → (i < most_nodes) × (i < length ws) → s < 256 → m < 256 → ws' ≡ set ws i (packed s 0 m 0)
    → memory_of ws' i ≡ record { status = status_of s; asked = eqb m 1; offset = 0; counter = 0 }
written ws ws' i s m hi hs hm e =
    ap (λ (xs : Words). memory_of xs i) e ∙ view-here ws i (packed s 0 m 0) hi.0 hi.1 ∙ celled-packed s 0 m 0 hs (omega arith) hm (omega arith)

only-written : (ws ws' : Words) (i x : ℕ) → ws' ≡ set ws i x → Only i ws ws'
only-written ws ws' i x e = subst (Only i ws) (sym e) (only_set ws i x)

pub settled_at : (policy : Bytes) (i : ℕ) (ph : Phase) (ws ws' : Words) (s m : ℕ) → (i < most_nodes) × (i < length ws) → s < 256 → m < 256 → status_of s ≡ sides_give policy i ws
    → eqb m 1 ≡ still_asked ph → ws' ≡ set ws i (packed s 0 m 0) → SettledAt policy i ph ws ws' s
settled_at policy i ph ws ws' s m hi hs hm es em e =
    let w = written ws ws' i s m hi hs hm e in
    let o = only-written ws ws' i (packed s 0 m 0) e in
    record {
      settled = record {
        status = ap (λ (x : Cell). x.status) w ∙ es;
        asked = λ _. ap (λ (x : Cell). x.asked) w ∙ em;
        others = view-only o;
      };
      says = sym (ap (λ (x : Cell). x.status) w);
      only = o;
    }

-- ---- an end's number

ended-few : (y : ℕ) → y < 2 → ended y ≡ done (eqb y 1)
unfolding ended
ended-few zero h = refl
ended-few (suc zero) h = refl
ended-few (suc (suc y)) h = absurd (omega (arith, h))

module _ {policy : Bytes} {i : ℕ} {ph : Phase} {ws ws' : Words} {s : ℕ} (st : SettledAt policy i ph ws ws' s) (x y : ℕ) where
  halted-here : {v : Bool} → is_halted (status_of s) ≡ v → is_halted (memory_of ws' i).status ≡ v
  halted-here e = ap is_halted (sym st.says) ∙ e

  par_by : (r : ℕ) → ended r ≡ done (not (is_halted (memory_of ws' i).status) && (eqb x 1 || eqb y 1)) → ParEnd policy i ph ws ws' x y r
  par_by r e = record { settled = st.settled; only = st.only; says = e }

  pub par-halted : is_halted (status_of s) ≡ true → ParEnd policy i ph ws ws' x y 0
  unfolding ended
  par-halted e = par_by 0 (ap (λ (b : Bool). done (not b && (eqb x 1 || eqb y 1))) (sym (halted-here e)))

  pub par-left : is_halted (status_of s) ≡ false → eqb x 1 ≡ true → ParEnd policy i ph ws ws' x y 1
  unfolding ended
  par-left e f = par_by 1 (ap₂ (λ (b c : Bool). done (not b && (c || eqb y 1))) (sym (halted-here e)) (sym f))

  pub par-right : is_halted (status_of s) ≡ false → eqb x 1 ≡ false → y < 2 → ParEnd policy i ph ws ws' x y y
  par-right e f h = par_by y (ended-few y h ∙ ap₂ (λ (b c : Bool). done (not b && (c || eqb y 1))) (sym (halted-here e)) (sym f))

module _ {policy : Bytes} {i : ℕ} {ph : Phase} {ws ws' : Words} {s : ℕ} (st : SettledAt policy i ph ws ws' s) (x : ℕ) where
  pub seq-told : end_sup ph (eqb x 1) ≡ eqb x 1 → x < 2 → SeqEnd policy i ph ws ws' x x
  seq-told e h = record { settled = st.settled; only = st.only; says = ended-few x h ∙ ap done (sym e) }

  pub seq-quiet : end_sup ph (eqb x 1) ≡ false → SeqEnd policy i ph ws ws' x 0
  unfolding ended
  seq-quiet e = record { settled = st.settled; only = st.only; says = ap done (sym e) }

-- ---- the status read after an insert

pub goes-on : (policy : Bytes) (i : ℕ) (ws : Words) (s : ℕ) → status_of s ≡ waiting_gives policy i ws → is_running (status_of s) ≡ true → Reread policy i ws ws 0
unfolding ended
goes-on policy i ws s e h = record { reads = (ap is_running (sym e) ∙ h, refl); only = record { others = λ k ne. refl; sized = refl } }

ended-stop : (i : ℕ) → ended (2 + i) ≡ stopped i
unfolding ended
ended-stop i = ap ended (more i)
  where
    more : (i : ℕ) → 2 + i ≡ suc (suc i)
    more i = omega arith

pub stops : (policy : Bytes) (i : ℕ) (ws ws' : Words) (s : ℕ) → (i < most_nodes) × (i < length ws) → s < 256 → status_of s ≡ waiting_gives policy i ws → is_running (status_of s) ≡ false
    → ws' ≡ set ws i (packed s 0 0 0) → Reread policy i ws ws' (2 + i)
stops policy i ws ws' s hi hs es h e = record {
  reads = subst (Rereads policy i ws ws') (sym (ended-stop i))
      (refl, ap is_running (sym es) ∙ h, ap (λ (x : Cell). x.status) (written ws ws' i s 0 hi hs (omega arith) e) ∙ es);
  only = only-written ws ws' i (packed s 0 0 0) e;
}
