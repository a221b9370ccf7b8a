-- Rule 7: the mode rule.
use Rattle.std.specs.Prelude.{ℕ, suc, ◌+◌, Bool, true, false, ◌&&◌, ◌||◌, not, T, eqb, get_or}
use mathlib.Core.List.{List, [], ◌∷◌, ◌++◌, Memᴰ}
use Rattle.spec_policy.specs.Bytes.{Bytes}
use Rattle.spec_policy.specs.Lists.{one, every_at}
use Rattle.spec_policy.specs.Spots.{Spot, somewhere, first_off}
use Rattle.spec_policy.specs.Steps.{Step, next, ok, sup, ins, acase, spend, end, halt, is_next}
use Rattle.spec_policy.specs.Tree.{nodes_with_steps}
use Rattle.spec_check.specs.Leaves.{first_in_leaves}

-- "Three modes: idle, pending, closing."
pub data Mode : Type 0 where
  idle pending closing : Mode

unfoldable pub is_idle : Mode → Bool
is_idle idle = true
is_idle pending = false
is_idle closing = false

unfoldable pub is_pending : Mode → Bool
is_pending idle = false
is_pending pending = true
is_pending closing = false

unfoldable pub is_closing : Mode → Bool
is_closing idle = false
is_closing pending = false
is_closing closing = true

unfoldable pub same_mode : Mode → Mode → Bool
same_mode idle m = is_idle m
same_mode pending m = is_pending m
same_mode closing m = is_closing m

-- The table, its first half: whether a step may stand in a mode. "Ok and sup stand only in pending mode .. Acase stands only in
-- pending mode .. Ins and spend stand in any mode .. End and halt stand in any. Refused: .. a next reached in other than idle mode".
unfoldable pub stands : Step → Mode → Bool
stands (next t d) m = is_idle m
stands (ok t) m = is_pending m
stands (sup t) m = is_pending m
stands (ins b t) m = true
stands (acase s y z) m = is_pending m
stands (spend n y z) m = true
stands end m = true
stands halt m = true

-- An offset reached in a mode.
pub record Mark : Type 0 where
  pub mode : Mode
  pub offset : ℕ

-- The table, its second half: what a step that may stand in mode m reaches from there. "A next reaches its take target pending, its done target
-- closing. Ok and sup .. lead to idle. Acase .. keeps it. Ins and spend .. keep it."
unfoldable pub onward : Step → Mode → List Mark
onward (next t d) m = record { mode = pending; offset = t } ∷ record { mode = closing; offset = d } ∷ []
onward (ok t) m = record { mode = idle; offset = t } ∷ []
onward (sup t) m = record { mode = idle; offset = t } ∷ []
onward (ins b t) m = record { mode = m; offset = t } ∷ []
onward (acase s y z) m = record { mode = m; offset = y } ∷ record { mode = m; offset = z } ∷ []
onward (spend n y z) m = record { mode = m; offset = y } ∷ record { mode = m; offset = z } ∷ []
onward end m = []
onward halt m = []

-- "Ok and sup stand only in pending mode and lead to idle. Acase stands only in pending mode and keeps it.": from a mode in which its kind may not stand a
-- step leads nowhere.
unfoldable pub leads : Step → Mode → List Mark
leads s m = elim (stands s m) [ true ↦ onward s m | false ↦ [] ]

-- What the paper says, as it says it: an offset is reached in a mode by a chain of steps. `laws_check/proofs/Modes` shows that the walk below
-- finds just these.
pub data Reached (code : List Step) : Mode → ℕ → Type 0 where
  -- "Offset 0 is reached idle;"
  first : Reached code idle 0
  -- "every next counts as reached idle."
  waits : {o : ℕ} → T (is_next (get_or code o halt)) → Reached code idle o
  led : {m m' : Mode} {o o' : ℕ} → Reached code m o → Memᴰ (record { mode = m'; offset = o' }) (leads (get_or code o halt) m) → Reached code m' o'

unfoldable pub marked : Mode → ℕ → List Mark → Bool
marked m o [] = false
marked m o (k ∷ ks) = (same_mode m k.mode && eqb o k.offset) || marked m o ks

-- The step at o, which is s, is reached in mode m: it is marked so, or it is a next and m is idle.
unfoldable pub reached_by : List Mark → Mode → ℕ → Step → Bool
reached_by ks m o s = marked m o ks || (is_idle m && is_next s)

unfoldable pub leads_if : Bool → Step → Mode → List Mark
leads_if true s m = leads s m
leads_if false s m = []

-- the marks after the step at o
unfoldable pub stepped : ℕ → Step → List Mark → List Mark
stepped o s ks =
    leads_if (reached_by ks idle o s) s idle ++ (leads_if (reached_by ks pending o s) s pending ++ (leads_if (reached_by ks closing o s) s closing ++ ks))

-- A target that is not later than its step is a next, which counts as reached idle anyway. So one walk through the steps, in order,
-- finds every mode.
unfoldable pub walked : ℕ → List Step → List Mark → List Mark
unfolding stepped
walked o [] ks = ks
walked o (s ∷ ss) ks = walked (suc o) ss (stepped o s ks)

unfoldable pub marks : List Step → List Mark
marks code = walked 0 code (record { mode = idle; offset = 0 } ∷ [])

-- "Refused: a step reached in two modes or in one where its kind may not stand, .. a step never reached.": not so, of the step at o
unfoldable pub mode_fits : List Mark → ℕ → Step → Bool
mode_fits ks o s =
    eqb (one (reached_by ks idle o s) + one (reached_by ks pending o s) + one (reached_by ks closing o s)) 1
    && (not (reached_by ks idle o s) || stands s idle)
    && (not (reached_by ks pending o s) || stands s pending)
    && (not (reached_by ks closing o s) || stands s closing)

unfoldable pub modes_fit : List Step → Bool
modes_fit code = every_at (mode_fits (marks code)) 0 code

-- 7: "the mode rule is broken". Where: the step. All modes are known before the first step is tested, since a later step may lead back to it.
unfoldable pub wrong7 : Bytes → Spot
wrong7 file = first_in_leaves (λ r code. first_off (mode_fits (marks code)) 0 code) 0 (nodes_with_steps file)

unfoldable pub broken7 : Bytes → Bool
broken7 file = somewhere (wrong7 file)
