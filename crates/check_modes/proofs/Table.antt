-- The table says what the mode rule says, of every kind of step in every mode.
use Prim.Native.Nat.{ℕ, zero, suc, ◌≤◌}
use native.Mathlib.Omega.{arith}
use mathlib.Core.Path.{◌≡◌, refl, sym, subst}
use lib.Dec.{lit≤}
use Rattle.spec_policy.specs.Lists.{one}
use Rattle.spec_policy.specs.Records.{StepRecord}
use Rattle.spec_policy.specs.Steps.{Step, next, ok, sup, ins, acase, spend, end, halt, step_of, is_next}
use Rattle.file_records.proofs.Rows.{steps-else}
use Rattle.spec_check.specs.Modes.{Mode, idle, pending, closing, is_idle, is_pending, is_closing, stands, onward, leads}
use Rattle.check_modes.specs.Table.{mode_number, table, entry_at, first_mode, second_mode, ruled, reaching, may_stand, led_by, Tells}

-- a step of each kind, by its number; the fields that the kind does not use are no matter
abbrev kinded : StepRecord → ℕ → Step
kinded r k = step_of (record { kind = k; action = r.action; first = r.first; second = r.second; operand = r.operand })

-- ---- the whole table: every entry of every row is the rule's own

-- the entry of kind k in a mode
abbrev Entry : StepRecord → ℕ → Mode → Type 0
Entry r k m = entry_at k (mode_number m) ≡ ruled (kinded r k) m

each : (r : StepRecord) (k : ℕ) → Entry r k idle → Entry r k pending → Entry r k closing → (m : Mode) → Entry r k m
each r k a b c idle = a
each r k a b c pending = b
each r k a b c closing = c

entries : (r : StepRecord) (k : ℕ) → 1 ≤ k → k ≤ 8 → (m : Mode) → Entry r k m
unfolding table entry_at mode_number step_of stands onward leads is_idle is_pending first_mode second_mode ruled one
entries r zero g h = absurd (omega arith)
entries r (suc zero) g h = each r 1 refl refl refl
entries r (suc (suc zero)) g h = each r 2 refl refl refl
entries r (suc (suc (suc zero))) g h = each r 3 refl refl refl
entries r (suc (suc (suc (suc zero)))) g h = each r 4 refl refl refl
entries r (suc (suc (suc (suc (suc zero))))) g h = each r 5 refl refl refl
entries r (suc (suc (suc (suc (suc (suc zero)))))) g h = each r 6 refl refl refl
entries r (suc (suc (suc (suc (suc (suc (suc zero))))))) g h = each r 7 refl refl refl
entries r (suc (suc (suc (suc (suc (suc (suc (suc zero)))))))) g h = each r 8 refl refl refl
entries r (suc (suc (suc (suc (suc (suc (suc (suc (suc k))))))))) g h = absurd (omega arith)

pub table-ruled : (r : StepRecord) (m : Mode) → 1 ≤ r.kind → r.kind ≤ 8 → entry_at r.kind (mode_number m) ≡ ruled (step_of r) m
table-ruled r m g h = entries r r.kind g h m

-- ---- what the code asks of it

by_mode : (k x y : ℕ) (s : Step) → Tells k x y s idle → Tells k x y s pending → Tells k x y s closing → (m : Mode) → Tells k x y s m
by_mode k x y s a b c idle = a
by_mode k x y s a b c pending = b
by_mode k x y s a b c closing = c

pub tells-next : (t d : ℕ) (m : Mode) → Tells 1 t d (next t d) m
unfolding table entry_at mode_number is_next stands onward leads may_stand led_by reaching is_idle is_pending is_closing
tells-next t d = by_mode 1 t d (next t d) (record { may = refl; led = refl; next = refl }) (record { may = refl; led = refl; next = refl }) (record { may = refl; led = refl; next = refl })

pub tells-ok : (t : ℕ) (m : Mode) → Tells 2 t 0 (ok t) m
unfolding table entry_at mode_number is_next stands onward leads may_stand led_by reaching is_idle is_pending is_closing
tells-ok t = by_mode 2 t 0 (ok t) (record { may = refl; led = refl; next = refl }) (record { may = refl; led = refl; next = refl }) (record { may = refl; led = refl; next = refl })

pub tells-sup : (t : ℕ) (m : Mode) → Tells 3 t 0 (sup t) m
unfolding table entry_at mode_number is_next stands onward leads may_stand led_by reaching is_idle is_pending is_closing
tells-sup t = by_mode 3 t 0 (sup t) (record { may = refl; led = refl; next = refl }) (record { may = refl; led = refl; next = refl }) (record { may = refl; led = refl; next = refl })

pub tells-ins : (b t : ℕ) (m : Mode) → Tells 4 t 0 (ins b t) m
unfolding table entry_at mode_number is_next stands onward leads may_stand led_by reaching is_idle is_pending is_closing
tells-ins b t = by_mode 4 t 0 (ins b t) (record { may = refl; led = refl; next = refl }) (record { may = refl; led = refl; next = refl }) (record { may = refl; led = refl; next = refl })

pub tells-acase : (s y z : ℕ) (m : Mode) → Tells 5 y z (acase s y z) m
unfolding table entry_at mode_number is_next stands onward leads may_stand led_by reaching is_idle is_pending is_closing
tells-acase s y z = by_mode 5 y z (acase s y z) (record { may = refl; led = refl; next = refl }) (record { may = refl; led = refl; next = refl }) (record { may = refl; led = refl; next = refl })

pub tells-spend : (n y z : ℕ) (m : Mode) → Tells 6 y z (spend n y z) m
unfolding table entry_at mode_number is_next stands onward leads may_stand led_by reaching is_idle is_pending is_closing
tells-spend n y z = by_mode 6 y z (spend n y z) (record { may = refl; led = refl; next = refl }) (record { may = refl; led = refl; next = refl }) (record { may = refl; led = refl; next = refl })

pub tells-end : (m : Mode) → Tells 7 0 0 end m
unfolding table entry_at mode_number is_next stands onward leads may_stand led_by reaching is_idle is_pending is_closing
tells-end = by_mode 7 0 0 end (record { may = refl; led = refl; next = refl }) (record { may = refl; led = refl; next = refl }) (record { may = refl; led = refl; next = refl })

pub tells-halt : (m : Mode) → Tells 8 0 0 halt m
unfolding table entry_at mode_number is_next stands onward leads may_stand led_by reaching is_idle is_pending is_closing
tells-halt = by_mode 8 0 0 halt (record { may = refl; led = refl; next = refl }) (record { may = refl; led = refl; next = refl }) (record { may = refl; led = refl; next = refl })

-- ---- a step by its record: a target that its kind does not have is not led to, whatever its field says

known : (r : StepRecord) (k : ℕ) → 1 ≤ k → k ≤ 8 → (m : Mode) → Tells k r.first r.second (kinded r k) m
unfolding table entry_at mode_number step_of is_next stands onward leads may_stand led_by reaching is_idle is_pending is_closing
known r zero g h = absurd (omega arith)
known r (suc zero) g h = by_mode 1 r.first r.second (kinded r 1) (record { may = refl; led = refl; next = refl }) (record { may = refl; led = refl; next = refl }) (record { may = refl; led = refl; next = refl })
known r (suc (suc zero)) g h = by_mode 2 r.first r.second (kinded r 2) (record { may = refl; led = refl; next = refl }) (record { may = refl; led = refl; next = refl }) (record { may = refl; led = refl; next = refl })
known r (suc (suc (suc zero))) g h = by_mode 3 r.first r.second (kinded r 3) (record { may = refl; led = refl; next = refl }) (record { may = refl; led = refl; next = refl }) (record { may = refl; led = refl; next = refl })
known r (suc (suc (suc (suc zero)))) g h = by_mode 4 r.first r.second (kinded r 4) (record { may = refl; led = refl; next = refl }) (record { may = refl; led = refl; next = refl }) (record { may = refl; led = refl; next = refl })
known r (suc (suc (suc (suc (suc zero))))) g h = by_mode 5 r.first r.second (kinded r 5) (record { may = refl; led = refl; next = refl }) (record { may = refl; led = refl; next = refl }) (record { may = refl; led = refl; next = refl })
known r (suc (suc (suc (suc (suc (suc zero)))))) g h = by_mode 6 r.first r.second (kinded r 6) (record { may = refl; led = refl; next = refl }) (record { may = refl; led = refl; next = refl }) (record { may = refl; led = refl; next = refl })
known r (suc (suc (suc (suc (suc (suc (suc zero))))))) g h = by_mode 7 r.first r.second (kinded r 7) (record { may = refl; led = refl; next = refl }) (record { may = refl; led = refl; next = refl }) (record { may = refl; led = refl; next = refl })
known r (suc (suc (suc (suc (suc (suc (suc (suc zero)))))))) g h = by_mode 8 r.first r.second (kinded r 8) (record { may = refl; led = refl; next = refl }) (record { may = refl; led = refl; next = refl }) (record { may = refl; led = refl; next = refl })
known r (suc (suc (suc (suc (suc (suc (suc (suc (suc k))))))))) g h = absurd (omega arith)

pub tells-record : (r : StepRecord) → 1 ≤ r.kind → r.kind ≤ 8 → (m : Mode) → Tells r.kind r.first r.second (step_of r) m
tells-record r g h = known r r.kind g h

-- any other kind is read as a halt
pub tells-unknown : (r : StepRecord) → (1 ≤ r.kind → r.kind ≤ 8 → ⊥) → (m : Mode) → Tells 8 r.first r.second (step_of r) m
unfolding step_of
tells-unknown r n m =
    let no : (k : ℕ) → 1 ≤ k → k ≤ 8 → r.kind ≡ k → ⊥ = λ k g h e. n (omega arith) (omega arith) in
    subst (λ (s : Step). Tells 8 r.first r.second s m)
    (sym (steps-else r (no 1 (lit≤ tt) (lit≤ tt)) (no 2 (lit≤ tt) (lit≤ tt)) (no 3 (lit≤ tt) (lit≤ tt)) (no 4 (lit≤ tt) (lit≤ tt)) (no 5 (lit≤ tt) (lit≤ tt)) (no 6 (lit≤ tt) (lit≤ tt)) (no 7 (lit≤ tt) (lit≤ tt))))
    (known r 8 (lit≤ tt) (lit≤ tt) m)
