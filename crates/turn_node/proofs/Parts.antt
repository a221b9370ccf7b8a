-- What a part of a phase has told and kept, and one part after another.
use Prim.Native.Nat.{ℕ, zero, suc, ◌-◌, ◌≤◌, ◌<◌}
use native.Mathlib.Omega.{arith}
use mathlib.Core.Path.{◌≡◌, refl, sym, ap, ◌∙◌, subst}
use mathlib.Core.Bool.{Bool}
use mathlib.Core.List.{List, [], ◌∷◌, ◌++◌}
use lib.Dec.{eqb}
use Rattle.actions.specs.Sets.{Action}
use Rattle.spec_policy.specs.Bytes.{Bytes}
use Rattle.spec_policy.specs.Tree.{Tree}
use Rattle.spec_turns.specs.Process.{Item, ran, lets, sups, accepts, suppresses}
use Rattle.spec_turns.specs.Turn.{Phase}
use Rattle.spec_trace.specs.Tallies.{steps_if}
use Rattle.spec_trace.proofs.TallyLaws.{steps-none, steps_then}
use Rattle.turn_paths.specs.Run.{silent, AllSilent}
use Rattle.turn_paths.specs.Paths.{Feeder, Ended, done, stopped, Turned, Rose}
use Rattle.turn_memory.specs.Words.{Words, memory_of, Only}
use Rattle.turn_memory.specs.Told.{Told}
use Rattle.turn_memory.proofs.ToldLaws.{told_none, told-then}
use Rattle.turn_ends.specs.Ends.{ended}
use Rattle.turn_place.specs.Places.{Keeps}
use Rattle.turn_node.specs.Turns.{lets_in, Turns, Emits}

-- ---- an end as a number

pub stop-of : (r : ℕ) → 2 ≤ r → ended r ≡ stopped (r - 2)
unfolding ended
stop-of zero h = absurd (omega (arith, h))
stop-of (suc zero) h = absurd (omega (arith, h))
stop-of (suc (suc n)) h = ap stopped (omega arith)

pub done-of : (r : ℕ) → r < 2 → ended r ≡ done (eqb r 1)
unfolding ended
done-of zero h = refl
done-of (suc zero) h = refl
done-of (suc (suc n)) h = absurd (omega (arith, h))

-- ---- what was told and kept

pub append-nil : {A : Type 0} (bs : List A) → bs ++ [] ≡ bs
append-nil [] = refl
append-nil {A} (b ∷ bs) = ap (λ (cs : List A). b ∷ cs) (append-nil bs)

lets-append : (xs ys : List Item) → lets_in (xs ++ ys) ≡ lets_in xs ++ lets_in ys
unfolding lets_in
lets-append [] ys = refl
lets-append (ran i o ∷ xs) ys = lets-append xs ys
lets-append (lets b ∷ xs) ys = ap (λ (bs : List Action). b ∷ bs) (lets-append xs ys)
lets-append (sups a ∷ xs) ys = lets-append xs ys
lets-append (accepts a ∷ xs) ys = lets-append xs ys
lets-append (suppresses a ∷ xs) ys = lets-append xs ys

lets-silent : (xs : List Item) → AllSilent xs → lets_in xs ≡ []
unfolding lets_in AllSilent silent
lets-silent [] h = refl
lets-silent (ran i o ∷ xs) h = lets-silent xs h.1
lets-silent (lets b ∷ xs) h = absurd h.0
lets-silent (sups a ∷ xs) h = lets-silent xs h.1
lets-silent (accepts a ∷ xs) h = lets-silent xs h.1
lets-silent (suppresses a ∷ xs) h = lets-silent xs h.1

-- from these words to those, with these items, and from these counts to those
pub record Moved (counting : Bool) (policy : Bytes) (cs cs' : List ℕ) (ws ws' : Words) (xs : List Item) : Type 0 where
  pub told : Told ws ws' (lets_in xs)
  pub steps : cs' ≡ steps_if counting policy xs cs
  pub keeps : Keeps ws ws'

pub keeps_then : {a b c : Words} → Keeps a b → Keeps b c → Keeps a c
keeps_then p q = record { sized = q.sized ∙ p.sized; tables = λ k h. q.tables k h ∙ p.tables k h }

pub keeps-none : {a : Words} → Keeps a a
keeps-none = record { sized = refl; tables = λ k h. refl }

pub moved_none : {counting : Bool} {policy : Bytes} {cs : List ℕ} {a : Words} → Moved counting policy cs cs a a []
unfolding lets_in
moved_none {counting} {policy} {cs} = record { told = told_none (λ k p q. refl); steps = sym (steps-none counting policy cs); keeps = keeps-none }

pub moved_then : {a b c : Words} {xs ys : List Item} {counting : Bool} {policy : Bytes} {ds es fs : List ℕ} → Moved counting policy ds es a b xs → Moved counting policy es fs b c ys
    → Moved counting policy ds fs a c (xs ++ ys)
moved_then {a} {b} {c} {xs} {ys} {counting} {policy} {ds} p q = record {
  steps = q.steps ∙ ap (steps_if counting policy ys) p.steps ∙ sym (steps_then counting policy xs ys ds);
  told = subst (Told a c) (sym (lets-append xs ys)) (told-then p.told q.told);
  keeps = keeps_then p.keeps q.keeps;
}

-- a node has written its own cell
pub keeps-only : {i : ℕ} {ws ws' : Words} → i < 31 → Only i ws ws' → Keeps ws ws'
keeps-only l o = record { sized = o.sized; tables = λ k h. o.others k (λ e. absurd (omega (arith, e, h, l))) }

pub moved-quiet : {i : ℕ} {ws ws' : Words} {xs : List Item} {counting : Bool} {policy : Bytes} {cs cs' : List ℕ} → i < 31 → Only i ws ws' → AllSilent xs → cs' ≡ steps_if counting policy xs cs
    → Moved counting policy cs cs' ws ws' xs
moved-quiet {ws = ws} {ws'} {xs} l o s e = record {
  steps = e;
  told = subst (Told ws ws') (sym (lets-silent xs s)) (told_none (λ k p q. o.others k (λ e. absurd (omega (arith, e, p, l)))));
  keeps = keeps-only l o;
}

pub moved-own : {i : ℕ} {ws ws' : Words} {xs : List Item} {ws₀ : Words} {counting : Bool} {policy : Bytes} {cs cs' : List ℕ} → i < 31 → Moved counting policy cs cs' ws₀ ws xs → Only i ws ws'
    → Moved counting policy cs cs' ws₀ ws' xs
moved-own {ws' = ws'} {xs} {ws₀} l m o = record {
  steps = m.steps;
  told = subst (Told ws₀ ws') (append-nil (lets_in xs)) (told-then m.told (told_none (λ k p q. o.others k (λ e. absurd (omega (arith, e, p, l))))));
  keeps = keeps_then m.keeps (keeps-only l o);
}

-- ---- contracts

pub turns-moved : {counting : Bool} {policy : Bytes} {cs cs' : List ℕ} {fs : List Feeder} {t : Tree} {ph : Phase} {ws ws' : Words} {x : Ended} → (h : Turns counting policy cs cs' fs t ph ws ws' x) → Moved counting policy cs cs' ws ws' h.items
turns-moved h = record { told = h.told; steps = h.steps; keeps = h.keeps }

pub to-turns : {counting : Bool} {policy : Bytes} {cs cs' : List ℕ} {fs : List Feeder} {t : Tree} {ph : Phase} {ws ws' : Words} {xs : List Item} {x : Ended} → Turned fs t ph (memory_of ws) (memory_of ws') xs x → Moved counting policy cs cs' ws ws' xs → Turns counting policy cs cs' fs t ph ws ws' x
to-turns {xs = xs} h m = record { items = xs; turned = h; told = m.told; steps = m.steps; keeps = m.keeps }

pub emits-moved : {counting : Bool} {policy : Bytes} {cs cs' : List ℕ} {fs : List Feeder} {b : Action} {ws ws' : Words} {x : Ended} → (h : Emits counting policy cs cs' fs b ws ws' x) → Moved counting policy cs cs' ws ws' h.items
emits-moved h = record { told = h.told; steps = h.steps; keeps = h.keeps }

pub to-emits : {counting : Bool} {policy : Bytes} {cs cs' : List ℕ} {fs : List Feeder} {b : Action} {ws ws' : Words} {xs : List Item} {x : Ended} → Rose fs b (memory_of ws) (memory_of ws') xs x → Moved counting policy cs cs' ws ws' xs → Emits counting policy cs cs' fs b ws ws' x
to-emits {xs = xs} h m = record { items = xs; rose = h; told = m.told; steps = m.steps; keeps = m.keeps }
