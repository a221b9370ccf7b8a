-- What a run's refusal tells is short; and of a run that was opened the file has passed.
use Prim.Native.Nat.{ℕ, ◌<◌}
use native.Mathlib.Omega.{arith}
use mathlib.Core.Path.{◌≡◌, refl, sym, ap, subst}
use mathlib.Core.Bool.{Bool, true, false}
use mathlib.Core.List.{List, [], ◌∷◌}
use lib.ListN.{drop}
use Rattle.actions.specs.Sets.{Action}
use Rattle.spec_policy.specs.Bytes.{Bytes}
use Rattle.spec_policy.specs.Spots.{Fault, bare_fault}
use Rattle.spec_check.specs.Layout.{CountsFit}
use Rattle.spec_check.specs.Check.{Answer, passes, refused, check}
use Rattle.laws_check.specs.Offends.{SmallFault}
use Rattle.laws_check.proofs.Inside.{small-fault}
use Rattle.spec_turns.specs.Status.{Status, is_halted}
use Rattle.spec_turns.specs.Turn.{Request, opening, offer, close}
use Rattle.spec_turns.specs.Entries.{Reply, answers, refuses, Result, refusal, carried_out, Refusal, refusals, unless}
use Rattle.spec_trace.specs.Tallies.{Tally}
use Rattle.spec_trace.specs.Traces.{broken15, traced_refusals, called, Run, place, on_tail, Stop, unrefused, refused_with, Report, unopened, followed, Traced, stops, follow, traces}
use Rattle.spec_trace.proofs.Called.{called-unpassed}
use Rattle.spec_trace.proofs.Followed.{follow-refused, follow-halts, follow-goes, close-refused, close-answered, open-refused, open-halts, open-goes}
use Rattle.text_print.proofs.FileLaws.{pass_fits}

-- ---- a call of the run

small-bare : (n : ℕ) → n < 100 → SmallFault (bare_fault n)
small-bare n h = record { number_small = h; spot-small = λ p e. let z : ◌≡◌ {A = ℕ} 0 1 = cc in absurd (omega arith) }

-- each number of the list has at most two digits
Few : List Refusal → Type 0
Few [] = Unit {0}
Few (r ∷ rs) = (r.number < 100) × Few rs

module _ (policy : Bytes) (q : Request) (state room : Bytes) where
  few-refusals : Few (traced_refusals policy q state room)
  unfolding traced_refusals refusals broken15 Few
  few-refusals = go q
    where
      go : (q : Request) → Few (traced_refusals policy q state room)
      go opening = (omega arith, (omega arith, tt))
      go (offer a) = (omega arith, (omega arith, (omega arith, (omega arith, (omega arith, tt)))))
      go close = (omega arith, (omega arith, (omega arith, tt)))

  small_one : (rs : List Refusal) → Few rs → (f : Fault) → (unless rs policy q state room).reply ≡ refuses f → SmallFault f
  unfolding unless carried_out refusal Few
  small_one [] few f e = let z : ◌≡◌ {A = ℕ} 0 1 = cc in absurd (omega arith)
  small_one (r ∷ rs) few f e = go r.applies (small_one rs few.1 f) e
    where
      go : (b : Bool) → ((unless rs policy q state room).reply ≡ refuses f → SmallFault f)
          → (elim b as (λ _. Result) [ true ↦ refusal (bare_fault r.number) state room | false ↦ unless rs policy q state room ]).reply ≡ refuses f
          → SmallFault f
      go true h e = let z : bare_fault r.number ≡ f = cc in subst SmallFault z (small-bare r.number few.0)
      go false h e = h e

  called-small : (f : Fault) → (called policy q state room).reply ≡ refuses f → SmallFault f
  unfolding called refusal
  called-small f = go (check policy) refl
    where
      go : (x : Answer) → check policy ≡ x
          → (elim x as (λ _. Result) [ refused g ↦ refusal g state room | passes r e ↦ unless (traced_refusals policy q state room) policy q state room ]).reply ≡ refuses f
          → SmallFault f
      go (refused g) h e = let z : g ≡ f = cc in subst SmallFault z (small-fault policy g h)
      go (passes r a) h e = small_one (traced_refusals policy q state room) few-refusals f e

-- ---- the run

unfoldable pub SmallStop : Stop → Type 0
SmallStop unrefused = Unit {0}
SmallStop (refused_with f) = SmallFault f

unfoldable pub SmallReport : Report → Type 0
SmallReport (unopened f) = SmallFault f
SmallReport (followed z j n s) = SmallStop z

small-as : {x y : Traced} → x ≡ y → SmallReport y.report → SmallReport x.report
small-as e h = subst (λ (r : Report). SmallReport r) (sym (ap (λ (z : Traced). z.report) e)) h

module _ (policy : Bytes) where
  follow-small : (bs : List Action) (x : Run) → SmallReport (follow policy bs x).report
  unfolding SmallReport SmallStop stops on_tail
  follow-small [] x = go (on_tail policy close x).reply refl
    where
      go : (y : Reply) → (on_tail policy close x).reply ≡ y → SmallReport (follow policy [] x).report
      go (refuses f) e = small-as (close-refused policy x e) (called-small policy close x.state (drop (place x) x.events) f e)
      go (answers n s) e = small-as (close-answered policy x e) tt
  follow-small (a ∷ bs) x = go (on_tail policy (offer a) x).reply refl (λ y. follow-small bs y)
    where
      halts : (n : ℕ) (s : Status) → (on_tail policy (offer a) x).reply ≡ answers n s → ((y : Run) → SmallReport (follow policy bs y).report) → (b : Bool) → is_halted s ≡ b → SmallReport (follow policy (a ∷ bs) x).report
      halts n s e h true g = small-as (follow-halts policy x a bs e g) tt
      halts n s e h false g = small-as (follow-goes policy x a bs e g) (h _)

      go : (y : Reply) → (on_tail policy (offer a) x).reply ≡ y → ((y : Run) → SmallReport (follow policy bs y).report) → SmallReport (follow policy (a ∷ bs) x).report
      go (refuses f) e h = small-as (follow-refused policy x a bs e) (called-small policy (offer a) x.state (drop (place x) x.events) f e)
      go (answers n s) e h = halts n s e h (is_halted s) refl

  module _ (bs : List Action) (state room : Bytes) (t : Tally) where
    pub run_small : SmallReport (traces policy bs state room t).report
    unfolding SmallReport SmallStop stops
    run_small = go (called policy opening state room).reply refl
      where
        halts : (n : ℕ) (s : Status) → (called policy opening state room).reply ≡ answers n s → (b : Bool) → is_halted s ≡ b → SmallReport (traces policy bs state room t).report
        halts n s e true g = small-as (open-halts policy bs state room t e g) tt
        halts n s e false g = small-as (open-goes policy bs state room t e g) (follow-small bs _)

        go : (y : Reply) → (called policy opening state room).reply ≡ y → SmallReport (traces policy bs state room t).report
        go (refuses f) e = small-as (open-refused policy bs state room t e) (called-small policy opening state room f e)
        go (answers n s) e = halts n s e (is_halted s) refl

    -- a file that the check refuses is not opened
    pub run_fits : (z : Stop) (j n : ℕ) (s : Status) → (traces policy bs state room t).report ≡ followed z j n s → CountsFit policy
    unfolding refusal
    run_fits z j n s e = go (check policy) refl
      where
        go : (x : Answer) → check policy ≡ x → CountsFit policy
        go (passes r a) h = pass_fits h
        go (refused f) h =
            let u : (traces policy bs state room t).report ≡ unopened f = ap (λ (y : Traced). y.report) (open-refused policy bs state room t (ap (λ (y : Result). y.reply) (called-unpassed policy h opening state room))) in
            let w : ◌≡◌ {A = ℕ} 0 1 = cc in
            absurd (omega arith)
