-- Counting by bytes counts the events that they spell.
use Prim.Native.Nat.{ℕ, zero, suc, ◌+◌, ◌*◌, ◌-◌, ◌≤◌, ◌<◌}
use native.Mathlib.Omega.{arith}
use native.Mathlib.Nat.{zero-add}
use native.Mathlib.Numerals.{add-one}
use mathlib.Core.Path.{◌≡◌, refl, sym, ap, ap₂, ◌∙◌}
use mathlib.Core.Bool.{Bool, true, false}
use mathlib.Core.List.{List, [], ◌∷◌, ◌++◌}
use lib.ListN.{length, get_or, set, length-append}
use borrow.Author.Tests.{ne_eqb, lt-ltb, le-ltb}
use Rattle.spec_policy.specs.Bytes.{Bytes}
use Rattle.spec_turns.specs.Events.{Event, accepted, suppressed, inserted, event_bytes}
use Rattle.spec_trace.specs.Counts.{more, counted}
use Rattle.spec_trace.specs.Tallies.{action_counts, action_counted, events_tallied}
use Rattle.trace_events.specs.Counts.{table_place, event_counted, bytes_tallied}

-- ---- one event

module _ (k : ℕ) where
  pub table-1 : k ≡ 1 → 0 ≡ table_place k
  unfolding table_place
  table-1 e = sym (ap table_place e)

  pub table-2 : k ≡ 2 → 64 ≡ table_place k
  unfolding table_place
  table-2 e = sym (ap table_place e)

  pub table-3 : k ≡ 3 → 128 ≡ table_place k
  unfolding table_place
  table-3 e = sym (ap table_place e)

  pub table-else : (k ≡ 1 → ⊥) → (k ≡ 2 → ⊥) → (k ≡ 3 → ⊥) → 192 ≡ table_place k
  unfolding table_place
  table-else e f g = rw (ne_eqb k 1 e, ne_eqb k 2 f, ne_eqb k 3 g, table_place) refl

pub event-in : (k a : ℕ) (xs : List ℕ) (x i : ℕ) → i ≡ table_place k + a → i < action_counts → x ≡ more (get_or xs i 0) → set xs i x ≡ event_counted k a xs
unfolding event_counted action_counted counted
event-in k a xs x i e h f =
    ap (set xs i) f ∙ ap (λ (t : Bool). elim t [ true ↦ counted xs i | false ↦ xs ]) (sym (lt-ltb i action_counts h)) ∙ ap (action_counted xs) e

pub event-past : (k a : ℕ) (xs : List ℕ) (i : ℕ) → i ≡ table_place k + a → action_counts ≤ i → xs ≡ event_counted k a xs
unfolding event_counted action_counted
event-past k a xs i e h = ap (λ (t : Bool). elim t [ true ↦ counted xs i | false ↦ xs ]) (sym (le-ltb i action_counts h)) ∙ ap (action_counted xs) e

-- ---- so many

-- the rest of them, once some are counted
pub tally-next : (n i : ℕ) (bs : Bytes) (xs : List ℕ) → i < n
    → bytes_tallied (n - i) bs (2 * i) xs ≡ bytes_tallied (n - (i + 1)) bs (2 * (i + 1)) (event_counted (get_or bs (2 * i) 0) (get_or bs (2 * i + 1) 0) xs)
unfolding bytes_tallied
tally-next n i bs xs h =
    let f : n - i ≡ suc (n - (i + 1)) = omega (arith, h) in
    let g : 2 * i + 2 ≡ 2 * (i + 1) = omega arith in
    ap (λ (m : ℕ). bytes_tallied m bs (2 * i) xs) f
    ∙ ap (λ (at : ℕ). bytes_tallied (n - (i + 1)) bs at (event_counted (get_or bs (2 * i) 0) (get_or bs (2 * i + 1) 0) xs)) g

pub tally-over : (n i : ℕ) (bs : Bytes) (xs : List ℕ) → n ≤ i → bytes_tallied (n - i) bs (2 * i) xs ≡ xs
unfolding bytes_tallied
tally-over n i bs xs h = let f : n - i ≡ zero = omega (arith, h) in ap (λ (m : ℕ). bytes_tallied m bs (2 * i) xs) f

-- ---- events by their bytes

append-two : (front : Bytes) (k a : ℕ) (xs : Bytes) → front ++ (k ∷ a ∷ xs) ≡ (front ++ (k ∷ a ∷ [])) ++ xs
append-two [] k a xs = refl
append-two (f ∷ front) k a xs = ap (λ (ys : Bytes). f ∷ ys) (append-two front k a xs)

get_first : (front : Bytes) (k a : ℕ) (xs : Bytes) → get_or (front ++ (k ∷ a ∷ xs)) (length front) 0 ≡ k
get_first [] k a xs = refl
get_first (f ∷ front) k a xs = get_first front k a xs

get-second : (front : Bytes) (k a : ℕ) (xs : Bytes) → get_or (front ++ (k ∷ a ∷ xs)) (length front + 1) 0 ≡ a
get-second [] k a xs = refl
get-second (f ∷ front) k a xs = rw (add-one (suc (length front)), sym (add-one (length front))) (get-second front k a xs)

-- one event more
step-on : (es : List Event) (front back : Bytes) (k a : ℕ) (counts next : List ℕ) → event_counted k a counts ≡ next
    → bytes_tallied (suc (length es)) (front ++ (k ∷ a ∷ (event_bytes es ++ back))) (length front) counts
    ≡ bytes_tallied (length es) ((front ++ (k ∷ a ∷ [])) ++ (event_bytes es ++ back)) (length (front ++ (k ∷ a ∷ []))) next
unfolding bytes_tallied
step-on es front back k a counts next e =
    ap₂ (λ (x y : ℕ). bytes_tallied (length es) (front ++ (k ∷ a ∷ (event_bytes es ++ back))) (length front + 2) (event_counted x y counts)) (get_first front k a (event_bytes es ++ back)) (get-second front k a (event_bytes es ++ back))
    ∙ ap (bytes_tallied (length es) (front ++ (k ∷ a ∷ (event_bytes es ++ back))) (length front + 2)) e
    ∙ ap₂ (λ (bs : Bytes) (n : ℕ). bytes_tallied (length es) bs n next) (append-two front k a (event_bytes es ++ back)) (sym (length-append front (k ∷ a ∷ [])))

-- the bytes from a place on are these, and then others
pub bytes-events : (es : List Event) (front back : Bytes) (counts : List ℕ) → bytes_tallied (length es) (front ++ (event_bytes es ++ back)) (length front) counts ≡ events_tallied es counts
unfolding bytes_tallied events_tallied event_bytes event_counted table_place
bytes-events [] front back counts = refl
bytes-events (accepted a ∷ es) front back counts = step-on es front back 1 a counts (action_counted counts a) (ap (action_counted counts) (zero-add a)) ∙ bytes-events es (front ++ (1 ∷ a ∷ [])) back (action_counted counts a)
bytes-events (suppressed a ∷ es) front back counts = step-on es front back 2 a counts (action_counted counts (64 + a)) refl ∙ bytes-events es (front ++ (2 ∷ a ∷ [])) back (action_counted counts (64 + a))
bytes-events (inserted a ∷ es) front back counts = step-on es front back 3 a counts (action_counted counts (128 + a)) refl ∙ bytes-events es (front ++ (3 ∷ a ∷ [])) back (action_counted counts (128 + a))
