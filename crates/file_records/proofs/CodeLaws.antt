-- A leaf's steps by where they lie: how many they are, which one stands at an offset, that its kind byte tells a next, and that a
-- node's steps are those from its first on.
use Prim.Native.Nat.{ℕ, zero, suc, ◌+◌, ◌*◌, ◌≤◌, ◌<◌}
use native.Mathlib.Omega.{arith}
use mathlib.Core.Path.{◌≡◌, refl, sym, ap, ◌∙◌}
use mathlib.Core.List.{List, map}
use lib.Dec.{eqb}
use lib.ListN.{length, get_or, take, drop, length-drop}
use lib.Seq.{length-take-le, get_or-take, get_or-drop, ext_get_or}
use borrow.Author.Tests.{ne_eqb}
use Rattle.spec_policy.specs.Bytes.{Bytes, number}
use Rattle.spec_policy.specs.Lists.{listed, summed}
use Rattle.spec_policy.specs.Records.{step_size, node_at, node_place, node_count, step_count, nodes, step_record_at, step_place, step_records}
use Rattle.spec_policy.specs.Steps.{Step, halt, step_of, is_next}
use Rattle.spec_policy.specs.Tree.{steps_owned, first_step, no_node_steps, nodes_with_steps}
use Rattle.spec_policy.proofs.ListLaws.{listed-length, listed_at, map-listed}
use Rattle.spec_policy.proofs.NodeLaws.{first-in, steps_of}
use Rattle.file_records.specs.Code.{code_at, code_from}

module _ (file : Bytes) (at count : ℕ) where
  pub code-length : length (code_at file at count) ≡ count
  unfolding code_at
  code-length = listed-length (λ o. step_of (step_record_at file (at + 12 * o))) 0 count

  pub code-at : (o : ℕ) → o < count → get_or (code_at file at count) o halt ≡ step_of (step_record_at file (at + 12 * o))
  unfolding code_at
  code-at o h =
      let z : 0 + o ≡ o = omega arith in
      listed_at (λ o. step_of (step_record_at file (at + 12 * o))) 0 count halt o h ∙ ap (λ (k : ℕ). step_of (step_record_at file (at + 12 * k))) z

-- the same by the number of the step
pub code-number : (file : Bytes) (first count o : ℕ) → o < count → get_or (code_from file first count) o halt ≡ step_of (step_record_at file (node_place (node_count file) + step_size * (first + o)))
unfolding step_place
code-number file first count o h =
    let z : step_place file first + step_size * o ≡ node_place (node_count file) + step_size * (first + o) = omega arith in
    code-at file (step_place file first) count o h ∙ ap (λ (k : ℕ). step_of (step_record_at file k)) z

-- only kind 1 is a next
kind-next : (kind action first second operand : ℕ)
    → is_next (step_of (record { kind = kind; action = action; first = first; second = second; operand = operand })) ≡ eqb kind 1
unfolding step_of is_next
kind-next zero a f s o = refl
kind-next (suc zero) a f s o = refl
kind-next (suc (suc zero)) a f s o = refl
kind-next (suc (suc (suc zero))) a f s o = refl
kind-next (suc (suc (suc (suc zero)))) a f s o = refl
kind-next (suc (suc (suc (suc (suc zero))))) a f s o = refl
kind-next (suc (suc (suc (suc (suc (suc zero)))))) a f s o = refl
kind-next (suc (suc (suc (suc (suc (suc (suc zero))))))) a f s o = refl
kind-next (suc (suc (suc (suc (suc (suc (suc (suc zero)))))))) a f s o = refl
kind-next (suc (suc (suc (suc (suc (suc (suc (suc (suc k))))))))) a f s o = sym (ne_eqb (suc (suc (suc (suc (suc (suc (suc (suc (suc k))))))))) 1 (λ e. omega arith))

pub next-kind : (file : Bytes) (at : ℕ) → is_next (step_of (step_record_at file at)) ≡ eqb (number file at 1) 1
unfolding step_record_at
next-kind file at = kind-next (number file at 1) (number file (at + 1) 1) (number file (at + 2) 1) (number file (at + 3) 1) (number file (at + 4) 8)

-- ---- a run of the file's steps

module _ (file : Bytes) (first count : ℕ) (h : first + count ≤ step_count file) where
  abbrev step_no : ℕ → Step
  step_no k = step_of (step_record_at file (step_place file k))

  abbrev run : List Step
  run = take count (drop first (listed step_no 0 (step_count file)))

  run_length : length run ≡ count
  run_length =
      length-take-le count (drop first (listed step_no 0 (step_count file)))
      (omega (arith, length-drop first (listed step_no 0 (step_count file)), listed-length step_no 0 (step_count file)))

  run_at : (o : ℕ) → o < count → get_or run o halt ≡ get_or (code_at file (step_place file first) count) o halt
  unfolding step_place
  run_at o l =
      let z : step_place file (0 + (first + o)) ≡ step_place file first + 12 * o = omega arith in
      get_or-take count (drop first (listed step_no 0 (step_count file))) o halt l ∙ get_or-drop first (listed step_no 0 (step_count file)) o halt
      ∙ listed_at step_no 0 (step_count file) halt (first + o) (omega arith)
      ∙ ap (λ (k : ℕ). step_of (step_record_at file k)) z ∙ sym (code-at file (step_place file first) count o l)

  run-code : take count (drop first (map step_of (step_records file))) ≡ code_at file (step_place file first) count
  unfolding step_records
  run-code =
      ap (λ (ss : List Step). take count (drop first ss)) (map-listed step_of (λ k. step_record_at file (step_place file k)) 0 (step_count file))
      ∙ ext_get_or halt run (code_at file (step_place file first) count) (run_length ∙ sym (code-length file (step_place file first) count)) (λ o l. run_at o (omega (arith, run_length)))

pub node-code : (file : Bytes) → summed (map steps_owned (nodes file)) ≡ step_count file → (i : ℕ) → i < node_count file
    → (get_or (nodes_with_steps file) i no_node_steps).steps ≡ code_at file (step_place file (first_step file i)) (steps_owned (node_at file (node_place i)))
node-code file all i h = steps_of file i h ∙ run-code file (first_step file i) (steps_owned (node_at file (node_place i))) (omega (arith, first-in file i h))
