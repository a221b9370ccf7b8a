-- What the code leaves in a leaf's cell is where the leaf is.
use Prim.Native.Nat.{ℕ, ◌+◌, ◌<◌}
use native.Mathlib.Omega.{arith}
use mathlib.Core.Path.{◌≡◌, refl, sym, ap, ap₂, ◌∙◌, subst}
use mathlib.Core.Bool.{Bool, true, false}
use mathlib.Core.List.{List}
use lib.Dec.{eqb}
use lib.ListN.{length, get_or, set, length-set}
use lib.Seq.{get_or-set_other}
use Rattle.actions.specs.Sets.{Action, ActionSet}
use Rattle.spec_policy.specs.Records.{most_nodes}
use Rattle.spec_policy.specs.Steps.{Step}
use Rattle.spec_policy.specs.Bytes.{Bytes}
use Rattle.spec_policy.specs.Tree.{leaf, first_step}
use Rattle.spec_turns.specs.Status.{Status, status_of, is_running}
use Rattle.spec_turns.specs.State.{State, leaf_state, leaf_over}
use Rattle.spec_turns.specs.Process.{lets}
use Rattle.spec_turns.specs.Turn.{Phase, is_asked}
use Rattle.turn_paths.specs.Run.{halts, goes}
use Rattle.turn_paths.specs.Memory.{Cell, leaf_with, held, ran_of}
use Rattle.turn_memory.specs.Words.{Only, Words, word_count, offset_in, counter_in, packed, memory_of}
use Rattle.turn_memory.specs.Phases.{pending_in}
use Rattle.turn_memory.proofs.CellLaws.{celled-packed, view-here, offset-in, counter-in}
use Rattle.turn_leaf.specs.declared.Last.{Last}
use Rattle.turn_leaf.specs.declared.Last.TheVariants.{Stay, Stops, Inserts, Over}
use Rattle.turn_leaf.specs.declared.Stop.{Stop}
use Rattle.turn_leaf.specs.declared.Progress.{Progress}
use Rattle.turn_leaf.specs.declared.Progress.TheVariants.{Insert, Done}
use Rattle.turn_leaf.specs.Leaf.{goes_on, onward, ends, lasts, Quietly, Stopped, begins, left_counted, Left, came, Waits, Ran}
use Rattle.turn_leaf.proofs.Quiet.{quietly-same, quietly-then}
use Rattle.turn_leaf.proofs.LeafStarts.{begun-asked}

abbrev cell : (s o m c : ℕ) → Cell
cell s o m c = record { status = status_of s; asked = eqb m 1; offset = o; counter = c }

-- cell i holds this, and no other word has changed
pub record Holds (i s o m c : ℕ) (ws ws' : Words) : Type 0 where
  pub here : memory_of ws' i ≡ cell s o m c
  pub only : Only i ws ws'

module _ {i s o m c : ℕ} {ws ws' : Words} where
  pub holds-put : length ws ≡ word_count → i < most_nodes → s < 256 → o < 256 → m < 256 → c < 4294967296 → ws' ≡ set ws i (packed s o m c) → Holds i s o m c ws ws'
  holds-put n k hs ho hm hc w = record {
    here = ap (λ (v : Words). memory_of v i) w ∙ view-here ws i (packed s o m c) k (omega arith) ∙ celled-packed s o m c hs ho hm hc;
    only = record {
      others = λ j ne. ap (λ (v : Words). get_or v j 0) w ∙ get_or-set_other ws i j (packed s o m c) 0 ne;
      sized = ap length w ∙ length-set ws i (packed s o m c);
    };
  }

over_zeros : (s : Status) → leaf_over s ≡ leaf_with s false 0 0
unfolding leaf_with leaf_over
over_zeros s = go (is_running s)
  where
    go : (b : Bool) → leaf_state s false 0 0 ≡ elim b [ true ↦ leaf_state s false 0 0 | false ↦ leaf_over s ]
    go true = refl
    go false = refl

module _ (i : ℕ) (r : ActionSet) (k : ℕ) (code : List Step) (ph : Phase) (l : i < most_nodes) {ws ws' : Words} where
  pub left-held : {on : Bool} {policy : Bytes} {base : ℕ} {cs cs' : List ℕ} {o o₀ c : ℕ} → is_asked r ph (held (leaf i r k code) (memory_of ws)) ≡ true → o₀ ≡ offset_in (get_or ws i 0) → c ≡ counter_in (get_or ws i 0)
      → o ≡ begins ph code o₀ → Holds i 1 o 0 c ws ws' → base ≡ first_step policy i → cs' ≡ left_counted on ph cs (base + o₀) → Left i r k code ph on policy cs cs' ws ws'
  unfolding onward status_of
  left-held {on} {policy} {base} {cs} {cs'} {o} {o₀} {c} asks eo ec e w eb et = record {
    begun = quietly-then (subst (λ (ds : List ℕ). Quietly on policy cs ds (ran_of (leaf i r k code) ph (held (leaf i r k code) (memory_of ws))) (goes_on i code (pending_in ph) (begins ph code (memory_of ws i).offset) (memory_of ws i).counter))
        (ap₂ (λ (n q : ℕ). left_counted on ph cs (n + q)) (sym eb) (sym (eo ∙ offset-in ws i l)) ∙ sym et) (begun-asked i r k code (memory_of ws) ph asks))
        (quietly-same (ap₂ (λ (o c : ℕ). goes_on i code (pending_in ph) o c) (sym (e ∙ ap (begins ph code) (eo ∙ offset-in ws i l))) (sym (ec ∙ counter-in ws i l)) ∙ ap (onward i code ph) (sym w.here)));
    runs = ap (λ (y : Cell). y.status) w.here;
    only = w.only;
  }

  -- the end of the run, as the cell holds it
  ends_held : {s o m c : ℕ} (u : Bool) → Holds i s o m c ws ws' → ends (leaf_with (status_of s) (eqb m 1) o c) u ≡ came i r k code ph ws' (Done u)
  unfolding held ends came
  ends_held u w = ap (λ (y : Cell). halts (record { state = leaf_with y.status y.asked y.offset y.counter; suppressed = u })) (sym w.here)

  -- the leaf went on from its cell as far as x says
  module _ {on : Bool} {policy : Bytes} {base : ℕ} {cs cs' : List ℕ} (eb : base ≡ first_step policy i) {a o c : ℕ} {x : Stop} (ea : a ≡ pending_in ph) (eo : o ≡ offset_in (get_or ws i 0)) (ec : c ≡ counter_in (get_or ws i 0)) (st : Stopped on policy base cs cs' code a o c x) where
    ran-as : {l : Last} {p : Progress} → x.last ≡ l → lasts i code (pending_in ph) x.offset x.counter l ≡ came i r k code ph ws' p
        → Waits i r k code ph ws' p → Only i ws ws' → Ran i r k code ph on policy cs cs' ws ws' p
    unfolding onward
    ran-as e f h only = record {
      gives =
          quietly-then (quietly-same (sym (ap₂ (λ (o c : ℕ). goes_on i code (pending_in ph) o c) (eo ∙ offset-in ws i l) (ec ∙ counter-in ws i l)) ∙ sym (ap (λ (b : Action). goes_on i code b o c) ea)))
          (quietly-then (st.stops i eb)
          (quietly-same (ap₂ (λ (b : Action) (z : Last). lasts i code b x.offset x.counter z) ea e ∙ f)));
      waits = h;
      only = only;
    }

    pub ran-stays : x.last ≡ Stay → Holds i 1 x.offset 0 x.counter ws ws' → Ran i r k code ph on policy cs cs' ws ws' (Done false)
    unfolding lasts leaf_with status_of is_running Waits
    ran-stays e w = ran-as e (ends_held false w) tt w.only

    pub ran-stops : {t : ℕ} {u : Bool} → x.last ≡ Stops t u → Holds i 1 t 1 x.counter ws ws' → Ran i r k code ph on policy cs cs' ws ws' (Done u)
    unfolding lasts leaf_with status_of is_running Waits
    ran-stops {u = u} e w = ran-as e (ends_held u w) tt w.only

    pub ran-inserts : {b t : ℕ} → x.last ≡ Inserts b t → Holds i 1 t 0 x.counter ws ws' → Ran i r k code ph on policy cs cs' ws ws' (Insert b)
    unfolding lasts came onward status_of Waits
    ran-inserts {b} e w = ran-as e (ap (λ (y : Cell). goes (lets b) (onward i code ph y)) (sym w.here)) (ap (λ (y : Cell). y.status) w.here) w.only

    pub ran_over : {s : ℕ} → x.last ≡ Over s → Holds i s 0 0 0 ws ws' → Ran i r k code ph on policy cs cs' ws ws' (Done false)
    unfolding lasts Waits
    ran_over {s} e w = ran-as e (ap (λ (z : State). ends z false) (over_zeros (status_of s)) ∙ ends_held false w) tt w.only
