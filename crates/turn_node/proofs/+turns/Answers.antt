-- The turn's functions meet their contracts. What each path through them has shown is a lemma's: a pair's in PairTurns, a leaf's in LeafTurns, an
-- insert's in InsertTurns. At a call among them the first part is that the callee's measure is less.
use native.Mathlib.Omega.{arith}
use Prim.Native.Nat.{ℕ, ◌≤◌, ◌<◌}
use mathlib.Core.Path.{refl, sym, ap, ◌∙◌, subst}
use mathlib.Core.Bool.{Bool}
use mathlib.Core.List.{List}
use lib.Dec.{eqb}
use Rattle.actions.specs.declared.ActionSet.{ActionSet}
use Rattle.turn_paths.specs.Paths.{Feeder}
use Rattle.spec_policy.specs.Bytes.{Bytes}
use Rattle.turn_ends.specs.Ends.{ended}
use Rattle.actions.specs.Sets.{Action, EMPTY, union}
use Rattle.spec_policy.specs.Tree.{tree_at}
use Rattle.spec_check.specs.Numbers.{shaped}
use Rattle.spec_turns.specs.Status.{is_running}
use Rattle.spec_turns.specs.Turn.{Phase}
use Rattle.file_records.specs.Kinds.{way_of, kind_of}
use Rattle.turn_paths.specs.Choices.{goes_on}
use Rattle.turn_memory.specs.Words.{Words}
use Rattle.turn_memory.specs.Phases.{phase_of}
use Rattle.turn_sides.proofs.StatusBytes.{phase-after}
use Rattle.turn_sides.proofs.Nodes.{placed-here}
use Rattle.turn_tables.specs.Tables.{path_at}
use Rattle.turn_tables.proofs.FileNodes.{node-in, tree-read}
use Rattle.turn_place.specs.Places.{Asked, WentOn}
use Rattle.turn_place.proofs.LeafPlaces.{low}
use Rattle.turn_place.proofs.Ways.{stands_on, sided-of}
use Rattle.turn_place.proofs.SidePlaces.{size-some, way-kept, right-stands, right-weight, right-less, left-stands-parallel, left-less-parallel, left-stands, left_less}
use Rattle.turn_node.specs.Turns.{Emits, Owing, Rises}
use Rattle.turn_node.proofs.Parts.{keeps-only, keeps_then}
use Rattle.turn_node.proofs.PairTurns.{phase-turn, left-stops, right-stops, both_end, first-stopped, first_then, right-first-stopped, right-first-over, then-left-stopped, then-left-ends, left_over, own-stopped, own-ends}
use Rattle.turn_node.proofs.LeafTurns.{insert-less, byte-ended, Reaches, stays, reaches_then, begun, went, leaf-ends, insert-stopped, insert-through, insert-leaves, leaf-same}
use Rattle.turn_node.proofs.InsertTurns.{feeds-on, settles-stopped, settles-read, climbed-here, stands-now, lets-it-out, taker-stands, taker-pair, taker-less, taker-asked, taken-stopped, stays-there, goes_further, passes-by, settles_on, settles-stop, all_settled, fed-stand, all_the_way, found_none, found_some}
use Rattle.turn_node.proofs.NodeTurns.{is-asked, idle-turn, trivial-turn, unsatisfiable-turn, kind-at, pair-kind}
use Rattle.turn_node.proofs.+turns.Goals as goal
use Rattle.turn_node.proofs.+turns.Goals.{sink-then-has+else-x-ge-STOPPED, sink-else-has}

pub after_left-joined_at-requires : goal.after_left-joined_at-requires
after_left-joined_at-requires t c =
    sided-of c.requires.0 c.requires.1.0

pub after_left-seq_end-requires : goal.after_left-seq_end-requires
after_left-seq_end-requires t c =
    let h = c.requires.0 in
    ((sided-of h c.requires.1.0, h.sized), omega (arith, c.requires.1.1.0))

pub after_left-returns-then-not-goes_on : goal.after_left-returns-then-not-goes_on
after_left-returns-then-not-goes_on t c =
    left_over c.requires.0 c.requires.1.0 (phase_of c.args.phase) c.args.x (ap (λ (v : Bool). goes_on (phase_of c.args.phase) v (eqb c.args.x 1)) (sym (c.is_running.ensures ∙ ap is_running c.joined_at.ensures)) ∙ sym c.goes_on.ensures ∙ c.if-not-goes_on.true) c.seq_end.result c.seq_end.ensures

pub after_left-right_of-requires : goal.after_left-right_of-requires
after_left-right_of-requires t c =
    placed-here (sided-of c.requires.0 c.requires.1.0)

pub after_left-turn-y-requires : goal.after_left-turn-y-requires
after_left-turn-y-requires t c =
    let h = c.requires.0 in
    let k = c.requires.1.0 in
    (omega (arith, c.decreases, right-less h k c.right_of.ensures), right-stands h k c.right_of.ensures)

pub after_left-returns-then-y-ge-STOPPED : goal.after_left-returns-then-y-ge-STOPPED
after_left-returns-then-y-ge-STOPPED t c =
    own-stopped c.requires.0 c.requires.1.0 (phase_of c.args.phase) c.args.x (ap (λ (v : Bool). goes_on (phase_of c.args.phase) v (eqb c.args.x 1)) (sym (c.is_running.ensures ∙ ap is_running c.joined_at.ensures)) ∙ sym c.goes_on.ensures ∙ c.if-not-goes_on.false) c.turn-y.result c.right_of.ensures c.turn-y.ensures c.if-y-ge-STOPPED.true

pub after_left-seq_end-requires-2 : goal.after_left-seq_end-requires-2
after_left-seq_end-requires-2 t c =
    let h = c.requires.0 in
    ((sided-of h c.requires.1.0, c.turn-y.ensures.keeps.sized ∙ h.sized), omega (arith, c.if-y-ge-STOPPED.false, c.requires.1.1.0))

pub after_left-returns : goal.after_left-returns
after_left-returns t c =
    own-ends c.requires.0 c.requires.1.0 (phase_of c.args.phase) c.args.x (ap (λ (v : Bool). goes_on (phase_of c.args.phase) v (eqb c.args.x 1)) (sym (c.is_running.ensures ∙ ap is_running c.joined_at.ensures)) ∙ sym c.goes_on.ensures ∙ c.if-not-goes_on.false) c.turn-y.result c.right_of.ensures c.turn-y.ensures c.if-y-ge-STOPPED.false c.seq_end-2.result c.seq_end-2.ensures

pub asked_turn-view_kind-kind-requires : goal.asked_turn-view_kind-kind-requires
asked_turn-view_kind-kind-requires t c =
    let h = c.requires.0 in
    node-in h.passed _ h.inside

pub asked_turn-leaf-requires : goal.asked_turn-leaf-requires
unfolding kind_of
asked_turn-leaf-requires t c =
    (omega (arith, c.decreases, size-some (tree_at c.args.policy.now c.args.node)), (c.requires.0, (kind-at _ _ refl _ c.view_kind-kind.ensures c.in-Leaf.is, c.requires.1)))

pub asked_turn-over-requires : goal.asked_turn-over-requires
asked_turn-over-requires t c =
    low c.requires.0

pub asked_turn-over-requires-in-Unsatisfiable : goal.asked_turn-over-requires-in-Unsatisfiable
asked_turn-over-requires-in-Unsatisfiable t c =
    low c.requires.0

pub asked_turn-parallel-requires : goal.asked_turn-parallel-requires
unfolding way_of
asked_turn-parallel-requires t c =
    (omega (arith, c.decreases), (c.requires.0, (pair-kind _ _ refl _ c.view_kind-kind.ensures c.in-Pair.is c.in-Parallel.is, c.requires.1)))

pub asked_turn-sequential-requires : goal.asked_turn-sequential-requires
unfolding way_of
asked_turn-sequential-requires t c =
    (omega (arith, c.decreases), (c.requires.0, (pair-kind _ _ refl _ c.view_kind-kind.ensures c.in-Pair.is c.in-Sequential.is, c.requires.1)))

pub asked_turn-over-requires-in-Unknown : goal.asked_turn-over-requires-in-Unknown
asked_turn-over-requires-in-Unknown t c =
    low c.requires.0

pub asked_turn-returns-in-Trivial : goal.asked_turn-returns-in-Trivial
unfolding kind_of shaped
asked_turn-returns-in-Trivial t c =
    let h = c.requires.0 in
    trivial-turn h _ c.requires.1 c.over.ensures.0 (tree-read h.passed _ h.inside refl _ c.view_kind-kind.ensures c.in-Trivial.is) c.over.ensures.1

pub asked_turn-returns-in-Unsatisfiable : goal.asked_turn-returns-in-Unsatisfiable
unfolding kind_of shaped
asked_turn-returns-in-Unsatisfiable t c =
    let h = c.requires.0 in
    unsatisfiable-turn h _ c.requires.1 c.over-in-Unsatisfiable.ensures.0 (tree-read h.passed _ h.inside refl _ c.view_kind-kind.ensures c.in-Unsatisfiable.is) c.over-in-Unsatisfiable.ensures.1

pub asked_turn-returns-in-Unknown : goal.asked_turn-returns-in-Unknown
unfolding kind_of shaped
asked_turn-returns-in-Unknown t c =
    let h = c.requires.0 in
    trivial-turn h _ c.requires.1 c.over-in-Unknown.ensures.0 (tree-read h.passed _ h.inside refl _ c.view_kind-kind.ensures c.in-Unknown.is) c.over-in-Unknown.ensures.1

pub emit-sink-requires : goal.emit-sink-requires
emit-sink-requires t c =
    let h = c.requires in
    let o = c.rise-risen.ensures.over c.if-risen-ge-STOPPED.false in
    (omega (arith, c.decreases, way-kept c.args.policy.now c.args.node o.keeps), (stands_on h o.keeps, fed-stand h o))

pub emit-returns : goal.emit-returns
emit-returns t c =
    all_the_way _ (c.rise-risen.ensures.over c.if-risen-ge-STOPPED.false) (λ o. c.sink.ensures c.args.mem.now c.args.counts.now c.args.b o)

pub leaf-loop-b-init : goal.leaf-loop-b-init
leaf-loop-b-init t c =
    let h = c.requires.0 in
    stays (stands_on h (begun h (phase_of c.args.phase) c.begin_leaf.ensures).moved.keeps)

pub leaf-run_leaf-x-requires : goal.leaf-run_leaf-x-requires
leaf-run_leaf-x-requires t c =
    let h = c.requires.0 in
    let ph = phase_of c.args.phase in
    let b = begun h ph c.begin_leaf.ensures in
    let h₁ = stands_on h b.moved.keeps in
    (stands_on h₁ c.loop-b.invariant.moved.keeps, c.requires.1.0)

pub leaf-emit-r-requires : goal.leaf-emit-r-requires
leaf-emit-r-requires t c =
    let h = c.requires.0 in
    let ph = phase_of c.args.phase in
    let b = begun h ph c.begin_leaf.ensures in
    let h₁ = stands_on h b.moved.keeps in
    let kp = keeps_then b.moved.keeps (keeps_then c.loop-b.invariant.moved.keeps (keeps-only (low h) c.run_leaf-x.ensures.only)) in
    (omega (arith, c.decreases, way-kept c.args.policy.now c.args.node kp), stands_on h kp)

pub leaf-returns-then-r-ge-STOPPED : goal.leaf-returns-then-r-ge-STOPPED
leaf-returns-then-r-ge-STOPPED t c =
    let h = c.requires.0 in
    let ph = phase_of c.args.phase in
    let b = begun h ph c.begin_leaf.ensures in
    let h₁ = stands_on h b.moved.keeps in
    let w = subst (WentOn c.args.counting c.args.policy.now _ _ c.args.node ph _ _) c.in-Insert.is c.run_leaf-x.ensures in
    insert-stopped h ph (went h ph (reaches_then h b c.loop-b.invariant) _ w) c.emit-r.result c.emit-r.ensures refl (omega (arith, c.if-r-ge-STOPPED.true))

pub leaf-loop-b-smaller : goal.leaf-loop-b-smaller
leaf-loop-b-smaller t c =
    let h = c.requires.0 in
    let ph = phase_of c.args.phase in
    let b = begun h ph c.begin_leaf.ensures in
    let h₁ = stands_on h b.moved.keeps in
    insert-less h₁ ph c.requires.1.0 c.loop-b.invariant (subst (WentOn c.args.counting c.args.policy.now _ _ c.args.node ph _ _) c.in-Insert.is c.run_leaf-x.ensures) c.emit-r.result c.emit-r.ensures c.if-r-ge-STOPPED.false

pub leaf-loop-b-preserved : goal.leaf-loop-b-preserved
leaf-loop-b-preserved t c =
    let h = c.requires.0 in
    let ph = phase_of c.args.phase in
    let b = begun h ph c.begin_leaf.ensures in
    let h₁ = stands_on h b.moved.keeps in
    let w = subst (WentOn c.args.counting c.args.policy.now _ _ c.args.node ph _ _) c.in-Insert.is c.run_leaf-x.ensures in
    let g = went h₁ ph c.loop-b.invariant _ w in
    subst (Reaches c.args.counting c.args.policy.now _ _ c.args.node _ _ _) (sym (leaf-same h ph c.requires.1.0 _ _ (insert-leaves h₁ ph g c.emit-r.result c.emit-r.ensures c.if-r-ge-STOPPED.false))) (insert-through h₁ ph g c.emit-r.result c.emit-r.ensures c.if-r-ge-STOPPED.false)

pub leaf-returns-in-Done : goal.leaf-returns-in-Done
leaf-returns-in-Done t c =
    let h = c.requires.0 in
    let ph = phase_of c.args.phase in
    let b = begun h ph c.begin_leaf.ensures in
    let h₁ = stands_on h b.moved.keeps in
    let w = subst (WentOn c.args.counting c.args.policy.now _ _ c.args.node ph _ _) c.in-Done.is c.run_leaf-x.ensures in
    leaf-ends h ph (went h ph (reaches_then h b c.loop-b.invariant) _ w) _ (byte-ended _)

pub parallel-left_of-requires : goal.parallel-left_of-requires
parallel-left_of-requires t c =
    placed-here (sided-of c.requires.0 c.requires.1.0)

pub parallel-turn-x-requires : goal.parallel-turn-x-requires
parallel-turn-x-requires t c =
    let h = c.requires.0 in
    let k = c.requires.1.0 in
    (omega (arith, c.decreases, left-less-parallel h k c.left_of.ensures), left-stands-parallel h k c.left_of.ensures)

pub parallel-returns-then-x-ge-STOPPED : goal.parallel-returns-then-x-ge-STOPPED
parallel-returns-then-x-ge-STOPPED t c =
    left-stops c.requires.0 c.requires.1.0 _ c.requires.1.1 c.turn-x.result c.left_of.ensures c.turn-x.ensures c.if-x-ge-STOPPED.true

pub parallel-right_of-requires : goal.parallel-right_of-requires
parallel-right_of-requires t c =
    placed-here (sided-of c.requires.0 c.requires.1.0)

pub parallel-turn-y-requires : goal.parallel-turn-y-requires
parallel-turn-y-requires t c =
    let k = c.requires.1.0 in
    let h = stands_on c.requires.0 c.turn-x.ensures.keeps in
    (omega (arith, c.decreases, right-less h k c.right_of.ensures, way-kept c.args.policy.now c.args.node c.turn-x.ensures.keeps), right-stands h k c.right_of.ensures)

pub parallel-returns-then-y-ge-STOPPED : goal.parallel-returns-then-y-ge-STOPPED
parallel-returns-then-y-ge-STOPPED t c =
    right-stops c.requires.0 c.requires.1.0 _ c.requires.1.1 c.turn-x.result c.left_of.ensures c.turn-x.ensures c.if-x-ge-STOPPED.false c.turn-y.result c.right_of.ensures c.turn-y.ensures c.if-y-ge-STOPPED.true

pub parallel-par_end-requires : goal.parallel-par_end-requires
parallel-par_end-requires t c =
    let h = c.requires.0 in
    ((sided-of h c.requires.1.0, c.turn-y.ensures.keeps.sized ∙ c.turn-x.ensures.keeps.sized ∙ h.sized), (omega (arith, c.if-x-ge-STOPPED.false, c.if-y-ge-STOPPED.false), omega (arith, c.if-x-ge-STOPPED.false, c.if-y-ge-STOPPED.false)))

pub parallel-returns : goal.parallel-returns
parallel-returns t c =
    both_end c.requires.0 c.requires.1.0 _ c.requires.1.1 c.turn-x.result c.left_of.ensures c.turn-x.ensures c.if-x-ge-STOPPED.false c.turn-y.result c.right_of.ensures c.turn-y.ensures c.if-y-ge-STOPPED.false c.par_end.result c.par_end.ensures

pub right_first-right_of-requires : goal.right_first-right_of-requires
right_first-right_of-requires t c =
    placed-here (sided-of c.requires.0 c.requires.1.0)

pub right_first-turn-y-requires : goal.right_first-turn-y-requires
right_first-turn-y-requires t c =
    let h = c.requires.0 in
    let k = c.requires.1.0 in
    (omega (arith, c.decreases, right-less h k c.right_of.ensures), right-stands h k c.right_of.ensures)

pub right_first-returns-then-y-ge-STOPPED : goal.right_first-returns-then-y-ge-STOPPED
unfolding phase_of
right_first-returns-then-y-ge-STOPPED t c =
    right-first-stopped c.requires.0 c.requires.1.0 c.requires.1.1 c.turn-y.result c.right_of.ensures c.turn-y.ensures c.if-y-ge-STOPPED.true

pub right_first-joined_at-requires : goal.right_first-joined_at-requires
right_first-joined_at-requires t c =
    sided-of c.requires.0 c.requires.1.0

pub right_first-seq_end-requires : goal.right_first-seq_end-requires
right_first-seq_end-requires t c =
    let h = c.requires.0 in
    ((sided-of h c.requires.1.0, c.turn-y.ensures.keeps.sized ∙ h.sized), omega arith)

pub right_first-returns-then-not-is_running : goal.right_first-returns-then-not-is_running
unfolding phase_of
right_first-returns-then-not-is_running t c =
    right-first-over c.requires.0 c.requires.1.0 c.requires.1.1 c.turn-y.result c.right_of.ensures c.turn-y.ensures c.if-y-ge-STOPPED.false (sym (ap is_running c.joined_at.ensures) ∙ sym c.is_running.ensures ∙ c.if-not-is_running.true) 0 c.seq_end.result c.seq_end.ensures

pub right_first-left_of-requires : goal.right_first-left_of-requires
right_first-left_of-requires t c =
    placed-here (sided-of c.requires.0 c.requires.1.0)

pub right_first-turn-x-requires : goal.right_first-turn-x-requires
right_first-turn-x-requires t c =
    let k = c.requires.1.0 in
    let h = stands_on c.requires.0 c.turn-y.ensures.keeps in
    (omega (arith, c.decreases, left_less h k c.left_of.ensures, way-kept c.args.policy.now c.args.node c.turn-y.ensures.keeps), left-stands h k c.left_of.ensures)

pub right_first-caught-requires : goal.right_first-caught-requires
right_first-caught-requires t c =
    low c.requires.0

pub right_first-returns-then-x-ge-STOPPED : goal.right_first-returns-then-x-ge-STOPPED
unfolding phase_of
right_first-returns-then-x-ge-STOPPED t c =
    then-left-stopped c.requires.0 c.requires.1.0 c.requires.1.1 c.turn-y.result c.right_of.ensures c.turn-y.ensures c.if-y-ge-STOPPED.false (sym (ap is_running c.joined_at.ensures) ∙ sym c.is_running.ensures ∙ c.if-not-is_running.false) c.turn-x.result c.left_of.ensures c.turn-x.ensures c.if-x-ge-STOPPED.true c.caught.result c.caught.ensures

pub right_first-seq_end-requires-2 : goal.right_first-seq_end-requires-2
right_first-seq_end-requires-2 t c =
    let h = c.requires.0 in
    ((sided-of h c.requires.1.0, c.turn-x.ensures.keeps.sized ∙ c.turn-y.ensures.keeps.sized ∙ h.sized), c.if-x-ge-STOPPED.false)

pub right_first-returns : goal.right_first-returns
unfolding phase_of
right_first-returns t c =
    then-left-ends c.requires.0 c.requires.1.0 c.requires.1.1 c.turn-y.result c.right_of.ensures c.turn-y.ensures c.if-y-ge-STOPPED.false (sym (ap is_running c.joined_at.ensures) ∙ sym c.is_running.ensures ∙ c.if-not-is_running.false) c.turn-x.result c.left_of.ensures c.turn-x.ensures c.if-x-ge-STOPPED.false c.seq_end-2.result c.seq_end-2.ensures

-- how an insert rose, where it is over and where a node stopped it
rises-over : {counting : Bool} {policy : Bytes} {cs cs' : List ℕ} {fs : List Feeder} {b : Action} {ws ws' : Words} {n top : ℕ} {fed : ActionSet} (code : ℕ) → code < 2 → Owing counting policy cs cs' fs b ws ws' n top fed.bits
    → Rises counting policy cs cs' fs b ws ws' n (record { fed = fed; top = top; code = code })
rises-over code l o = record { stops = λ g. absurd (omega (arith, l, g)); over = λ g. o }

rises-stopped : {counting : Bool} {policy : Bytes} {cs cs' : List ℕ} {fs : List Feeder} {b : Action} {ws ws' : Words} {n top : ℕ} {fed : ActionSet} (code : ℕ) → 2 ≤ code → Emits counting policy cs cs' fs b ws ws' (ended code)
    → Rises counting policy cs cs' fs b ws ws' n (record { fed = fed; top = top; code = code })
rises-stopped code l e = record { stops = λ g. e; over = λ g. absurd (omega (arith, l, g)) }

pub rise-loop-mem-init : goal.rise-loop-mem-init
unfolding EMPTY
rise-loop-mem-init t c =
    climbed-here _ c.requires

pub rise-taker-next-requires : goal.rise-taker-next-requires
rise-taker-next-requires t c =
    stands-now c.requires c.loop-mem.invariant

pub rise-returns-then-next-eq-NONE : goal.rise-returns-then-next-eq-NONE
rise-returns-then-next-eq-NONE t c =
    rises-over 0 (omega arith)
    (subst (λ (ws : Words). Owing c.args.counting c.args.policy.now c.args.counts.now c.loop-mem.counts (path_at c.args.policy.now c.args.mem.now c.args.node) c.args.b c.args.mem.now ws c.args.node c.loop-mem.at c.loop-mem.fed.bits) (sym c.let_out.ensures) (lets-it-out c.requires c.loop-mem.invariant (found_none _ _ _ _ _ c.if-next-eq-NONE.true c.taker-next.ensures.1) (omega arith)))

pub rise-right_of-requires : goal.rise-right_of-requires
rise-right_of-requires t c =
    let h = c.requires in
    let f = found_some _ _ _ _ _ c.if-next-eq-NONE.false c.taker-next.ensures.0 c.taker-next.ensures.1 in
    placed-here (sided-of (taker-stands h c.loop-mem.invariant f.0 f.1 f.2.0) (taker-pair h c.loop-mem.invariant f.0 f.1 f.2.0))

pub rise-asked_turn-x-requires : goal.rise-asked_turn-x-requires
rise-asked_turn-x-requires t c =
    let h = c.requires in
    let f = found_some _ _ _ _ _ c.if-next-eq-NONE.false c.taker-next.ensures.0 c.taker-next.ensures.1 in
    let stands = taker-stands h c.loop-mem.invariant f.0 f.1 f.2.0 in
    let k = taker-pair h c.loop-mem.invariant f.0 f.1 f.2.0 in
    (omega (arith, c.decreases, right-weight stands k c.right_of.ensures, taker-less h c.loop-mem.invariant f.0 f.1 f.2.0), (right-stands stands k c.right_of.ensures, taker-asked h c.loop-mem.invariant f.0 f.1 f.2.0 f.2.1 c.right_of.ensures))

pub rise-returns-then-x-ge-STOPPED : goal.rise-returns-then-x-ge-STOPPED
rise-returns-then-x-ge-STOPPED t c =
    let f = found_some _ _ _ _ _ c.if-next-eq-NONE.false c.taker-next.ensures.0 c.taker-next.ensures.1 in
    rises-stopped c.asked_turn-x.result c.if-x-ge-STOPPED.true
    (taken-stopped c.requires c.loop-mem.invariant f.0 f.1 f.2.0 c.asked_turn-x.result f.2.1 c.right_of.ensures c.asked_turn-x.ensures c.if-x-ge-STOPPED.true)

pub rise-overflow_cast-at : goal.rise-overflow_cast-at
rise-overflow_cast-at t c =
    let f = found_some _ _ _ _ _ c.if-next-eq-NONE.false c.taker-next.ensures.0 c.taker-next.ensures.1 in
    omega (arith, f.2.0, c.loop-mem.invariant.below, low c.requires)

pub rise-lets_on-requires : goal.rise-lets_on-requires
rise-lets_on-requires t c =
    let h = c.requires in
    let f = found_some _ _ _ _ _ c.if-next-eq-NONE.false c.taker-next.ensures.0 c.taker-next.ensures.1 in
    sided-of (taker-stands h c.loop-mem.invariant f.0 f.1 f.2.0) (taker-pair h c.loop-mem.invariant f.0 f.1 f.2.0)

pub rise-returns-then-not-lets_on : goal.rise-returns-then-not-lets_on
rise-returns-then-not-lets_on t c =
    let f = found_some _ _ _ _ _ c.if-next-eq-NONE.false c.taker-next.ensures.0 c.taker-next.ensures.1 in
    rises-over 0 (omega arith)
    (stays-there c.requires c.loop-mem.invariant f.0 f.1 f.2.0 c.asked_turn-x.result f.2.1 c.right_of.ensures c.asked_turn-x.ensures c.if-x-ge-STOPPED.false (sym c.lets_on.ensures ∙ c.if-not-lets_on.true) _ (c.union-fed.ensures ∙ ap (union c.loop-mem.fed.bits) c.single.ensures))

pub rise-loop-mem-preserved : goal.rise-loop-mem-preserved
rise-loop-mem-preserved t c =
    let f = found_some _ _ _ _ _ c.if-next-eq-NONE.false c.taker-next.ensures.0 c.taker-next.ensures.1 in
    goes_further c.requires c.loop-mem.invariant f.0 f.1 f.2.0 c.asked_turn-x.result f.2.1 c.right_of.ensures c.asked_turn-x.ensures c.if-x-ge-STOPPED.false (sym c.lets_on.ensures ∙ c.if-not-lets_on.false) _ (c.union-fed.ensures ∙ ap (union c.loop-mem.fed.bits) c.single.ensures)

pub sequential-right_first-requires : goal.sequential-right_first-requires
sequential-right_first-requires t c =
    (omega (arith, c.decreases), (c.requires.0, (c.requires.1.0, subst (λ (ph : Phase). Asked c.args.policy.now c.args.mem.now c.args.node ph) (phase-after _ c.if-phase-eq-AFTER.true) c.requires.1.1)))

pub sequential-returns-then-phase-eq-AFTER : goal.sequential-returns-then-phase-eq-AFTER
sequential-returns-then-phase-eq-AFTER t c =
    phase-turn c.requires.0 c.requires.1.0 c.right_first.result (sym (phase-after _ c.if-phase-eq-AFTER.true)) c.right_first.ensures

pub sequential-left_of-requires : goal.sequential-left_of-requires
sequential-left_of-requires t c =
    placed-here (sided-of c.requires.0 c.requires.1.0)

pub sequential-turn-x-requires : goal.sequential-turn-x-requires
sequential-turn-x-requires t c =
    let h = c.requires.0 in
    let k = c.requires.1.0 in
    (omega (arith, c.decreases, left_less h k c.left_of.ensures), left-stands h k c.left_of.ensures)

pub sequential-caught-requires : goal.sequential-caught-requires
sequential-caught-requires t c =
    omega (arith, low c.requires.0)

pub sequential-returns-then-x-ge-STOPPED : goal.sequential-returns-then-x-ge-STOPPED
sequential-returns-then-x-ge-STOPPED t c =
    first-stopped c.requires.0 c.requires.1.0 c.args.phase c.if-phase-eq-AFTER.false c.requires.1.1 c.turn-x.result c.left_of.ensures c.turn-x.ensures c.if-x-ge-STOPPED.true c.caught.result c.caught.ensures

pub sequential-after_left-requires : goal.sequential-after_left-requires
sequential-after_left-requires t c =
    (omega (arith, c.decreases, way-kept c.args.policy.now c.args.node c.turn-x.ensures.keeps), (stands_on c.requires.0 c.turn-x.ensures.keeps, (c.requires.1.0, (c.if-x-ge-STOPPED.false, c.if-phase-eq-AFTER.false))))

pub sequential-returns : goal.sequential-returns
sequential-returns t c =
    first_then c.requires.0 c.requires.1.0 c.args.phase c.if-phase-eq-AFTER.false c.requires.1.1 c.turn-x.result c.left_of.ensures c.turn-x.ensures c.if-x-ge-STOPPED.false c.after_left.result c.after_left.ensures

pub settle_insert-right_of-requires : goal.settle_insert-right_of-requires
settle_insert-right_of-requires t c =
    placed-here (sided-of c.requires.0 c.requires.1)

pub settle_insert-turn-x-requires : goal.settle_insert-turn-x-requires
settle_insert-turn-x-requires t c =
    let h = c.requires.0 in
    (omega (arith, c.decreases, right-weight h c.requires.1 c.right_of.ensures), right-stands h c.requires.1 c.right_of.ensures)

pub settle_insert-returns-then-x-ge-STOPPED : goal.settle_insert-returns-then-x-ge-STOPPED
unfolding phase_of
settle_insert-returns-then-x-ge-STOPPED t c =
    settles-stopped c.requires.0 c.requires.1 c.turn-x.result c.right_of.ensures c.turn-x.ensures c.if-x-ge-STOPPED.true

pub settle_insert-reread-requires : goal.settle_insert-reread-requires
settle_insert-reread-requires t c =
    let h = c.requires.0 in
    (sided-of h c.requires.1, c.turn-x.ensures.keeps.sized ∙ h.sized)

pub settle_insert-returns : goal.settle_insert-returns
unfolding phase_of
settle_insert-returns t c =
    settles-read c.requires.0 c.requires.1 c.turn-x.result c.right_of.ensures c.turn-x.ensures c.if-x-ge-STOPPED.false c.reread.result c.reread.ensures

pub sink-overflow_cast-at : goal.sink-overflow_cast-at
sink-overflow_cast-at t c =
    omega (arith, c.loop-at-test.true, low c.requires.0)

pub sink-settle_insert-x-requires : goal.sink-settle_insert-x-requires
sink-settle_insert-x-requires t c =
    let f = feeds-on c.loop-at.invariant.keeps (c.requires.1 c.loop-at.at c.loop-at.invariant.past_top c.loop-at-test.true (sym c.has.ensures ∙ c.if-has.true)) in
    (omega (arith, c.decreases, f.fewer, way-kept c.args.policy.now c.args.node c.loop-at.invariant.keeps), (f.stands, f.pair))

pub sink-returns-then-x-ge-STOPPED : goal.sink-returns-then-x-ge-STOPPED
sink-returns-then-x-ge-STOPPED t c =
    λ ws cs b o. settles-stop c.requires.0 c.loop-at.invariant.keeps (c.loop-at.invariant.owing ws cs b o) (sym c.has.ensures ∙ c.if-has.true) c.settle_insert-x.result c.settle_insert-x.ensures c.if-x-ge-STOPPED.true

pub sink-loop-at-preserved : goal.sink-loop-at-preserved
sink-loop-at-preserved t c =
    let h = c.requires.0 in
    let inv = c.loop-at.invariant in
    elim c.if-has.branch [
      | sink-then-has+else-x-ge-STOPPED w ↦ rw (w.mem-is, w.counts-is) (record {
        keeps = keeps_then inv.keeps w.settle_insert-x.ensures.keeps;
        past_top = omega (arith, inv.past_top);
        owing = λ ws cs b o. settles_on h inv.keeps (inv.owing ws cs b o) (sym c.has.ensures ∙ w.if-has.true) w.settle_insert-x.result w.settle_insert-x.ensures w.if-x-ge-STOPPED.false;
      })
      | sink-else-has w ↦ rw (w.mem-is, w.counts-is) (record {
        keeps = inv.keeps;
        past_top = omega (arith, inv.past_top);
        owing = λ ws cs b o. passes-by h inv.keeps (inv.owing ws cs b o) (sym c.has.ensures ∙ w.if-has.false);
      })
    ]

pub sink-returns : goal.sink-returns
sink-returns t c =
    λ ws cs b o. all_settled (omega (arith, c.loop-at-test.false)) (c.loop-at.invariant.owing ws cs b o)

pub turn-is_asked-requires : goal.turn-is_asked-requires
turn-is_asked-requires t c =
    low c.requires

pub turn-returns-then-not-is_asked : goal.turn-returns-then-not-is_asked
turn-returns-then-not-is_asked t c =
    idle-turn c.requires _ c.is_asked.ensures (c.if-not-is_asked.true)

pub turn-asked_turn-requires : goal.turn-asked_turn-requires
turn-asked_turn-requires t c =
    let h = c.requires in
    (omega (arith, c.decreases), (h, is-asked h _ c.is_asked.ensures (c.if-not-is_asked.false)))
