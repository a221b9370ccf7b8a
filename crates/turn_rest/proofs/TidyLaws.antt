-- The saved state at a call's end: once every record is written, each is what the state has of its node, and zeros follow.
use Prim.Native.Nat.{ℕ, zero, ◌+◌, ◌-◌, ◌<◌}
use native.Mathlib.Omega.{arith}
use mathlib.Core.Path.{◌≡◌, refl, sym, ap, ap₂, ◌∙◌, subst}
use mathlib.Core.Bool.{Bool, true, false}
use mathlib.Core.List.{[], ◌++◌, append-nil}
use lib.ListN.{length, take, drop, replicate, length-replicate, length-drop, length-append, drop_of_length-le}
use lib.Seq.{drop_at, length-take-le}
use Rattle.spec_policy.specs.Bytes.{Bytes, spell, put}
use Rattle.spec_policy.proofs.ByteLaws.{part-before, put-length, put-append, spell-length, zeros-are}
use Rattle.spec_policy.specs.Records.{most_nodes, node_count}
use Rattle.spec_policy.specs.Tree.{Way, Join, NodeKind, aLeaf, aTrivial, an_unsatisfiable, aPair, no_node, NodeSteps, Tree, leaf, trivial, unsatisfiable, node, number_of, tree_at, tree}
use Rattle.spec_check.specs.Passed.{Passed}
use Rattle.spec_check.specs.Numbers.{shaped}
use Rattle.spec_check.proofs.Numbers.{number_at, all_held}
use Rattle.laws_check.proofs.LawfulTree.{lawful, numbers-below-nodes}
use Rattle.spec_turns.specs.Status.{Status, dropped, status_number, status_of, is_running}
use Rattle.spec_turns.specs.State as states
use Rattle.spec_turns.specs.State.{State, leaf_state, pair_state, status, offset, counter, left_of, right_of, leaf_over, pair_with}
use Rattle.spec_turns.specs.Saved.{cell_size, cells_size, cell_place, cell, store, saved_cells, running_leaves, ahead, saved, is_running_at}
use Rattle.spec_turns.specs.Rest.{gone}
use Rattle.laws_turns.proofs.Cells.{lawful-apart, status-is, status-back, Kept, kept_same, cells_same, cells-length, cells-kept}
use Rattle.laws_turns.proofs.Leaves.{kept_leaves, leaves-few, leaves-same, counted}
use Rattle.laws_turns.specs.Cells.{cell_at}
use Rattle.laws_turns.proofs.Fits.{cells-tail}
use Rattle.laws_turns.proofs.Lasting.{in_cells}
use Rattle.turn_paths.specs.Memory.{Cell, Mem, leaf_with, held}
use Rattle.turn_paths.proofs.Begin.{drop-held, pair-with-over, left-held, right-held}
use Rattle.turn_memory.specs.Words.{Words, memory_of, packed}
use Rattle.turn_tables.proofs.FileNodes.{room}
use Rattle.turn_rest.specs.Rest.{own_of, record_at, kind_at, runs_at}
use Rattle.turn_rest.specs.Swept.{Swept}
use Rattle.turn_rest.proofs.RecordLaws.{word-alone}
use Rattle.turn_rest.proofs.SweepLaws.{left_tree, right_tree, each-root}

-- what is saved of a node has its status
with-status : (s : Status) (m : Bool) (o c : ℕ) → status (leaf_with s m o c) ≡ s
unfolding leaf_with leaf_over status
with-status s m o c = go (is_running s)
  where
    go : (x : Bool) → status (elim x [ true ↦ leaf_state s m o c | false ↦ leaf_over s ]) ≡ s
    go true = refl
    go false = refl

own-status : (k : NodeKind) (c : Cell) → status (own_of k c) ≡ c.status
unfolding own_of
own-status aLeaf c = with-status c.status c.asked c.offset c.counter
own-status aTrivial c = with-status c.status c.asked 0 0
own-status an_unsatisfiable c = with-status c.status c.asked 0 0
own-status no_node c = with-status c.status c.asked 0 0
own-status (aPair w j) c = with-status c.status c.asked 0 0

-- ---- a tree

-- the records of a tree's nodes, and what is dropped under them
unfoldable Laid : Tree → Mem → Bytes → Type 0
Laid (leaf i r c code) m out = cell_at out i ≡ cell (leaf_with (m i).status (m i).asked (m i).offset (m i).counter)
Laid (trivial i) m out = cell_at out i ≡ cell (leaf_with (m i).status (m i).asked 0 0)
Laid (unsatisfiable i) m out = cell_at out i ≡ cell (leaf_with (m i).status (m i).asked 0 0)
Laid (node w j i l r) m out =
    (cell_at out i ≡ cell (leaf_with (m i).status (m i).asked 0 0))
    × (is_running (m i).status ≡ false → ((m (number_of l)).status ≡ dropped) × ((m (number_of r)).status ≡ dropped))
    × Laid l m out
    × Laid r m out

-- a pair's record has its status alone
noded-cell : (s : Status) (m : Bool) (a b : State) → cell (leaf_with s m 0 0) ≡ cell (pair_with s m a b)
unfolding cell leaf_with pair_with leaf_over status offset counter
noded-cell s m a b = go (is_running s)
  where
    go : (x : Bool) → cell (elim x [ true ↦ leaf_state s m 0 0 | false ↦ leaf_over s ]) ≡ cell (elim x [ true ↦ pair_state s m a b | false ↦ pair_state s false (states.drop a) (states.drop b) ])
    go true = refl
    go false = refl

dropped-cell : (s : Status) (m : Bool) (o c : ℕ) → s ≡ dropped → cell (leaf_with s m o c) ≡ cell (leaf_state dropped false 0 0)
unfolding leaf_with leaf_over is_running
dropped-cell s m o c e = ap (λ (x : Status). cell (leaf_with x m o c)) e

module _ (m : Mem) (out : Bytes) where
  -- under a node that is dropped all is
  laid-gone : (t : Tree) → Laid t m out → (m (number_of t)).status ≡ dropped → Kept t (gone t) out
  unfolding Laid Kept gone number_of left_of right_of
  laid-gone (leaf i r c code) h d = h ∙ dropped-cell (m i).status (m i).asked (m i).offset (m i).counter d
  laid-gone (trivial i) h d = h ∙ dropped-cell (m i).status (m i).asked 0 0 d
  laid-gone (unsatisfiable i) h d = h ∙ dropped-cell (m i).status (m i).asked 0 0 d
  laid-gone (node w j i l r) h d =
      let z = h.1 (ap is_running d ∙ unfold is_running in refl) in (
        h.0 ∙ dropped-cell (m i).status (m i).asked 0 0 d ∙ unfold cell status offset counter in refl,
        laid-gone l h.2 z.0,
        laid-gone r h.3 z.1,
      )

  -- the sides of a pair, x and y being known of them where it runs
  laid-sides : (w : Way) (j : Join) (i : ℕ) (l r : Tree) → Laid (node w j i l r) m out → Kept l (held l m) out → Kept r (held r m) out
      → (b : Bool) → is_running (m i).status ≡ b → Kept l (left_of (held (node w j i l r) m)) out × Kept r (right_of (held (node w j i l r) m)) out
  unfolding Laid
  laid-sides w j i l r h x y true e =
      (subst (λ (s : State). Kept l s out) (sym (left-held w j i l r m e)) x, subst (λ (s : State). Kept r s out) (sym (right-held w j i l r m e)) y)
  laid-sides w j i l r h x y false e =
      let z = h.1 e in
      let v : held (node w j i l r) m ≡ pair_state (m i).status false (states.drop (held l m)) (states.drop (held r m)) =
      unfold held in pair-with-over (m i).status (m i).asked (held l m) (held r m) e in
      let a : left_of (held (node w j i l r) m) ≡ gone l = ap left_of v ∙ unfold left_of in drop-held l m in
      let b : right_of (held (node w j i l r) m) ≡ gone r = ap right_of v ∙ unfold right_of in drop-held r m in
      (subst (λ (s : State). Kept l s out) (sym a) (laid-gone l h.2 z.0), subst (λ (s : State). Kept r s out) (sym b) (laid-gone r h.3 z.1))

  laid_kept : (t : Tree) → Laid t m out → Kept t (held t m) out
  unfolding Laid Kept held
  laid_kept (leaf i r c code) h = h
  laid_kept (trivial i) h = h
  laid_kept (unsatisfiable i) h = h
  laid_kept (node w j i l r) h =
      let z = laid-sides w j i l r h (laid_kept l h.2) (laid_kept r h.3) (is_running (m i).status) refl in
      (h.0 ∙ noded-cell (m i).status (m i).asked (held l m) (held r m), z.0, z.1)

-- ---- the whole state

module _ {file : Bytes} (ok : Passed file) {ws₀ ws : Words} {bs : Bytes} {leaves : ℕ} (g : Swept file ws₀ ws bs (node_count file) leaves) where
  laid-step : (i : ℕ) → i < node_count file → (k : NodeKind) → kind_at file i ≡ k → (x : NodeSteps)
      → tree_at file i ≡ shaped k i x (left_tree ok i) (right_tree ok i)
      → ((w : Way) (j : Join) → k ≡ aPair w j → Laid (left_tree ok i) (memory_of ws) bs × Laid (right_tree ok i) (memory_of ws) bs)
      → Laid (shaped k i x (left_tree ok i) (right_tree ok i)) (memory_of ws) bs
  unfolding shaped Laid own_of cell_at
  laid-step i h aLeaf e x q f = g.records i h ∙ ap (λ (k : NodeKind). cell (own_of k (memory_of ws i))) e
  laid-step i h aTrivial e x q f = g.records i h ∙ ap (λ (k : NodeKind). cell (own_of k (memory_of ws i))) e
  laid-step i h an_unsatisfiable e x q f = g.records i h ∙ ap (λ (k : NodeKind). cell (own_of k (memory_of ws i))) e
  laid-step i h no_node e x q f = g.records i h ∙ ap (λ (k : NodeKind). cell (own_of k (memory_of ws i))) e
  laid-step i h (aPair w j) e x q f = (
    g.records i h ∙ ap (λ (k : NodeKind). cell (own_of k (memory_of ws i))) e,
    λ z.
        let v = g.sides i h w j e z in (
          ap (λ (k : ℕ). (memory_of ws k).status) (number_at file (record_at file i).left) ∙ v.0,
          ap (λ (k : ℕ). (memory_of ws k).status) (number_at file (record_at file i).right) ∙ v.1,
        ),
    (f w j refl).0,
    (f w j refl).1,
  )

  -- the cells are those of the state that the words held
  swept_kept : Kept (tree file) (held (tree file) (memory_of ws₀)) bs
  swept_kept =
      subst (λ (s : State). Kept (tree file) s bs) g.same
      (laid_kept (memory_of ws) bs (tree file) (each-root ok (λ t. Laid t (memory_of ws) bs) laid-step))

  abbrev t : Tree
  t = tree file

  abbrev s : State
  s = held (tree file) (memory_of ws₀)

  abbrev count : ℕ
  count = node_count file

  abbrev zeros : Bytes
  zeros = replicate (length bs - cell_place count) 0

  cleared-cell : (k : ℕ) → k < count → cell_at (put bs (cell_place count) zeros) k ≡ cell_at bs k
  unfolding cell_at cell_place
  cleared-cell k h =
      part-before bs (cell_place count) zeros (cell_place k) cell_size (omega (arith, length-replicate (length bs - cell_place count) zero, (room ok).few, g.size)) (omega arith)

  cleared-rest : drop (cell_place count) (put bs (cell_place count) zeros) ≡ zeros
  unfolding put cell_place
  cleared-rest =
      let l : length zeros ≡ length bs - cell_place count = length-replicate (length bs - cell_place count) zero in
      drop_at (take (cell_place count) bs) (zeros ++ drop (cell_place count + length zeros) bs) (cell_place count)
      (length-take-le (cell_place count) bs (omega (arith, (room ok).few, g.size)))
      ∙ ap (λ (l : Bytes). zeros ++ l) (drop_of_length-le bs {i = cell_place count + length zeros} (omega arith)) ∙ append-nil zeros

  -- "node records from n on .. are zero"
  saved-rest : drop (cell_place count) (saved_cells t s) ≡ zeros
  saved-rest =
      let e : length (drop (cell_place count) (saved_cells t s)) ≡ length bs - cell_place count = simp (length-drop, cells-length t (in_cells file ok) s, g.size) in
      zeros-are (drop (cell_place count) (saved_cells t s)) (cells-tail count (room ok).few t (numbers-below-nodes file ok) s) ∙ ap (λ (k : ℕ). replicate k zero) e

  all-tidied : put bs (cell_place count) zeros ≡ saved_cells t s
  all-tidied =
      cells_same (put bs (cell_place count) zeros) (saved_cells t s) count
      (λ i h. cleared-cell i h ∙ kept_same t s bs (saved_cells t s) swept_kept (cells-kept t (lawful-apart t (lawful file ok)) (in_cells file ok) s) i (all_held file ok.kept5 i h))
      (cleared-rest ∙ sym saved-rest)

  -- a record says of its node whether it runs
  runs-alike : (k : ℕ) → k < count → runs_at ws k ≡ is_running_at bs k
  unfolding is_running_at cell_at
  runs-alike k h =
      let b : k < most_nodes = omega (arith, h, (room ok).few) in
      let x : State = own_of (kind_at file k) (memory_of ws k) in
      sym (ap (λ (z : Status). is_running z) (ap status_of (status-is bs k g.size b x (g.records k h)) ∙ status-back (status x) ∙ own-status (kind_at file k) (memory_of ws k)))

  leaves-are : leaves ≡ running_leaves t s
  leaves-are =
      g.counted ∙ leaves-same file (runs_at ws) (is_running_at bs) count runs-alike ∙ counted ok bs
      ∙ sym (kept_leaves t s bs (in_cells file ok) g.size swept_kept)

-- zeros are written after the records, and the count in front of them
pub tidied : {file : Bytes} → Passed file → {n : ℕ} → n ≡ node_count file → {ws₀ ws : Words} {bs cs out : Bytes} {leaves : ℕ} → Swept file ws₀ ws bs n leaves
    → cs ≡ put bs (cell_place n) (replicate (length bs - cell_place n) 0) → out ≡ ahead leaves ++ cs → out ≡ saved (tree file) (held (tree file) (memory_of ws₀))
unfolding saved
tidied {file} ok e {ws₀} {ws} {bs} {leaves = leaves} g h f =
    let z : Swept file ws₀ ws bs (node_count file) leaves = subst (λ (k : ℕ). Swept file ws₀ ws bs k leaves) e g in
    f ∙ ap₂ {C = Bytes} (λ (k : ℕ) (l : Bytes). ahead k ++ l) (leaves-are ok z)
    (h ∙ ap (λ (k : ℕ). put bs (cell_place k) (replicate (length bs - cell_place k) 0)) e ∙ all-tidied ok z)

-- a count of at most 31 fits its byte
pub few-leaves : {file : Bytes} → Passed file → {n : ℕ} → n ≡ node_count file → {ws₀ ws : Words} {bs : Bytes} {leaves : ℕ} → Swept file ws₀ ws bs n leaves → leaves < 256
few-leaves {file} ok {n} e {ws = ws} g = omega (arith, e, g.counted, leaves-few file (runs_at ws) n, (room ok).few)

-- ---- a policy that is one node

-- the record of node 0 and zeros after it are all cells
pub alone : (bs : Bytes) {cs ds out : Bytes} (b : ℕ) (s : Status) → b ≡ status_number s → length bs ≡ cells_size → cs ≡ put bs (cell_place 0) (spell 8 (packed b 0 0 0))
    → ds ≡ put cs (cell_place 1) (replicate (length cs - cell_place 1) 0) → out ≡ ahead 0 ++ ds → out ≡ saved (trivial 0) (leaf_over s)
unfolding saved saved_cells store running_leaves cell_place put cell leaf_over spell
alone bs {cs} {ds} b s e size c d o = o ∙ ap (λ (l : Bytes). ahead 0 ++ l) (d ∙ ap₂ (λ (l : Bytes) (k : ℕ). put l 8 (replicate k 0)) c rest ∙ joined ∙ whole)
  where
    word : Bytes
    word = spell 8 (packed b 0 0 0)

    zeros : Bytes
    zeros = replicate 240 0

    long : length word ≡ 8
    long = spell-length 8 (packed b 0 0 0)

    rest : length cs - 8 ≡ 240
    rest = omega (arith, ap length c, put-length bs 0 word (omega (arith, long, size)), size)

    joined : put (put bs 0 word) 8 zeros ≡ put bs 0 (word ++ zeros)
    joined = put-append bs 0 word 8 zeros (omega (arith, long)) (omega (arith, size, length-replicate {A = ℕ} 240 0))

    none : drop (length (word ++ zeros)) bs ≡ []
    none = drop_of_length-le bs {i = length (word ++ zeros)} (omega (arith, size, long, length-append word zeros, length-replicate {A = ℕ} 240 0))

    whole : put bs 0 (word ++ zeros) ≡ put (replicate cells_size 0) 0 (cell (leaf_over s))
    whole =
        ap (λ (l : Bytes). (word ++ zeros) ++ l) none ∙ append-nil (word ++ zeros)
        ∙ ap (λ (l : Bytes). l ++ zeros) (word-alone b s e) ∙ filled
      where
        filled : cell (leaf_over s) ++ zeros ≡ put (replicate cells_size 0) 0 (cell (leaf_over s))
        filled = refl
