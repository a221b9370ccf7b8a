-- `wrong5` meets its contract: the loop carries along what is left to look at.
use native.Mathlib.Omega.{arith}
use Prim.Native.Nat.{ℕ}
use mathlib.Core.Path.{◌≡◌, sym, ap, ◌∙◌}
use mathlib.Core.Bool.{Bool, ◌&&◌, ◌||◌}
use lib.Dec.{eqb}
use Rattle.spec_policy.specs.Bytes.{Bytes}
use Rattle.spec_policy.specs.Lists.{listed, occurs}
use Rattle.spec_policy.specs.Records.{node_at, node_place, nodes}
use Rattle.spec_policy.specs.Spots.{first_off}
use Rattle.spec_check.specs.Children.{later, children, one_parent, wrong5}
use Rattle.faults.specs.Meaning.{spot_of}
use Rattle.check_layout.specs.Frame.{Framed}
use Rattle.check_layout.proofs.Frame.{node-list}
use Rattle.check_children.proofs.Search.{looking, passed, found, none}
use Rattle.check_children.proofs.wrong5.Invariants.{node_of, test}
use Rattle.check_children.proofs.wrong5.Goals as goal

-- the file's nodes are the n that the loop runs over
all-nodes : {file : Bytes} {n m : ℕ} → Framed file n m → first_off (test file n) 0 (listed (node_of file) 0 n) ≡ wrong5 file
unfolding wrong5 node_place
all-nodes {file} f = λ j. first_off (test file (f.nodes j)) 0 (sym (node-list f) j)

-- the test of node i is what the two calls say
asked : (file : Bytes) (n i at k : ℕ) (b : Bool) → at ≡ node_place i → b ≡ later n i (node_at file at) → k ≡ occurs i (children (nodes file))
    → test file n i (node_of file i) ≡ (b && (eqb i 0 || eqb k 1))
unfolding one_parent
asked file n i at k b p q r =
    let l = q ∙ ap (λ (a : ℕ). later n i (node_at file a)) p in
    sym (λ j. l j && (eqb i 0 || eqb (r j) 1))

pub loop-i-init : goal.loop-i-init
loop-i-init c = looking _ _ _

pub node_place-requires : goal.node_place-requires
node_place-requires c = omega (arith, c.loop-i-test.true)

pub children_later-later-requires : goal.children_later-later-requires
unfolding node_place
children_later-later-requires c = omega (arith, c.loop-i-test.true, c.node_place.ensures)

pub on_record-requires : goal.on_record-requires
on_record-requires c = omega (arith, c.loop-i-test.true)

pub returns-then-not-later-once : goal.returns-then-not-later-once
returns-then-not-later-once c =
    c.on_record.ensures
    ∙ found _ _ _ c.loop-i.i c.loop-i-test.true c.loop-i.invariant
    (asked _ _ _ _ _ _ c.node_place.ensures c.children_later-later.ensures c.named.ensures ∙ c.if-not-later-once.true)
    ∙ all-nodes c.args.file.framed

pub loop-i-preserved : goal.loop-i-preserved
loop-i-preserved c =
    passed _ _ _ c.loop-i.i c.loop-i-test.true c.loop-i.invariant
    (asked _ _ _ _ _ _ c.node_place.ensures c.children_later-later.ensures c.named.ensures ∙ c.if-not-later-once.false)

pub returns : goal.returns
unfolding spot_of
returns c = none _ _ _ c.loop-i.i c.loop-i-test.false c.loop-i.invariant ∙ all-nodes c.args.file.framed
