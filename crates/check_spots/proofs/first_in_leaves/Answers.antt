-- `first_in_leaves` meets its contract: the loop carries along that nothing is found before node i.
use native.Mathlib.Omega.{arith}
use Prim.Native.Nat.{ℕ, ◌+◌, ◌*◌}
use mathlib.Core.Path.{◌≡◌, sym, ap, ◌∙◌}
use Rattle.actions.specs.Sets.{ActionSet}
use Rattle.spec_policy.specs.Records.{Node, node_at, node_place}
use Rattle.spec_policy.specs.Spots.{nowhere, on_record}
use Rattle.spec_policy.specs.Tree.{aLeaf, node_kind}
use Rattle.spec_policy.proofs.NodeLaws.{first-none}
use Rattle.file_records.specs.Code.{code_at}
use Rattle.file_records.specs.Kinds.{kind_of}
use Rattle.file_records.specs.declared.Kind.{Kind}
use Rattle.file_records.specs.declared.Kind.TheVariants.{Leaf}
use Rattle.faults.specs.Meaning.{spot_of}
use Rattle.check_spots.specs.Leaf.{in_node}
use Rattle.check_spots.proofs.AllLeaves.{leaf-off, other-off, nothing-yet, nothing-found, begins-next, numbers-in, leaf-at, found-here, none-here}
use Rattle.check_spots.proofs.first_in_leaves.Goals.{in-Leaf+in_default-in_leaf, in_default}
use Rattle.check_spots.proofs.first_in_leaves.Goals as goal

-- where the steps of a node begin
begins : (n first steps : ℕ) → steps ≡ node_place n → steps + 12 * first ≡ 6 + 16 * n + 12 * first
unfolding node_place
begins n first steps e = omega (arith, e)

a-leaf : (x : Node) (q : Kind) → q ≡ Leaf → kind_of q ≡ node_kind x.kind → aLeaf ≡ node_kind x.kind
unfolding kind_of
a-leaf x q e k = sym (ap kind_of e) ∙ k

pub loop-i-init : goal.loop-i-init
loop-i-init g c = (sym (first-none _), λ off finds. nothing-yet c.args.file.framed c.requires.policy_value c.requires.policy_value_2 off)

pub node_count-requires : goal.node_count-requires
unfolding node_place
node_count-requires g c = omega (arith, c.loop-i-test.true, c.node_place-place.ensures, c.args.file.framed.long, c.args.file.framed.few-nodes)

pub node_kind-requires : goal.node_kind-requires
unfolding node_place
node_kind-requires g c = omega (arith, c.loop-i-test.true, c.node_place-place.ensures, c.args.file.framed.long, c.args.file.framed.few-nodes)

pub node_set-requires : goal.node_set-requires
unfolding node_place
node_set-requires g c = omega (arith, c.loop-i-test.true, c.node_place-place.ensures, c.args.file.framed.long, c.args.file.framed.few-nodes)

pub overflow_mul-first : goal.overflow_mul-first
overflow_mul-first g c = omega (arith, numbers-in c.args.file.framed c.requires.policy_value c.requires.policy_value_2 c.loop-i.i c.loop-i.first _ _ _ c.loop-i.invariant.0 c.loop-i-test.true c.node_place-place.ensures (begins _ _ _ c.node_place-steps.ensures) (c.from-count.ensures ∙ c.node_count.ensures))

pub overflow_add-steps : goal.overflow_add-steps
unfolding node_place
overflow_add-steps g c = omega (arith, numbers-in c.args.file.framed c.requires.policy_value c.requires.policy_value_2 c.loop-i.i c.loop-i.first _ _ _ c.loop-i.invariant.0 c.loop-i-test.true c.node_place-place.ensures (begins _ _ _ c.node_place-steps.ensures) (c.from-count.ensures ∙ c.node_count.ensures), c.node_place-steps.ensures)

pub in_leaf-requires : goal.in_leaf-requires
in_leaf-requires g c = c.requires.may _ _ _ (leaf-at c.args.file.framed c.requires.policy_value c.requires.policy_value_2 c.loop-i.i c.loop-i.first _ _ _ c.loop-i.invariant.0 c.loop-i-test.true c.node_place-place.ensures (begins _ _ _ c.node_place-steps.ensures) (c.from-count.ensures ∙ c.node_count.ensures) (a-leaf (node_at _ _) _ c.in-Leaf.is c.node_kind.ensures) c.node_set.ensures)

pub overflow_add-first : goal.overflow_add-first
overflow_add-first g c = omega (arith, numbers-in c.args.file.framed c.requires.policy_value c.requires.policy_value_2 c.loop-i.i c.loop-i.first _ _ _ c.loop-i.invariant.0 c.loop-i-test.true c.node_place-place.ensures (begins _ _ _ c.node_place-steps.ensures) (c.from-count.ensures ∙ c.node_count.ensures), c.requires.inside _ _ _ _ c.in-Some.ensures)

pub on_record-requires : goal.on_record-requires
on_record-requires g c = omega (arith, numbers-in c.args.file.framed c.requires.policy_value c.requires.policy_value_2 c.loop-i.i c.loop-i.first _ _ _ c.loop-i.invariant.0 c.loop-i-test.true c.node_place-place.ensures (begins _ _ _ c.node_place-steps.ensures) (c.from-count.ensures ∙ c.node_count.ensures), c.requires.inside _ _ _ _ c.in-Some.ensures, c.args.file.framed.few-steps)

pub returns-in-Some : goal.returns-in-Some
unfolding spot_of
returns-in-Some g c off finds =
    let off-is : on_record c.in-Some.o ≡ in_node off (node_at c.args.file.policy.now c.node_place-place.result) (code_at c.args.file.policy.now (c.node_place-steps.result + 12 * c.loop-i.first) c.from-count.result) =
    finds _ _ _ _ c.in-Some.ensures ∙ ap (λ (r : ActionSet). off r (code_at c.args.file.policy.now (c.node_place-steps.result + 12 * c.loop-i.first) c.from-count.result)) c.node_set.ensures
    ∙ leaf-off off (node_at _ _) (code_at c.args.file.policy.now (c.node_place-steps.result + 12 * c.loop-i.first) c.from-count.result) (a-leaf (node_at _ _) _ c.in-Leaf.is c.node_kind.ensures) in
    c.on_record.ensures ∙ ap (λ (k : ℕ). on_record (c.loop-i.first + k)) c.from.ensures ∙ found-here c.args.file.framed c.requires.policy_value c.requires.policy_value_2 c.loop-i.i c.loop-i.first _ _ _ c.loop-i.invariant.0 c.loop-i-test.true c.node_place-place.ensures (begins _ _ _ c.node_place-steps.ensures) (c.from-count.ensures ∙ c.node_count.ensures) off (c.loop-i.invariant.1 off finds) _ off-is

pub overflow_add-first-in-loop-i : goal.overflow_add-first-in-loop-i
overflow_add-first-in-loop-i g c = omega (arith, numbers-in c.args.file.framed c.requires.policy_value c.requires.policy_value_2 c.loop-i.i c.loop-i.first _ _ _ c.loop-i.invariant.0 c.loop-i-test.true c.node_place-place.ensures (begins _ _ _ c.node_place-steps.ensures) (c.from-count.ensures ∙ c.node_count.ensures))

pub loop-i-preserved : goal.loop-i-preserved
unfolding spot_of
loop-i-preserved g c = (
  begins-next c.args.file.framed c.requires.policy_value c.requires.policy_value_2 c.loop-i.i c.loop-i.first _ _ _ c.loop-i.invariant.0 c.loop-i-test.true c.node_place-place.ensures (begins _ _ _ c.node_place-steps.ensures) (c.from-count.ensures ∙ c.node_count.ensures),
  λ off finds.
      let off-is : nowhere ≡ in_node off (node_at c.args.file.policy.now c.node_place-place.result) (code_at c.args.file.policy.now (c.node_place-steps.result + 12 * c.loop-i.first) c.from-count.result) = elim c.match-node_kind.branch [
        | in-Leaf+in_default-in_leaf w ↦ sym (ap spot_of w.in_default-in_leaf.is) ∙ finds _ _ _ _ w.in_leaf.ensures ∙ ap (λ (r : ActionSet). off r (code_at c.args.file.policy.now (c.node_place-steps.result + 12 * c.loop-i.first) c.from-count.result)) w.node_set.ensures
            ∙ leaf-off off (node_at _ _) (code_at c.args.file.policy.now (c.node_place-steps.result + 12 * c.loop-i.first) c.from-count.result) (a-leaf (node_at _ _) _ w.in-Leaf.is c.node_kind.ensures)
        | in_default w ↦ other-off off (node_at _ _) (code_at c.args.file.policy.now (c.node_place-steps.result + 12 * c.loop-i.first) c.from-count.result) _ c.node_kind.ensures w.in_default.not-Leaf
      ] in
      none-here c.args.file.framed c.requires.policy_value c.requires.policy_value_2 c.loop-i.i c.loop-i.first _ _ _ c.loop-i.invariant.0 c.loop-i-test.true c.node_place-place.ensures (begins _ _ _ c.node_place-steps.ensures) (c.from-count.ensures ∙ c.node_count.ensures) off (c.loop-i.invariant.1 off finds) off-is,
)

pub returns : goal.returns
unfolding spot_of
returns g c off finds = nothing-found c.args.file.framed c.requires.policy_value c.requires.policy_value_2 off c.loop-i.i c.loop-i-test.false (c.loop-i.invariant.1 off finds)
