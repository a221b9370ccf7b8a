-- A leaf where the file has it: its steps, its tree, and its part of a phase.
use Prim.Native.Nat.{ℕ, ◌-◌, ◌<◌}
use native.Mathlib.Omega.{arith}
use mathlib.Core.Path.{◌≡◌, refl, sym, ap, ap₂, ◌∙◌, subst}
use mathlib.Core.Bool.{Bool, true}
use mathlib.Core.List.{List}
use Rattle.actions.specs.Sets.{ActionSet}
use Rattle.spec_policy.specs.Bytes.{Bytes}
use Rattle.spec_policy.specs.Records.{node_place, step_place, node_at, node_count}
use Rattle.spec_policy.specs.Steps.{Step}
use Rattle.spec_policy.specs.Tree.{aLeaf, Tree, leaf, regulated, tree_at}
use Rattle.spec_check.specs.Lawful.{LawfulLeaf}
use Rattle.spec_check.proofs.Under.{EachLeaf}
use Rattle.laws_check.proofs.LawfulTree.{lawful-leaves}
use Rattle.spec_turns.specs.Turn.{Phase, is_asked}
use Rattle.file_records.specs.Code.{code_from, StepsIn}
use Rattle.turn_paths.specs.Run.{Run}
use Rattle.turn_paths.specs.Memory.{held, ran_of}
use Rattle.turn_memory.specs.Words.{Words, memory_of}
use Rattle.turn_sides.specs.Sides.{kind_at}
use Rattle.turn_tables.proofs.FileNodes.{Room, room, tree-leaf, leaf_room}
use Rattle.turn_leaf.specs.Leaf.{Quietly, Passing, Left, came, Ran}
use Rattle.turn_leaf.specs.declared.Progress.{Progress}
use Rattle.turn_leaf.specs.declared.Progress.TheVariants.{Insert, Done}
use Rattle.turn_place.specs.Places.{Stands, Asked, leaf_run, StepsOf, Begun, came_to, WentOn}

pub file-room : {policy : Bytes} {ws : Words} {i : ℕ} → Stands policy ws i → Room policy
file-room h = room h.passed

pub low : {policy : Bytes} {ws : Words} {i : ℕ} → Stands policy ws i → i < 31
low h = omega (arith, h.inside, (file-room h).few)

module _ {policy : Bytes} {ws : Words} {i : ℕ} (h : Stands policy ws i) (ek : kind_at policy i ≡ aLeaf) {first k : ℕ} (s : StepsOf policy i first k) where
  abbrev set : ActionSet
  set = (node_at policy (node_place i)).set

  abbrev start : ℕ
  start = (node_at policy (node_place i)).start

  abbrev here : Tree
  here = leaf i set start (code_from policy first k)

  leaf-tree : tree_at policy i ≡ leaf i (node_at policy (node_place i)).set (node_at policy (node_place i)).start (code_from policy first k)
  unfolding kind_at
  leaf-tree =
      tree-leaf h.passed i h.inside ek
      ∙ ap (λ (ss : List Step). leaf i (node_at policy (node_place i)).set (node_at policy (node_place i)).start ss) (ap₂ (code_from policy) (sym s.0) (sym s.1))

  pub leaf-passing : Passing (code_from policy first k)
  unfolding EachLeaf tree_at
  leaf-passing = record {
    set = (node_at policy (node_place i)).set;
    law = subst (EachLeaf (λ i s c code. LawfulLeaf s code)) leaf-tree (lawful-leaves policy h.passed (node_count policy - i) i);
  }

  pub leaf-fits : StepsIn policy first k
  unfolding kind_at step_place
  leaf-fits = (omega (arith, (file-room h).few), omega (arith, s.0, s.1, leaf_room h.passed i h.inside ek))

  module _ (ph : Phase) (ws' : Words) where
    pub leaf-begun : {on : Bool} {cs cs' : List ℕ} → Asked policy ws i ph
        → ((r c : ℕ) → is_asked r ph (held (leaf i r c (code_from policy first k)) (memory_of ws)) ≡ true → Left i r c (code_from policy first k) ph on policy cs cs' ws ws') → Begun on policy cs cs' i ph ws ws'
    unfolding leaf_run regulated
    leaf-begun {on} {cs} {cs'} a g =
        let z : is_asked set ph (held here (memory_of ws)) ≡ true = subst (λ (t : Tree). is_asked (regulated t) ph (held t (memory_of ws)) ≡ true) leaf-tree a in
        let l = g set start z in
        record {
          begun = subst (λ (t : Tree). Quietly on policy cs cs' (ran_of t ph (held t (memory_of ws))) (leaf_run t ph (memory_of ws'))) (sym leaf-tree) l.begun;
          only = l.only;
        }

    came-to : (x : Progress) → came i set start (code_from policy first k) ph ws' x ≡ came_to here ph ws' x
    unfolding came leaf_run
    came-to (Insert b) = refl
    came-to (Done u) = refl

    pub leaf-went : {x : Progress} {on : Bool} {cs cs' : List ℕ} → ((r c : ℕ) → Ran i r c (code_from policy first k) ph on policy cs cs' ws ws' x) → WentOn on policy cs cs' i ph ws ws' x
    unfolding leaf_run
    leaf-went {x} {on} {cs} {cs'} g =
        let r = g set start in
        record {
          gives = subst (λ (t : Tree). Quietly on policy cs cs' (leaf_run t ph (memory_of ws)) (came_to t ph ws' x)) (sym leaf-tree)
              (subst (λ (q : Run). Quietly on policy cs cs' (leaf_run here ph (memory_of ws)) q) (came-to x) r.gives);
          only = r.only;
        }
