-- `names` meets its contract: a pair names its two children, which may be one.
use native.Mathlib.Omega.{arith}
use Prim.Native.Nat.{ℕ}
use mathlib.Core.Path.{◌≡◌, refl, ap, ◌∙◌}
use mathlib.Core.List.{List}
use mathlib.Core.Bool.{Bool, true, false}
use lib.Dec.{eqb}
use mir.Val.{bool_byte}
use Rattle.spec_policy.specs.Lists.{one, occurs}
use Rattle.spec_policy.proofs.ListLaws.{one-most}
use Rattle.check_children.specs.Pair.{pair_of}
use Rattle.check_children.proofs.names.Goals as goal

byte-one : (b : Bool) → bool_byte b ≡ one b
unfolding one
byte-one true = refl
byte-one false = refl

pub returns-in-Some : goal.returns-in-Some
unfolding pair_of occurs
returns-in-Some c =
    let k = c.args.k in
    let l = eqb c.in-Some.left k in
    let r = eqb c.in-Some.right k in
    let e = ap (λ (xs : List ℕ). occurs k xs) c.in-Some.ensures in
    let a = c.from.ensures ∙ byte-one l in
    let b = c.from-in-Some.ensures ∙ byte-one r in
    (omega (arith, a, b, e), omega (arith, a, b, one-most l, one-most r))

pub returns-in-None : goal.returns-in-None
unfolding pair_of occurs
returns-in-None c = (ap (λ (xs : List ℕ). occurs c.args.k xs) c.in-None.ensures, omega arith)
