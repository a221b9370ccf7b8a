-- `file` meets its contract: the file, or a refusal.
use Prim.Native.Nat.{ℕ}
use mathlib.Core.Path.{◌≡◌, sym, subst}
use Rattle.spec_policy.specs.Bytes.{Bytes}
use Rattle.guardwrite.specs.Said.{Said}
use Rattle.guardwrite.specs.Telling.{Telling}
use Rattle.guardwrite.specs.declared.told.Told.TheVariants.{File}
use borrow.Author.Rules.{rules}
use Rattle.guardwrite.proofs.ToldLaws.{instead, as-message, file-wrote, file-small, file-refused}
use Rattle.guardwrite.proofs.told.file.Goals as goal

-- a file of as many bytes
file_of : {b : Bytes} {x : Said} {k n : ℕ} → k ≡ n → Telling b (File n) x → Telling b (File k) x
file_of {b} {x} e t = subst (λ (m : ℕ). Telling b (File m) x) (sym e) t

pub refused-requires : goal.refused-requires
refused-requires c = (file-small c.args.text.now c.args.nodes.now c.args.steps.now c.args.out.now c.write.result _ c.write.ensures _ c.in-Err.is, search rules)

pub returns-in-Ok : goal.returns-in-Ok
returns-in-Ok c =
    file_of c.from.ensures
    (file-wrote c.args.text.now c.args.nodes.now c.args.steps.now c.args.out.now c.write.result _ c.write.ensures _ c.in-Ok.is)

pub returns-in-Err : goal.returns-in-Err
returns-in-Err c = instead (as-message c.refused.ensures) (file-refused c.args.text.now c.args.nodes.now c.args.steps.now c.args.out.now c.write.result _ c.write.ensures _ c.in-Err.is)
