-- `write` meets its contract: the refusals in their order, or the file.
use native.Mathlib.Omega.{arith}
use mathlib.Core.Path.{sym, ◌∙◌}
use Rattle.check_policy.proofs.Answers.{check-passes, check-refuses, refusal_is}
use Rattle.spec_writer.proofs.Files.{lendable-lent}
use Rattle.file_writer.proofs.Lays.{gave-3, gave-refused, gave-15, gave-file}
use Rattle.file_writer.proofs.write.Goals as goal

pub returns-then-not-lendable : goal.returns-then-not-lendable
returns-then-not-lendable c = gave-3 c.args.nodes.now c.args.steps.now c.args.out.now (sym c.lendable.ensures ∙ c.if-not-lendable.true) _ c.bare.ensures

pub check_laid-checked-requires : goal.check_laid-checked-requires
check_laid-checked-requires c = lendable-lent _ _ (sym c.lendable.ensures ∙ c.if-not-lendable.false)

pub returns-in_default : goal.returns-in_default
returns-in_default c =
    let l = lendable-lent c.args.nodes.now c.args.steps.now (sym c.lendable.ensures ∙ c.if-not-lendable.false) in
    gave-refused c.args.nodes.now c.args.steps.now c.args.out.now l (check-refuses _ c.check_laid-checked.ensures c.in_default.is) _ (refusal_is _ (grind arith) c.in_default.is)

pub size-length-requires : goal.size-length-requires
size-length-requires c = lendable-lent _ _ (sym c.lendable.ensures ∙ c.if-not-lendable.false)

pub returns-then-out-length : goal.returns-then-out-length
returns-then-out-length c =
    let l = lendable-lent c.args.nodes.now c.args.steps.now (sym c.lendable.ensures ∙ c.if-not-lendable.false) in
    gave-15 c.args.nodes.now c.args.steps.now c.args.out.now l (check-passes _ c.check_laid-checked.ensures c.in-Ok.is)
    (omega (arith, c.if-out-length.true, c.size-length.ensures.0)) _ c.bare-then-out-length.ensures

pub lay-requires : goal.lay-requires
lay-requires c = (lendable-lent _ _ (sym c.lendable.ensures ∙ c.if-not-lendable.false), omega (arith, c.if-out-length.false, c.size-length.ensures.0))

pub returns : goal.returns
returns c =
    let l = lendable-lent c.args.nodes.now c.args.steps.now (sym c.lendable.ensures ∙ c.if-not-lendable.false) in
    gave-file c.args.nodes.now c.args.steps.now c.args.out.now l (check-passes _ c.check_laid-checked.ensures c.in-Ok.is)
    (omega (arith, c.if-out-length.false, c.size-length.ensures.0)) c.size-length.ensures.0 c.lay.ensures
