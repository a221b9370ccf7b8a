-- `find` meets its contract.
use native.Mathlib.Omega.{arith}
use Rattle.trials.proofs.CallLaws.{policy-from, state-from, events-from, policy-is, state-is, events-is, short, whole}
use Rattle.trials.proofs.calls.find.Goals as goal

pub returns-then-have-lt-POLICY_AT : goal.returns-then-have-lt-POLICY_AT
returns-then-have-lt-POLICY_AT c = short _ _ _ (omega arith) (omega (arith, policy-from c.args.batch.now, state-from c.args.batch.now, events-from c.args.batch.now)) (omega (arith, policy-from c.args.batch.now, state-from c.args.batch.now, events-from c.args.batch.now))

pub returns-then-have-policy_end : goal.returns-then-have-policy_end
returns-then-have-policy_end c = short _ _ _ (omega arith) (omega (arith, policy-from c.args.batch.now, state-from c.args.batch.now, events-from c.args.batch.now, policy-is _ _ c.field_end-policy_end.ensures.0, c.field_end-policy_end.ensures.1)) (omega (arith, policy-from c.args.batch.now, state-from c.args.batch.now, events-from c.args.batch.now, policy-is _ _ c.field_end-policy_end.ensures.0, c.field_end-policy_end.ensures.1))

pub returns-then-have-state_end : goal.returns-then-have-state_end
returns-then-have-state_end c = short _ _ _ (omega arith) (omega (arith, policy-from c.args.batch.now, state-from c.args.batch.now, events-from c.args.batch.now, state-is _ _ _ (policy-is _ _ c.field_end-policy_end.ensures.0) c.field_end-state_end.ensures.0, c.field_end-policy_end.ensures.1, c.field_end-state_end.ensures.1)) (omega (arith, policy-from c.args.batch.now, state-from c.args.batch.now, events-from c.args.batch.now, state-is _ _ _ (policy-is _ _ c.field_end-policy_end.ensures.0) c.field_end-state_end.ensures.0, c.field_end-policy_end.ensures.1, c.field_end-state_end.ensures.1))

pub returns-then-have-events_end : goal.returns-then-have-events_end
returns-then-have-events_end c = short _ _ _ (omega arith) (omega (arith, policy-from c.args.batch.now, state-from c.args.batch.now, events-from c.args.batch.now, events-is _ _ _ (state-is _ _ _ (policy-is _ _ c.field_end-policy_end.ensures.0) c.field_end-state_end.ensures.0) c.field_end-events_end.ensures.0, c.field_end-policy_end.ensures.1, c.field_end-state_end.ensures.1, c.field_end-events_end.ensures.1)) (omega (arith, policy-from c.args.batch.now, state-from c.args.batch.now, events-from c.args.batch.now, events-is _ _ _ (state-is _ _ _ (policy-is _ _ c.field_end-policy_end.ensures.0) c.field_end-state_end.ensures.0) c.field_end-events_end.ensures.0, c.field_end-policy_end.ensures.1, c.field_end-state_end.ensures.1, c.field_end-events_end.ensures.1))

pub returns : goal.returns
returns c = let e = events-is _ _ _ (state-is _ _ _ (policy-is _ _ c.field_end-policy_end.ensures.0) c.field_end-state_end.ensures.0) c.field_end-events_end.ensures.0 in whole _ _ _ (omega (arith, e)) c.requires (policy-is _ _ c.field_end-policy_end.ensures.0) (state-is _ _ _ (policy-is _ _ c.field_end-policy_end.ensures.0) c.field_end-state_end.ensures.0) c.field_end-state_end.ensures.1 e c.field_end-events_end.ensures.1 c.byte.ensures c.byte-2.ensures
