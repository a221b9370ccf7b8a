-- `table_of` meets its contract.
use native.Mathlib.Omega.{arith}
use Rattle.trace_events.proofs.EventLaws.{table-1, table-2, table-3, table-else}
use Rattle.trace_events.proofs.table_of.Goals as goal

pub returns-in-1-clause-place : goal.returns-in-1-clause-place
returns-in-1-clause-place c = table-1 _ c.in-1.is

pub returns-in-2-clause-place : goal.returns-in-2-clause-place
returns-in-2-clause-place c = table-2 _ c.in-2.is

pub returns-in-3-clause-place : goal.returns-in-3-clause-place
returns-in-3-clause-place c = table-3 _ c.in-3.is

pub returns-in_default-clause-place : goal.returns-in_default-clause-place
returns-in_default-clause-place c = table-else _ (λ e. omega arith) (λ e. omega arith) (λ e. omega arith)
