-- `byte` meets its contract: one byte is a number of one byte.
use mathlib.Core.Path.{sym}
use Rattle.spec_policy.proofs.NumberLaws.{number-byte}
use Rattle.file_records.proofs.byte.Goals as goal

pub returns : goal.returns
returns c = sym (number-byte _ _ c.requires)
