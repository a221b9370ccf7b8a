-- `spot_code` meets its contract.
use native.Mathlib.Omega.{arith}
use mathlib.Core.Path.{sym, ap}
use Rattle.std.proofs.Common.{rules}
use Rattle.faults.specs.Meaning.{spot_of, spot_code}
use Rattle.faults.proofs.spot_code.Goals as goal

pub returns-in-None : goal.returns-in-None
unfolding spot_of spot_code
returns-in-None c = (sym (ap (λ s. spot_code (spot_of s)) c.in-None.is), omega arith)

pub returns-in-Some : goal.returns-in-Some
unfolding spot_of spot_code
returns-in-Some c = let told = sym (ap (λ s. spot_code (spot_of s)) c.in-Some.is) in search rules
