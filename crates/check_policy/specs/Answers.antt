-- What the check's result stands for: its answer with document 01's numbers, and document 02's places.
use Rattle.std.specs.Prelude.{Result, Ok, Err}
use Rattle.spec_policy.specs.Spots.{Fault, bare_fault}
use Rattle.spec_check.specs.Check.{Answer, passes, refused}
use Rattle.faults.specs.declared.Fault as code
use Rattle.faults.specs.Meaning.{fault_of}
use Rattle.check_policy.specs.declared.Sets.{Sets}

unfoldable pub answered : Result Sets code.Fault → Answer
unfolding fault_of
answered (Ok s) = passes s.regulated.bits s.effects.bits
answered (Err f) = refused (fault_of f)

-- the refusal; no rule has number 0, so that is the number of a pass
unfoldable pub refusal_of : Answer → Fault
refusal_of (passes r e) = bare_fault 0
refusal_of (refused f) = f
