-- `one_phase` meets its contract: the tables, the phase, and the end of the call.
use Rattle.call_phase.proofs.PhaseLaws.{phase-room}
use Rattle.call_carry.proofs.CallLaws.{ready, held-prepared, phase-played, gave, phase-from, steps-from}
use Rattle.call_carry.proofs.one_phase.Goals as goal

pub run_phase-ran-requires : goal.run_phase-ran-requires
run_phase-ran-requires c = record { ready = ready c.requires.passed.0.0 _ _ c.prepare.ensures.1 c.prepare.ensures.0 c.requires.tells; mem_in_bounds = phase-room c.requires.passed.0.0 _ _ c.args.events.now c.requires.passed.1.1.1 }

pub returns : goal.returns
returns c =
    let prepared = held-prepared c.requires.passed.0.0 _ _ c.prepare.ensures.1 in
    record { fact = phase-from _ _ _ prepared (gave (phase-played c.run_phase-ran.ensures.phased) c.finish.ensures); counts_after = steps-from c.args.counting c.args.policy.now c.args.counts.now _ prepared c.run_phase-ran.ensures.counts_after }
