-- `play` meets its contract: the phase before the verdict, the verdict, the phase after it.
use mathlib.Core.Path.{refl, ◌∙◌}
use Rattle.turn_memory.specs.Phases.{phase_of}
use Rattle.call_phase.proofs.PhaseLaws.{phase-room}
use Rattle.call_offer.proofs.OfferLaws.{verdict-room, after-room, turn-played, steps-both}
use Rattle.call_offer.proofs.play.Goals as goal

pub run_phase-first-requires : goal.run_phase-first-requires
run_phase-first-requires c = record { ready = c.requires.ready.0; mem_in_bounds = phase-room c.requires.ready.0.passed _ _ c.args.events.now c.requires.ready.1 }

pub judge-count-requires : goal.judge-count-requires
judge-count-requires c = verdict-room c.requires.ready.0.passed c.args.action c.requires.mem_value c.requires.ready.1 c.run_phase-first.ensures.phased c.run_phase-first.auto.events

pub run_phase-second-requires : goal.run_phase-second-requires
unfolding phase_of
run_phase-second-requires c = record { ready = c.run_phase-first.ensures.ready_2; mem_in_bounds = after-room c.requires.ready.0.passed c.args.action c.requires.mem_value c.requires.ready.1 c.run_phase-first.ensures.phased _ c.judge-count.ensures (c.judge-count.auto.events ∙ c.run_phase-first.auto.events) }

pub returns : goal.returns
unfolding phase_of
returns c = record { fact = turn-played c.requires.ready.0.passed c.args.action c.requires.mem_value c.requires.ready.1 c.run_phase-first.ensures.phased _ c.judge-count.ensures c.run_phase-second.ensures.phased refl; ready_2 = c.run_phase-second.ensures.ready_2; counts_after = steps-both c.requires.ready.0.passed c.args.action c.requires.mem_value c.requires.ready.1 c.run_phase-first.ensures.phased c.args.counting c.args.counts.now c.run_phase-first.ensures.counts_after c.run_phase-second.ensures.counts_after }
