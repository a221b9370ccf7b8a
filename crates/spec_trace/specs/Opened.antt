-- The definitions of this crate that computing opens, by one name: a proof that computes with them says `unfolding opened`.
use Rattle.spec_trace.specs.Counts.{more, counted}
use Rattle.spec_trace.specs.Tallies.{action_counted, step_counted, steps_tallied, actions_tallied, tallied}
use Rattle.spec_trace.specs.Traces.{broken15, traced_refusals, called, ran_by, place, on_tail, went, stops, follow, unbegun, traces}

unfoldable pub opened : Unit {0}
unfolding more counted action_counted step_counted steps_tallied actions_tallied tallied broken15 traced_refusals called ran_by place on_tail went stops follow unbegun traces
opened = tt
