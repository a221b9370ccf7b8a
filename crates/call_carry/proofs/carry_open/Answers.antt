-- `carry_open` meets its contract: by the kind of the root.
use mathlib.Core.Path.{refl}
use Rattle.spec_turns.specs.Status.{ended, halted, status_number}
use Rattle.turn_tables.proofs.FileNodes.{room, node-in}
use Rattle.call_carry.proofs.AloneLaws.{is-trivial, is-unsatisfiable, opens-trivial, opens-unsatisfiable, trivial-steps, unsatisfiable-steps}
use Rattle.call_carry.proofs.carry_open.Goals as goal

pub view_kind-kind-requires : goal.view_kind-kind-requires
view_kind-kind-requires c = node-in c.requires.1.allowed.passed 0 (room c.requires.1.allowed.passed).some

pub returns-in-Trivial : goal.returns-in-Trivial
unfolding status_number
returns-in-Trivial c =
    let t = is-trivial c.requires.1.allowed.passed c.view_kind-kind.ensures c.in-Trivial.is in
    record { gave = opens-trivial c.args.policy.now c.args.state.now c.args.events.now t (c.open_alone.ensures ended refl); counts_after = trivial-steps c.args.counting c.args.policy.now c.args.state.now c.args.counts.now t }

pub returns-in-Unsatisfiable : goal.returns-in-Unsatisfiable
unfolding status_number
returns-in-Unsatisfiable c =
    let t = is-unsatisfiable c.requires.1.allowed.passed c.view_kind-kind.ensures c.in-Unsatisfiable.is in
    record { gave = opens-unsatisfiable c.args.policy.now c.args.state.now c.args.events.now t (c.open_alone-in-Unsatisfiable.ensures halted refl); counts_after = unsatisfiable-steps c.args.counting c.args.policy.now c.args.state.now c.args.counts.now t }
