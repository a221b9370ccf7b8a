-- `run_phase` meets its contract: the root's turn, and its inserts told.
use borrow.Author.Rules.{rules}
use Rattle.call_phase.proofs.PhaseLaws.{root_stands, can-tell, phased, ready-again, stepped}
use Rattle.call_phase.proofs.run_phase.Goals as goal

pub turn-end-requires : goal.turn-end-requires
turn-end-requires c = root_stands c.requires.ready

pub tell-all-requires : goal.tell-all-requires
tell-all-requires c =
    search (rules, can-tell c.turn-end.result c.requires.ready c.turn-end.ensures c.args.events.now c.args.count c.requires.mem_in_bounds)

pub returns : goal.returns
returns c = record { phased = phased c.turn-end.result c.requires.ready c.turn-end.ensures c.tell-all.ensures.kept c.tell-all.ensures.sent; ready_2 = ready-again c.turn-end.result c.requires.ready c.turn-end.ensures c.tell-all.ensures.kept c.tell-all.ensures.sent; counts_after = stepped c.turn-end.result c.requires.ready c.turn-end.ensures }
