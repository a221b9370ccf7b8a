-- `pair_fits` meets its contract.
use Rattle.call_fits.proofs.NodeLaws.{pair-laden, pair_runs, pair-over}
use Rattle.call_fits.proofs.pair_fits.Goals as goal

pub returns-then-not-bare : goal.returns-then-not-bare
returns-then-not-bare c =
    pair-laden _ _ _ _ _ _ _ _ c.saved_status-s.ensures c.saved_status-l.ensures c.saved_status-r.ensures _ c.bare.ensures _ _ c.if-not-bare.true

pub returns-then-s-eq-RUNNING : goal.returns-then-s-eq-RUNNING
returns-then-s-eq-RUNNING c =
    pair_runs _ _ _ _ _ _ _ _ c.saved_status-s.ensures c.saved_status-l.ensures c.saved_status-r.ensures _ c.bare.ensures _ _ c.if-not-bare.false
    c.if-s-eq-RUNNING.true c.running_sides_fit.ensures

pub returns : goal.returns
returns c =
    pair-over _ _ _ _ _ _ _ _ c.saved_status-s.ensures c.saved_status-l.ensures c.saved_status-r.ensures _ c.bare.ensures _ _ c.if-not-bare.false
    c.if-s-eq-RUNNING.false c.is_status.ensures
