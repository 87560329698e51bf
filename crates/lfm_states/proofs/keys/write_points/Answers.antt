use Rattle.lfm_states.proofs.Growing.{not_grown, grown_then}
use Rattle.lfm_states.proofs.keys.write_points.Goals as goal

pub loop-s-init : goal.loop-s-init
loop-s-init c = record { grown = not_grown _ }

pub loop-s-preserved : goal.loop-s-preserved
loop-s-preserved c = record { grown = grown_then _ _ _ c.loop-s.invariant.grown c.in_ok-write_point.ensures }

pub returns : goal.returns
returns c = c.loop-s.invariant.grown
