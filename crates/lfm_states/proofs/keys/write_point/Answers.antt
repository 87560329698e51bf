use Rattle.lfm_states.proofs.Growing.{not_grown, grown_then}
use Rattle.lfm_states.proofs.keys.write_point.Goals as goal

pub loop-number-init : goal.loop-number-init
loop-number-init c = record { grown = not_grown _ }

pub loop-number-preserved : goal.loop-number-preserved
loop-number-preserved c = record {
  grown = grown_then _ _ _ (grown_then _ _ _ c.loop-number.invariant.grown (_, c.in_ok-write_text.ensures.outcome)) (_, c.in_ok-write_number.ensures.outcome);
}

pub returns : goal.returns
returns c = c.loop-number.invariant.grown
