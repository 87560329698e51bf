use Rattle.lfm_pool.proofs.Asking.{Pushing, changes_left}
use Rattle.lfm_pool.proofs.ask.push_record.Given as goal

abbrev pub invariant-loop-word : goal.invariant-loop-word
invariant-loop-word l = Pushing l.fn.seat l.seat l.pool l.mutex l.word

abbrev pub decreases-loop-word : goal.decreases-loop-word
decreases-loop-word l = changes_left l.word
