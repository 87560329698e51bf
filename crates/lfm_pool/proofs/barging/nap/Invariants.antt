use Rattle.std.specs.Prelude.{Err}
use Rattle.lfm_model.specs.declared.refusals.Refusal.{Refusal}
use Rattle.lfm_pool.specs.Calls.{IsBetweenCalls, SamePoolSeat}
use Rattle.lfm_pool.specs.Locks.{TriesUpTo}
use Rattle.lfm_pool.proofs.barging.nap.Given as goal

abbrev pub invariant-loop-made : goal.invariant-loop-made
invariant-loop-made g l = record {
  same : SamePoolSeat l.fn.seat l.seat;
  between : IsBetweenCalls l.seat l.pool;
  tries : TriesUpTo l.made (Err Refusal.Busy) l.fn.seat l.seat l.pool l.mutex;
}
