use Rattle.std.proofs.Common.{◌≡◌, ℕ, IfOk, Some}
use Rattle.std.specs.Vec.Iter.{into_iter_items}
use mathlib.Core.Option.{some}
use lib.ListN.{get_elem?}
use Rattle.lfm_mutex.specs.AllSeats.{SeatsOf}
use Rattle.lfm_mutex.specs.calls.Sight.{sight}
use Rattle.lfm_plain_condvar.specs.Belongs.{OfPlain}
use Rattle.example_time_limit.specs.declared.request.Request.{Request}
use Rattle.example_time_limit.specs.Parties.{IsDone}
use Rattle.example_time_limit.proofs.run.Given as goal

-- the seats so far left the request answered, and so did each other party that was not refused
abbrev pub invariant-loop-result : goal.invariant-loop-result
invariant-loop-result g l = record {
  rest : (j : ℕ) (r : _) → get_elem? (into_iter_items l.result-iterator) j ≡ some r → IfOk r (λ p. IsDone p l.desk);
  seats : SeatsOf l.seats.items l.desk.request;
  answered : (j : ℕ) (s : _) → get_elem? l.seats.items j ≡ some s → (sight s).last ≡ Some Request.Answered;
  plain : (j : ℕ) (s : _) → get_elem? l.plain_seats.items j ≡ some s → OfPlain s l.desk.changed;
}
