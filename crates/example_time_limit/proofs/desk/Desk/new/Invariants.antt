use Rattle.std.proofs.Common.{◌≡◌, ℕ}
use Rattle.std.specs.Vec.Iter.{into_iter_items}
use mathlib.Core.Option.{some}
use lib.ListN.{get_elem?}
use Rattle.lfm_mutex.specs.Belongs.{OfMutex}
use Rattle.lfm_mutex.specs.calls.Sight.{sight}
use Rattle.lfm_plain_condvar.specs.Belongs.{OfPlain}
use Rattle.example_time_limit.specs.Parties.{AreReady}
use Rattle.example_time_limit.proofs.desk.Desk.new.Given as goal

-- each party so far is ready; the other seats are those of the mutex and of the condition variable, and none holds
abbrev pub invariant-loop-seat : goal.invariant-loop-seat
invariant-loop-seat l = record {
  rest : (j : ℕ) (s : _) → get_elem? (into_iter_items l.seat-iterator) j ≡ some s → OfMutex s l.request × ((sight s).depth ≡ 0);
  plain : (j : ℕ) (s : _) → get_elem? l.plain_seats.items j ≡ some s → OfPlain s l.changed;
  ready : AreReady l.parties.items (record { request = l.request; changed = l.changed });
}
