use Rattle.std.proofs.Common.{◌≡◌, ◌<◌, ℕ}
use mathlib.Core.Option.{some}
use lib.ListN.{get_elem?}
use Rattle.lfm_plain_condvar.specs.declared.waiters.Waiter.{Waiter}
use Rattle.lfm_plain_condvar.specs.Keeping.{Is}
use Rattle.lfm_plain_condvar.proofs.waiters.Waiters.place_of.Given as goal

abbrev pub invariant-loop-i : goal.invariant-loop-i
invariant-loop-i l = (j : ℕ) (x : Waiter) → j < l.i → get_elem? l.self.list.items j ≡ some x → Is l.number l.ticket x → ⊥
