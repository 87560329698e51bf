-- What an append to the list gives its caller: a wait that is in the list.
use Rattle.std.specs.Prelude.{◌≡◌, ℕ, Result, Ok, Err, length}
use Rattle.lfm_plain_condvar.specs.declared.hold.append.ListedWait.{ListedWait}
use Rattle.lfm_plain_condvar.specs.declared.parkers.Waker.{Waker}
use Rattle.lfm_plain_condvar.specs.declared.waiters.Enlisted.{Enlisted}
use Rattle.lfm_plain_condvar.specs.declared.waiters.Waiters.{Waiters}
use Rattle.lfm_plain_condvar.specs.Keeping.{IsFull, Puts}

module _ {T : Type 0} where
  -- the wait of the plain seat with this number, if it was added
  abbrev pub IsListed : ℕ → Result Enlisted Waker → Result (ListedWait T) Waker → Type 0
  IsListed n (Ok e) (Ok l) = (l.number ≡ n) × (l.enlisted ≡ e)
  IsListed n (Err k) (Err back) = back ≡ k
  IsListed n _ _ = ⊥

  -- how an append ends whose caller is given the wait
  abbrev pub AddsWait : Waker → Waiters → Waiters → Result (ListedWait T) Waker → Type 0
  AddsWait k v w (Ok l) = (l.number ≡ k.number) × Puts k l.enlisted.ticket v w × (l.enlisted.ahead ≡ length v.list.items)
  AddsWait k v w (Err back) = (back ≡ k) × (w ≡ v) × IsFull v
