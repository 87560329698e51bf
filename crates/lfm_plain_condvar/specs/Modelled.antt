-- The list of a running plain condvar changes as that of the model in `lfm_plain_condvar_laws`.
use Rattle.std.specs.Prelude.{◌≡◌, ℕ, List, [], ◌∷◌, length, map}
use Rattle.lfm_plain_condvar_laws.specs.Events.{Event, Happens, Run, enlists, finds_none, leaves, wakes}
use Rattle.lfm_plain_condvar_laws.specs.Laws.{wakes_in}
use Rattle.lfm_plain_condvar_laws.specs.Waits.{Waits, Waiter as InModel}
use Rattle.lfm_plain_condvar.specs.declared.parkers.Waker.{Waker}
use Rattle.lfm_plain_condvar.specs.declared.waiters.Waiter.{Waiter}
use Rattle.lfm_plain_condvar.specs.declared.waiters.Waiters.{Waiters}
use Rattle.lfm_plain_condvar.specs.Keeping.{Puts, TakesFirst, TakesOut}

abbrev pub as_waiter : Waiter → InModel
as_waiter x = record { seat = x.waker.number; ticket = x.ticket }

-- the model has the waiters of this list, and has given as many tickets
abbrev pub Shows : Waiters → Waits → Type 0
Shows v m = (m.added ≡ v.added) × (m.listed ≡ map as_waiter v.list.items)

-- the event leads from m to a model of the list w
abbrev pub GoesBy : Event → Waits → Waiters → Type 0
GoesBy e m w = (n : Waits) × Happens e m n × Shows w n

-- Each change of a running list is an event of the model, whichever model shows the list
pub record ListsGoAsTheModel : Type 0 where
  pub adds : (k : Waker) (ticket : ℕ) (v w : Waiters) (m : Waits) → Puts k ticket v w → Shows v m → GoesBy (enlists k.number) m w
  pub takes : (x : Waiter) (v w : Waiters) (m : Waits) → TakesFirst (x ∷ []) v w → Shows v m → GoesBy wakes m w
  pub finds_none : (v : Waiters) (m : Waits) → v.list.items ≡ [] → Shows v m → GoesBy finds_none m v
  pub takes_out : (x : Waiter) (v w : Waiters) (m : Waits) → TakesOut x v w → Shows v m → GoesBy (leaves x.waker.number) m w
  -- a wake of all is as many wakes
  pub takes_all : (gone : List Waiter) (v w : Waiters) (m : Waits) → TakesFirst gone v w → Shows v m
      → (es : List Event) × (wakes_in es ≡ length gone) × (n : Waits) × Run es m n × Shows w n
