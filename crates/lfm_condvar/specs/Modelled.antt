-- The list of a running condvar changes as that of the model in `lfm_condvar_laws`.
use Rattle.std.specs.Prelude.{◌≡◌, ℕ, zero, suc, ◌+◌, true, false, List, [], ◌∷◌, ◌++◌, map, length, Option, Some, None, Result, Ok, Err}
use Rattle.lfm_model.specs.declared.refusals.Refusal.{Refusal}
use Rattle.lfm_protocol.specs.declared.limits.Limits.{Limits}
use Rattle.lfm_mutex.specs.calls.Sight.{Sight}
use Rattle.lfm_condvar_laws.specs.Condvars.{Condvar, Waiter, is_listed}
use Rattle.lfm_condvar_laws.specs.Events.{enlisted, removed}
use Rattle.lfm_condvar.specs.declared.waiters.Waiter.{Waiter as Listed}
use Rattle.lfm_condvar.specs.declared.waiters.Waiters.{Waiters}
use Rattle.lfm_condvar.specs.Waits.{Enlists}
use Rattle.lfm_condvar.specs.Wakes.{SendsAll, SendsOldest}

abbrev pub as_waiter : Listed → Waiter
as_waiter x = record { seat = x.seat; ticket = x.ticket }

-- the list as a condvar of the model, of which the call of this seat holds the lock
abbrev pub as_condvar : ℕ → Waiters → Condvar
as_condvar holder v = record { sent = v.sent; added = v.added; waiters = map as_waiter v.list.items; holder = holder }

-- Condvars of the model

-- Seat s is added to the list of x with this ticket, as by a wait of the model, or it is refused as Busy, as in the model. y is
-- the condvar after it. Each refusal leaves x as it was
abbrev pub PutAsInTheModel : ℕ → Condvar → Condvar → Result ℕ Refusal → Type 0
PutAsInTheModel s x y (Ok ticket) = (is_listed s x.waiters ≡ false) × (y ≡ enlisted x s) × (ticket ≡ x.added + 1)
PutAsInTheModel s x y (Err Refusal.Busy) = (is_listed s x.waiters ≡ true) × (y ≡ x)
PutAsInTheModel s x y (Err r) = y ≡ x

-- the model removed the oldest waiter this many times
abbrev pub removed_times : ℕ → Condvar → Condvar
removed_times zero x = x
removed_times (suc n) x = removed_times n (removed x)

-- The seat's list of sends grew from `before` to `after`: it sent the oldest waiters of x, in order. y is x after the model
-- removed each of them
abbrev pub SentAndRemoved : List ℕ → List ℕ → List Waiter → Condvar → Condvar → Type 0
SentAndRemoved before after gone x y = (after ≡ before ++ map (λ (w : Waiter). w.seat) gone) × (x.waiters ≡ gone ++ y.waiters) × (y ≡ removed_times (length gone) x)

-- a send of the oldest
abbrev pub SentAsInTheModel : List ℕ → List ℕ → Condvar → Condvar → Result (Option (ℕ × ℕ)) Refusal → Type 0
SentAsInTheModel before after x y (Ok (Some p)) = SentAndRemoved before after (record { seat = p.0; ticket = p.1 } ∷ []) x y
SentAsInTheModel before after x y (Ok None) = SentAndRemoved before after [] x y × (y.waiters ≡ [])
SentAsInTheModel before after x y (Err r) = SentAndRemoved before after [] x y

-- a send of all, which ends when the list is empty, or is refused while a waiter is left
abbrev pub AllSentAsInTheModel : List ℕ → List ℕ → Condvar → Condvar → Result ℕ Refusal → Type 0
AllSentAsInTheModel before after x y (Ok k) = (gone : List Waiter) × SentAndRemoved before after gone x y × (k ≡ length gone) × (y.waiters ≡ [])
AllSentAsInTheModel before after x y (Err r) = (gone : List Waiter) × SentAndRemoved before after gone x y × (w : Waiter) × (rest : List Waiter) × (y.waiters ≡ w ∷ rest)

-- Running calls of a user seat, with the sight s before and t after, which changed the list v to w

abbrev pub EnlistsAsTheModel : Type 0 → Type 0
EnlistsAsTheModel T = (user : Limits) (by holder : ℕ) (s t : Sight T) (v w : Waiters) (r : Result ℕ Refusal) → Enlists user by s t v w r
    → PutAsInTheModel s.number (as_condvar holder v) (as_condvar holder w) r

abbrev pub SendsAsTheModel : Type 0 → Type 0
SendsAsTheModel T = (seats holder : ℕ) (s t : Sight T) (v w : Waiters) (r : Result (Option (ℕ × ℕ)) Refusal) → SendsOldest seats s t v w r
    → SentAsInTheModel s.sends t.sends (as_condvar holder v) (as_condvar holder w) r

abbrev pub SendsAllAsTheModel : Type 0 → Type 0
SendsAllAsTheModel T = (seats holder : ℕ) (s t : Sight T) (v w : Waiters) (r : Result ℕ Refusal) → SendsAll seats s t v w r
    → AllSentAsInTheModel s.sends t.sends (as_condvar holder v) (as_condvar holder w) r

pub record ListsGoAsTheModel (T : Type 0) : Type 0 where
  pub enlists : EnlistsAsTheModel T
  pub sends : SendsAsTheModel T
  pub sends_all : SendsAllAsTheModel T
