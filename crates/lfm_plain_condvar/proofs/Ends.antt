-- How waits and wakes end, by cases on the answer.
use Rattle.std.proofs.Common.{◌≡◌, ◌⊎◌, ℕ, [], ◌∷◌, ◌++◌, List, Option, Some, None, Result, Ok, Err, sym, ◌∙◌, ap, subst}
use Rattle.lfm_model.specs.declared.answers.How.{How}
use Rattle.lfm_model.specs.declared.refusals.Refusal.{Refusal}
use Rattle.lfm_protocol.specs.declared.limits.Limits.{Limits}
use Rattle.lfm_mutex.specs.declared.seat.Seat.{Seat}
use Rattle.lfm_mutex.specs.calls.Sight.{Sight, sight}
use Rattle.lfm_plain_condvar.specs.declared.plain_seat.PlainSeat.{PlainSeat}
use Rattle.lfm_plain_condvar.specs.declared.wait_for.Waited.{Waited}
use Rattle.lfm_plain_condvar.specs.declared.wait_for.Waited.TheVariants.{Woken, TimedOut}
use Rattle.lfm_plain_condvar.specs.declared.waiters.Waiters.{Waiters}
use Rattle.lfm_plain_condvar.specs.declared.owed.OwedWakeUp.{OwedWakeUp}
use Rattle.lfm_plain_condvar.specs.Belongs.{notified_by}
use Rattle.lfm_plain_condvar.specs.Keeping.{TakesFirst}
use Rattle.lfm_plain_condvar.specs.Waits.{GivesUpAndComesBack, GivesUpAndComesBackAs, LeftList, Listed, NoLonger, OneHold, WaitForEnds, WaitWithinEnds, waited_of}
use Rattle.lfm_plain_condvar.specs.Wakes.{WakeLaterEnds, WakeOneEnds, WakeOneWithNumberEnds, ticket_in}

module _ {T : Type 0} (follows : ℕ → T → T → Type 0) (fits : T → ℕ → Type 0) (user own : Limits) (tries user_tries : ℕ) (c d : Sight Waiters) (s t : Sight T) where
  -- how the seat came back is not told
  come : (how : How) → GivesUpAndComesBackAs follows fits user user_tries how s t → GivesUpAndComesBack follows fits user user_tries s t
  come how h = (h.0, h.1, (how, h.2))

  -- the seat was added to the list, gave the user mutex up, slept and came back
  within_ends : (how : How) (waited : Waited) → WaitWithinEnds follows fits user own tries user_tries c d s t (Ok (how, waited)) → WaitForEnds follows fits user own tries user_tries c d s t (Ok waited)
  within_ends how (Woken k) h = (h.1, subst (λ (i : ℕ). Listed own tries c h.1 i) (sym h.3.0) h.2, subst (λ (i : ℕ). d ≡ h.1 ⊎ NoLonger own tries h.1 d i) (sym h.3.0) h.3.1, come how h.4, h.5)
  within_ends how (TimedOut k) h = (h.1, subst (λ (i : ℕ). Listed own tries c h.1 i) (sym h.3.0) h.2, subst (λ (i : ℕ). LeftList own tries h.1 d i) (sym h.3.0) h.3.1, come how h.4, h.5)

  -- the same with a limit
  pub for_ends : (r : Result (How × Waited) Refusal) → WaitWithinEnds follows fits user own tries user_tries c d s t r → WaitForEnds follows fits user own tries user_tries c d s t (waited_of r)
  for_ends (Ok r) h = within_ends r.0 r.1 h
  for_ends (Err r) h = h

-- the oldest was taken out of the list, and then notified
pub one_ends : (own : Limits) (tries : ℕ) (c m d : PlainSeat) (q : Result (Option OwedWakeUp) Refusal) (r : OwedWakeUp) (p : ℕ × ℕ) → q ≡ Ok (Some r) → WakeLaterEnds own tries c m q → d.seat ≡ m.seat → notified_by d ≡ notified_by m ++ r.waiter.waker.number ∷ [] → p.0 ≡ r.waiter.waker.number → p.1 ≡ r.waiter.ticket
    → WakeOneWithNumberEnds own tries c d (Ok (Some p))
one_ends own tries c m d q r p is h same told numbered named = let e : WakeLaterEnds own tries c m (Ok (Some r)) = subst (WakeLaterEnds own tries c m) is h in (
  r.waiter,
  sym numbered,
  sym named,
  subst (λ (z : Seat Waiters). (v : Waiters) × (w : Waiters) × TakesFirst (r.waiter ∷ []) v w × OneHold own tries (sight c.seat) (sight z) v w) (sym same) e.0,
  told ∙ ap (λ (l : List ℕ). l ++ r.waiter.waker.number ∷ []) e.1,
)

-- the same without the number
pub without_number_ends : (own : Limits) (tries : ℕ) (c d : PlainSeat) (r : Result (Option (ℕ × ℕ)) Refusal) → WakeOneWithNumberEnds own tries c d r → WakeOneEnds own tries c d (ticket_in r)
without_number_ends own tries c d (Ok None) h = h
without_number_ends own tries c d (Ok (Some p)) h = (h.0, h.2, h.3, h.4)
without_number_ends own tries c d (Err r) h = h
