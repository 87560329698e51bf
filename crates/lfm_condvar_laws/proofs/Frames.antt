-- What an event keeps, derived from what it changes: each other seat and each condvar separately.
use Rattle.std.proofs.Common.{◌≡◌, ◌≢◌, ℕ, ◌+◌, ◌-◌, ◌<◌, ◌≤◌, refl, sym, ap, ◌∙◌, inl, inr, arith}
use Rattle.std.proofs.lemmas.Bool.{cases_eq, cases_lt}
use Rattle.lfm_protocol.specs.declared.answers.Call.TheVariants.{StartWait}
use Rattle.lfm_words.specs.declared.wakes.Wake.TheVariants.{Waiting}
use Rattle.lfm_protocol.specs.Turns.{is_open}
use Rattle.lfm_protocol.specs.Seats.{wake}
use Rattle.lfm_laws.specs.steady.Steady.{Fits}
use Rattle.lfm_condvar_laws.specs.Condvars.{Waiter, Stage, outside, locking_to_wait, starting, receiving, locking_to_wake, claiming, sending, unlocking, CondvarCore, point_of}
use Rattle.lfm_condvar_laws.proofs.Invariant.{CondvarGhost, StartsAt, Locks, StartingFits, ReceivingFits, ClaimingFits, SendingFits, UnlockingFits, StageFits, IsPending, CondvarFits, CoreFits}
use Rattle.lfm_condvar_laws.proofs.Tickets.{waiters_of}
use Rattle.lfm_condvar_laws.proofs.mutex.MutexMoves.{OthersStay, same_turn, seat_after}

-- a condvar and its count of claims are kept
pub record KeepsCondvar (k l : CondvarCore) (g h : CondvarGhost) (v : ℕ) : Type 0 where
  pub condvar : l.condvar v ≡ k.condvar v
  pub claimed : h.claimed v ≡ g.claimed v

-- What an event of seat s keeps: the views and calls of all other seats, each condvar whose lock another seat has, and the seat
-- to which each ticket was given. The numbers of tickets and of claims don't fall. A seat that waits for a claim waits until
-- the claim is made, and no longer
pub record Frame (k l : CondvarCore) (g h : CondvarGhost) (s : ℕ) : Type 0 where
  pub leaves : OthersStay k.mutex l.mutex s
  pub stage : (t : ℕ) → t ≢ s → l.stage t ≡ k.stage t
  pub locked : (t v : ℕ) → t ≢ s → 0 < t → (k.condvar v).holder ≡ t → KeepsCondvar k l g h v
  pub given : (v ticket : ℕ) → ticket ≤ (k.condvar v).added → h.given v ticket ≡ g.given v ticket
  pub added : (v : ℕ) → (k.condvar v).added ≤ (l.condvar v).added
  pub claimed : (v : ℕ) → g.claimed v ≤ h.claimed v
  pub starting_waits : (t v ticket : ℕ) → k.stage t ≡ starting v ticket
      → wake k.mutex.wakes t ≡ Waiting → wake l.mutex.wakes t ≡ Waiting
  pub receiving_waits : (t v ticket : ℕ) → k.stage t ≡ receiving v ticket → h.claimed v < ticket
      → wake k.mutex.wakes t ≡ Waiting → wake l.mutex.wakes t ≡ Waiting
  pub sent : (t v ticket : ℕ) → t ≢ s → k.stage t ≡ receiving v ticket → ReceivingFits k g t v ticket → ticket ≤ h.claimed v
      → wake l.mutex.wakes t ≢ Waiting

-- Other seats

same_point : (k l : CondvarCore) (g h : CondvarGhost) (s t : ℕ) → Frame k l g h s → t ≢ s → point_of l t ≡ point_of k t
same_point k l g h s t frame other = ap (λ x. x.point) (frame.leaves.others t other)

locks_after : (k l : CondvarCore) (g h : CondvarGhost) (s t v : ℕ) → Frame k l g h s → t ≢ s → Locks k t v → Locks l t v
locks_after k l g h s t v frame other locks =
    let same = frame.locked t v other locks.is.above locks.holds in
    record { is = seat_after k.mutex l.mutex s t frame.leaves locks.is; holds = rw same.condvar locks.holds }

starts_after : (k l : CondvarCore) (g h : CondvarGhost) (s t v ticket : ℕ) → Frame k l g h s → t ≢ s → k.stage t ≡ starting v ticket
    → StartsAt k.mutex t → StartsAt l.mutex t
starts_after k l g h s t v ticket frame other stage (inl at) = inl (rw (same_point k l g h s t frame other) at)
starts_after k l g h s t v ticket frame other stage (inr sleeps) =
    inr (same_point k l g h s t frame other ∙ sleeps.0, frame.starting_waits t v ticket stage sleeps.1)

starting_after : (k l : CondvarCore) (g h : CondvarGhost) (s t v ticket : ℕ) → Frame k l g h s → t ≢ s
    → k.stage t ≡ starting v ticket → StartingFits k g t v ticket → StartingFits l h t v ticket
starting_after k l g h s t v ticket frame other stage fits =
    let same = frame.locked t v other fits.locks.is.above fits.locks.holds in
    record {
      locks = locks_after k l g h s t v frame other fits.locks;
      given = frame.given v ticket (omega (arith, fits.last)) ∙ fits.given;
      last = rw same.condvar fits.last;
      pending = rw same.condvar fits.pending;
      unclaimed = rw same.condvar (same.claimed ∙ fits.unclaimed);
      at = starts_after k l g h s t v ticket frame other stage fits.at;
    }

receiving_after : (k l : CondvarCore) (g h : CondvarGhost) (s t v ticket : ℕ) → Frame k l g h s → t ≢ s
    → k.stage t ≡ receiving v ticket → ReceivingFits k g t v ticket → ReceivingFits l h t v ticket
receiving_after k l g h s t v ticket frame other stage fits =
    record {
      given = frame.given v ticket fits.within ∙ fits.given;
      some = fits.some;
      within = omega (arith, fits.within, frame.added v);
      waits = λ unclaimed. frame.receiving_waits t v ticket stage unclaimed
          (fits.waits (omega (arith, unclaimed, frame.claimed v)));
      sent = λ claimed. frame.sent t v ticket other stage fits claimed;
      at = rw (frame.leaves.others t other) fits.at;
    }

claiming_after : (k l : CondvarCore) (g h : CondvarGhost) (s t v : ℕ) (oldest : Waiter) → Frame k l g h s → t ≢ s
    → ClaimingFits k g t v oldest → ClaimingFits l h t v oldest
claiming_after k l g h s t v oldest frame other fits =
    let same = frame.locked t v other fits.locks.is.above fits.locks.holds in
    record {
      locks = locks_after k l g h s t v frame other fits.locks;
      unclaimed = rw same.condvar (same.claimed ∙ fits.unclaimed);
      pending = rw same.condvar fits.pending;
      seat = rw same.condvar (fits.seat ∙ sym (frame.given v ((k.condvar v).sent + 1) (omega (arith, fits.pending))));
      ticket = rw same.condvar fits.ticket;
      at = same_point k l g h s t frame other ∙ fits.at;
    }

sending_after : (k l : CondvarCore) (g h : CondvarGhost) (s t v : ℕ) → Frame k l g h s → t ≢ s → SendingFits k g t v
    → SendingFits l h t v
sending_after k l g h s t v frame other fits =
    let same = frame.locked t v other fits.locks.is.above fits.locks.holds in
    record {
      locks = locks_after k l g h s t v frame other fits.locks;
      claimed = rw same.condvar (same.claimed ∙ fits.claimed);
      pending = rw same.condvar fits.pending;
      at = rw (same_point k l g h s t frame other) fits.at;
    }

unlocking_after : (k l : CondvarCore) (g h : CondvarGhost) (s t v : ℕ) → Frame k l g h s → t ≢ s → UnlockingFits k g t v
    → UnlockingFits l h t v
unlocking_after k l g h s t v frame other fits =
    let same = frame.locked t v other fits.locks.is.above fits.locks.holds in
    record {
      locks = locks_after k l g h s t v frame other fits.locks;
      unclaimed = rw same.condvar (same.claimed ∙ fits.unclaimed);
      at = same_point k l g h s t frame other ∙ fits.at;
    }

stage_after : (k l : CondvarCore) (g h : CondvarGhost) (s t : ℕ) (d : Stage) → Frame k l g h s → t ≢ s → k.stage t ≡ d
    → StageFits k g t d → StageFits l h t d
stage_after k l g h s t outside frame other stage fits = rw (same_point k l g h s t frame other) fits
stage_after k l g h s t (locking_to_wait v) frame other stage fits =
    ap is_open (same_turn k.mutex l.mutex s t StartWait frame.leaves other) ∙ fits
stage_after k l g h s t (starting v ticket) frame other stage fits = starting_after k l g h s t v ticket frame other stage fits
stage_after k l g h s t (receiving v ticket) frame other stage fits = receiving_after k l g h s t v ticket frame other stage fits
stage_after k l g h s t (locking_to_wake v all) frame other stage fits =
    record { is = seat_after k.mutex l.mutex s t frame.leaves fits.is; at = same_point k l g h s t frame other ∙ fits.at }
stage_after k l g h s t (claiming v all oldest) frame other stage fits = claiming_after k l g h s t v oldest frame other fits
stage_after k l g h s t (sending v all oldest) frame other stage fits = sending_after k l g h s t v frame other fits
stage_after k l g h s t (unlocking v) frame other stage fits = unlocking_after k l g h s t v frame other fits

-- Pending tickets

pending_after : (k l : CondvarCore) (g h : CondvarGhost) (s t v ticket : ℕ) → Frame k l g h s → t ≢ s → h.claimed v < ticket
    → IsPending k v ticket t → IsPending l v ticket t
pending_after k l g h s t v ticket frame other unclaimed (inl starts) = inl (frame.stage t other ∙ starts)
pending_after k l g h s t v ticket frame other unclaimed (inr waits) =
    inr (frame.stage t other ∙ waits.0, frame.receiving_waits t v ticket waits.0 unclaimed waits.1)

-- what has to be shown of each condvar after an event
pub record CondvarAfter (k l : CondvarCore) (g h : CondvarGhost) (v : ℕ) : Type 0 where
  pub order : (l.condvar v).sent ≤ (l.condvar v).added
  pub counted : (l.condvar v).sent ≤ h.claimed v
  pub waiters : (l.condvar v).waiters ≡ waiters_of (h.given v) (l.condvar v).sent ((l.condvar v).added - (l.condvar v).sent)
  pub free : (l.condvar v).holder ≡ 0 → h.claimed v ≡ (l.condvar v).sent
  pub late : (ticket : ℕ) → (k.condvar v).added < ticket → ticket ≤ (l.condvar v).added → IsPending l v ticket (h.given v ticket)

-- what has to be shown of the acting seat
pub record OwnAfter (k l : CondvarCore) (g h : CondvarGhost) (s : ℕ) : Type 0 where
  pub stage : StageFits l h s (l.stage s)
  pub pending : (v ticket : ℕ) → h.claimed v < ticket → IsPending k v ticket s → IsPending l v ticket s

early_pending : (k l : CondvarCore) (g h : CondvarGhost) (s v ticket t : ℕ) → Frame k l g h s → OwnAfter k l g h s
    → h.claimed v < ticket → IsPending k v ticket t → IsPending l v ticket t
early_pending k l g h s v ticket t frame own unclaimed pending =
    elim (cases_eq t s) [
      | inl same ↦ rw same (own.pending v ticket unclaimed (rw same at pending))
      | inr other ↦ pending_after k l g h s t v ticket frame other unclaimed pending
    ]

condvar_after : (k l : CondvarCore) (g h : CondvarGhost) (s v : ℕ) → CoreFits k g → Frame k l g h s → OwnAfter k l g h s
    → CondvarAfter k l g h v → CondvarFits l h v
condvar_after k l g h s v fits frame own goes =
    record {
      order = goes.order;
      counted = goes.counted;
      waiters = goes.waiters;
      free = goes.free;
      pending = λ ticket unclaimed within.
          elim (cases_lt (k.condvar v).added ticket) [
            | inl late ↦ goes.late ticket late within
            | inr early ↦
                let before = (fits.condvars v).pending ticket (omega (arith, unclaimed, frame.claimed v)) early in
                rw (frame.given v ticket early) (early_pending k l g h s v ticket (g.given v ticket) frame own unclaimed before)
          ];
    }

own_or_other : (k l : CondvarCore) (g h : CondvarGhost) (s t : ℕ) → CoreFits k g → Frame k l g h s → OwnAfter k l g h s
    → StageFits l h t (l.stage t)
own_or_other k l g h s t fits frame own =
    elim (cases_eq t s) [
      | inl same ↦ rw same own.stage
      | inr other ↦ rw (frame.stage t other) (stage_after k l g h s t (k.stage t) frame other refl (fits.stages t))
    ]

-- an event of which all this is shown keeps the state fitting
pub fits_after : (k l : CondvarCore) (g h : CondvarGhost) (s : ℕ) → CoreFits k g → Fits l.mutex h.mutex → Frame k l g h s
    → OwnAfter k l g h s → ((v : ℕ) → CondvarAfter k l g h v) → CoreFits l h
fits_after k l g h s fits mutex frame own condvars =
    record {
      mutex = mutex;
      condvars = λ v. condvar_after k l g h s v fits frame own (condvars v);
      stages = λ t. own_or_other k l g h s t fits frame own;
    }
