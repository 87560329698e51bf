-- The events of a call that has the lock of a condvar, or releases it: all except the one that appends and the claim.
use Rattle.std.proofs.Common.{◌≡◌, ◌⊎◌, ℕ, suc, Bool, true, false, ◌+◌, ◌-◌, ◌<◌, List, [], ◌∷◌, refl, sym, ap, ◌∙◌, inl, inr, arith}
use Rattle.std.proofs.lemmas.Bool.{cases_eq, cases_Bool, eq-eqb, ne_eqb}
use Rattle.std.specs.Prelude.{drop}
use Rattle.lfm_protocol.specs.declared.answers.Call.TheVariants.{SendLock}
use Rattle.lfm_protocol.specs.declared.points.Point.TheVariants.{Rest, Asleep}
use Rattle.lfm_protocol.specs.declared.points.Sleeper.{Sleeper}
use Rattle.lfm_words.specs.declared.wakes.Wake.TheVariants.{Waiting}
use Rattle.lfm_protocol.specs.Core.{Core}
use Rattle.lfm_laws.specs.laws.Schedules.{is_call}
use Rattle.lfm_protocol.specs.Seats.{wake, IsSeat}
use Rattle.lfm_protocol.specs.Step.{begin}
use Rattle.lfm_laws.proofs.steady.frames.Sums.{changed_same, changed_other}
use Rattle.lfm_condvar_laws.specs.Condvars.{Waiter, Condvar, Stage, outside, starting, receiving, locking_to_wake, claiming, sending, unlocking, CondvarCore, point_of, put_stage, put_mutex, put_condvar, put_holder}
use Rattle.lfm_condvar_laws.specs.Events.{gives_back, sends_next, removed, removes, takes_lock}
use Rattle.lfm_condvar_laws.proofs.Invariant.{CondvarGhost, StartingFits, SendingFits, UnlockingFits, LockingToWakeFits, IsPending, CoreFits}
use Rattle.lfm_condvar_laws.proofs.Outcomes.{CondvarOutcome, quiet_outcome, OneCondvar, CondvarMoves, moves_one}
use Rattle.lfm_condvar_laws.proofs.events.MutexEvents.{has_ticket, not_pending, stays}
use Rattle.lfm_condvar_laws.proofs.Tickets.{waiters_of, oldest_waiter}
use Rattle.lfm_condvar_laws.proofs.mutex.MutexMoves.{moves_not, begin_moves, seat_after}
use Rattle.lfm_condvar_laws.proofs.mutex.OwnSeat.{begin_send_at, sent_rests}
use Rattle.lfm_condvar_laws.proofs.mutex.WakeWords.{waiting_is_seat}

pub one_condvar : (k : CondvarCore) (d : Core) (s v : ℕ) (x : Condvar) (e : Stage)
    → OneCondvar k (put_stage (put_condvar (put_mutex k d) v x) s e) d s v x e
one_condvar k d s v x e =
    record {
      mutex = refl;
      here = changed_same k.condvar v x;
      elsewhere = λ w other. changed_other k.condvar v w x other;
      own = changed_same k.stage s e;
      others = λ t other. changed_other k.stage s t e other;
    }

-- The lock is released

-- the condvar with a free lock
abbrev freed : Condvar → Condvar
freed x = record x { holder = 0 }

freed_moves : (k : CondvarCore) (g : CondvarGhost) (s v : ℕ) → CoreFits k g → (k.condvar v).holder ≡ s
    → g.claimed v ≡ (k.condvar v).sent → CondvarMoves k g s v (freed (k.condvar v))
freed_moves k g s v fits holds unclaimed =
    record {
      before = inr holds;
      added = refl;
      order = (fits.condvars v).order;
      counted = (fits.condvars v).counted;
      waiters = (fits.condvars v).waiters;
      free = λ e. unclaimed;
    }

started_pending : (k l : CondvarCore) (s v ticket w y : ℕ) → k.stage s ≡ starting v ticket → l.stage s ≡ receiving v ticket
    → wake l.mutex.wakes s ≡ Waiting → IsPending k w y s → IsPending l w y s
started_pending k l s v ticket w y before after word (inl starts) =
    let same : starting v ticket ≡ starting w y = sym before ∙ starts in
    let condvar : v ≡ w = cc in
    let number : ticket ≡ y = cc in
    inr (rw (sym condvar, sym number) after, word)
started_pending k l s v ticket w y before after word (inr waits) =
    let clash : starting v ticket ≡ receiving w y = sym before ∙ waits.0 in cc

pub wait_gives_back : (k : CondvarCore) (g : CondvarGhost) (s v ticket : ℕ) → CoreFits k g → k.stage s ≡ starting v ticket
    → StartingFits k g s v ticket
    → point_of k s ≡ Asleep Sleeper.Waiter → wake k.mutex.wakes s ≡ Waiting
    → CondvarOutcome (put_stage (gives_back k v) s (receiving v ticket)) g []
wait_gives_back k g s v ticket fits stage own at word =
    let one = one_condvar k k.mutex s v (freed (k.condvar v)) (receiving v ticket) in
    let size = ap (λ x. x.added) one.here in
    let m = moves_not k.mutex g.mutex s fits.mutex in
    quiet_outcome _ g m.to (moves_one k (put_stage (gives_back k v) s (receiving v ticket)) g k.mutex s v (freed (k.condvar v))
    (receiving v ticket) fits m one
    (freed_moves k g s v fits own.locks.holds own.unclaimed)
    (record {
      given = own.given;
      some = omega (arith, own.pending);
      within = omega (arith, size, own.last);
      waits = λ unclaimed. word;
      sent = λ claimed now. absurd (omega (arith, claimed, own.unclaimed, own.pending));
      at = rw at refl;
    }) (λ w y unclaimed pending. started_pending k (put_stage (gives_back k v) s
    (receiving v ticket)) s v ticket w y stage one.own word pending))

pub at_unlocking : (k : CondvarCore) (g : CondvarGhost) (s v : ℕ) → CoreFits k g → k.stage s ≡ unlocking v → UnlockingFits k g s v
    → CondvarOutcome (put_stage (gives_back k v) s outside) g []
at_unlocking k g s v fits stage own =
    let one = one_condvar k k.mutex s v (freed (k.condvar v)) outside in
    let m = moves_not k.mutex g.mutex s fits.mutex in
    quiet_outcome _ g m.to (moves_one k (put_stage (gives_back k v) s outside) g k.mutex s v
    (freed (k.condvar v)) outside fits m one
    (freed_moves k g s v fits own.locks.holds own.unclaimed) (rw own.at refl)
    (λ w y unclaimed pending. absurd (not_pending k s w y (unlocking v) stage refl pending)))

-- A wake continues with the oldest waiter

-- a pending ticket of a condvar that no other wait has locked belongs to a seat that waits
pub target_waits : (k : CondvarCore) (g : CondvarGhost) (s v ticket t : ℕ) (d : Stage) → CoreFits k g
    → ((k.condvar v).holder ≡ 0) ⊎ ((k.condvar v).holder ≡ s)
    → k.stage s ≡ d → has_ticket d ≡ false → IsPending k v ticket t
    → (k.stage t ≡ receiving v ticket) × (wake k.mutex.wakes t ≡ Waiting)
target_waits k g s v ticket t d fits before stage none (inr waits) = waits
target_waits k g s v ticket t d fits (inl free) stage none (inl starts) =
    let own : StartingFits k g t v ticket = rw starts at (fits.stages t) in
    absurd (omega (arith, own.locks.is.above, own.locks.holds, free))
target_waits k g s v ticket t d fits (inr holds) stage none (inl starts) =
    let own : StartingFits k g t v ticket = rw starts at (fits.stages t) in
    let same : t ≡ s = sym own.locks.holds ∙ holds in
    absurd (not_pending k s v ticket d stage none (inl (rw (sym same) starts)))

-- what has to be shown before a wake continues
pub record NextFits (k : CondvarCore) (g : CondvarGhost) (s v : ℕ) (x : Condvar) : Type 0 where
  pub is : IsSeat k.mutex.seats s
  pub at : point_of k s ≡ Rest
  pub holder : x.holder ≡ s
  pub moves : CondvarMoves k g s v x
  pub unclaimed : g.claimed v ≡ x.sent

next_none : (k : CondvarCore) (g : CondvarGhost) (s v : ℕ) (x : Condvar) (d : Stage) → CoreFits k g → k.stage s ≡ d
    → has_ticket d ≡ false → NextFits k g s v x
    → CondvarOutcome (put_stage (put_condvar k v x) s (unlocking v)) g []
next_none k g s v x d fits stage none next =
    let one = one_condvar k k.mutex s v x (unlocking v) in
    let m = moves_not k.mutex g.mutex s fits.mutex in
    quiet_outcome _ g m.to (moves_one k (put_stage (put_condvar k v x) s (unlocking v)) g k.mutex s v x
    (unlocking v) fits m one next.moves
    (record {
      locks = record { is = next.is; holds = rw one.here next.holder };
      unclaimed = rw one.here next.unclaimed;
      at = next.at;
    }) (λ w y unclaimed pending. absurd (not_pending k s w y d stage none pending)))

next_waiter : (k : CondvarCore) (g : CondvarGhost) (s v : ℕ) (x : Condvar) (d : Stage) (all : Bool) (oldest : Waiter) (rest : List Waiter)
    → CoreFits k g → k.stage s ≡ d → has_ticket d ≡ false → NextFits k g s v x
    → x.waiters ≡ oldest ∷ rest → CondvarOutcome (sends_next (put_condvar k v x) s v all (oldest ∷ rest)) g []
next_waiter k g s v x d all oldest rest fits stage none next waiters =
    let is_oldest = oldest_waiter (g.given v) x.sent (x.added - x.sent) oldest rest (sym waiters ∙ next.moves.waiters) in
    let some : x.sent < x.added = omega (arith, is_oldest.some) in
    let pending = (fits.condvars v).pending (x.sent + 1) (omega (arith, next.unclaimed)) (omega (arith, some, next.moves.added)) in
    let waits = target_waits k g s v (x.sent + 1) (g.given v (x.sent + 1)) d fits next.moves.before stage none pending in
    let target : IsSeat k.mutex.seats oldest.seat = rw is_oldest.seat
    (waiting_is_seat k.mutex g.mutex (g.given v (x.sent + 1)) fits.mutex waits.1) in
    let m = begin_moves k.mutex g.mutex s (SendLock oldest.seat) fits.mutex in
    let one = one_condvar k (begin k.mutex s (SendLock oldest.seat)).core s v x (claiming v all oldest) in
    quiet_outcome _ g m.to (moves_one k (sends_next (put_condvar k v x) s v all (oldest ∷ rest)) g
    (begin k.mutex s (SendLock oldest.seat)).core s v x (claiming v all oldest) fits m one next.moves
    (record {
      locks = record {
        is = seat_after k.mutex (begin k.mutex s
            (SendLock oldest.seat)).core s s m.leaves next.is;
        holds = rw one.here next.holder;
      };
      unclaimed = rw one.here next.unclaimed;
      pending = rw one.here some;
      seat = rw one.here is_oldest.seat;
      ticket = rw one.here is_oldest.ticket;
      at = begin_send_at k.mutex s oldest.seat next.is target next.at;
    }) (λ w y unclaimed pending. absurd (not_pending k s w y d stage none pending)))

pub next_fits : (k : CondvarCore) (g : CondvarGhost) (s v : ℕ) (x : Condvar) (d : Stage) (all : Bool) (waiters : List Waiter)
    → CoreFits k g → k.stage s ≡ d → has_ticket d ≡ false → NextFits k g s v x
    → x.waiters ≡ waiters → CondvarOutcome (sends_next (put_condvar k v x) s v all waiters) g []
next_fits k g s v x d all [] fits stage none next waiters = next_none k g s v x d fits stage none next
next_fits k g s v x d all (oldest ∷ rest) fits stage none next waiters =
    next_waiter k g s v x d all oldest rest fits stage none next waiters

-- A wake takes the lock

pub at_locking_to_wake : (k : CondvarCore) (g : CondvarGhost) (s v : ℕ) (all : Bool) → CoreFits k g
    → k.stage s ≡ locking_to_wake v all → LockingToWakeFits k s
    → CondvarOutcome (takes_lock k v (sends_next (put_holder k v s) s v all (k.condvar v).waiters)) g []
at_locking_to_wake k g s v all fits stage own =
    elim (cases_eq (k.condvar v).holder 0) [
      | inr held ↦ rw (ne_eqb (k.condvar v).holder 0 held) (stays k g fits)
      | inl free ↦
          let here = fits.condvars v in
          rw (eq-eqb (k.condvar v).holder 0 free) (next_fits k g s v (record (k.condvar v) { holder = s })
          (locking_to_wake v all) all (k.condvar v).waiters fits stage refl (record {
            is = own.is;
            at = own.at;
            holder = refl;
            moves = record {
              before = inl free;
              added = refl;
              order = here.order;
              counted = here.counted;
              waiters = here.waiters;
              free = λ e. here.free free;
            };
            unclaimed = here.free free;
          }) refl)
    ]

-- A waiter is removed from the list

removed_moves : (k : CondvarCore) (g : CondvarGhost) (s v : ℕ) → CoreFits k g → SendingFits k g s v
    → CondvarMoves k g s v (removed (k.condvar v))
removed_moves k g s v fits own =
    let here = fits.condvars v in
    let x = k.condvar v in
    let size : x.added - x.sent ≡ suc (x.added - (x.sent + 1)) = omega (arith, own.pending) in
    record {
      before = inr own.locks.holds;
      added = refl;
      order = omega (arith, own.pending);
      counted = omega (arith, own.claimed);
      waiters = ap (drop 1) (here.waiters ∙ ap (waiters_of (g.given v) x.sent) size);
      free = λ e. own.claimed;
    }

pub at_removes : (k : CondvarCore) (g : CondvarGhost) (s v : ℕ) (all : Bool) (oldest : Waiter) → CoreFits k g
    → k.stage s ≡ sending v all oldest → SendingFits k g s v
    → is_call (point_of k s) ≡ false → CondvarOutcome (removes k s v all) g []
at_removes k g s v all oldest fits stage own over =
    let next : NextFits k g s v (removed (k.condvar v)) =
    record {
      is = own.locks.is;
      at = sent_rests (point_of k s) own.at over;
      holder = own.locks.holds;
      moves = removed_moves k g s v fits own;
      unclaimed = own.claimed;
    } in
    elim (cases_Bool all) [
      | inl every ↦ rw every (next_fits k g s v (removed (k.condvar v)) (sending v all oldest) true
          (removed (k.condvar v)).waiters fits stage refl next refl)
      | inr one ↦ rw one (next_none k g s v (removed (k.condvar v)) (sending v all oldest) fits stage refl next)
    ]
