-- The list of a condvar whose lock is free: its tickets are in order, its seats are distinct, and they are those that wait.
use Rattle.std.proofs.Common.{◌≡◌, ◌≤◌, ℕ, ◌+◌, ◌-◌, ◌<◌, length, map, get_or, [], ◌∷◌, sym, ap, ◌∙◌, inl, inr, arith}
use Rattle.std.proofs.lemmas.Bool.{cases_lt}
use Rattle.std.specs.Prelude.{Contains}
use Rattle.std.specs.List.{range_with_len}
use Rattle.lfm_condvar_laws.specs.Claims.{seats_with}
use Rattle.lfm_condvar_laws.specs.Condvars.{Waiter, starting, receiving, CondvarCore}
use Rattle.lfm_condvar_laws.specs.Laws.{CondvarRun, claims_with, reached_by, WaitsAreNew, IsInOrder, ListsAreInOrder, WaitersAreListed}
use Rattle.lfm_condvar_laws.proofs.Tickets.{length-waiters, tickets-waiters, get_or-waiters, waiter_with, same_waiter}
use Rattle.lfm_condvar_laws.proofs.Invariant.{CondvarGhost, StartingFits, ReceivingFits, IsPending, CoreFits}
use Rattle.lfm_condvar_laws.proofs.Runs.{Reached, run_reaches}
use Rattle.lfm_condvar_laws.proofs.events.AppendEvent.{wait_is_new}
use Rattle.lfm_condvar_laws.proofs.reached.WaitsSent.{unclaimed_told, claimed_told}

pub waits_are_new : WaitsAreNew
waits_are_new r s v stage free = let is = run_reaches r in wait_is_new (reached_by r) is.ghost_state s v is.fits stage free

-- Order

same_starting : (v m n : ℕ) → starting v m ≡ starting v n → m ≡ n
same_starting v m n e = cc

same_receiving : (v m n : ℕ) → receiving v m ≡ receiving v n → m ≡ n
same_receiving v m n e = cc

-- a seat has at most one pending ticket of a condvar
one_ticket : (k : CondvarCore) (v t m n : ℕ) → IsPending k v m t → IsPending k v n t → m ≡ n
one_ticket k v t m n (inl first) (inl second) = same_starting v m n (sym first ∙ second)
one_ticket k v t m n (inl first) (inr second) = let clash : starting v m ≡ receiving v n = sym first ∙ second.0 in cc
one_ticket k v t m n (inr first) (inl second) = let clash : receiving v m ≡ starting v n = sym first.0 ∙ second in cc
one_ticket k v t m n (inr first) (inr second) = same_receiving v m n (sym first.0 ∙ second.0)

-- the waiter at an index of the list
listed_at : (k : CondvarCore) (g : CondvarGhost) (v i : ℕ) (d : Waiter) → CoreFits k g
    → i < (k.condvar v).added - (k.condvar v).sent
    → get_or (k.condvar v).waiters i d ≡ waiter_with (g.given v ((k.condvar v).sent + i + 1)) ((k.condvar v).sent + i + 1)
listed_at k g v i d fits within =
    let x = k.condvar v in
    rw (fits.condvars v).waiters (get_or-waiters (g.given v) x.sent (x.added - x.sent) i d within)

list_size : (k : CondvarCore) (g : CondvarGhost) (v : ℕ) → CoreFits k g
    → length (k.condvar v).waiters ≡ (k.condvar v).added - (k.condvar v).sent
list_size k g v fits =
    let x = k.condvar v in
    rw (fits.condvars v).waiters (length-waiters (g.given v) x.sent (x.added - x.sent))

in_order : (k : CondvarCore) (g : CondvarGhost) (v : ℕ) → CoreFits k g → (k.condvar v).holder ≡ 0 → IsInOrder (k.condvar v)
in_order k g v fits free =
    let here = fits.condvars v in
    let x = k.condvar v in
    let n = x.added - x.sent in
    let long = list_size k g v fits in
    let unclaimed = here.free free in
    record {
      size = omega (arith, long, here.order);
      tickets = ap (map (λ w. w.ticket)) here.waiters ∙ tickets-waiters (g.given v) x.sent n ∙ ap (range_with_len (x.sent + 1))
          (sym long);
      distinct = λ i j d before within same.
          let last : j < n = omega (arith, within, long) in
          let first : i < n = omega (arith, before, last) in
          let seats : g.given v (x.sent + i + 1) ≡ g.given v (x.sent + j + 1) =
          ap (λ w. w.seat) (sym (listed_at k g v i d fits first)) ∙ same ∙ ap (λ w. w.seat) (listed_at k g v j d fits last) in
          let one = here.pending (x.sent + i + 1) (omega (arith, unclaimed)) (omega (arith, first, here.order)) in
          let other = here.pending (x.sent + j + 1) (omega (arith, unclaimed)) (omega (arith, last, here.order)) in
          let tickets = one_ticket k v (g.given v (x.sent + j + 1)) (x.sent + i + 1) (x.sent + j + 1) (rw seats at one) other in
          omega (arith, tickets, before);
    }

pub lists_are_in_order : ListsAreInOrder
lists_are_in_order r v free = let is = run_reaches r in in_order (reached_by r) is.ghost_state v is.fits free

-- Seats that are listed

-- a pending ticket of a condvar whose lock is free belongs to a wait that has released the lock
receives_pending : (k : CondvarCore) (g : CondvarGhost) (v ticket t : ℕ) → CoreFits k g → (k.condvar v).holder ≡ 0
    → IsPending k v ticket t → k.stage t ≡ receiving v ticket
receives_pending k g v ticket t fits free (inr waits) = waits.0
receives_pending k g v ticket t fits free (inl starts) =
    let own : StartingFits k g t v ticket = rw starts at (fits.stages t) in
    absurd (omega (arith, own.locks.is.above, own.locks.holds, free))

listed_waits : (r : CondvarRun) (is : Reached r) (v : ℕ) (x : Waiter) → ((reached_by r).condvar v).holder ≡ 0
    → Contains ((reached_by r).condvar v).waiters x
    → ((reached_by r).stage x.seat ≡ receiving v x.ticket) × (claims_with r v x.ticket ≡ [])
listed_waits r is v x free (i, within, read) =
    let k = reached_by r in
    let g = is.ghost_state in
    let here = is.fits.condvars v in
    let sent = (k.condvar v).sent in
    let size = list_size k g v is.fits in
    let unclaimed = here.free free in
    let same : waiter_with (g.given v (sent + i + 1)) (sent + i + 1) ≡ x = sym
    (listed_at k g v i x is.fits (omega (arith, within, size))) ∙ read in
    let ticket : sent + i + 1 ≡ x.ticket = ap (λ w. w.ticket) same in
    let seat : g.given v (sent + i + 1) ≡ x.seat = ap (λ w. w.seat) same in
    let pending = here.pending (sent + i + 1) (omega (arith, unclaimed)) (omega (arith, within, size, here.order)) in
    let receives = receives_pending k g v (sent + i + 1) (g.given v (sent + i + 1)) is.fits free pending in (
      ap k.stage (sym seat) ∙ receives ∙ ap (receiving v) ticket,
      ap (seats_with x.ticket) (sym (is.history v)) ∙ unclaimed_told g v x.ticket (omega (arith, ticket, unclaimed)),
    )

-- a wait that was not claimed has a ticket greater than the claimed ones
unclaimed_ticket : (r : CondvarRun) (is : Reached r) (s v ticket : ℕ) → ReceivingFits (reached_by r) is.ghost_state s v ticket
    → claims_with r v ticket ≡ []
    → is.ghost_state.claimed v < ticket
unclaimed_ticket r is s v ticket own none =
    elim (cases_lt (is.ghost_state.claimed v) ticket) [
      | inl above ↦ above
      | inr within ↦
          let claimed = claimed_told is.ghost_state v ticket s own.some within own.given in
          let clash : s ∷ [] ≡ [] = sym claimed ∙ ap (seats_with ticket) (is.history v) ∙ none in
          cc
    ]

-- a ticket that was given and not sent is in the list, with its seat
pub given_listed : (k : CondvarCore) (g : CondvarGhost) (v ticket s : ℕ) → CoreFits k g → (k.condvar v).sent < ticket
    → ticket ≤ (k.condvar v).added → g.given v ticket ≡ s → Contains (k.condvar v).waiters (waiter_with s ticket)
given_listed k g v ticket s fits above within given =
    let sent = (k.condvar v).sent in
    let size = list_size k g v fits in
    let i = ticket - sent - 1 in
    let number : sent + i + 1 ≡ ticket = omega (arith, above) in
    let inside : i < (k.condvar v).added - sent = omega (arith, above, within) in (
      i,
      omega (arith, inside, size),
      listed_at k g v i (waiter_with s ticket) fits inside ∙ same_waiter _ _ _ _ (ap (g.given v) number ∙ given) number,
    )

waits_listed : (r : CondvarRun) (is : Reached r) (v : ℕ) (x : Waiter) → (reached_by r).stage x.seat ≡ receiving v x.ticket
    → claims_with r v x.ticket ≡ [] → Contains ((reached_by r).condvar v).waiters x
waits_listed r is v x stage none =
    let k = reached_by r in
    let own : ReceivingFits k is.ghost_state x.seat v x.ticket = rw stage at (is.fits.stages x.seat) in
    let above = unclaimed_ticket r is x.seat v x.ticket own none in
    let counted = (is.fits.condvars v).counted in
    given_listed k is.ghost_state v x.ticket x.seat is.fits (omega (arith, above, counted)) own.within own.given

pub waiters_are_listed : WaitersAreListed
waiters_are_listed r v x free =
    let is = run_reaches r in
    (λ listed. listed_waits r is v x free listed, λ waits. waits_listed r is v x waits.0 waits.1)
