-- The claims of a run by ticket, and how they end waits. Derived from the ghost, which has the seat to which each ticket was
-- given and the number of claimed tickets.
use Rattle.std.proofs.Common.{◌≡◌, ◌⊎◌, ℕ, ◌<◌, ◌≤◌, length, map, [], ◌∷◌, sym, ap, ◌∙◌, inl, inr, arith}
use Rattle.std.proofs.lemmas.Bool.{cases_lt}
use Rattle.std.specs.List.{range_with_len}
use Rattle.lfm_words.specs.declared.wakes.Wake.TheVariants.{Waiting}
use Rattle.lfm_protocol.specs.Seats.{seat, wake}
use Rattle.lfm_condvar_laws.specs.Claims.{seats_with}
use Rattle.lfm_condvar_laws.specs.Condvars.{CondvarCore}
use Rattle.lfm_condvar_laws.specs.Laws.{claims_of, reached_by, WaitsAreSent, WaitsSleepUntilSent, WaitsEndHolding, TicketsAreClaimedOnce, ClaimsAreInOrder}
use Rattle.lfm_condvar_laws.proofs.Tickets.{waiters_of, length-waiters, tickets-waiters, no_seat_below, no_seat_above, one_seat}
use Rattle.lfm_condvar_laws.proofs.Invariant.{CondvarGhost, ReceivingFits, claims_told}
use Rattle.lfm_condvar_laws.proofs.Runs.{run_reaches}
use Rattle.lfm_condvar_laws.proofs.mutex.WakeWords.{rests_unwaiting}
use Rattle.lfm_condvar_laws.proofs.points.ReceivePoints.{holds_once}

-- Waits

pub unclaimed_told : (g : CondvarGhost) (v ticket : ℕ) → g.claimed v < ticket → seats_with ticket (claims_told g v) ≡ []
unclaimed_told g v ticket above = no_seat_above (g.given v) 0 (g.claimed v) ticket (omega (arith, above))

pub claimed_told : (g : CondvarGhost) (v ticket s : ℕ) → 0 < ticket → ticket ≤ g.claimed v → g.given v ticket ≡ s
    → seats_with ticket (claims_told g v) ≡ s ∷ []
claimed_told g v ticket s some within given =
    one_seat (g.given v) 0 (g.claimed v) ticket some (omega (arith, within)) ∙ ap (λ t. t ∷ []) given

wait_stands : (k : CondvarCore) (g : CondvarGhost) (s v ticket : ℕ) → ReceivingFits k g s v ticket
    → (((seats_with ticket (claims_told g v) ≡ []) × (wake k.mutex.wakes s ≡ Waiting)) ⊎ (seats_with ticket (claims_told g v) ≡ s ∷ []))
wait_stands k g s v ticket own =
    elim (cases_lt (g.claimed v) ticket) [
      | inl unclaimed ↦ inl (unclaimed_told g v ticket unclaimed, own.waits unclaimed)
      | inr claimed ↦ inr (claimed_told g v ticket s own.some claimed own.given)
    ]

pub waits_sleep_until_sent : WaitsSleepUntilSent
waits_sleep_until_sent r s v ticket stage =
    let is = run_reaches r in
    let own : ReceivingFits (reached_by r) is.ghost_state s v ticket = rw stage at (is.fits.stages s) in
    let same = ap (seats_with ticket) (is.history v) in
    elim (wait_stands (reached_by r) is.ghost_state s v ticket own) [
      | inl asleep ↦ inl (sym same ∙ asleep.0, asleep.1)
      | inr sent ↦ inr (sym same ∙ sent)
    ]

pub waits_are_sent : WaitsAreSent
waits_are_sent r s v ticket stage at =
    let is = run_reaches r in
    elim (waits_sleep_until_sent r s v ticket stage) [
      | inl asleep ↦ absurd (rests_unwaiting (reached_by r).mutex is.ghost_state.mutex s is.fits.mutex at asleep.1)
      | inr sent ↦ sent
    ]

pub waits_end_holding : WaitsEndHolding
waits_end_holding r s v ticket stage at =
    let is = run_reaches r in
    let own : ReceivingFits (reached_by r) is.ghost_state s v ticket = rw stage at (is.fits.stages s) in
    holds_once (seat (reached_by r).mutex.seats s) at own.at

-- Claims

once : (f : ℕ → ℕ) (n ticket : ℕ) → length (seats_with ticket (waiters_of f 0 n)) ≤ 1
once f n ticket =
    elim (cases_lt 0 ticket) [
      | inr none ↦ let no = ap length (no_seat_below f 0 n ticket none) in omega (arith, no)
      | inl some ↦
          elim (cases_lt n ticket) [
            | inl above ↦ let no = ap length (no_seat_above f 0 n ticket (omega (arith, above))) in omega (arith, no)
            | inr within ↦ let one = ap length (one_seat f 0 n ticket some (omega (arith, within))) in omega (arith, one)
          ]
    ]

pub tickets_are_claimed_once : TicketsAreClaimedOnce
tickets_are_claimed_once r v ticket =
    let is = run_reaches r in
    let size = ap (λ claims. length (seats_with ticket claims)) (is.history v) in
    let most = once (is.ghost_state.given v) (is.ghost_state.claimed v) ticket in
    omega (arith, size, most)

pub claims_are_in_order : ClaimsAreInOrder
claims_are_in_order r v =
    let is = run_reaches r in
    let g = is.ghost_state in
    let size : length (claims_of r v) ≡ g.claimed v =
    ap length (sym (is.history v)) ∙ length-waiters (g.given v) 0 (g.claimed v) in (
      ap (map (λ x. x.ticket)) (sym (is.history v)) ∙ tickets-waiters (g.given v) 0 (g.claimed v) ∙ ap (range_with_len 1)
          (sym size),
      λ free. size ∙ (is.fits.condvars v).free free,
    )
