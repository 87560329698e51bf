-- Each claim finds its seat waiting: only a wake that has the lock reaches a claim, and it sends the oldest waiter.
use Rattle.std.proofs.Common.{◌≡◌, ℕ, true, false, refl, sym, ap, ◌∙◌, inl, inr}
use Rattle.std.proofs.lemmas.Bool.{cases_Bool, false≢true}
use Rattle.lfm_words.specs.declared.wakes.Wake.TheVariants.{Waiting}
use Rattle.lfm_protocol.specs.declared.answers.Call.TheVariants.{StartWait}
use Rattle.lfm_protocol.specs.declared.points.Point.{Point}
use Rattle.lfm_protocol.specs.declared.points.Point.TheVariants.{Rest, SendWakeExchange}
use Rattle.lfm_protocol.specs.Core.{Core}
use Rattle.lfm_protocol.specs.Seats.{seat, wake, is_seat}
use Rattle.lfm_protocol.specs.Step.{step, begin}
use Rattle.lfm_protocol.specs.Turns.{is_open}
use Rattle.lfm_laws.proofs.steady.frames.Seated.{seat_of_point}
use Rattle.lfm_condvar_laws.specs.Condvars.{Stage, outside, locking_to_wait, starting, receiving, locking_to_wake, claiming, sending, unlocking, CondvarCore, point_of}
use Rattle.lfm_condvar_laws.specs.Laws.{reached_by, ClaimsNeverFail}
use Rattle.lfm_condvar_laws.proofs.Invariant.{CondvarGhost, claims_at, StartsAt, StageFits, CoreFits}
use Rattle.lfm_condvar_laws.proofs.Runs.{run_reaches}
use Rattle.lfm_condvar_laws.proofs.events.ClaimEvent.{target_of}
use Rattle.lfm_condvar_laws.proofs.mutex.OwnSeat.{claim_turn, outside_unclaimed, waits_unclaimed, sends_unclaimed}
use Rattle.lfm_condvar_laws.proofs.points.ReceivePoints.{receives_unclaimed}

-- a seat at the claim of a send is in a wake
unclaimed_but : (p : Point) (t : ℕ) → p ≡ SendWakeExchange t → claims_at p ≡ false → ⊥
unclaimed_but p t at none = false≢true (sym none ∙ ap claims_at at)

waits_not_there : (c : Core) (s t : ℕ) → (seat c.seats s).point ≡ SendWakeExchange t → is_open (begin c s StartWait).turn ≡ true → ⊥
waits_not_there c s t at opens =
    elim (cases_Bool (is_seat c.seats s)) [
      | inl is ↦ false≢true (rw (is, at) at opens)
      | inr none ↦ false≢true (rw none at opens)
    ]

starts_unclaimed : (c : Core) (s : ℕ) → StartsAt c s → claims_at (seat c.seats s).point ≡ false
starts_unclaimed c s (inl at) = waits_unclaimed (seat c.seats s).point at
starts_unclaimed c s (inr sleeps) = ap claims_at sleeps.0

claim_finds : (k : CondvarCore) (g : CondvarGhost) (s t : ℕ) (d : Stage) → CoreFits k g → k.stage s ≡ d → StageFits k g s d
    → point_of k s ≡ SendWakeExchange t → wake k.mutex.wakes t ≡ Waiting
claim_finds k g s t outside fits stage own at = absurd (unclaimed_but (point_of k s) t at (outside_unclaimed (point_of k s) own))
claim_finds k g s t (locking_to_wait v) fits stage own at = absurd (waits_not_there k.mutex s t at own)
claim_finds k g s t (starting v ticket) fits stage own at =
    absurd (unclaimed_but (point_of k s) t at (starts_unclaimed k.mutex s own.at))
claim_finds k g s t (receiving v ticket) fits stage own at =
    absurd (unclaimed_but (point_of k s) t at (receives_unclaimed (seat k.mutex.seats s).depth (point_of k s) own.at))
claim_finds k g s t (locking_to_wake v all) fits stage own at = absurd (unclaimed_but (point_of k s) t at (ap claims_at own.at))
claim_finds k g s t (claiming v all oldest) fits stage own at =
    let same : SendWakeExchange oldest.seat ≡ SendWakeExchange t = sym own.at ∙ at in
    let target : oldest.seat ≡ t = cc in
    ap (wake k.mutex.wakes) (sym target) ∙ (target_of k g s v all oldest fits stage own).word
claim_finds k g s t (sending v all oldest) fits stage own at =
    absurd (unclaimed_but (point_of k s) t at (sends_unclaimed (point_of k s) own.at))
claim_finds k g s t (unlocking v) fits stage own at = absurd (unclaimed_but (point_of k s) t at (ap claims_at own.at))

-- the step of a claim is not refused
claim_opens : (k : CondvarCore) (s t : ℕ) → point_of k s ≡ SendWakeExchange t → wake k.mutex.wakes t ≡ Waiting
    → is_open (step k.mutex s).turn ≡ true
claim_opens k s t at word =
    claim_turn k.mutex s t (seat_of_point k.mutex.seats s (λ rests. let clash : Rest ≡ SendWakeExchange t = sym rests
    ∙ at in cc)) at word

pub claims_never_fail : ClaimsNeverFail
claims_never_fail r s t at =
    let is = run_reaches r in
    let word = claim_finds (reached_by r) is.ghost_state s t ((reached_by r).stage s) is.fits refl (is.fits.stages s) at in
    (word, claim_opens (reached_by r) s t at word)
