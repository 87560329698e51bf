-- Each claim of a state is the abstract place of its ghost, and each place except free is claimed.
use Rattle.std.proofs.Common.{◌≡◌, ◌≢◌, ℕ, zero, suc, Bool, true, false, cond, eqb, ◌<◌, Option, Some, None, List, refl, sym, ap, ◌∙◌, inl, inr, arith}
use Rattle.std.proofs.lemmas.Bool.{cases_eq, cond-true, false≢true, eq-eqb, ne_eqb}
use Rattle.lfm_model.specs.Abstract.{AbstractPlace, Carrying, free, owner, passed, carried}
use Rattle.lfm_model.specs.Abstract as Abstract
use Rattle.lfm_model.specs.declared.answers.How.TheVariants as How
use Rattle.lfm_protocol.specs.declared.points.Entrant.{Entrant}
use Rattle.lfm_protocol.specs.declared.points.Point.{Point}
use Rattle.lfm_protocol.specs.declared.points.Point.TheVariants.{Rest, Asleep, LockCountAdd, LockOwnerLoad, LockCountSubtract, TryCountExchange, TryOwnerLoad, TryCountAdd, SendWakeExchange, SendCountAdd, SendWakeStore, PushLoad, LinkStore, PushExchange, PushedHandoffLoad, ReleaseOwnerStore, ReleaseCountSubtract, ReleaseHandoffStore, TakeClearHead, TakeLinkLoad, GrantWakeStore, EnterOwnerStore, ReceiveWakeLoad, ReceiveWakeStore}
use Rattle.lfm_protocol.specs.declared.points.Pusher.{Pusher}
use Rattle.lfm_protocol.specs.declared.points.Sleeper.TheVariants as Sleeper
use Rattle.lfm_protocol.specs.declared.seats.SeatState.{SeatState}
use Rattle.lfm_words.specs.declared.handoffs.Handoff.{Handoff}
use Rattle.lfm_words.specs.declared.wakes.Wake.TheVariants.{Waiting, Claimed, Grant}
use Rattle.lfm_protocol.specs.Core.{Core}
use Rattle.lfm_laws.specs.steady.Ghost.{Responsibility, nobody, owned, granted, posted, entering, accepting, leaving, serving, Standing, Ghost}
use Rattle.lfm_laws.specs.steady.EventOutcome.{abstract_place}
use Rattle.lfm_protocol.specs.Place.{has_loaded}
use Rattle.lfm_laws.specs.laws.Reading.{carrying_at, Claims, by_owner, by_handoff, by_grant, by_call, ReadsPlace}
use Rattle.lfm_protocol.specs.Seats.{seat, wake}
use Rattle.lfm_laws.specs.steady.Steady.{DepthAt, awaits_grant, HandoffFits, Fits}
use Rattle.lfm_laws.specs.steady.Views.{by_depth, claim_at, claim_of_pusher, held_by, grant_at, wake_at, wake_by}
use Rattle.lfm_laws.proofs.steady.frames.Frames.{place_of_claim}

-- Owners

-- a seat that has a depth claims to own
deep_claim : (depth s : ℕ) (p : Point) → 0 < depth → DepthAt depth p → abstract_place (claim_at depth s p) ≡ owner s
deep_claim depth s Rest above fits = rw (ne_eqb depth 0 (omega arith))
deep_claim depth s LockCountAdd above fits = rw (ne_eqb depth 0 (omega arith))
deep_claim depth s LockOwnerLoad above fits = rw (ne_eqb depth 0 (omega arith))
deep_claim depth s LockCountSubtract above fits = refl
deep_claim depth s TryCountExchange above fits = rw (ne_eqb depth 0 (omega arith))
deep_claim depth s TryOwnerLoad above fits = rw (ne_eqb depth 0 (omega arith))
deep_claim depth s (SendWakeExchange t) above fits = rw (ne_eqb depth 0 (omega arith))
deep_claim depth s (SendCountAdd t) above fits = rw (ne_eqb depth 0 (omega arith))
deep_claim depth s (PushLoad Pusher.Locker) above fits = absurd (omega (arith, fits))
deep_claim depth s (PushLoad (Pusher.Sender t)) above fits = rw (ne_eqb depth 0 (omega arith))
deep_claim depth s (LinkStore Pusher.Locker seen) above fits = absurd (omega (arith, fits))
deep_claim depth s (LinkStore (Pusher.Sender t) seen) above fits = rw (ne_eqb depth 0 (omega arith))
deep_claim depth s (PushExchange Pusher.Locker seen) above fits = absurd (omega (arith, fits))
deep_claim depth s (PushExchange (Pusher.Sender t) seen) above fits = rw (ne_eqb depth 0 (omega arith))
deep_claim depth s (PushedHandoffLoad Pusher.Locker) above fits = absurd (omega (arith, fits))
deep_claim depth s (PushedHandoffLoad (Pusher.Sender t)) above fits = rw (ne_eqb depth 0 (omega arith))
deep_claim depth s (ReleaseOwnerStore releaser) above fits = refl
deep_claim depth s _ above fits = absurd (omega (arith, fits))

-- a seat that claims to own has a depth
abbrev owns : AbstractPlace → Bool
owns (owner s) = true
owns _ = false

deep_owner : (depth s : ℕ) (again : Bool) → owns (abstract_place (by_depth depth s again)) ≡ true → 0 < depth
deep_owner zero s again e = absurd (false≢true e)
deep_owner (suc depth) s again e = omega arith

claim_deep : (depth s : ℕ) (p : Point) → owns (abstract_place (claim_at depth s p)) ≡ true → DepthAt depth p → 0 < depth
claim_deep depth s Rest e fits = deep_owner depth s false e
claim_deep depth s LockCountAdd e fits = deep_owner depth s false e
claim_deep depth s LockOwnerLoad e fits = deep_owner depth s true e
claim_deep depth s LockCountSubtract e fits = fits.0
claim_deep depth s TryCountExchange e fits = deep_owner depth s false e
claim_deep depth s TryOwnerLoad e fits = deep_owner depth s false e
claim_deep depth s (SendWakeExchange t) e fits = deep_owner depth s false e
claim_deep depth s (SendCountAdd t) e fits = deep_owner depth s false e
claim_deep depth s (PushLoad (Pusher.Sender t)) e fits = deep_owner depth s false e
claim_deep depth s (LinkStore (Pusher.Sender t) seen) e fits = deep_owner depth s false e
claim_deep depth s (PushExchange (Pusher.Sender t) seen) e fits = deep_owner depth s false e
claim_deep depth s (PushedHandoffLoad (Pusher.Sender t)) e fits = deep_owner depth s false e
claim_deep depth s (ReleaseOwnerStore releaser) e fits = omega (arith, fits)
claim_deep depth s (EnterOwnerStore Entrant.Locker How.Free) e fits = absurd (false≢true e)
claim_deep depth s (EnterOwnerStore Entrant.Locker (How.Queued stamp)) e fits = absurd (false≢true e)
claim_deep depth s (EnterOwnerStore Entrant.Trier how) e fits = absurd (false≢true e)
claim_deep depth s (EnterOwnerStore Entrant.Receiver how) e fits = absurd (false≢true e)
claim_deep depth s _ e fits = absurd (false≢true e)

-- Calls

-- the place is carried by seat s if the point carries, and otherwise it is the given one
abbrev carried_or : ℕ → Option Carrying → AbstractPlace → AbstractPlace
carried_or s None p = p
carried_or s (Some how) p = carried s how

claim_carries : (depth s : ℕ) (p : Point) → abstract_place (claim_at depth s p) ≡ carried_or s (carrying_at s p) (abstract_place (claim_at depth s p))
claim_carries depth s (EnterOwnerStore Entrant.Locker How.Free) = refl
claim_carries depth s (EnterOwnerStore Entrant.Locker (How.Queued stamp)) = refl
claim_carries depth s (EnterOwnerStore Entrant.Trier how) = refl
claim_carries depth s (EnterOwnerStore Entrant.Receiver how) = refl
claim_carries depth s TryCountAdd = refl
claim_carries depth s (SendWakeStore t) = refl
claim_carries depth s (ReceiveWakeStore stamp) = refl
claim_carries depth s (ReleaseCountSubtract releaser) = refl
claim_carries depth s (ReleaseHandoffStore releaser) = refl
claim_carries depth s (TakeClearHead carrier) = refl
claim_carries depth s (TakeLinkLoad carrier next) = refl
claim_carries depth s (GrantWakeStore carrier oldest) = refl
claim_carries depth s _ = refl

call_carries : (depth s : ℕ) (p : Point) (how : Carrying) → carrying_at s p ≡ Some how → abstract_place (claim_at depth s p) ≡ carried s how
call_carries depth s p how carries = claim_carries depth s p ∙ ap (λ o. carried_or s o (abstract_place (claim_at depth s p))) carries

-- what the carrier at a place does
abbrev carrying_of : AbstractPlace → Option Carrying
carrying_of (carried s how) = Some how
carrying_of _ = None

depth_carries : (depth s : ℕ) (again : Bool) → carrying_of (abstract_place (by_depth depth s again)) ≡ None
depth_carries zero s again = refl
depth_carries (suc depth) s again = rw (ne_eqb (suc depth) 0 (omega arith)) refl

pusher_carries : (depth s : ℕ) (pusher : Pusher) → carrying_of (abstract_place (claim_of_pusher depth s pusher)) ≡ None
pusher_carries depth s Pusher.Locker = refl
pusher_carries depth s (Pusher.Sender t) = depth_carries depth s false

carrying_claim : (depth s : ℕ) (p : Point) → carrying_of (abstract_place (claim_at depth s p)) ≡ carrying_at s p
carrying_claim depth s Rest = depth_carries depth s false
carrying_claim depth s LockCountAdd = depth_carries depth s false
carrying_claim depth s LockOwnerLoad = depth_carries depth s true
carrying_claim depth s TryCountExchange = depth_carries depth s false
carrying_claim depth s TryOwnerLoad = depth_carries depth s false
carrying_claim depth s (SendWakeExchange t) = depth_carries depth s false
carrying_claim depth s (SendCountAdd t) = depth_carries depth s false
carrying_claim depth s (PushLoad pusher) = pusher_carries depth s pusher
carrying_claim depth s (LinkStore pusher seen) = pusher_carries depth s pusher
carrying_claim depth s (PushExchange pusher seen) = pusher_carries depth s pusher
carrying_claim depth s (PushedHandoffLoad pusher) = pusher_carries depth s pusher
carrying_claim depth s (EnterOwnerStore Entrant.Locker How.Free) = refl
carrying_claim depth s (EnterOwnerStore Entrant.Locker (How.Queued stamp)) = refl
carrying_claim depth s (EnterOwnerStore Entrant.Trier how) = refl
carrying_claim depth s (EnterOwnerStore Entrant.Receiver how) = refl
carrying_claim depth s _ = refl

-- Grants

waiter_ungranted : (unentered : Bool) (stamp : ℕ) → cond unentered Waiting Claimed ≢ Grant stamp
waiter_ungranted true stamp e = cc
waiter_ungranted false stamp e = cc

-- the wake word of a seat that has not loaded a grant holds one only if the seat is granted
wake_ungranted : (place : Responsibility) (standing : Standing) (t stamp : ℕ) (p : Point) → has_loaded p ≡ false → wake_at place standing t p ≢ Grant stamp
wake_ungranted place standing t stamp (ReceiveWakeStore other) unloaded e = false≢true (sym unloaded)
wake_ungranted place standing t stamp (Asleep Sleeper.Waiter) unloaded e = waiter_ungranted _ stamp e
wake_ungranted place standing t stamp (ReceiveWakeLoad Sleeper.Waiter) unloaded e = waiter_ungranted _ stamp e
wake_ungranted place standing t stamp _ unloaded e = cc

wake_granted : (grant : Option ℕ) (place : Responsibility) (standing : Standing) (t stamp : ℕ) (p : Point) → has_loaded p ≡ false
    → wake_by grant place standing t p ≡ Grant stamp → grant ≢ None
wake_granted (Some other) place standing t stamp p unloaded e none = cc
wake_granted None place standing t stamp p unloaded e none = wake_ungranted place standing t stamp p unloaded e

place_of_grant : (p : Responsibility) (t : ℕ) → grant_at p t ≢ None → abstract_place p ≡ passed t
place_of_grant (granted u stamp) t some =
    elim (cases_eq u t) [
      | inl same ↦ rw same refl
      | inr other ↦ absurd (some (rw (ne_eqb u t other) refl))
    ]
place_of_grant _ t some = absurd (some refl)

awaits_unloaded : (p : Point) → awaits_grant p ≡ true → has_loaded p ≡ false
awaits_unloaded (ReceiveWakeStore stamp) e = absurd (false≢true e)
awaits_unloaded _ e = refl

-- Handoffs

place_of_handoff : (seats : List SeatState) (p : Responsibility) (n : Handoff) → HandoffFits seats p n → 0 < n.seat → abstract_place p ≡ Abstract.posted
place_of_handoff seats posted n fits above = refl
place_of_handoff seats _ n fits above = let none : n.seat ≡ 0 = ap (λ h. h.seat) fits in absurd (omega arith)

-- The one place

-- the place is what a seat claims, if it claims anything
place_claimed : (c : Core) (g : Ghost) (s : ℕ) (p : AbstractPlace) → Fits c g → abstract_place (claim_at (seat c.seats s).depth s (seat c.seats s).point) ≡ p → p ≢ free → abstract_place g.place ≡ p
place_claimed c g s p fits claims some =
    let place = place_of_claim g.place _ s (λ none. some (sym claims ∙ ap abstract_place none)) (fits.each s).claims in
    ap abstract_place place ∙ claims

owner_some : (s : ℕ) → owner s ≢ free
owner_some s e = cc

pub carried_some : (s : ℕ) (how : Carrying) → carried s how ≢ free
carried_some s how e = cc

pub claims_place : (c : Core) (g : Ghost) → Fits c g → (q : AbstractPlace) → Claims c q → q ≡ abstract_place g.place
claims_place c g fits q (by_owner s above here) =
    here ∙ sym (place_claimed c g s (owner s) fits (deep_claim _ s (seat c.seats s).point above (fits.each s).depth) (owner_some s))
claims_place c g fits q (by_handoff above here) = here ∙ sym (place_of_handoff c.seats g.place c.handoff fits.words.handoff above)
claims_place c g fits q (by_grant t stamp word unloaded here) =
    here ∙ sym (place_of_grant g.place t (wake_granted _ g.place (g.standing t) t stamp (seat c.seats t).point unloaded (sym (fits.each t).woken ∙ word)))
claims_place c g fits q (by_call s how carries here) =
    let claims = call_carries (seat c.seats s).depth s (seat c.seats s).point how carries in
    here ∙ sym (place_claimed c g s (carried s how) fits claims (carried_some s how))

pub held_self : (s : ℕ) (p : Responsibility) → cond (eqb s s) p nobody ≡ p
held_self s p = cond-true (eqb s s) p nobody (eq-eqb s s refl)

-- the seat at which the place is claims it
pub self_claims : (c : Core) (g : Ghost) (s : ℕ) (place : Responsibility) → Fits c g → g.place ≡ place → held_by place s ≡ place
    → claim_at (seat c.seats s).depth s (seat c.seats s).point ≡ place
self_claims c g s place fits here held = (fits.each s).claims ∙ ap (λ p. held_by p s) here ∙ held

-- the call of a seat that carries the place claims it
call_claims : (c : Core) (g : Ghost) (s : ℕ) (place : Responsibility) (how : Carrying) → Fits c g → g.place ≡ place → held_by place s ≡ place
    → abstract_place place ≡ carried s how → Claims c (abstract_place place)
call_claims c g s place how fits here held carries =
    let claims = self_claims c g s place fits here held in
    by_call s how (sym (carrying_claim _ s _) ∙ ap (λ p. carrying_of (abstract_place p)) claims ∙ ap carrying_of carries) carries

owner_claims : (c : Core) (g : Ghost) (s : ℕ) (again : Bool) → Fits c g → g.place ≡ owned s again → Claims c (owner s)
owner_claims c g s again fits here =
    let claims = self_claims c g s (owned s again) fits here (held_self s _) in
    by_owner s (claim_deep _ s (seat c.seats s).point (ap (λ p. owns (abstract_place p)) claims) (fits.each s).depth) refl

grant_claims : (c : Core) (g : Ghost) (s stamp : ℕ) → Fits c g → g.place ≡ granted s stamp → Claims c (passed s)
grant_claims c g s stamp fits here =
    let given : grant_at g.place s ≡ Some stamp = rw (here, eq-eqb s s refl) refl in
    let word : wake c.wakes s ≡ Grant stamp = rw given at (fits.each s).woken in
    by_grant s stamp word (awaits_unloaded (seat c.seats s).point ((fits.each s).granted (rw given refl)).0) refl

pub place_claims : (c : Core) (g : Ghost) (place : Responsibility) → Fits c g → g.place ≡ place → abstract_place place ≢ free → Claims c (abstract_place place)
place_claims c g nobody fits here some = absurd (some refl)
place_claims c g (owned s again) fits here some = owner_claims c g s again fits here
place_claims c g (granted s stamp) fits here some = grant_claims c g s stamp fits here
place_claims c g posted fits here some = by_handoff (rw here at fits.words.handoff).above refl
place_claims c g (entering s into stamp) fits here some = call_claims c g s (entering s into stamp) (Abstract.entering into) fits here (held_self s _) refl
place_claims c g (accepting s) fits here some = call_claims c g s (accepting s) (Abstract.entering s) fits here (held_self s _) refl
place_claims c g (leaving s) fits here some = call_claims c g s (leaving s) Abstract.leaving fits here (held_self s _) refl
place_claims c g (serving s) fits here some = call_claims c g s (serving s) Abstract.serving fits here (held_self s _) refl

pub reads_place : (c : Core) (g : Ghost) → Fits c g → ReadsPlace c (abstract_place g.place)
reads_place c g fits = record { only = claims_place c g fits; some = place_claims c g g.place fits refl }
