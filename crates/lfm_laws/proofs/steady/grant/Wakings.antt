-- What the wake word of a seat implies about its grant and its sleep, and which seats have slept since a start_wait.
use Rattle.std.proofs.Common.{◌≡◌, ◌≢◌, ℕ, Bool, true, false, ◌&&◌, cond, eqb, Option, Some, None, refl, inl, inr}
use Rattle.std.proofs.lemmas.Bool.{cases_eq, eq-eqb, ne_eqb}
use Rattle.lfm_protocol.specs.declared.points.Point.{Point}
use Rattle.lfm_protocol.specs.declared.points.Point.TheVariants.{Asleep, LockOwnerLoad, PushLoad, LinkStore, PushExchange, PushedHandoffLoad, PushedHandoffExchange, TakeClearHead, TakeLinkLoad, GrantWakeStore, EnterOwnerStore, ReceiveWakeLoad}
use Rattle.lfm_model.specs.declared.answers.How.{How}
use Rattle.lfm_protocol.specs.declared.points.Carrier.{Carrier}
use Rattle.lfm_protocol.specs.declared.points.Entrant.{Entrant}
use Rattle.lfm_protocol.specs.declared.points.Pusher.{Pusher}
use Rattle.lfm_protocol.specs.declared.points.Sleeper.{Sleeper}
use Rattle.lfm_words.specs.declared.wakes.Wake.TheVariants.{Waiting, Claimed, Grant}
use Rattle.lfm_laws.specs.steady.Ghost.{Responsibility, granted, Standing, apart, claimed, asks}
use Rattle.lfm_laws.specs.steady.Steady.{StandsAt, StandsAsPusher, AwaitsAsPusher, StandsAsCarrier, StandsAsEntrant, sleeps_as_waiter}
use Rattle.lfm_laws.specs.steady.Views.{grant_at, is_entered, is_some, is_apart, wake_by, wake_of_waiter, expected_wake, is_queued}

pub none_from : (o : Option ℕ) → is_some o ≢ true → o ≡ None
none_from None no_grant = refl
none_from (Some stamp) no_grant = absurd (no_grant refl)

pub false_from : (b : Bool) → b ≢ true → b ≡ false
false_from true differs = absurd (differs refl)
false_from false differs = refl

some_if : (t s k stamp : ℕ) → cond (eqb t s) (Some k) None ≡ Some stamp → (t ≡ s) × (k ≡ stamp)
some_if t s k stamp e =
    elim (cases_eq t s) [
      | inl same ↦ (same, let f = rw (eq-eqb t s same) at e in cc)
      | inr other ↦ let f = rw (ne_eqb t s other) at e in cc
    ]

-- a grant determines the place
pub place_of_grant : (p : Responsibility) (s stamp : ℕ) → grant_at p s ≡ Some stamp → p ≡ granted s stamp
place_of_grant (granted t k) s stamp e = let h = some_if t s k stamp e in rw (h.0, h.1)
place_of_grant _ s stamp e = cc

no_grant_by : (waits : Bool) (stamp : ℕ) → Grant stamp ≢ cond waits Waiting Claimed
no_grant_by true stamp e = cc
no_grant_by false stamp e = cc

-- a sleeping seat finds a grant only if it was granted
granted_by : (o : Option ℕ) (place : Responsibility) (standing : Standing) (s stamp : ℕ) (sleeper : Sleeper)
    → Grant stamp ≡ wake_by o place standing s (ReceiveWakeLoad sleeper) → o ≡ Some stamp
granted_by (Some k) place standing s stamp sleeper e = cc
granted_by None place standing s stamp Sleeper.Locker e = cc
granted_by None place standing s stamp Sleeper.Waiter e = absurd (no_grant_by (is_apart standing && (cond (is_entered place s) false true)) stamp e)

pub grant_of_load : (place : Responsibility) (standing : Standing) (s stamp : ℕ) (sleeper : Sleeper)
    → Grant stamp ≡ expected_wake place standing s (ReceiveWakeLoad sleeper) → grant_at place s ≡ Some stamp
grant_of_load place standing s stamp sleeper e = granted_by (grant_at place s) place standing s stamp sleeper e

load_by : (o : Option ℕ) (place : Responsibility) (standing : Standing) (s : ℕ) (sleeper : Sleeper)
    → wake_by o place standing s (ReceiveWakeLoad sleeper) ≡ wake_by o place standing s (Asleep sleeper)
load_by (Some k) place standing s sleeper = refl
load_by None place standing s Sleeper.Locker = refl
load_by None place standing s Sleeper.Waiter = refl

-- a wake word stays the same while its seat goes to load it
pub wake_to_load : (place : Responsibility) (standing : Standing) (s : ℕ) (sleeper : Sleeper)
    → expected_wake place standing s (ReceiveWakeLoad sleeper) ≡ expected_wake place standing s (Asleep sleeper)
wake_to_load place standing s sleeper = load_by (grant_at place s) place standing s sleeper

-- a seat whose wake word is WAITING has slept since a start_wait, and no send has claimed it
pub record IsWaiting (place : Responsibility) (standing : Standing) (s : ℕ) (p : Point) : Type 0 where
  pub sleeps : sleeps_as_waiter p ≡ true
  pub ungranted : grant_at place s ≡ None
  pub stands : standing ≡ apart
  pub unentered : is_entered place s ≡ false

waits_by : (o : Option ℕ) (place : Responsibility) (standing : Standing) (s : ℕ) (p : Point) → Waiting ≡ wake_by o place standing s p
    → (sleeps_as_waiter p ≡ true) × (o ≡ None) × (Waiting ≡ wake_of_waiter place standing s)
waits_by (Some k) place standing s p e = cc
waits_by None place standing s (Asleep Sleeper.Waiter) e = (refl, refl, e)
waits_by None place standing s (ReceiveWakeLoad Sleeper.Waiter) e = (refl, refl, e)
waits_by None place standing s _ e = cc

apart_by : (standing : Standing) (entered : Bool) → Waiting ≡ cond (is_apart standing && (cond entered false true)) Waiting Claimed → (standing ≡ apart) × (entered ≡ false)
apart_by apart false e = (refl, refl)
apart_by _ _ e = cc

pub waiting_of : (place : Responsibility) (standing : Standing) (s : ℕ) (p : Point) → Waiting ≡ expected_wake place standing s p → IsWaiting place standing s p
waiting_of place standing s p e =
    let h = waits_by (grant_at place s) place standing s p e in
    let f = apart_by standing (is_entered place s) h.2 in
    record { sleeps = h.0; ungranted = h.1; stands = f.0; unentered = f.1 }

-- A seat that is neither apart nor queued, and does not ask by its own call

no_owner_load : (asked : Bool) (s : ℕ) (standing : Standing) → standing ≢ apart → standing ≢ asks s → standing ≡ cond asked (asks s) apart → ⊥
no_owner_load true s standing away own stands = own stands
no_owner_load false s standing away own stands = away stands

no_pusher : (s : ℕ) (standing : Standing) (pusher : Pusher) → standing ≢ apart → standing ≢ asks s → StandsAsPusher s standing pusher → ⊥
no_pusher s standing Pusher.Locker away own stands = own stands
no_pusher s standing (Pusher.Sender t) away own stands = away stands

no_awaiting : (place : Responsibility) (s : ℕ) (standing : Standing) (pusher : Pusher) → grant_at place s ≡ None → standing ≢ apart → is_queued standing ≡ false
    → AwaitsAsPusher place s standing pusher → ⊥
no_awaiting place s standing Pusher.Locker none away unqueued stands = let f = rw (none, unqueued) at stands in cc
no_awaiting place s standing (Pusher.Sender t) none away unqueued stands = away stands

no_carrier : (standing : Standing) (carrier : Carrier) → standing ≢ apart → is_queued standing ≡ false → StandsAsCarrier standing carrier → ⊥
no_carrier standing Carrier.Locker away unqueued stands = let f = rw unqueued at stands in cc
no_carrier standing _ away unqueued stands = away stands

no_entrant : (standing : Standing) (entrant : Entrant) (how : How) → standing ≢ apart → is_queued standing ≡ false → StandsAsEntrant standing entrant how → ⊥
no_entrant standing Entrant.Locker (How.Queued stamp) away unqueued stands = let f = rw unqueued at stands in cc
no_entrant standing _ how away unqueued stands = away stands

-- such a seat has slept since a start_wait
sleeps_at : (place : Responsibility) (depth s : ℕ) (standing : Standing) (p : Point) → grant_at place s ≡ None → standing ≢ apart → standing ≢ asks s
    → is_queued standing ≡ false → StandsAt place depth s standing p → sleeps_as_waiter p ≡ true
sleeps_at place depth s standing (Asleep Sleeper.Waiter) none away own unqueued stands = refl
sleeps_at place depth s standing (ReceiveWakeLoad Sleeper.Waiter) none away own unqueued stands = refl
sleeps_at place depth s standing (Asleep Sleeper.Locker) none away own unqueued stands = let f = rw (none, unqueued) at stands in cc
sleeps_at place depth s standing (ReceiveWakeLoad Sleeper.Locker) none away own unqueued stands = let f = rw (none, unqueued) at stands in cc
sleeps_at place depth s standing LockOwnerLoad none away own unqueued stands = absurd (no_owner_load (eqb depth 0) s standing away own stands)
sleeps_at place depth s standing (PushLoad pusher) none away own unqueued stands = absurd (no_pusher s standing pusher away own stands)
sleeps_at place depth s standing (LinkStore pusher seen) none away own unqueued stands = absurd (no_pusher s standing pusher away own stands)
sleeps_at place depth s standing (PushExchange pusher seen) none away own unqueued stands = absurd (no_pusher s standing pusher away own stands)
sleeps_at place depth s standing (PushedHandoffLoad pusher) none away own unqueued stands = absurd (no_awaiting place s standing pusher none away unqueued stands)
sleeps_at place depth s standing (PushedHandoffExchange pusher seen) none away own unqueued stands = absurd (no_awaiting place s standing pusher none away unqueued stands)
sleeps_at place depth s standing (TakeClearHead carrier) none away own unqueued stands = absurd (no_carrier standing carrier away unqueued stands)
sleeps_at place depth s standing (TakeLinkLoad carrier next) none away own unqueued stands = absurd (no_carrier standing carrier away unqueued stands)
sleeps_at place depth s standing (GrantWakeStore carrier oldest) none away own unqueued stands = absurd (no_carrier standing carrier away unqueued stands)
sleeps_at place depth s standing (EnterOwnerStore entrant how) none away own unqueued stands = absurd (no_entrant standing entrant how away unqueued stands)
sleeps_at place depth s standing _ none away own unqueued stands = absurd (away stands)

-- a seat that a send has claimed has slept since a start_wait
pub claimed_sleeps_at : (place : Responsibility) (depth s z : ℕ) (p : Point) → grant_at place s ≡ None → StandsAt place depth s (claimed z) p → sleeps_as_waiter p ≡ true
claimed_sleeps_at place depth s z p none stands = sleeps_at place depth s (claimed z) p none (λ e. cc) (λ e. cc) refl stands

-- a seat that asks by another seat's send has slept since a start_wait
pub asked_sleeps_at : (place : Responsibility) (depth s z : ℕ) (p : Point) → s ≢ z → grant_at place s ≡ None → StandsAt place depth s (asks z) p → sleeps_as_waiter p ≡ true
asked_sleeps_at place depth s z p other none stands = sleeps_at place depth s (asks z) p none (λ e. cc) (λ e. other cc) refl stands
