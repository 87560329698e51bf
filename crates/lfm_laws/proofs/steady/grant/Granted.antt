-- The seat that is granted: the points at which it can be when it is granted, and its facts when its wake word holds the grant.
use Rattle.std.proofs.Common.{◌≡◌, ℕ, Bool, true, false, ◌≤◌, List, Some, nat_eq, refl, sym, ◌∙◌, arith, if◌then◌else◌}
use Rattle.std.proofs.lemmas.Bool.{eq-eqb, false≢true}
use Rattle.lfm_protocol.specs.declared.points.Point.{Point}
use Rattle.lfm_protocol.specs.declared.points.Point.TheVariants.{Asleep, LockOwnerLoad, PushLoad, LinkStore, PushExchange, PushedHandoffLoad, PushedHandoffExchange, TakeClearHead, TakeLinkLoad, GrantWakeStore, EnterOwnerStore, ReceiveWakeLoad}
use Rattle.lfm_protocol.specs.declared.points.Entrant.{Entrant}
use Rattle.lfm_protocol.specs.declared.points.Pusher.TheVariants as Pusher
use Rattle.lfm_protocol.specs.declared.points.Sleeper.TheVariants as Sleeper
use Rattle.lfm_protocol.specs.declared.seats.SeatState.{SeatState}
use Rattle.lfm_model.specs.declared.answers.How.{How}
use Rattle.lfm_words.specs.declared.pop_lists.Record.{Record}
use Rattle.lfm_words.specs.declared.wakes.Wake.{Wake}
use Rattle.lfm_words.specs.declared.wakes.Wake.TheVariants.{Grant}
use Rattle.lfm_protocol.specs.Core.{Core}
use Rattle.lfm_laws.specs.steady.Ghost.{Responsibility, nobody, granted, posted, Standing, apart, asks, queued, Ghost}
use Rattle.lfm_laws.specs.steady.Steady.{KnowsAt, StandsAt, awaits_grant, sleeps_as_waiter, SeatFits}
use Rattle.lfm_laws.specs.steady.Views.{claim_at, claim_to_enter, held_by, grant_at, is_awaiting, expected_wake, due_pushes_at}
use Rattle.lfm_laws.proofs.steady.handoff.Handing.{handed}

-- The point of the granted seat

not_queued_if : (b : Bool) (stamp s : ℕ) → queued stamp ≡ (if b then asks s else apart) → ⊥
not_queued_if true stamp s e = cc
not_queued_if false stamp s e = cc

enters_by_claim : (s : ℕ) (entrant : Entrant) (how : How) → claim_to_enter s entrant how ≡ nobody → ⊥
enters_by_claim s Entrant.Locker How.Free e = cc
enters_by_claim s Entrant.Locker (How.Queued stamp) e = cc
enters_by_claim s Entrant.Trier how e = cc
enters_by_claim s Entrant.Receiver how e = cc

-- a queued seat that carries nothing awaits its grant
pub awaits_queued : (place : Responsibility) (depth s stamp : ℕ) (p : Point) → claim_at depth s p ≡ nobody → StandsAt place depth s (queued stamp) p → awaits_grant p ≡ true
awaits_queued place depth s stamp (Asleep sleeper) none stands = refl
awaits_queued place depth s stamp (ReceiveWakeLoad sleeper) none stands = refl
awaits_queued place depth s stamp (PushedHandoffLoad Pusher.Locker) none stands = refl
awaits_queued place depth s stamp (PushedHandoffLoad (Pusher.Sender t)) none stands = absurd (cc)
awaits_queued place depth s stamp (PushedHandoffExchange Pusher.Locker seen) none stands = refl
awaits_queued place depth s stamp (PushedHandoffExchange (Pusher.Sender t) seen) none stands = absurd (cc)
awaits_queued place depth s stamp LockOwnerLoad none stands = absurd (not_queued_if (nat_eq depth 0) stamp s stands)
awaits_queued place depth s stamp (PushLoad Pusher.Locker) none stands = absurd (cc)
awaits_queued place depth s stamp (PushLoad (Pusher.Sender t)) none stands = absurd (cc)
awaits_queued place depth s stamp (LinkStore Pusher.Locker seen) none stands = absurd (cc)
awaits_queued place depth s stamp (LinkStore (Pusher.Sender t) seen) none stands = absurd (cc)
awaits_queued place depth s stamp (PushExchange Pusher.Locker seen) none stands = absurd (cc)
awaits_queued place depth s stamp (PushExchange (Pusher.Sender t) seen) none stands = absurd (cc)
awaits_queued place depth s stamp (TakeClearHead carrier) none stands = absurd (cc)
awaits_queued place depth s stamp (TakeLinkLoad carrier next) none stands = absurd (cc)
awaits_queued place depth s stamp (GrantWakeStore carrier oldest) none stands = absurd (cc)
awaits_queued place depth s stamp (EnterOwnerStore entrant how) none stands = absurd (enters_by_claim s entrant how none)
awaits_queued place depth s stamp _ none stands = absurd (cc)

-- a seat that has slept since a start_wait awaits a grant
pub awaits_waiter : (p : Point) → sleeps_as_waiter p ≡ true → awaits_grant p ≡ true
awaits_waiter (Asleep sleeper) sleeps = refl
awaits_waiter (ReceiveWakeLoad sleeper) sleeps = refl
awaits_waiter _ sleeps = absurd (false≢true sleeps)

-- Its facts after the grant

grant_of : (u stamp : ℕ) → grant_at (granted u stamp) u ≡ Some stamp
grant_of u stamp = rw (eq-eqb u u refl) refl

wake_granted : (u stamp : ℕ) (standing : Standing) (p : Point) → Grant stamp ≡ expected_wake (granted u stamp) standing u p
wake_granted u stamp standing p = rw (eq-eqb u u refl) refl

awaiting_granted : (u stamp : ℕ) → is_awaiting (granted u stamp) apart u ≡ true
awaiting_granted u stamp = rw (eq-eqb u u refl) refl

stands_granted : (depth u stamp : ℕ) (p : Point) → awaits_grant p ≡ true → StandsAt (granted u stamp) depth u apart p
stands_granted depth u stamp (Asleep Sleeper.Locker) awaits = awaiting_granted u stamp
stands_granted depth u stamp (Asleep Sleeper.Waiter) awaits = tt
stands_granted depth u stamp (ReceiveWakeLoad Sleeper.Locker) awaits = awaiting_granted u stamp
stands_granted depth u stamp (ReceiveWakeLoad Sleeper.Waiter) awaits = tt
stands_granted depth u stamp (PushedHandoffLoad Pusher.Locker) awaits = awaiting_granted u stamp
stands_granted depth u stamp (PushedHandoffLoad (Pusher.Sender t)) awaits = refl
stands_granted depth u stamp (PushedHandoffExchange Pusher.Locker seen) awaits = awaiting_granted u stamp
stands_granted depth u stamp (PushedHandoffExchange (Pusher.Sender t) seen) awaits = refl
stands_granted depth u stamp _ awaits = absurd (false≢true awaits)

knows_granted : (c : Core) (g h : Ghost) (u posts owner : ℕ) (popped : List Record) (wakes : List Wake) (p : Point) → awaits_grant p ≡ true
    → KnowsAt c g u posts p → KnowsAt (handed c owner popped wakes) h u posts p
knows_granted c g h u posts owner popped wakes (Asleep sleeper) awaits knows = tt
knows_granted c g h u posts owner popped wakes (ReceiveWakeLoad sleeper) awaits knows = tt
knows_granted c g h u posts owner popped wakes (PushedHandoffLoad pusher) awaits knows = tt
knows_granted c g h u posts owner popped wakes (PushedHandoffExchange Pusher.Locker seen) awaits knows = knows
knows_granted c g h u posts owner popped wakes _ awaits knows = absurd (false≢true awaits)

due_granted : (depth stamp : ℕ) (wake : Wake) (before after : Standing) (p : Point) → awaits_grant p ≡ true
    → due_pushes_at depth (Grant stamp) after p ≤ due_pushes_at depth wake before p
due_granted depth stamp wake before after (Asleep Sleeper.Locker) awaits = omega arith
due_granted depth stamp wake before after (Asleep Sleeper.Waiter) awaits = omega arith
due_granted depth stamp wake before after (ReceiveWakeLoad Sleeper.Locker) awaits = omega arith
due_granted depth stamp wake before after (ReceiveWakeLoad Sleeper.Waiter) awaits = omega arith
due_granted depth stamp wake before after (PushedHandoffLoad pusher) awaits = omega arith
due_granted depth stamp wake before after (PushedHandoffExchange pusher seen) awaits = omega arith
due_granted depth stamp wake before after _ awaits = absurd (false≢true awaits)

-- a seat that awaits its grant, and has no part of the responsibility, fits when it is granted and apart
pub granted_seat : (c : Core) (g h : Ghost) (u stamp owner : ℕ) (popped : List Record) (wakes : List Wake) (x : SeatState) (w : Wake) → SeatFits c g u x w
    → held_by g.place u ≡ nobody → awaits_grant x.point ≡ true → h.place ≡ granted u stamp → h.standing u ≡ apart → h.pushes u ≡ g.pushes u
    → SeatFits (handed c owner popped wakes) h u x (Grant stamp)
granted_seat c g h u stamp owner popped wakes x w fits none awaits place stands pushes =
    record {
      claims = fits.claims ∙ none ∙ rw place refl;
      woken = rw (place, stands) (wake_granted u stamp apart x.point);
      granted = λ some. (awaits, stands);
      entered = λ entered. absurd (false≢true (rw place at entered));
      listed = λ k at. (let clash : apart ≡ queued k = sym stands ∙ at in absurd (cc));
      stands = rw (place, stands) (stands_granted x.depth u stamp x.point awaits);
      depth = fits.depth;
      knows = knows_granted c g h u x.posts owner popped wakes x.point awaits fits.knows;
      number = fits.number;
      takes = fits.takes;
      posts = fits.posts;
      pushes = omega (arith, fits.pushes, pushes, due_granted x.depth stamp w (g.standing u) (h.standing u) x.point awaits);
      watches = λ placed at. (let clash : granted u stamp ≡ posted = sym place ∙ placed in absurd (cc));
    }
