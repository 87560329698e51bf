-- A receive that holds has loaded the grant that it answers, and one that does not hold has found none.
use Rattle.std.proofs.Common.{◌≡◌, ◌≢◌, ◌⊎◌, ℕ, true, List, [], ◌∷◌, refl, sym, ap, ◌∙◌, inl, inr, arith}
use Rattle.std.proofs.lemmas.Bool.{cases_Bool, cases_eq, eq-eqb, ne_eqb, false≢true}
use Rattle.std.specs.Prelude.{Option, Some, None}
use Rattle.lfm_model.specs.declared.answers.How.{How}
use Rattle.lfm_model.specs.declared.refusals.Refusal.{Refusal}
use Rattle.lfm_protocol.specs.declared.answers.Answer.{Answer}
use Rattle.lfm_protocol.specs.declared.answers.Call.TheVariants.{Receive}
use Rattle.lfm_protocol.specs.declared.answers.Turn.TheVariants.{Open, Ended}
use Rattle.lfm_protocol.specs.declared.answers.Why.{Why}
use Rattle.lfm_protocol.specs.declared.answers.Why.TheVariants.{By}
use Rattle.lfm_protocol.specs.declared.points.Carrier.{Carrier}
use Rattle.lfm_protocol.specs.declared.points.Entrant.{Entrant}
use Rattle.lfm_protocol.specs.declared.points.Point.{Point}
use Rattle.lfm_protocol.specs.declared.points.Point.TheVariants.{Rest, Asleep, PushLoad, LinkStore, PushExchange, PushedHandoffLoad, PushedHandoffExchange, ReleaseOwnerStore, ReleaseCountSubtract, ReleaseHandoffStore, ReleasePushRecheck, ReleaseHandoffExchange, TakeClearHead, TakeLinkLoad, GrantWakeStore, EnterOwnerStore, ReceiveWakeLoad, ReceiveWakeStore}
use Rattle.lfm_protocol.specs.declared.points.Pusher.{Pusher}
use Rattle.lfm_protocol.specs.declared.points.Releaser.{Releaser}
use Rattle.lfm_protocol.specs.declared.points.Releaser.TheVariants.{Unlocker, Waiter}
use Rattle.lfm_protocol.specs.declared.points.Sleeper.{Sleeper}
use Rattle.lfm_protocol.specs.declared.limits.Limits.{Limits}
use Rattle.lfm_protocol.specs.declared.seats.SeatState.{SeatState}
use Rattle.lfm_words.specs.declared.wakes.Wake.{Wake}
use Rattle.lfm_words.specs.declared.wakes.Wake.TheVariants.{Grant}
use Rattle.lfm_protocol.specs.After.{how_granted}
use Rattle.lfm_protocol.specs.Begin as Begin
use Rattle.lfm_protocol.specs.Core.{Core, limits}
use Rattle.lfm_protocol.specs.Seats.{seat, wake, is_seat}
use Rattle.lfm_protocol.specs.Step.{begin, step}
use Rattle.lfm_laws.specs.laws.Entries.{IsGrant, FindsGrant, HasLoaded, LoadedBy, ReceiversLoadedTheirGrant}
use Rattle.lfm_laws.specs.laws.Releases.{StaysInCall}
use Rattle.lfm_laws.specs.laws.Schedules.{Event, begins, makes, happens, run_of, is_call}
use Rattle.lfm_laws.proofs.lawful.bounds.Leaving.{stepped, seat_of_call, begin_leaves}
use Rattle.lfm_laws.proofs.lawful.calls.CallSteps.{call_of_pusher, call_of_releaser, call_of_carrier, call_of_entrant, call_at, kept_told, kept_at, step_follows}
use Rattle.lfm_laws.proofs.lawful.calls.CallsEnded.{event_stays, first_inside, run_stays, begin_says}
use Rattle.lfm_laws.proofs.lawful.calls.WaitsTold.{not_open, own_after, own_turn, other_step}
use Rattle.lfm_laws.proofs.steady.frames.Entries.{seat-with_same}
use Rattle.lfm_laws.proofs.steady.frames.Seated.{seat_of_test}

-- The points of a receive

data ReceivesAt (p : Point) : Type 0 where
  loads : (sleeper : Sleeper) → p ≡ ReceiveWakeLoad sleeper → ReceivesAt p
  stores : (stamp : ℕ) → p ≡ ReceiveWakeStore stamp → ReceivesAt p
  enters : (how : How) → p ≡ EnterOwnerStore Entrant.Receiver how → ReceivesAt p

pusher_other : (pusher : Pusher) → call_of_pusher pusher ≢ Receive
pusher_other Pusher.Locker e = cc
pusher_other (Pusher.Sender t) e = cc

releaser_other : (releaser : Releaser) → call_of_releaser releaser ≢ Receive
releaser_other Unlocker e = cc
releaser_other Waiter e = cc

carrier_other : (carrier : Carrier) → call_of_carrier carrier ≢ Receive
carrier_other Carrier.Locker e = cc
carrier_other (Carrier.Releaser releaser) e = releaser_other releaser e
carrier_other (Carrier.Reclaimer releaser) e = releaser_other releaser e
carrier_other Carrier.Sender e = cc

entrant_receives : (entrant : Entrant) (how : How) → call_of_entrant entrant ≡ Receive → ReceivesAt (EnterOwnerStore entrant how)
entrant_receives Entrant.Locker how e = absurd (cc)
entrant_receives Entrant.Trier how e = absurd (cc)
entrant_receives Entrant.Receiver how e = enters how refl

receives_at : (p : Point) → is_call p ≡ true → call_at p ≡ Receive → ReceivesAt p
receives_at Rest inside e = absurd (false≢true inside)
receives_at (Asleep sleeper) inside e = absurd (false≢true inside)
receives_at (PushLoad pusher) inside e = absurd (pusher_other pusher e)
receives_at (LinkStore pusher seen) inside e = absurd (pusher_other pusher e)
receives_at (PushExchange pusher seen) inside e = absurd (pusher_other pusher e)
receives_at (PushedHandoffLoad pusher) inside e = absurd (pusher_other pusher e)
receives_at (PushedHandoffExchange pusher seen) inside e = absurd (pusher_other pusher e)
receives_at (ReleaseOwnerStore releaser) inside e = absurd (releaser_other releaser e)
receives_at (ReleaseCountSubtract releaser) inside e = absurd (releaser_other releaser e)
receives_at (ReleaseHandoffStore releaser) inside e = absurd (releaser_other releaser e)
receives_at (ReleasePushRecheck releaser) inside e = absurd (releaser_other releaser e)
receives_at (ReleaseHandoffExchange releaser) inside e = absurd (releaser_other releaser e)
receives_at (TakeClearHead carrier) inside e = absurd (carrier_other carrier e)
receives_at (TakeLinkLoad carrier next) inside e = absurd (carrier_other carrier e)
receives_at (GrantWakeStore carrier oldest) inside e = absurd (carrier_other carrier e)
receives_at (EnterOwnerStore entrant how) inside e = entrant_receives entrant how e
receives_at (ReceiveWakeLoad sleeper) inside e = loads sleeper refl
receives_at (ReceiveWakeStore stamp) inside e = stores stamp refl
receives_at _ inside e = absurd (cc)

-- the way in which a seat at this point will hold, if its receive has loaded a grant
abbrev granted_at : Point → Option How
granted_at (ReceiveWakeStore stamp) = Some (how_granted stamp)
granted_at (EnterOwnerStore entrant how) = Some how
granted_at _ = None

abbrev granted : Core → ℕ → Option How
granted c s = granted_at (seat c.seats s).point

some_none : (how : How) → None ≡ Some how → ⊥
some_none how e = cc

-- A step of the receive

-- the step loads a grant, keeps it, or ends the receive
data ReceivesAs (c : Core) (s : ℕ) (how : How) : Type 0 where
  keeps : granted c s ≡ Some how → ReceivesAs c s how
  finds : FindsGrant c s how → ReceivesAs c s how

grant_of : (stamp : ℕ) → IsGrant (how_granted stamp) stamp
grant_of stamp =
    elim (cases_eq stamp 0) [
      | inl none ↦ rw (eq-eqb stamp 0 none) none
      | inr some ↦ rw (ne_eqb stamp 0 some) (refl, omega (arith, some))
    ]

loads_by : (c : Core) (s : ℕ) (sleeper : Sleeper) (how : How) (w : Wake) → (seat c.seats s).point ≡ ReceiveWakeLoad sleeper → wake c.wakes s ≡ w
    → granted_at (stepped c s).seat.point ≡ Some how → FindsGrant c s how
loads_by c s sleeper how (Grant stamp) at word e =
    let same : Some (how_granted stamp) ≡ Some how = rw (at, at, word) at e in
    let here : how_granted stamp ≡ how = cc in
    record { stamp = stamp; word = word; grant = rw here at (grant_of stamp) }
loads_by c s sleeper how _ at word e = absurd (some_none how (rw (at, at, word) at e))

own_receives : (c : Core) (s : ℕ) (how : How) → ReceivesAt (seat c.seats s).point → granted_at (stepped c s).seat.point ≡ Some how → ReceivesAs c s how
own_receives c s how (loads sleeper at) e = finds (loads_by c s sleeper how (wake c.wakes s) at refl e)
own_receives c s how (stores stamp at) e = keeps (rw at (rw (at, at) at e))
own_receives c s how (enters held at) e = absurd (some_none how (rw (at, at) at e))

-- Events and runs

-- an event through which the receive stays open
event_receives : (c : Core) (e : Event) (s : ℕ) (how : How) → is_call (seat c.seats s).point ≡ true → call_at (seat c.seats s).point ≡ Receive
    → granted (happens c e).core s ≡ Some how → (granted c s ≡ Some how) ⊎ ((e ≡ makes s) × FindsGrant c s how)
event_receives c (begins t call) s how inside here e = inl (ap (λ x. granted_at x.point) (sym (begin_leaves c t s call inside).view) ∙ e)
event_receives c (makes t) s how inside here e =
    elim (cases_eq s t) [
      | inl own ↦
          let after = own_after c s (seat_of_call c s inside) in
          let told : granted (step c s).core s ≡ Some how = rw (sym own) at e in
          elim (own_receives c s how (receives_at (seat c.seats s).point inside here) (ap (λ x. granted_at x.point) (sym after) ∙ told)) [
            | keeps before ↦ inl before
            | finds load ↦ rw (sym own) (inr (refl, load))
          ]
      | inr other ↦ inl (ap (λ x. granted_at x.point) (sym (other_step c t s other)) ∙ e)
    ]

run_receives : (c : Core) (s : ℕ) (events : List Event) (how : How) → StaysInCall c s events → call_at (seat c.seats s).point ≡ Receive
    → granted (run_of c events) s ≡ Some how → (granted c s ≡ Some how) ⊎ HasLoaded c s events how
run_receives c s [] how stays here e = inl e
run_receives c s (f ∷ later) how stays here e =
    let still = event_stays c f s stays.0 (first_inside (happens c f).core s later stays.1) ∙ here in
    elim (run_receives (happens c f).core s later how stays.1 still e) [
      | inl before ↦ elim (event_receives c f s how stays.0 here before) [
        | inl first ↦ inl first
        | inr load ↦ inr (inl load)
      ]
      | inr loaded ↦ inr (inr loaded)
    ]

-- The start and the end

receive_opens : (x : SeatState) (bounds : Limits) (p : Point) → (Begin.begin_at x bounds Receive p).turn ≡ Open → granted_at (Begin.begin_at x bounds Receive p).seat.point ≡ None
receive_opens x bounds Rest opens = absurd (not_open (By Refusal.NotWaiting) opens)
receive_opens x bounds (Asleep sleeper) opens = refl
receive_opens x bounds _ opens = absurd (not_open Why.InCall opens)

begins_ungranted : (c : Core) (s : ℕ) → (begin c s Receive).turn ≡ Open → granted (begin c s Receive).core s ≡ None
begins_ungranted c s opens =
    elim (cases_Bool (is_seat c.seats s)) [
      | inl is ↦
          rw (is, seat-with_same c.seats s (Begin.begin (seat c.seats s) (limits c) Receive).seat (seat_of_test c.seats s is))
          (receive_opens (seat c.seats s) (limits c) (seat c.seats s).point (rw is at opens))
      | inr none ↦ absurd (not_open Why.NoSuchSeat (rw none at opens))
    ]

kept_granted : (p : Point) (how : How) → kept_at p ≡ Some (Answer.Got (Some how)) → granted_at p ≡ Some how
kept_granted (EnterOwnerStore Entrant.Locker held) how e = absurd (cc)
kept_granted (EnterOwnerStore Entrant.Trier held) how e = absurd (cc)
kept_granted (EnterOwnerStore Entrant.Receiver held) how e = cc
kept_granted _ how e = absurd (cc)

pub open_ended : (answer : Answer) → Open ≡ Ended answer → ⊥
open_ended answer e = cc

none_held : (how : How) → Ended (Answer.Got (Some how)) ≡ Ended (Answer.Got None) → ⊥
none_held how e = cc

-- a receive that does not hold finds no grant
finds_none : (c : Core) (s : ℕ) → ReceivesAt (seat c.seats s).point → (stepped c s).turn ≡ Ended (Answer.Got None) → (stamp : ℕ) → wake c.wakes s ≢ Grant stamp
finds_none c s (loads sleeper at) e stamp word = open_ended (Answer.Got None) (rw (at, at, word) at e)
finds_none c s (stores stamp' at) e stamp word = open_ended (Answer.Got None) (rw (at, at) at e)
finds_none c s (enters held at) e stamp word = none_held held (rw (at, at) at e)

receives : (c : Core) (s : ℕ) (events : List Event) (how : Option How) → (begin c s Receive).turn ≡ Open → StaysInCall (begin c s Receive).core s events
    → call_at (seat (run_of (begin c s Receive).core events).seats s).point ≡ Receive → is_call (seat (run_of (begin c s Receive).core events).seats s).point ≡ true
    → (stepped (run_of (begin c s Receive).core events) s).turn ≡ Ended (Answer.Got how) → LoadedBy (begin c s Receive).core s events how
receives c s events None opens stays here inside turn =
    finds_none (run_of (begin c s Receive).core events) s (receives_at (seat (run_of (begin c s Receive).core events).seats s).point inside here) turn
receives c s events (Some how) opens stays here inside turn =
    let keeps = (step_follows (run_of (begin c s Receive).core events) s (seat (run_of (begin c s Receive).core events).seats s).point refl inside).told in
    let last = kept_granted (seat (run_of (begin c s Receive).core events).seats s).point how (sym keeps ∙ ap kept_told turn) in
    elim (run_receives (begin c s Receive).core s events how stays (rw opens at (begin_says c s Receive)) last) [
      | inl before ↦ absurd (some_none how (sym (begins_ungranted c s opens) ∙ before))
      | inr loaded ↦ loaded
    ]

pub receivers_loaded_their_grant : ReceiversLoadedTheirGrant
receivers_loaded_their_grant c s events how opens stays turn =
    let last = run_stays (begin c s Receive).core s events stays in
    let here = last.0 ∙ rw opens at (begin_says c s Receive) in
    let is = seat_of_call (run_of (begin c s Receive).core events) s last.1 in
    receives c s events how opens stays here last.1 (sym (own_turn (run_of (begin c s Receive).core events) s is) ∙ turn)
