-- A state that a ghost fits is lawful, with the ghost's abstract mutex as its reading.
use Rattle.std.proofs.Common.{◌≡◌, ◌≢◌, ◌⊎◌, ℕ, zero, suc, ◌<◌, Bool, true, false, Option, Some, None, List, refl, sym, ap, ◌∙◌, inl, inr, arith}
use Rattle.std.proofs.lemmas.Bool.{cases_Bool, eqb-true, eq-eqb, ne_eqb}
use Rattle.lfm_model.specs.declared.answers.How.{How}
use Rattle.lfm_protocol.specs.declared.points.Entrant.{Entrant}
use Rattle.lfm_protocol.specs.declared.points.Point.{Point}
use Rattle.lfm_protocol.specs.declared.points.Point.TheVariants.{Rest, Asleep, LockCountAdd, LockOwnerLoad, TryCountExchange, TryOwnerLoad, TryHandoffExchange, SendWakeExchange, SendCountAdd, SendPushRecheck, SendWakeStore, PushLoad, LinkStore, PushExchange, PushedHandoffLoad, PushedHandoffExchange, EnterOwnerStore, ReceiveWakeLoad, ReceiveWakeStore}
use Rattle.lfm_protocol.specs.declared.points.Pusher.{Pusher}
use Rattle.lfm_protocol.specs.declared.points.Sleeper.TheVariants as Sleeper
use Rattle.lfm_protocol.specs.declared.seats.SeatState.{SeatState}
use Rattle.lfm_words.specs.declared.handoffs.Handoff.{Handoff}
use Rattle.lfm_words.specs.declared.wakes.Wake.{Wake}
use Rattle.lfm_words.specs.declared.wakes.Wake.TheVariants.{Waiting, Claimed, Grant}
use Rattle.lfm_protocol.specs.Core.{Core}
use Rattle.lfm_laws.specs.steady.Ghost.{Responsibility, nobody, owned, posted, entering, Standing, apart, claimed, asks, queued, Ghost}
use Rattle.lfm_laws.specs.laws.Lawful.{ReadBefore, SleepsAsWaiter, LoadsItsGrant, IsSent, IsBroughtIn, IsLawful}
use Rattle.lfm_laws.specs.steady.EventOutcome.{abstract}
use Rattle.lfm_protocol.specs.Seats.{seat, wake, unposted, IsSeat}
use Rattle.lfm_laws.specs.steady.Steady.{KnowsAt, awaits_grant, HandoffFits, Fits}
use Rattle.lfm_laws.specs.steady.Views.{by_depth, claim_of_pusher, claim_to_enter, claim_at, claim, grant_at, is_entered, is_some, wake_of_waiter, wake_at, wake_by}
use Rattle.lfm_laws.proofs.lawful.read.QueueRead.{waits_told, queue_distinct, queue_ends}
use Rattle.lfm_laws.proofs.lawful.read.Readings.{reads_ghost, owner_read}
use Rattle.lfm_laws.proofs.steady.frames.Seated.{seat_of_standing}
use Rattle.lfm_laws.proofs.lawful.read.WatchedRead.{watched_read}
use Rattle.lfm_laws.proofs.lawful.read.CountRead.{counted_read}

-- each handoff number that was read was posted
numbers_known : (c : Core) (g : Ghost) (s posts : ℕ) (p : Point) → KnowsAt c g s posts p → ReadBefore c.seats p
numbers_known c g s posts (SendPushRecheck t seen) knows = knows.before
numbers_known c g s posts (PushedHandoffExchange pusher seen) knows = knows.0.before
numbers_known c g s posts (TryHandoffExchange seen) knows = knows.before
numbers_known c g s posts _ knows = tt

-- Wake words

-- a word that is WAITING or CLAIMED is no grant, so its seat has slept since a start_wait
ungranted : (grant : Option ℕ) (place : Responsibility) (standing : Standing) (s : ℕ) (p : Point) (w : Wake)
    → (w ≡ Waiting) ⊎ (w ≡ Claimed) → w ≡ wake_by grant place standing s p → w ≡ wake_at place standing s p
ungranted (Some stamp) place standing s p w (inl is) e = cc
ungranted (Some stamp) place standing s p w (inr is) e = cc
ungranted None place standing s p w is e = e

waiter_of : (place : Responsibility) (standing : Standing) (s : ℕ) (p : Point) (w : Wake)
    → (w ≡ Waiting) ⊎ (w ≡ Claimed) → w ≡ wake_at place standing s p → SleepsAsWaiter p × (w ≡ wake_of_waiter place standing s)
waiter_of place standing s (Asleep Sleeper.Waiter) w is e = (tt, e)
waiter_of place standing s (ReceiveWakeLoad Sleeper.Waiter) w is e = (tt, e)
waiter_of place standing s _ w (inl is) e = absurd (cc)
waiter_of place standing s _ w (inr is) e = absurd (cc)

sleeps_of : (c : Core) (g : Ghost) (t : ℕ) → Fits c g → (wake c.wakes t ≡ Waiting) ⊎ (wake c.wakes t ≡ Claimed)
    → SleepsAsWaiter (seat c.seats t).point × (wake c.wakes t ≡ wake_of_waiter g.place (g.standing t) t)
sleeps_of c g t fits is =
    let p : Point = (seat c.seats t).point in
    waiter_of g.place (g.standing t) t p (wake c.wakes t) is
    (ungranted (grant_at g.place t) g.place (g.standing t) t p (wake c.wakes t) is (fits.each t).woken)

-- a seat that owns by its depth brings in no seat
depth_enters : (depth s t z stamp : ℕ) (again : Bool) → by_depth depth s again ≢ entering z t stamp
depth_enters zero s t z stamp again e = cc
depth_enters (suc n) s t z stamp again e = let owns : owned s again ≡ entering z t stamp = rw (ne_eqb (suc n) 0 (λ none. omega arith)) at e in cc

pusher_enters : (depth s t z stamp : ℕ) (pusher : Pusher) → claim_of_pusher depth s pusher ≢ entering z t stamp
pusher_enters depth s t z stamp Pusher.Locker e = cc
pusher_enters depth s t z stamp (Pusher.Sender u) e = depth_enters depth s t z stamp false e

-- with its own owner store a seat brings in itself
entrant_enters : (s t z stamp : ℕ) (entrant : Entrant) (how : How) → claim_to_enter s entrant how ≡ entering z t stamp → s ≡ t
entrant_enters s t z stamp Entrant.Locker How.Free e = cc
entrant_enters s t z stamp Entrant.Locker (How.Queued x) e = cc
entrant_enters s t z stamp Entrant.Trier how e = cc
entrant_enters s t z stamp Entrant.Receiver how e = cc

-- a seat that brings in another is at the wake store of its grant
enters_another : (depth s t z stamp : ℕ) (p : Point) → s ≢ t → claim_at depth s p ≡ entering z t stamp → p ≡ SendWakeStore t
enters_another depth s t z stamp (SendWakeStore u) other e = let same : u ≡ t = cc in rw same
enters_another depth s t z stamp (EnterOwnerStore entrant how) other e = absurd (other (entrant_enters s t z stamp entrant how e))
enters_another depth s t z stamp (ReceiveWakeStore x) other e = let same : s ≡ t = cc in absurd (other same)
enters_another depth s t z stamp Rest other e = absurd (depth_enters depth s t z stamp false e)
enters_another depth s t z stamp LockCountAdd other e = absurd (depth_enters depth s t z stamp false e)
enters_another depth s t z stamp LockOwnerLoad other e = absurd (depth_enters depth s t z stamp true e)
enters_another depth s t z stamp TryCountExchange other e = absurd (depth_enters depth s t z stamp false e)
enters_another depth s t z stamp TryOwnerLoad other e = absurd (depth_enters depth s t z stamp false e)
enters_another depth s t z stamp (SendWakeExchange u) other e = absurd (depth_enters depth s t z stamp false e)
enters_another depth s t z stamp (SendCountAdd u) other e = absurd (depth_enters depth s t z stamp false e)
enters_another depth s t z stamp (PushLoad pusher) other e = absurd (pusher_enters depth s t z stamp pusher e)
enters_another depth s t z stamp (LinkStore pusher seen) other e = absurd (pusher_enters depth s t z stamp pusher e)
enters_another depth s t z stamp (PushExchange pusher seen) other e = absurd (pusher_enters depth s t z stamp pusher e)
enters_another depth s t z stamp (PushedHandoffLoad pusher) other e = absurd (pusher_enters depth s t z stamp pusher e)
enters_another depth s t z stamp _ other e = absurd (cc)

-- a sleeping seat brings in no seat
sleeper_claims : (depth s : ℕ) (p : Point) → SleepsAsWaiter p → claim_at depth s p ≡ nobody
sleeper_claims depth s (Asleep Sleeper.Waiter) sleeps = refl
sleeper_claims depth s (ReceiveWakeLoad Sleeper.Waiter) sleeps = refl
sleeper_claims depth s _ sleeps = absurd sleeps

-- if a seat is being brought in, the place is entering
entering_of : (p : Responsibility) (t : ℕ) → is_entered p t ≡ true → (z : ℕ) × (stamp : ℕ) × (p ≡ entering z t stamp)
entering_of (entering z into stamp) t entered = let same : into ≡ t = eqb-true into t entered in (z, stamp, rw same)
entering_of _ t entered = absurd (cc)

-- a sleeping waiter that is being brought in has a sender that does so
brought_in_by : (c : Core) (g : Ghost) (t z stamp : ℕ) → Fits c g → SleepsAsWaiter (seat c.seats t).point → g.place ≡ entering z t stamp → IsBroughtIn c t
brought_in_by c g t z stamp fits sleeps place =
    let claims : claim (seat c.seats z) z ≡ entering z t stamp = (fits.each z).claims ∙ rw (place, eq-eqb z z refl) refl in
    let other : z ≢ t = λ same.
    let none = sleeper_claims (seat c.seats t).depth t (seat c.seats t).point sleeps in
    let own : claim (seat c.seats t) t ≡ entering t t stamp = rw same at claims in
    cc in
    record { sender = z; here = enters_another (seat c.seats z).depth z t z stamp (seat c.seats z).point other claims }

brought_in : (c : Core) (g : Ghost) (t : ℕ) → Fits c g → SleepsAsWaiter (seat c.seats t).point → is_entered g.place t ≡ true → IsBroughtIn c t
brought_in c g t fits sleeps entered = let by = entering_of g.place t entered in brought_in_by c g t by.0 by.1 fits sleeps by.2

-- if the word of a waiter that is apart is CLAIMED, a call is bringing the waiter in
entered_if_apart : (p : Responsibility) (t : ℕ) → wake_of_waiter p apart t ≡ Claimed → is_entered p t ≡ true
entered_if_apart p t e =
    elim (cases_Bool (is_entered p t)) [
      | inl entered ↦ entered
      | inr away ↦ let word : wake_of_waiter p apart t ≡ Waiting = rw away in absurd (cc)
    ]

-- a seat whose wake word is CLAIMED is between a send's claim and its grant
sent_of : (c : Core) (g : Ghost) (t : ℕ) (standing : Standing) → Fits c g → g.standing t ≡ standing → SleepsAsWaiter (seat c.seats t).point
    → wake_of_waiter g.place standing t ≡ Claimed → IsSent c t
sent_of c g t apart fits stands sleeps word = inr (inr (inr (brought_in c g t fits sleeps (entered_if_apart g.place t word))))
sent_of c g t (claimed z) fits stands sleeps word =
    let is = seat_of_standing c g t fits (λ e. cc) in
    inl (record { agent = z; some = is.above; claims = (fits.agents t).sent z stands })
sent_of c g t (asks z) fits stands sleeps word =
    let is = seat_of_standing c g t fits (λ e. cc) in
    inr (inl (record { agent = z; some = is.above; counts = (fits.agents t).asked z stands }))
sent_of c g t (queued stamp) fits stands sleeps word = inr (inr (inl (waits_told c g fits t (rw stands))))

-- the grant in a wake word either was loaded by a receive, or is that of a seat that will load it
wake_granted : (place : Responsibility) (standing : Standing) (s stamp : ℕ) (p : Point) → wake_at place standing s p ≡ Grant stamp → LoadsItsGrant p
wake_granted place standing s stamp (ReceiveWakeStore x) e = tt
wake_granted place standing s stamp (Asleep sleeper) e = tt
wake_granted place standing s stamp (ReceiveWakeLoad sleeper) e = tt
wake_granted place standing s stamp _ e = absurd (cc)

will_load : (p : Point) → awaits_grant p ≡ true → LoadsItsGrant p
will_load (Asleep sleeper) e = tt
will_load (ReceiveWakeLoad sleeper) e = tt
will_load (PushedHandoffLoad Pusher.Locker) e = tt
will_load (PushedHandoffLoad (Pusher.Sender t)) e = absurd (cc)
will_load (PushedHandoffExchange Pusher.Locker seen) e = tt
will_load (PushedHandoffExchange (Pusher.Sender t) seen) e = absurd (cc)
will_load _ e = absurd (cc)

loads_grant : (grant : Option ℕ) (place : Responsibility) (standing : Standing) (s stamp : ℕ) (p : Point) → (is_some grant ≡ true → awaits_grant p ≡ true)
    → wake_by grant place standing s p ≡ Grant stamp → LoadsItsGrant p
loads_grant (Some x) place standing s stamp p awaits e = will_load p (awaits refl)
loads_grant None place standing s stamp p awaits e = wake_granted place standing s stamp p e

-- The handoff word

handoff_unposted : (seats : List SeatState) (p : Responsibility) (n : Handoff) → HandoffFits seats p n → n.seat ≡ 0 → n ≡ unposted
handoff_unposted seats posted n fits none = absurd (omega (arith, fits.above, none))
handoff_unposted seats _ n fits none = fits

handoff_poster : (seats : List SeatState) (p : Responsibility) (n : Handoff) → HandoffFits seats p n → 0 < n.seat → IsSeat seats n.seat
handoff_poster seats posted n fits some = fits
handoff_poster seats _ n fits some = let none = ap (λ h. h.seat) fits in absurd (omega (arith, none, some))

pub lawful_read : (c : Core) (g : Ghost) → Fits c g → IsLawful c (abstract g)
lawful_read c g fits =
    record {
      reads = reads_ghost c g fits;
      owner_word = owner_read c g fits;
      distinct = queue_distinct c g fits;
      stamps = queue_ends c g fits;
      count = counted_read c g fits;
      watched = watched_read c g fits;
      unposted_word = λ none. handoff_unposted c.seats g.place c.handoff fits.words.handoff none;
      poster = λ some. handoff_poster c.seats g.place c.handoff fits.words.handoff some;
      number = λ some. (fits.each c.handoff.seat).number refl some;
      numbers = λ s. numbers_known c g s (seat c.seats s).posts (seat c.seats s).point (fits.each s).knows;
      waiting_words = λ t is. (sleeps_of c g t fits (inl is)).0;
      claimed_words = λ t is.
          let sleeps = sleeps_of c g t fits (inr is) in
          (sleeps.0, sent_of c g t (g.standing t) fits refl sleeps.0 (sym sleeps.1 ∙ is));
      granted_words = λ t stamp is.
          loads_grant (grant_at g.place t) g.place (g.standing t) t stamp (seat c.seats t).point
          (λ some. ((fits.each t).granted some).0) (sym (fits.each t).woken ∙ is);
    }
