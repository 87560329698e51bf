-- What a step of one seat leaves unchanged for the others. Then the steps that change only the acting seat, its own wake word,
-- the count and owner words, and the place.
use Rattle.std.proofs.Common.{◌≡◌, ◌≢◌, ℕ, true, false, cond, eqb, ◌+◌, ◌≤◌, ◌<◌, Option, Some, None, List, refl, sym, ◌∙◌, inl, inr, arith, length, ap}
use Rattle.std.proofs.lemmas.Bool.{cases_eq, ne_eqb, eq-eqb, cond-true, cond-false}
use Rattle.std.specs.Prelude.{⊤}
use Rattle.lfm_model.specs.declared.answers.How.{How}
use Rattle.lfm_protocol.specs.declared.points.Carrier.{Carrier}
use Rattle.lfm_protocol.specs.declared.points.Entrant.{Entrant}
use Rattle.lfm_protocol.specs.declared.points.Point.{Point}
use Rattle.lfm_protocol.specs.declared.points.Point.TheVariants.{Asleep, TryHandoffExchange, SendWakeExchange, SendCountAdd, SendPushRecheck, SendWakeStore, PushLoad, LinkStore, PushExchange, PushedHandoffLoad, PushedHandoffExchange, ReleaseHandoffStore, ReleasePushRecheck, ReleaseHandoffExchange, TakeClearHead, TakeLinkLoad, GrantWakeStore, EnterOwnerStore, ReceiveWakeLoad}
use Rattle.lfm_protocol.specs.declared.points.Pusher.{Pusher}
use Rattle.lfm_protocol.specs.declared.points.Sleeper.TheVariants as Sleeper
use Rattle.lfm_protocol.specs.declared.seats.SeatState.{SeatState}
use Rattle.lfm_words.specs.declared.handoffs.Handoff.{Handoff}
use Rattle.lfm_words.specs.declared.links.Link.{Link}
use Rattle.lfm_words.specs.declared.wakes.Wake.{Wake}
use Rattle.lfm_words.specs.declared.wakes.Wake.TheVariants.{Quiet}
use Rattle.lfm_protocol.specs.Core.{Core, put, put_wake}
use Rattle.lfm_laws.specs.steady.Ghost.{Responsibility, nobody, owned, granted, posted, entering, accepting, leaving, serving, Standing, claimed, asks, queued, Ghost}
use Rattle.lfm_protocol.specs.Points.{pushed_seat}
use Rattle.lfm_protocol.specs.Seats.{seat, link, wake, with_entry, unposted, IsSeat}
use Rattle.lfm_laws.specs.steady.Steady.{IsSeen, IsOld, HasQueue, HeadStays, QueuedFits, ErrandFits, PushedFits, KnowsRecord, EntersFits, KnowsAt, StandsAsPusher, AwaitsAsPusher, StandsAt, SeatFits, AgentFits, WatchesAsPusher, WatchesAt, HandoffFits, owner_of, own_unit, again_unit, WorkFits, CarriedFits, LastFits, unanswered, WordsFit, SizesFit, Fits}
use Rattle.lfm_laws.specs.steady.Views.{held_by, grant_at, is_entered, asks_for, claims_for, is_queued, wake_at, wake_by, expected_wake, claim_to_enter, claim_at}
use Rattle.lfm_laws.proofs.steady.frames.Entries.{entry-with_same, entry-with_other, seat-with_same, seat-with_other, length-with_entry}

-- what the carrier reads of the queue stays the same
pub record SeesCarried (c d : Core) (g h : Ghost) : Type 0 where
  pub walk : h.walk ≡ g.walk
  pub popped : d.popped ≡ c.popped
  pub next : h.pushed_at (h.popped + h.walk) ≡ g.pushed_at (g.popped + g.walk)
  pub queue : HasQueue g → HasQueue h

-- between the states c with ghost g and d with ghost h, all that seat t with state x reads of the others stays the same, or
-- changes only as it may
pub record Sees (c d : Core) (g h : Ghost) (t : ℕ) (x : SeatState) : Type 0 where
  pub held : held_by h.place t ≡ held_by g.place t
  pub grant : grant_at h.place t ≡ grant_at g.place t
  pub entered : is_entered h.place t ≡ is_entered g.place t
  pub standing : h.standing t ≡ g.standing t
  pub listed : (stamp : ℕ) → g.standing t ≡ queued stamp → QueuedFits g t stamp → QueuedFits h t stamp
  pub errand : (u : ℕ) → g.standing u ≡ asks t → h.standing u ≡ asks t
  pub errand_link : (u : ℕ) → g.standing u ≡ asks t → link d.links u ≡ link c.links u
  pub claim : (u : ℕ) → g.standing u ≡ claimed t → h.standing u ≡ claimed t
  pub seats : (u : ℕ) → IsSeat c.seats u → IsSeat d.seats u
  pub old : (n : Handoff) → IsOld c.seats n → IsOld d.seats n
  pub number : d.handoff.seat ≡ t → 0 < t → d.handoff ≡ c.handoff
  pub head : (n : Handoff) → n.post ≤ (seat c.seats n.seat).posts → HeadStays c g n → HeadStays d h n
  pub seen : (l : Link) → IsSeen c.push l → IsSeen d.push l
  pub carrier : held_by g.place t ≡ serving t → SeesCarried c d g h
  pub budget : d.budget ≡ c.budget
  pub pushes : h.pushes t ≡ g.pushes t
  pub watches : (g.place ≡ posted → g.watcher ≡ t → WatchesAt c g t x x.point) → h.place ≡ posted → h.watcher ≡ t → WatchesAt d h t x x.point

-- Its facts, each by its own lemma

wake_at_seen : (p q : Responsibility) (standing : Standing) (t : ℕ) (at : Point) → is_entered q t ≡ is_entered p t → wake_at q standing t at ≡ wake_at p standing t at
wake_at_seen p q standing t (Asleep Sleeper.Waiter) entered = rw entered
wake_at_seen p q standing t (ReceiveWakeLoad Sleeper.Waiter) entered = rw entered
wake_at_seen p q standing t _ entered = refl

wake_by_seen : (grant : Option ℕ) (p q : Responsibility) (standing : Standing) (t : ℕ) (at : Point) → is_entered q t ≡ is_entered p t
    → wake_by grant q standing t at ≡ wake_by grant p standing t at
wake_by_seen (Some stamp) p q standing t at entered = refl
wake_by_seen None p q standing t at entered = wake_at_seen p q standing t at entered

pub expected_wake_seen : (p q : Responsibility) (standing : Standing) (t : ℕ) (at : Point) → grant_at q t ≡ grant_at p t → is_entered q t ≡ is_entered p t
    → expected_wake q standing t at ≡ expected_wake p standing t at
expected_wake_seen p q standing t at grant entered = rw grant (wake_by_seen (grant_at p t) p q standing t at entered)

awaits_seen : (p q : Responsibility) (t : ℕ) (standing : Standing) (pusher : Pusher) → grant_at q t ≡ grant_at p t
    → AwaitsAsPusher p t standing pusher → AwaitsAsPusher q t standing pusher
awaits_seen p q t standing Pusher.Locker grant awaits = rw grant awaits
awaits_seen p q t standing (Pusher.Sender u) grant awaits = awaits

pub StandsAt_seen : (p q : Responsibility) (depth t : ℕ) (standing : Standing) (at : Point) → grant_at q t ≡ grant_at p t
    → StandsAt p depth t standing at → StandsAt q depth t standing at
StandsAt_seen p q depth t standing (Asleep Sleeper.Locker) grant stands = rw grant stands
StandsAt_seen p q depth t standing (Asleep Sleeper.Waiter) grant stands = tt
StandsAt_seen p q depth t standing (ReceiveWakeLoad Sleeper.Locker) grant stands = rw grant stands
StandsAt_seen p q depth t standing (ReceiveWakeLoad Sleeper.Waiter) grant stands = tt
StandsAt_seen p q depth t standing (PushedHandoffLoad pusher) grant stands = awaits_seen p q t standing pusher grant stands
StandsAt_seen p q depth t standing (PushedHandoffExchange pusher seen) grant stands = awaits_seen p q t standing pusher grant stands
StandsAt_seen p q depth t standing _ grant stands = stands

errand_seen : (c d : Core) (g h : Ghost) (t : ℕ) (x : SeatState) (pusher : Pusher) → Sees c d g h t x → ErrandFits g t pusher → ErrandFits h t pusher
errand_seen c d g h t x Pusher.Locker sees fits = tt
errand_seen c d g h t x (Pusher.Sender u) sees fits = (fits.0, sees.errand u fits.1)

-- the link that a pusher has stored is that of a seat that asks through this pusher
link_seen : (c d : Core) (g h : Ghost) (t : ℕ) (x : SeatState) (pusher : Pusher) (l : Link) → Sees c d g h t x → StandsAsPusher t (g.standing t) pusher
    → ErrandFits g t pusher → link c.links (pushed_seat pusher t) ≡ l → link d.links (pushed_seat pusher t) ≡ l
link_seen c d g h t x Pusher.Locker l sees stands fits same = sees.errand_link t stands ∙ same
link_seen c d g h t x (Pusher.Sender u) l sees stands fits same = sees.errand_link u fits.1 ∙ same

old_seen : (c d : Core) (g h : Ghost) (t : ℕ) (x : SeatState) (n : Handoff) (pusher : Pusher) → Sees c d g h t x → IsOld c.seats n
    → PushedFits c g n pusher → PushedFits d h n pusher
old_seen c d g h t x n Pusher.Locker sees old fits = tt
old_seen c d g h t x n (Pusher.Sender u) sees old fits = sees.head n old.before fits

record_seen : (g h : Ghost) (carrier : Carrier) → (HasQueue g → HasQueue h) → KnowsRecord g carrier → KnowsRecord h carrier
record_seen g h Carrier.Locker queue knows = tt
record_seen g h (Carrier.Releaser releaser) queue knows = tt
record_seen g h (Carrier.Reclaimer releaser) queue knows = queue knows
record_seen g h Carrier.Sender queue knows = queue knows

enters_seen : (c d : Core) (g h : Ghost) (t depth : ℕ) (x : SeatState) (entrant : Entrant) (how : How) → Sees c d g h t x
    → claim_to_enter t entrant how ≡ held_by g.place t → EntersFits c g t entrant how → EntersFits d h t entrant how
enters_seen c d g h t depth x Entrant.Locker How.Free sees claims enters = tt
enters_seen c d g h t depth x Entrant.Locker (How.Queued stamp) sees claims enters =
    let carrier = sees.carrier (sym claims) in
    (carrier.walk ∙ enters.0, (enters.1.0, carrier.popped ∙ enters.1.1))
enters_seen c d g h t depth x Entrant.Trier how sees claims enters = enters
enters_seen c d g h t depth x Entrant.Receiver How.Free sees claims enters = tt
enters_seen c d g h t depth x Entrant.Receiver (How.Queued stamp) sees claims enters = enters

pub KnowsAt_seen : (c d : Core) (g h : Ghost) (t depth posts : ℕ) (x : SeatState) (at : Point) → Sees c d g h t x → posts ≤ (seat c.seats t).posts
    → claim_at depth t at ≡ held_by g.place t → StandsAt g.place depth t (g.standing t) at → KnowsAt c g t posts at → KnowsAt d h t posts at
KnowsAt_seen c d g h t depth posts x (PushLoad pusher) sees most claims stands knows = errand_seen c d g h t x pusher sees knows
KnowsAt_seen c d g h t depth posts x (LinkStore pusher seen) sees most claims stands knows =
    (errand_seen c d g h t x pusher sees knows.0, sees.seen seen knows.1)
KnowsAt_seen c d g h t depth posts x (PushExchange pusher seen) sees most claims stands knows =
    (errand_seen c d g h t x pusher sees knows.0, sees.seen seen knows.1, link_seen c d g h t x pusher _ sees stands knows.0 knows.2)
KnowsAt_seen c d g h t depth posts x (PushedHandoffExchange pusher seen) sees most claims stands knows =
    (sees.old seen knows.0, old_seen c d g h t x seen pusher sees knows.0 knows.1)
KnowsAt_seen c d g h t depth posts x (TryHandoffExchange seen) sees most claims stands knows = sees.old seen knows
KnowsAt_seen c d g h t depth posts x (SendWakeExchange u) sees most claims stands knows = sees.seats u knows
KnowsAt_seen c d g h t depth posts x (SendCountAdd u) sees most claims stands knows = (knows.0, sees.claim u knows.1)
KnowsAt_seen c d g h t depth posts x (SendPushRecheck u seen) sees most claims stands knows = sees.old seen knows
KnowsAt_seen c d g h t depth posts x (SendWakeStore u) sees most claims stands knows = knows
KnowsAt_seen c d g h t depth posts x (ReleaseHandoffStore releaser) sees most claims stands knows =
    let carrier = sees.carrier (sym claims) in
    (carrier.walk ∙ knows.0, carrier.popped ∙ knows.1)
KnowsAt_seen c d g h t depth posts x (ReleaseHandoffExchange releaser) sees most claims stands knows =
    sees.head (record { seat = t; post = posts }) most knows
KnowsAt_seen c d g h t depth posts x (TakeClearHead taker) sees most claims stands knows =
    let carrier = sees.carrier (sym claims) in
    (carrier.walk ∙ knows.0, carrier.popped ∙ knows.1, record_seen g h taker carrier.queue knows.2)
KnowsAt_seen c d g h t depth posts x (TakeLinkLoad taker next) sees most claims stands knows =
    let carrier = sees.carrier (sym claims) in
    (omega (arith, knows.0, carrier.walk), knows.1 ∙ sym carrier.next)
KnowsAt_seen c d g h t depth posts x (GrantWakeStore taker oldest) sees most claims stands knows =
    let carrier = sees.carrier (sym claims) in
    (carrier.walk ∙ knows.0, (knows.1.0, carrier.popped ∙ knows.1.1), knows.2)
KnowsAt_seen c d g h t depth posts x (EnterOwnerStore entrant how) sees most claims stands knows = enters_seen c d g h t depth x entrant how sees claims knows
KnowsAt_seen c d g h t depth posts x _ sees most claims stands knows = knows

-- a seat that sees nothing new still fits
pub SeatFits_seen : (c d : Core) (g h : Ghost) (t : ℕ) (x : SeatState) (w : Wake) → x.posts ≤ (seat c.seats t).posts → Sees c d g h t x → SeatFits c g t x w → SeatFits d h t x w
SeatFits_seen c d g h t x w posts sees fits =
    record {
      claims = fits.claims ∙ sym sees.held;
      woken = fits.woken ∙ sym (rw sees.standing (expected_wake_seen g.place h.place (g.standing t) t x.point sees.grant sees.entered));
      granted = λ some. rw sees.standing (fits.granted (rw sees.grant at some));
      entered = λ into none. rw sees.standing (fits.entered (sym sees.entered ∙ into) (sym sees.held ∙ none));
      listed = λ stamp stands. sees.listed stamp (sym sees.standing ∙ stands) (fits.listed stamp (sym sees.standing ∙ stands));
      stands = rw sees.standing (StandsAt_seen g.place h.place x.depth t (g.standing t) x.point sees.grant fits.stands);
      depth = fits.depth;
      knows = KnowsAt_seen c d g h t x.depth x.posts x x.point sees posts fits.claims fits.stands fits.knows;
      number = λ here above. let same = sees.number here above in rw same (fits.number (rw same at here) above);
      takes = omega (arith, fits.takes, sees.budget);
      posts = fits.posts;
      pushes = rw (sees.standing, sees.pushes) fits.pushes;
      watches = sees.watches fits.watches;
    }

-- every seat fits if s does and each other seat sees nothing new; the words are those of the core e, and the other seats those
-- of the core c
pub each_after : (c e : Core) (g h : Ghost) (s : ℕ) (y : SeatState) → IsSeat c.seats s → e.seats ≡ c.seats → Fits c g → (seat c.seats s).posts ≤ y.posts
    → ((t : ℕ) → t ≢ s → wake e.wakes t ≡ wake c.wakes t) → ((t : ℕ) → t ≢ s → Sees c (put e s y) g h t (seat c.seats t))
    → SeatFits (put e s y) h s y (wake e.wakes s) → (t : ℕ) → SeatFits (put e s y) h t (seat (put e s y).seats t) (wake (put e s y).wakes t)
each_after c e g h s y is same fits posts woken sees own t =
    elim (cases_eq t s) [
      | inl here ↦ rw (here, same, seat-with_same c.seats s y is) (rw same at own)
      | inr other ↦
          let seat_same = seat-with_other c.seats s t y other in
          rw (same, seat_same, woken t other)
          (rw same at (SeatFits_seen c (put e s y) g h t (seat c.seats t) (wake c.wakes t) (omega arith) (sees t other) (fits.each t)))
    ]

-- seat s with the new state y has the same errands and posts as before
pub record Errands (c : Core) (s : ℕ) (y : SeatState) : Type 0 where
  pub asks_same : asks_for y s ≡ asks_for (seat c.seats s) s
  pub claims_same : claims_for y ≡ claims_for (seat c.seats s)
  pub posts_same : y.posts ≡ (seat c.seats s).posts

-- then every seat has the same errands as before
pub asks_after : (c : Core) (s : ℕ) (y : SeatState) → IsSeat c.seats s → Errands c s y → (t : ℕ) → asks_for (seat (with_entry c.seats s y) t) t ≡ asks_for (seat c.seats t) t
asks_after c s y is errands t =
    elim (cases_eq t s) [
      | inl here ↦ rw (here, seat-with_same c.seats s y is) errands.asks_same
      | inr other ↦ rw (seat-with_other c.seats s t y other)
    ]

pub claims_after : (c : Core) (s : ℕ) (y : SeatState) → IsSeat c.seats s → Errands c s y → (t : ℕ) → claims_for (seat (with_entry c.seats s y) t) ≡ claims_for (seat c.seats t)
claims_after c s y is errands t =
    elim (cases_eq t s) [
      | inl here ↦ rw (here, seat-with_same c.seats s y is) errands.claims_same
      | inr other ↦ rw (seat-with_other c.seats s t y other)
    ]

pub agents_after : (c : Core) (standing : ℕ → Standing) (s : ℕ) (y : SeatState) → IsSeat c.seats s → Errands c s y
    → ((t : ℕ) → AgentFits c.seats (standing t) t) → (t : ℕ) → AgentFits (with_entry c.seats s y) (standing t) t
agents_after c standing s y is errands agents t =
    record {
      asked = λ agent asking. asks_after c s y is errands agent ∙ (agents t).asked agent asking;
      sent = λ agent claiming. claims_after c s y is errands agent ∙ (agents t).sent agent claiming;
    }

-- Seat numbers stay seat numbers, and posted handoff numbers stay posted, when seat s moves on

pub IsSeat_after : (c : Core) (s u : ℕ) (y : SeatState) → IsSeat c.seats u → IsSeat (with_entry c.seats s y) u
IsSeat_after c s u y is = record { above = is.above; within = omega (arith, is.within, length-with_entry c.seats s y) }

pub posts_after : (c : Core) (s u : ℕ) (y : SeatState) → IsSeat c.seats s → (seat c.seats s).posts ≤ y.posts → (seat c.seats u).posts ≤ (seat (with_entry c.seats s y) u).posts
posts_after c s u y is more =
    elim (cases_eq u s) [
      | inl here ↦ rw (here, seat-with_same c.seats s y is) more
      | inr other ↦ rw (seat-with_other c.seats s u y other) (omega arith)
    ]

pub IsOld_after : (c : Core) (s : ℕ) (y : SeatState) (n : Handoff) → IsSeat c.seats s → (seat c.seats s).posts ≤ y.posts → IsOld c.seats n → IsOld (with_entry c.seats s y) n
IsOld_after c s y n is more old =
    record {
      above = old.above;
      before = let same = posts_after c s n.seat y is more in omega (arith, old.before, same);
    }

pub HandoffFits_after : (c : Core) (s : ℕ) (y : SeatState) (p : Responsibility) (n : Handoff) → HandoffFits c.seats p n → HandoffFits (with_entry c.seats s y) p n
HandoffFits_after c s y posted n fits = IsSeat_after c s n.seat y fits
HandoffFits_after c s y _ n fits = fits

-- The watcher sees a posted handoff as before

watches_as_seen : (g h : Ghost) (pusher : Pusher) → ((u : ℕ) → is_queued (g.standing u) ≡ true → is_queued (h.standing u) ≡ true)
    → WatchesAsPusher g pusher → WatchesAsPusher h pusher
watches_as_seen g h Pusher.Locker still watches = tt
watches_as_seen g h (Pusher.Sender u) still watches = still u watches

pub WatchesAt_seen : (c d : Core) (g h : Ghost) (t : ℕ) (x : SeatState) (at : Point) → d.handoff ≡ c.handoff → (HasQueue g → HasQueue h)
    → ((u : ℕ) → is_queued (g.standing u) ≡ true → is_queued (h.standing u) ≡ true) → WatchesAt c g t x at → WatchesAt d h t x at
WatchesAt_seen c d g h t x (PushedHandoffLoad pusher) same queue still watches = watches_as_seen g h pusher still watches
WatchesAt_seen c d g h t x (SendPushRecheck u seen) same queue still watches = (same ∙ watches.0, still u watches.1)
WatchesAt_seen c d g h t x (PushedHandoffExchange pusher seen) same queue still watches = same ∙ watches
WatchesAt_seen c d g h t x (ReleasePushRecheck releaser) same queue still watches = (same ∙ watches.0, queue watches.1)
WatchesAt_seen c d g h t x (ReleaseHandoffExchange releaser) same queue still watches = same ∙ watches
WatchesAt_seen c d g h t x _ same queue still watches = watches

-- Seat s moves on, while the count, the owner and the wake words may change

abbrev pub moved : Core → ℕ → SeatState → ℕ → ℕ → List Wake → Core
moved c s y count owner wakes = record c { count = count; owner = owner; wakes = wakes; seats = with_entry c.seats s y }

-- another seat sees nothing of the move
pub sees_moved : (c : Core) (g : Ghost) (s : ℕ) (y : SeatState) (count owner : ℕ) (wakes : List Wake) (t : ℕ) (x : SeatState) → IsSeat c.seats s
    → (seat c.seats s).posts ≤ y.posts → Sees c (moved c s y count owner wakes) g g t x
sees_moved c g s y count owner wakes t x is more =
    record {
      held = refl;
      grant = refl;
      entered = refl;
      standing = refl;
      listed = λ stamp stands listed. listed;
      errand = λ u asked. asked;
      errand_link = λ u asked. refl;
      claim = λ u claims. claims;
      seats = λ u seat. IsSeat_after c s u y seat;
      old = λ n old. IsOld_after c s y n is more old;
      number = λ here above. refl;
      head = λ n most stays. stays;
      seen = λ l seen. seen;
      carrier = λ serves. record { walk = refl; popped = refl; next = refl; queue = λ queue. queue };
      budget = refl;
      pushes = refl;
      watches = λ watches place here. WatchesAt_seen c (moved c s y count owner wakes) g g t x x.point refl (λ queue. queue) (λ u waiting. waiting) (watches place here);
    }

-- the facts of each seat stay
pub fits_moved : (c : Core) (g : Ghost) (s : ℕ) (y : SeatState) (count owner : ℕ) (wakes : List Wake) (t : ℕ) (x : SeatState) (w : Wake) → IsSeat c.seats s
    → (seat c.seats s).posts ≤ y.posts → x.posts ≤ (seat c.seats t).posts → SeatFits c g t x w → SeatFits (moved c s y count owner wakes) g t x w
fits_moved c g s y count owner wakes t x w is more posts fits =
    SeatFits_seen c (moved c s y count owner wakes) g g t x w posts (sees_moved c g s y count owner wakes t x is more) fits

-- there are as many words and seats as before
pub sizes_after : (c d : Core) (s : ℕ) (y : SeatState) → d.seats ≡ with_entry c.seats s y → length d.links ≡ length c.links → length d.wakes ≡ length c.wakes
    → SizesFit c → SizesFit d
sizes_after c d s y seats links wakes sizes =
    let same : length d.seats ≡ length c.seats = ap length seats ∙ length-with_entry c.seats s y in
    record {
      links = omega (arith, sizes.links, links, same);
      wakes = omega (arith, sizes.wakes, wakes, same);
      seats = omega (arith, sizes.seats, same);
    }

-- what remains to be shown for such a move
pub moves_on : (c : Core) (g : Ghost) (s : ℕ) (y : SeatState) (count owner : ℕ) (wakes : List Wake) (place : Responsibility) (answered : ℕ) → IsSeat c.seats s → Fits c g
    → Errands c s y → length wakes ≡ length c.wakes → ((t : ℕ) → t ≢ s → wake wakes t ≡ wake c.wakes t)
    → ((t : ℕ) → t ≢ s → Sees c (moved c s y count owner wakes) g (record g { place = place; answered = answered }) t (seat c.seats t))
    → WordsFit (moved c s y count owner wakes) (record g { place = place; answered = answered })
    → SeatFits c (record g { place = place; answered = answered }) s y (wake wakes s)
    → Fits (moved c s y count owner wakes) (record g { place = place; answered = answered })
moves_on c g s y count owner wakes place answered is fits errands sized woken sees words own =
    let h : Ghost = record g { place = place; answered = answered } in
    let more : (seat c.seats s).posts ≤ y.posts = omega (arith, errands.posts_same) in
    let same : length (with_entry c.seats s y) ≡ length c.seats = length-with_entry c.seats s y in
    record {
      words = words;
      stamps = λ stamp above within. let f = fits.stamps stamp above within in record { stands = f.stands; fresh = f.fresh; walked = f.walked };
      each = each_after c (record c { count = count; owner = owner; wakes = wakes }) g h s y is refl fits more woken sees
          (fits_moved c h s y count owner wakes s y (wake wakes s) is more (omega (arith, errands.posts_same)) own);
      agents = agents_after c g.standing s y is errands fits.agents;
      sums = rw same (record { asking = fits.sums.asking; queued = fits.sums.queued; pushed = fits.sums.pushed });
      sizes = sizes_after c _ s y refl refl sized fits.sizes;
    }

-- the words fit as before if the count, the owner and the place stay the same
pub words_stay : (c : Core) (g : Ghost) (s : ℕ) (y : SeatState) (wakes : List Wake) → WordsFit c g → WordsFit (moved c s y c.count c.owner wakes) g
words_stay c g s y wakes words =
    record {
      owner = words.owner;
      handoff = HandoffFits_after c s y g.place c.handoff words.handoff;
      stamp = words.stamp;
      head = words.head;
      parts = words.parts;
      count = words.count;
      work = words.work;
      carried = words.carried;
      last = words.last;
      answers = words.answers;
      listed = words.listed;
    }

pub wake-with_same : (c : Core) (s : ℕ) (w : Wake) → IsSeat c.seats s → SizesFit c → wake (with_entry c.wakes s w) s ≡ w
wake-with_same c s w is sizes = entry-with_same Quiet c.wakes s w is.above (omega (arith, is.within, sizes.wakes))

-- seat s moves on with the same errands; its own facts are premises, in the state before and with its new state
pub view_moves : (c : Core) (g : Ghost) (s : ℕ) (y : SeatState) → IsSeat c.seats s → Fits c g → Errands c s y
    → SeatFits c g s y (wake c.wakes s) → Fits (put c s y) g
view_moves c g s y is fits errands own =
    let more : (seat c.seats s).posts ≤ y.posts = omega (arith, errands.posts_same) in
    moves_on c g s y c.count c.owner c.wakes g.place g.answered is fits errands refl (λ t other. refl)
    (λ t other. sees_moved c g s y c.count c.owner c.wakes t (seat c.seats t) is more) (words_stay c g s y c.wakes fits.words) own

-- the same, together with a write of its own wake word
pub wake_moves : (c : Core) (g : Ghost) (s : ℕ) (y : SeatState) (w : Wake) → IsSeat c.seats s → Fits c g → Errands c s y
    → SeatFits c g s y w → Fits (put (put_wake c s w) s y) g
wake_moves c g s y w is fits errands own =
    let more : (seat c.seats s).posts ≤ y.posts = omega (arith, errands.posts_same) in
    let wakes : List Wake = with_entry c.wakes s w in
    moves_on c g s y c.count c.owner wakes g.place g.answered is fits errands (length-with_entry c.wakes s w) (λ t other. entry-with_other Quiet c.wakes s t w other)
    (λ t other. sees_moved c g s y c.count c.owner wakes t (seat c.seats t) is more) (words_stay c g s y wakes fits.words)
    (rw (wake-with_same c s w is fits.sizes) own)

-- the place is `nobody`, or is with seat s and with no other seat
abbrev pub IsOf : ℕ → Responsibility → Type 0
IsOf s nobody = ⊤
IsOf s (owned t again) = t ≡ s
IsOf s (granted t stamp) = t ≡ s
IsOf s posted = ⊥
IsOf s (entering t into stamp) = (t ≡ s) × (into ≡ s)
IsOf s (accepting t) = t ≡ s
IsOf s (leaving t) = t ≡ s
IsOf s (serving t) = t ≡ s

-- The claim of a seat determines the place, and the place the claims

holder_of : (t s : ℕ) (p q : Responsibility) → q ≢ nobody → q ≡ cond (eqb t s) p nobody → p ≡ q
holder_of t s p q some e =
    elim (cases_eq t s) [
      | inl same ↦ sym (e ∙ cond-true (eqb t s) p nobody (eq-eqb t s same))
      | inr other ↦ absurd (some (e ∙ cond-false (eqb t s) p nobody (ne_eqb t s other)))
    ]

-- a claim determines the place
pub place_of_claim : (p q : Responsibility) (s : ℕ) → q ≢ nobody → q ≡ held_by p s → p ≡ q
place_of_claim nobody q s some e = absurd (some e)
place_of_claim (owned t again) q s some e = holder_of t s _ q some e
place_of_claim (granted t stamp) q s some e = absurd (some e)
place_of_claim posted q s some e = absurd (some e)
place_of_claim (entering t into stamp) q s some e = holder_of t s _ q some e
place_of_claim (accepting t) q s some e = holder_of t s _ q some e
place_of_claim (leaving t) q s some e = holder_of t s _ q some e
place_of_claim (serving t) q s some e = holder_of t s _ q some e

-- a place with seat s gives other seats no claim
pub held_by-other : (p : Responsibility) (s t : ℕ) → IsOf s p → t ≢ s → held_by p t ≡ nobody
held_by-other nobody s t by other = refl
held_by-other (owned u again) s t by other = rw (ne_eqb u t (omega arith))
held_by-other (granted u stamp) s t by other = refl
held_by-other posted s t by other = refl
held_by-other (entering u into stamp) s t by other = rw (ne_eqb u t (omega (arith, by.0)))
held_by-other (accepting u) s t by other = rw (ne_eqb u t (omega arith))
held_by-other (leaving u) s t by other = rw (ne_eqb u t (omega arith))
held_by-other (serving u) s t by other = rw (ne_eqb u t (omega arith))

pub grant_at-other : (p : Responsibility) (s t : ℕ) → IsOf s p → t ≢ s → grant_at p t ≡ None
grant_at-other nobody s t by other = refl
grant_at-other (granted u stamp) s t by other = rw (ne_eqb u t (omega arith))
grant_at-other _ s t by other = refl

pub is_entered-other : (p : Responsibility) (s t : ℕ) → IsOf s p → t ≢ s → is_entered p t ≡ false
is_entered-other (entering u into stamp) s t by other = ne_eqb into t (omega (arith, by.1))
is_entered-other _ s t by other = refl

-- the place moves between those of seat s, together with the count and the owner
pub record Moves (c : Core) (g : Ghost) (s : ℕ) (y : SeatState) (count owner : ℕ) (place : Responsibility) (answered : ℕ) : Type 0 where
  pub errands : Errands c s y
  pub before : IsOf s g.place
  pub after : IsOf s place
  pub owns : owner ≡ owner_of place
  pub units : count + own_unit g.place + again_unit g.place ≡ c.count + own_unit place + again_unit place
  pub work : WorkFits place g.asking g.pushed g.popped
  pub carried : CarriedFits place g.walk c.popped
  pub last : LastFits g.popped g.pushed_at place
  pub answers : answered + unanswered place ≡ g.popped
  pub own : SeatFits c (record g { place = place; answered = answered }) s y (wake c.wakes s)

-- another seat sees nothing of the move of the place
pub sees_place_moved : (c : Core) (g : Ghost) (s : ℕ) (y : SeatState) (count owner : ℕ) (place : Responsibility) (answered t : ℕ) (x : SeatState) → IsSeat c.seats s
    → (seat c.seats s).posts ≤ y.posts → IsOf s g.place → IsOf s place → t ≢ s
    → Sees c (moved c s y count owner c.wakes) g (record g { place = place; answered = answered }) t x
sees_place_moved c g s y count owner place answered t x is more before after other =
    record {
      held = held_by-other place s t after other ∙ sym (held_by-other g.place s t before other);
      grant = grant_at-other place s t after other ∙ sym (grant_at-other g.place s t before other);
      entered = is_entered-other place s t after other ∙ sym (is_entered-other g.place s t before other);
      standing = refl;
      listed = λ stamp stands listed. record { above = listed.above; within = listed.within; here = listed.here };
      errand = λ u asked. asked;
      errand_link = λ u asked. refl;
      claim = λ u claims. claims;
      seats = λ u seat. IsSeat_after c s u y seat;
      old = λ n old. IsOld_after c s y n is more old;
      number = λ here above. refl;
      head = λ n most stays. stays;
      seen = λ l seen. seen;
      carrier = λ serves. record { walk = refl; popped = refl; next = refl; queue = λ queue. queue };
      budget = refl;
      pushes = refl;
      watches = λ watches stands. absurd (rw stands at after);
    }

-- nothing is posted while the place is `nobody` or is with a seat
pub HandoffFits_unposted : (seats : List SeatState) (p : Responsibility) (s : ℕ) (n : Handoff) → IsOf s p → HandoffFits seats p n → n ≡ unposted
HandoffFits_unposted seats posted s n by fits = absurd by
HandoffFits_unposted seats _ s n by fits = fits

pub unposted_HandoffFits : (seats : List SeatState) (p : Responsibility) (s : ℕ) (n : Handoff) → IsOf s p → n ≡ unposted → HandoffFits seats p n
unposted_HandoffFits seats posted s n by none = absurd by
unposted_HandoffFits seats _ s n by none = none

pub place_moves : (c : Core) (g : Ghost) (s : ℕ) (y : SeatState) (count owner : ℕ) (place : Responsibility) (answered : ℕ) → IsSeat c.seats s → Fits c g
    → Moves c g s y count owner place answered
    → Fits (put (record c { count = count; owner = owner }) s y) (record g { place = place; answered = answered })
place_moves c g s y count owner place answered is fits moves =
    let errands = moves.errands in
    let more : (seat c.seats s).posts ≤ y.posts = omega (arith, errands.posts_same) in
    moves_on c g s y count owner c.wakes place answered is fits errands refl (λ t other. refl)
    (λ t other. sees_place_moved c g s y count owner place answered t (seat c.seats t) is more moves.before moves.after other)
    (record {
      owner = moves.owns;
      handoff = unposted_HandoffFits (with_entry c.seats s y) place s c.handoff moves.after (HandoffFits_unposted c.seats g.place s c.handoff moves.before fits.words.handoff);
      stamp = fits.words.stamp;
      head = fits.words.head;
      parts = fits.words.parts;
      count = omega (arith, fits.words.count, moves.units);
      work = moves.work;
      carried = moves.carried;
      last = moves.last;
      answers = moves.answers;
      listed = fits.words.listed;
    }) moves.own
