-- The invariant, which every start of a call and every step keeps: some ghost fits the state. It has one set of facts for each
-- seat, some facts of the words and the queue, and three sums. No fact is about two arbitrary seats.
use Rattle.std.specs.Prelude.{◌≡◌, ◌≢◌, ◌⊎◌, ⊤, ℕ, Bool, true, false, ◌+◌, ◌-◌, ◌^◌, ◌<◌, ◌≤◌, List, [], ◌∷◌, length, nat_eq, if◌then◌else◌}
use Rattle.lfm_model.specs.declared.answers.How.{How}
use Rattle.lfm_protocol.specs.declared.points.Carrier.{Carrier}
use Rattle.lfm_protocol.specs.declared.points.Entrant.{Entrant}
use Rattle.lfm_protocol.specs.declared.points.Point.{Point}
use Rattle.lfm_protocol.specs.declared.points.Point.TheVariants.{Rest, Asleep, LockCountAdd, LockOwnerLoad, LockCountSubtract, TryCountExchange, TryOwnerLoad, TryHandoffExchange, SendWakeExchange, SendCountAdd, SendPushRecheck, SendWakeStore, PushLoad, LinkStore, PushExchange, PushedHandoffLoad, PushedHandoffExchange, ReleaseOwnerStore, ReleaseHandoffStore, ReleasePushRecheck, ReleaseHandoffExchange, TakeClearHead, TakeLinkLoad, GrantWakeStore, EnterOwnerStore, ReceiveWakeLoad}
use Rattle.lfm_protocol.specs.declared.points.Pusher.{Pusher}
use Rattle.lfm_protocol.specs.declared.points.Sleeper.TheVariants as Sleeper
use Rattle.lfm_protocol.specs.declared.seats.SeatState.{SeatState}
use Rattle.lfm_words.specs.declared.handoffs.Handoff.{Handoff}
use Rattle.lfm_words.specs.declared.links.Link.{Link}
use Rattle.lfm_words.specs.declared.pop_lists.Record.{Record}
use Rattle.lfm_words.specs.declared.wakes.Wake.{Wake}
use Rattle.lfm_protocol.specs.Core.{Core}
use Rattle.lfm_protocol.specs.Limits.{max_depth, max_seats}
use Rattle.lfm_laws.specs.steady.Ghost.{Responsibility, nobody, owned, granted, posted, entering, accepting, leaving, serving, Standing, apart, claimed, asks, queued, Ghost}
use Rattle.lfm_laws.specs.steady.Numbered.{records}
use Rattle.lfm_model.specs.Sums.{sum_to}
use Rattle.lfm_protocol.specs.Points.{pushed_seat}
use Rattle.lfm_protocol.specs.Seats.{seat, link, wake, unposted, IsSeat}
use Rattle.lfm_laws.specs.steady.Views.{claim, held_by, grant_at, is_entered, asks_for, claims_for, is_queued, is_asking, is_some, is_awaiting, expected_wake, due_posts, due_pushes}

-- Words and numbers that a seat has seen

-- the push word has a later stamp than the one that was seen, or is the same, or its list was cleared
pub record IsSeen (push seen : Link) : Type 0 where
  pub older : seen.stamp ≤ push.stamp
  pub same : seen.stamp ≡ push.stamp → (push.next ≡ seen.next) ⊎ (push.next ≡ 0)

-- a handoff number that was posted
pub record IsOld (seats : List SeatState) (seen : Handoff) : Type 0 where
  pub above : 0 < seen.seat
  pub before : seen.post ≤ (seat seats seen.seat).posts

-- some seat is queued
abbrev pub HasQueue : Ghost → Type 0
HasQueue g = g.popped < g.pushed

-- while this handoff is posted, some seat is queued
abbrev pub HeadStays : Core → Ghost → Handoff → Type 0
HeadStays c g seen = c.handoff ≡ seen → 0 < seen.seat → HasQueue g

-- no cleared record is left to collect
abbrev pub HasWalked : Ghost → Type 0
HasWalked g = g.walk ≡ 0

-- the pop list's first record is this
abbrev pub IsOldest : Core → Record → Type 0
IsOldest c r = (rest : List Record) × (c.popped ≡ r ∷ rest)

-- What a seat at a point knows

abbrev pub ErrandFits : Ghost → ℕ → Pusher → Type 0
ErrandFits g s Pusher.Locker = ⊤
ErrandFits g s (Pusher.Sender t) = (t ≢ s) × (g.standing t ≡ asks s)

abbrev pub PushedFits : Core → Ghost → Handoff → Pusher → Type 0
PushedFits c g seen Pusher.Locker = ⊤
PushedFits c g seen (Pusher.Sender t) = HeadStays c g seen

-- a reclaimer or a sender knows that some seat is queued
abbrev pub KnowsRecord : Ghost → Carrier → Type 0
KnowsRecord g Carrier.Locker = ⊤
KnowsRecord g (Carrier.Releaser releaser) = ⊤
KnowsRecord g (Carrier.Reclaimer releaser) = HasQueue g
KnowsRecord g Carrier.Sender = HasQueue g

-- a locker gives its own record to no other seat
abbrev pub GivesAway : ℕ → Record → Carrier → Type 0
GivesAway s r Carrier.Locker = r.seat ≢ s
GivesAway s r _ = ⊤

abbrev pub EntersFits : Core → Ghost → ℕ → Entrant → How → Type 0
EntersFits c g s Entrant.Locker How.Free = ⊤
EntersFits c g s Entrant.Locker (How.Queued stamp) = HasWalked g × IsOldest c (record { seat = s; stamp = stamp })
EntersFits c g s Entrant.Trier how = how ≡ How.Free
EntersFits c g s Entrant.Receiver How.Free = ⊤
EntersFits c g s Entrant.Receiver (How.Queued stamp) = 0 < stamp

abbrev pub KnowsAt : Core → Ghost → ℕ → ℕ → Point → Type 0
KnowsAt c g s posts (PushLoad pusher) = ErrandFits g s pusher
KnowsAt c g s posts (LinkStore pusher seen) = ErrandFits g s pusher × IsSeen c.push seen
KnowsAt c g s posts (PushExchange pusher seen) =
    ErrandFits g s pusher × IsSeen c.push seen × (link c.links (pushed_seat pusher s) ≡ record { stamp = seen.stamp + 1; next = seen.next })
KnowsAt c g s posts (PushedHandoffExchange pusher seen) = IsOld c.seats seen × PushedFits c g seen pusher
KnowsAt c g s posts (TryHandoffExchange seen) = IsOld c.seats seen
KnowsAt c g s posts (SendWakeExchange t) = IsSeat c.seats t
KnowsAt c g s posts (SendCountAdd t) = (t ≢ s) × (g.standing t ≡ claimed s)
KnowsAt c g s posts (SendPushRecheck t seen) = IsOld c.seats seen
KnowsAt c g s posts (SendWakeStore t) = t ≢ s
KnowsAt c g s posts (ReleaseHandoffStore releaser) = HasWalked g × (c.popped ≡ [])
KnowsAt c g s posts (ReleaseHandoffExchange releaser) = HeadStays c g (record { seat = s; post = posts })
KnowsAt c g s posts (TakeClearHead carrier) = HasWalked g × (c.popped ≡ []) × KnowsRecord g carrier
KnowsAt c g s posts (TakeLinkLoad carrier next) = (0 < g.walk) × (next ≡ g.pushed_at (g.popped + g.walk))
KnowsAt c g s posts (GrantWakeStore carrier oldest) = HasWalked g × IsOldest c oldest × GivesAway s oldest carrier
KnowsAt c g s posts (EnterOwnerStore entrant how) = EntersFits c g s entrant how
KnowsAt c g s posts _ = ⊤

-- how deep a seat at this point can hold
abbrev pub DepthOfPusher : ℕ → Pusher → Type 0
DepthOfPusher depth Pusher.Locker = depth ≡ 0
DepthOfPusher depth (Pusher.Sender t) = depth ≤ max_depth

abbrev pub DepthAt : ℕ → Point → Type 0
DepthAt depth Rest = depth ≤ max_depth
DepthAt depth LockCountAdd = depth < max_depth
DepthAt depth LockOwnerLoad = depth < max_depth
DepthAt depth LockCountSubtract = (0 < depth) × (depth < max_depth)
DepthAt depth TryCountExchange = depth < max_depth
DepthAt depth TryOwnerLoad = depth < max_depth
DepthAt depth (SendWakeExchange t) = depth ≤ max_depth
DepthAt depth (SendCountAdd t) = depth ≤ max_depth
DepthAt depth (PushLoad pusher) = DepthOfPusher depth pusher
DepthAt depth (LinkStore pusher seen) = DepthOfPusher depth pusher
DepthAt depth (PushExchange pusher seen) = DepthOfPusher depth pusher
DepthAt depth (PushedHandoffLoad pusher) = DepthOfPusher depth pusher
DepthAt depth (ReleaseOwnerStore releaser) = depth ≡ 1
DepthAt depth _ = depth ≡ 0

-- the standing that a seat at this point has
abbrev pub StandsAsPusher : ℕ → Standing → Pusher → Type 0
StandsAsPusher s standing Pusher.Locker = standing ≡ asks s
StandsAsPusher s standing (Pusher.Sender t) = standing ≡ apart

abbrev pub AwaitsAsPusher : Responsibility → ℕ → Standing → Pusher → Type 0
AwaitsAsPusher place s standing Pusher.Locker = is_awaiting place standing s ≡ true
AwaitsAsPusher place s standing (Pusher.Sender t) = standing ≡ apart

abbrev pub StandsAsCarrier : Standing → Carrier → Type 0
StandsAsCarrier standing Carrier.Locker = is_queued standing ≡ true
StandsAsCarrier standing _ = standing ≡ apart

abbrev pub StandsAsEntrant : Standing → Entrant → How → Type 0
StandsAsEntrant standing Entrant.Locker (How.Queued stamp) = is_queued standing ≡ true
StandsAsEntrant standing _ how = standing ≡ apart

abbrev pub StandsAt : Responsibility → ℕ → ℕ → Standing → Point → Type 0
StandsAt place depth s standing (Asleep Sleeper.Locker) = is_awaiting place standing s ≡ true
StandsAt place depth s standing (Asleep Sleeper.Waiter) = ⊤
StandsAt place depth s standing (ReceiveWakeLoad Sleeper.Locker) = is_awaiting place standing s ≡ true
StandsAt place depth s standing (ReceiveWakeLoad Sleeper.Waiter) = ⊤
StandsAt place depth s standing LockOwnerLoad = standing ≡ (if nat_eq depth 0 then asks s else apart)
StandsAt place depth s standing (PushLoad pusher) = StandsAsPusher s standing pusher
StandsAt place depth s standing (LinkStore pusher seen) = StandsAsPusher s standing pusher
StandsAt place depth s standing (PushExchange pusher seen) = StandsAsPusher s standing pusher
StandsAt place depth s standing (PushedHandoffLoad pusher) = AwaitsAsPusher place s standing pusher
StandsAt place depth s standing (PushedHandoffExchange pusher seen) = AwaitsAsPusher place s standing pusher
StandsAt place depth s standing (TakeClearHead carrier) = StandsAsCarrier standing carrier
StandsAt place depth s standing (TakeLinkLoad carrier next) = StandsAsCarrier standing carrier
StandsAt place depth s standing (GrantWakeStore carrier oldest) = StandsAsCarrier standing carrier
StandsAt place depth s standing (EnterOwnerStore entrant how) = StandsAsEntrant standing entrant how
StandsAt place depth s standing _ = standing ≡ apart

-- a seat at this point will load its wake word before it begins any other call
abbrev pub awaits_grant : Point → Bool
awaits_grant (Asleep sleeper) = true
awaits_grant (ReceiveWakeLoad sleeper) = true
awaits_grant (PushedHandoffLoad Pusher.Locker) = true
awaits_grant (PushedHandoffExchange Pusher.Locker seen) = true
awaits_grant _ = false

-- a seat at this point has slept since a start_wait
abbrev pub sleeps_as_waiter : Point → Bool
sleeps_as_waiter (Asleep Sleeper.Waiter) = true
sleeps_as_waiter (ReceiveWakeLoad Sleeper.Waiter) = true
sleeps_as_waiter _ = false

-- The watcher of a posted handoff

-- a send that has pushed watches while its target is queued
abbrev pub WatchesAsPusher : Ghost → Pusher → Type 0
WatchesAsPusher g Pusher.Locker = ⊤
WatchesAsPusher g (Pusher.Sender t) = is_queued (g.standing t) ≡ true

-- the call of seat s has yet to load the handoff, or has made or loaded it and has yet to try to take it
abbrev pub WatchesAt : Core → Ghost → ℕ → SeatState → Point → Type 0
WatchesAt c g s x LockOwnerLoad = x.depth ≡ 0
WatchesAt c g s x (PushLoad pusher) = ⊤
WatchesAt c g s x (LinkStore pusher seen) = ⊤
WatchesAt c g s x (PushExchange pusher seen) = ⊤
WatchesAt c g s x (PushedHandoffLoad pusher) = WatchesAsPusher g pusher
WatchesAt c g s x (SendPushRecheck t seen) = (c.handoff ≡ seen) × (is_queued (g.standing t) ≡ true)
WatchesAt c g s x (PushedHandoffExchange pusher seen) = c.handoff ≡ seen
WatchesAt c g s x (ReleasePushRecheck releaser) = (c.handoff ≡ record { seat = s; post = x.posts }) × HasQueue g
WatchesAt c g s x (ReleaseHandoffExchange releaser) = c.handoff ≡ record { seat = s; post = x.posts }
WatchesAt c g s x _ = ⊥

-- The facts of one seat with state x and wake word w

-- its record is at the stamp that its standing gives
pub record QueuedFits (g : Ghost) (s stamp : ℕ) : Type 0 where
  pub above : g.popped < stamp
  pub within : stamp ≤ g.pushed
  pub here : g.pushed_at stamp ≡ s

pub record SeatFits (c : Core) (g : Ghost) (s : ℕ) (x : SeatState) (w : Wake) : Type 0 where
  pub claims : claim x s ≡ held_by g.place s
  pub woken : w ≡ expected_wake g.place (g.standing s) s x.point
  pub granted : is_some (grant_at g.place s) ≡ true → (awaits_grant x.point ≡ true) × (g.standing s ≡ apart)
  pub entered : is_entered g.place s ≡ true → held_by g.place s ≡ nobody → (sleeps_as_waiter x.point ≡ true) × (g.standing s ≡ apart)
  pub listed : (stamp : ℕ) → g.standing s ≡ queued stamp → QueuedFits g s stamp
  pub stands : StandsAt g.place x.depth s (g.standing s) x.point
  pub depth : DepthAt x.depth x.point
  pub knows : KnowsAt c g s x.posts x.point
  pub number : c.handoff.seat ≡ s → 0 < s → c.handoff.post ≡ x.posts
  pub takes : x.takes ≤ c.budget
  pub posts : x.posts + due_posts x ≤ x.takes
  pub pushes : g.pushes s + due_pushes x w (g.standing s) ≤ x.takes
  pub watches : g.place ≡ posted → g.watcher ≡ s → WatchesAt c g s x x.point

-- the call that has counted or claimed a seat is still on that errand
pub record AgentFits (seats : List SeatState) (standing : Standing) (s : ℕ) : Type 0 where
  pub asked : (agent : ℕ) → standing ≡ asks agent → asks_for (seat seats agent) agent ≡ s
  pub sent : (agent : ℕ) → standing ≡ claimed agent → claims_for (seat seats agent) ≡ s

-- The facts of the words

abbrev pub owner_of : Responsibility → ℕ
owner_of (owned s again) = s
owner_of _ = 0

abbrev pub HandoffFits : List SeatState → Responsibility → Handoff → Type 0
HandoffFits seats posted handoff = IsSeat seats handoff.seat
HandoffFits seats _ handoff = handoff ≡ unposted

-- the newest record that is not cleared, 0 if all are
abbrev pub newest : ℕ → ℕ → (ℕ → ℕ) → ℕ
newest up_to pushed pushed_at = if nat_eq up_to pushed then 0 else pushed_at pushed

-- the unit of the count that belongs to the place
abbrev pub own_unit : Responsibility → ℕ
own_unit (owned s again) = 1
own_unit (granted s stamp) = 1
own_unit (entering s into stamp) = 1
own_unit (leaving s) = 1
own_unit _ = 0

-- the unit of a recursive lock between its add and its subtract
abbrev pub again_unit : Responsibility → ℕ
again_unit (owned s again) = if again then 1 else 0
again_unit _ = 0

-- what each place requires of how many seats ask, and of how many are queued
abbrev pub WorkFits : Responsibility → ℕ → ℕ → ℕ → Type 0
WorkFits nobody asking pushed popped = (asking ≡ 0) × (pushed ≡ popped)
WorkFits posted asking pushed popped = popped < asking + pushed
WorkFits (serving s) asking pushed popped = popped < asking + pushed
WorkFits (accepting s) asking pushed popped = popped < asking + pushed
WorkFits _ asking pushed popped = ⊤

-- only a serving call collects records, and while a handoff is posted the pop list is empty
abbrev pub CarriedFits : Responsibility → ℕ → List Record → Type 0
CarriedFits (serving s) walk popped = ⊤
CarriedFits posted walk popped = (walk ≡ 0) × (popped ≡ [])
CarriedFits _ walk popped = walk ≡ 0

-- a grant that is not free has the stamp of the record popped last
abbrev pub GrantFits : ℕ → (ℕ → ℕ) → ℕ → ℕ → Type 0
GrantFits popped pushed_at s stamp = 0 < stamp → (stamp ≡ popped) × (pushed_at stamp ≡ s)

abbrev pub LastFits : ℕ → (ℕ → ℕ) → Responsibility → Type 0
LastFits popped pushed_at (granted s stamp) = GrantFits popped pushed_at s stamp
LastFits popped pushed_at (entering s into stamp) = GrantFits popped pushed_at into stamp
LastFits popped pushed_at _ = ⊤

-- 1 if a record was popped and its seat does not hold yet
abbrev pub unanswered : Responsibility → ℕ
unanswered (granted s stamp) = if nat_eq stamp 0 then 0 else 1
unanswered (entering s into stamp) = if nat_eq stamp 0 then 0 else 1
unanswered _ = 0

-- the seat of the record before this one, in a part of the queue that begins after the stamp `first`; 0 if this record is the
-- first there
abbrev pub before : (ℕ → ℕ) → ℕ → ℕ → ℕ
before pushed_at first stamp = if nat_eq stamp (first + 1) then 0 else pushed_at (stamp - 1)

-- the stamp up to which records are popped, being collected, or in the pop list; those with later stamps are in the push list
abbrev pub cleared : Core → Ghost → ℕ
cleared c g = g.popped + g.walk + length c.popped

pub record WordsFit (c : Core) (g : Ghost) : Type 0 where
  pub owner : c.owner ≡ owner_of g.place
  pub handoff : HandoffFits c.seats g.place c.handoff
  pub stamp : c.push.stamp ≡ g.pushed
  pub head : c.push.next ≡ newest (cleared c g) g.pushed g.pushed_at
  pub parts : cleared c g ≤ g.pushed
  pub count : c.count + g.popped ≡ g.asking + g.pushed + own_unit g.place + again_unit g.place
  pub work : WorkFits g.place g.asking g.pushed g.popped
  pub carried : CarriedFits g.place g.walk c.popped
  pub last : LastFits g.popped g.pushed_at g.place
  pub answers : g.answered + unanswered g.place ≡ g.popped
  pub listed : c.popped ≡ records g.pushed_at (g.popped + g.walk) (length c.popped)

-- the record with this stamp: its seat is queued with it, and its link leads to the record before it in its part of the queue
pub record StampFits (c : Core) (g : Ghost) (stamp : ℕ) : Type 0 where
  pub stands : g.standing (g.pushed_at stamp) ≡ queued stamp
  pub fresh : cleared c g < stamp → link c.links (g.pushed_at stamp) ≡ record { stamp = stamp; next = before g.pushed_at (cleared c g) stamp }
  pub walked : stamp ≤ g.popped + g.walk → link c.links (g.pushed_at stamp) ≡ record { stamp = stamp; next = before g.pushed_at g.popped stamp }

-- The sums over the seats

abbrev pub asking_unit : Standing → ℕ
asking_unit standing = if is_asking standing then 1 else 0

abbrev pub queued_unit : Standing → ℕ
queued_unit standing = if is_queued standing then 1 else 0

pub record SumsFit (seats : ℕ) (g : Ghost) : Type 0 where
  pub asking : g.asking ≡ sum_to (λ s. asking_unit (g.standing s)) seats
  pub queued : g.pushed ≡ g.popped + sum_to (λ s. queued_unit (g.standing s)) seats
  pub pushed : g.pushed ≡ sum_to g.pushes seats

-- how many seats there are; each has its words
pub record SizesFit (c : Core) : Type 0 where
  pub links : length c.links ≡ length c.seats
  pub wakes : length c.wakes ≡ length c.seats
  pub seats : length c.seats ≤ max_seats

-- the stamp and the posts fit their words, and so do those of each next step
pub record NumbersFit (c : Core) : Type 0 where
  pub stamp : c.push.stamp + 1 < 2 ^ 48
  pub posts : (s : ℕ) → (seat c.seats s).posts + 1 < 2 ^ 48

pub record Fits (c : Core) (g : Ghost) : Type 0 where
  pub words : WordsFit c g
  pub stamps : (stamp : ℕ) → g.popped < stamp → stamp ≤ g.pushed → StampFits c g stamp
  pub each : (s : ℕ) → SeatFits c g s (seat c.seats s) (wake c.wakes s)
  pub agents : (s : ℕ) → AgentFits c.seats (g.standing s) s
  pub sums : SumsFit (length c.seats) g
  pub sizes : SizesFit c

pub record Steady (c : Core) : Type 0 where
  pub ghost_state : Ghost
  pub fits : Fits c ghost_state
