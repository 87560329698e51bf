-- What one seat's depth and point show: its part of the responsibility, its errand for another seat, its wake word, and the
-- posts and pushes that its charged takes still allow.
use Rattle.std.specs.Prelude.{ℕ, Bool, true, false, ◌+◌, ◌&&◌, ◌||◌, Option, Some, None, nat_eq, if◌then◌else◌}
use Rattle.lfm_model.specs.declared.answers.How.{How}
use Rattle.lfm_protocol.specs.declared.points.Carrier.{Carrier}
use Rattle.lfm_protocol.specs.declared.points.Entrant.{Entrant}
use Rattle.lfm_protocol.specs.declared.points.Point.{Point}
use Rattle.lfm_protocol.specs.declared.points.Point.TheVariants.{Rest, Asleep, LockCountAdd, LockOwnerLoad, LockCountSubtract, TryCountExchange, TryOwnerLoad, TryHandoffLoad, TryHandoffExchange, TryCountAdd, SendWakeExchange, SendCountAdd, SendPushRecheck, SendWakeStore, PushLoad, LinkStore, PushExchange, PushedHandoffLoad, PushedHandoffExchange, ReleaseOwnerStore, ReleaseCountSubtract, ReleaseHandoffStore, ReleasePushRecheck, ReleaseHandoffExchange, WaitWakeStore, TakeClearHead, TakeLinkLoad, GrantWakeStore, EnterOwnerStore, ReceiveWakeLoad, ReceiveWakeStore}
use Rattle.lfm_protocol.specs.declared.points.Pusher.{Pusher}
use Rattle.lfm_protocol.specs.declared.points.Releaser.{Releaser}
use Rattle.lfm_protocol.specs.declared.points.Releaser.TheVariants.{Unlocker, Waiter}
use Rattle.lfm_protocol.specs.declared.points.Sleeper.TheVariants as Sleeper
use Rattle.lfm_protocol.specs.declared.seats.SeatState.{SeatState}
use Rattle.lfm_words.specs.declared.wakes.Wake.{Wake}
use Rattle.lfm_words.specs.declared.wakes.Wake.TheVariants.{Quiet, Waiting, Claimed, Grant}
use Rattle.lfm_laws.specs.steady.Ghost.{Responsibility, nobody, owned, granted, posted, entering, accepting, leaving, serving, Standing, apart, asks, queued}
pub use Rattle.lfm_laws.specs.laws.Errands.{asks_for_at, asks_for, claims_for_at, claims_for}

-- The responsibility

-- the stamp by which the mutex was gained, 0 if it was free
abbrev pub stamp_of : How → ℕ
stamp_of How.Free = 0
stamp_of (How.Queued stamp) = stamp

-- seat s owns if it has a depth
abbrev pub by_depth : ℕ → ℕ → Bool → Responsibility
by_depth depth s again = if nat_eq depth 0 then nobody else owned s again

-- the responsibility with which seat s comes to hold: it serves if it took its own record, and else it enters
abbrev pub claim_to_enter : ℕ → Entrant → How → Responsibility
claim_to_enter s Entrant.Locker How.Free = entering s s 0
claim_to_enter s Entrant.Locker (How.Queued stamp) = serving s
claim_to_enter s Entrant.Trier how = entering s s 0
claim_to_enter s Entrant.Receiver how = entering s s (stamp_of how)

-- before its handoff load, a sender may still own the mutex, and a locker does not
abbrev pub claim_of_pusher : ℕ → ℕ → Pusher → Responsibility
claim_of_pusher depth s Pusher.Locker = nobody
claim_of_pusher depth s (Pusher.Sender t) = by_depth depth s false

-- the responsibility that a seat of this depth has at this point
abbrev pub claim_at : ℕ → ℕ → Point → Responsibility
claim_at depth s Rest = by_depth depth s false
claim_at depth s (Asleep sleeper) = nobody
claim_at depth s LockCountAdd = by_depth depth s false
claim_at depth s LockOwnerLoad = by_depth depth s true
claim_at depth s LockCountSubtract = owned s true
claim_at depth s TryCountExchange = by_depth depth s false
claim_at depth s TryOwnerLoad = by_depth depth s false
claim_at depth s TryHandoffLoad = nobody
claim_at depth s (TryHandoffExchange seen) = nobody
claim_at depth s TryCountAdd = accepting s
claim_at depth s (SendWakeExchange t) = by_depth depth s false
claim_at depth s (SendCountAdd t) = by_depth depth s false
claim_at depth s (SendPushRecheck t seen) = nobody
claim_at depth s (SendWakeStore t) = entering s t 0
claim_at depth s (PushLoad pusher) = claim_of_pusher depth s pusher
claim_at depth s (LinkStore pusher seen) = claim_of_pusher depth s pusher
claim_at depth s (PushExchange pusher seen) = claim_of_pusher depth s pusher
claim_at depth s (PushedHandoffLoad pusher) = claim_of_pusher depth s pusher
claim_at depth s (PushedHandoffExchange pusher seen) = nobody
claim_at depth s (ReleaseOwnerStore releaser) = owned s false
claim_at depth s (ReleaseCountSubtract releaser) = leaving s
claim_at depth s (ReleaseHandoffStore releaser) = serving s
claim_at depth s (ReleasePushRecheck releaser) = nobody
claim_at depth s (ReleaseHandoffExchange releaser) = nobody
claim_at depth s (WaitWakeStore released) = nobody
claim_at depth s (TakeClearHead carrier) = serving s
claim_at depth s (TakeLinkLoad carrier next) = serving s
claim_at depth s (GrantWakeStore carrier oldest) = serving s
claim_at depth s (EnterOwnerStore entrant how) = claim_to_enter s entrant how
claim_at depth s (ReceiveWakeLoad sleeper) = nobody
claim_at depth s (ReceiveWakeStore stamp) = entering s s stamp

abbrev pub claim : SeatState → ℕ → Responsibility
claim x s = claim_at x.depth s x.point

-- the part of the responsibility that seat s has
abbrev pub held_by : Responsibility → ℕ → Responsibility
held_by nobody s = nobody
held_by (owned t again) s = if nat_eq t s then owned t again else nobody
held_by (granted t stamp) s = nobody
held_by posted s = nobody
held_by (entering t into stamp) s = if nat_eq t s then entering t into stamp else nobody
held_by (accepting t) s = if nat_eq t s then accepting t else nobody
held_by (leaving t) s = if nat_eq t s then leaving t else nobody
held_by (serving t) s = if nat_eq t s then serving t else nobody

-- the grant that seat s has and has not loaded
abbrev pub grant_at : Responsibility → ℕ → Option ℕ
grant_at (granted t stamp) s = if nat_eq t s then Some stamp else None
grant_at _ s = None

-- a call is bringing seat s in
abbrev pub is_entered : Responsibility → ℕ → Bool
is_entered (entering t into stamp) s = nat_eq into s
is_entered _ s = false

-- The queue

abbrev pub is_queued : Standing → Bool
is_queued (queued stamp) = true
is_queued _ = false

abbrev pub is_asking : Standing → Bool
is_asking (asks agent) = true
is_asking _ = false

abbrev pub is_apart : Standing → Bool
is_apart apart = true
is_apart _ = false

abbrev pub is_some : Option ℕ → Bool
is_some (Some stamp) = true
is_some None = false

-- seat s is queued, or was granted what it was queued for
abbrev pub is_awaiting : Responsibility → Standing → ℕ → Bool
is_awaiting place standing s = is_queued standing || is_some (grant_at place s)

-- Wake words

-- the wake word of a seat that has slept since its start_wait: WAITING until a send claims it
abbrev pub wake_of_waiter : Responsibility → Standing → ℕ → Wake
wake_of_waiter place standing s = if is_apart standing && (if is_entered place s then false else true) then Waiting else Claimed

abbrev pub wake_at : Responsibility → Standing → ℕ → Point → Wake
wake_at place standing s (ReceiveWakeStore stamp) = Grant stamp
wake_at place standing s (Asleep Sleeper.Waiter) = wake_of_waiter place standing s
wake_at place standing s (ReceiveWakeLoad Sleeper.Waiter) = wake_of_waiter place standing s
wake_at place standing s _ = Quiet

abbrev pub wake_by : Option ℕ → Responsibility → Standing → ℕ → Point → Wake
wake_by (Some stamp) place standing s p = Grant stamp
wake_by None place standing s p = wake_at place standing s p

-- what the wake word of seat s holds
abbrev pub expected_wake : Responsibility → Standing → ℕ → Point → Wake
expected_wake place standing s p = wake_by (grant_at place s) place standing s p

-- Posts and pushes that charged takes still allow

-- a release within a start_wait also has the take of its wait
abbrev pub waits_on : Releaser → ℕ
waits_on Unlocker = 0
waits_on Waiter = 1

abbrev pub due_by_depth : ℕ → ℕ
due_by_depth depth = if nat_eq depth 0 then 0 else 1

abbrev pub due_posts_of_carrier : Carrier → ℕ
due_posts_of_carrier Carrier.Locker = 1
due_posts_of_carrier (Carrier.Releaser releaser) = 1 + waits_on releaser
due_posts_of_carrier (Carrier.Reclaimer releaser) = waits_on releaser
due_posts_of_carrier Carrier.Sender = 0

abbrev pub due_posts_of_granter : Carrier → ℕ
due_posts_of_granter Carrier.Locker = 1
due_posts_of_granter (Carrier.Releaser releaser) = waits_on releaser
due_posts_of_granter (Carrier.Reclaimer releaser) = waits_on releaser
due_posts_of_granter Carrier.Sender = 0

abbrev pub due_posts_of_pusher : ℕ → Pusher → ℕ
due_posts_of_pusher depth Pusher.Locker = 1
due_posts_of_pusher depth (Pusher.Sender t) = due_by_depth depth

abbrev pub due_posts_at : ℕ → Point → ℕ
due_posts_at depth Rest = due_by_depth depth
due_posts_at depth (SendWakeExchange t) = due_by_depth depth
due_posts_at depth (SendCountAdd t) = due_by_depth depth
due_posts_at depth (SendPushRecheck t seen) = 0
due_posts_at depth (SendWakeStore t) = 0
due_posts_at depth (PushLoad pusher) = due_posts_of_pusher depth pusher
due_posts_at depth (LinkStore pusher seen) = due_posts_of_pusher depth pusher
due_posts_at depth (PushExchange pusher seen) = due_posts_of_pusher depth pusher
due_posts_at depth (PushedHandoffLoad pusher) = due_posts_of_pusher depth pusher
due_posts_at depth (PushedHandoffExchange pusher seen) = due_posts_of_pusher 0 pusher
due_posts_at depth (ReleaseOwnerStore releaser) = 1 + waits_on releaser
due_posts_at depth (ReleaseCountSubtract releaser) = 1 + waits_on releaser
due_posts_at depth (ReleaseHandoffStore releaser) = 1 + waits_on releaser
due_posts_at depth (ReleasePushRecheck releaser) = waits_on releaser
due_posts_at depth (ReleaseHandoffExchange releaser) = waits_on releaser
due_posts_at depth (TakeClearHead carrier) = due_posts_of_carrier carrier
due_posts_at depth (TakeLinkLoad carrier next) = due_posts_of_carrier carrier
due_posts_at depth (GrantWakeStore carrier oldest) = due_posts_of_granter carrier
due_posts_at depth _ = 1

abbrev pub due_posts : SeatState → ℕ
due_posts x = due_posts_at x.depth x.point

abbrev pub due_unless_held : ℕ → ℕ
due_unless_held depth = if nat_eq depth 0 then 1 else 0

-- a waiter's take pays for the push by the send that wakes it
abbrev pub due_to_waiter : Wake → Standing → ℕ
due_to_waiter Waiting standing = 1
due_to_waiter Claimed standing = if is_queued standing then 0 else 1
due_to_waiter _ standing = 0

abbrev pub due_pushes_of_pusher : Pusher → ℕ
due_pushes_of_pusher Pusher.Locker = 1
due_pushes_of_pusher (Pusher.Sender t) = 0

abbrev pub due_pushes_of_carrier : Carrier → ℕ
due_pushes_of_carrier (Carrier.Releaser releaser) = waits_on releaser
due_pushes_of_carrier (Carrier.Reclaimer releaser) = waits_on releaser
due_pushes_of_carrier _ = 0

abbrev pub due_pushes_at : ℕ → Wake → Standing → Point → ℕ
due_pushes_at depth wake standing (Asleep Sleeper.Waiter) = due_to_waiter wake standing
due_pushes_at depth wake standing (ReceiveWakeLoad Sleeper.Waiter) = due_to_waiter wake standing
due_pushes_at depth wake standing LockCountAdd = due_unless_held depth
due_pushes_at depth wake standing LockOwnerLoad = due_unless_held depth
due_pushes_at depth wake standing TryCountExchange = due_unless_held depth
due_pushes_at depth wake standing TryOwnerLoad = due_unless_held depth
due_pushes_at depth wake standing TryHandoffLoad = 1
due_pushes_at depth wake standing (TryHandoffExchange seen) = 1
due_pushes_at depth wake standing (PushLoad pusher) = due_pushes_of_pusher pusher
due_pushes_at depth wake standing (LinkStore pusher seen) = due_pushes_of_pusher pusher
due_pushes_at depth wake standing (PushExchange pusher seen) = due_pushes_of_pusher pusher
due_pushes_at depth wake standing (ReleaseOwnerStore releaser) = waits_on releaser
due_pushes_at depth wake standing (ReleaseCountSubtract releaser) = waits_on releaser
due_pushes_at depth wake standing (ReleaseHandoffStore releaser) = waits_on releaser
due_pushes_at depth wake standing (ReleasePushRecheck releaser) = waits_on releaser
due_pushes_at depth wake standing (ReleaseHandoffExchange releaser) = waits_on releaser
due_pushes_at depth wake standing (WaitWakeStore released) = 1
due_pushes_at depth wake standing (TakeClearHead carrier) = due_pushes_of_carrier carrier
due_pushes_at depth wake standing (TakeLinkLoad carrier next) = due_pushes_of_carrier carrier
due_pushes_at depth wake standing (GrantWakeStore carrier oldest) = due_pushes_of_carrier carrier
due_pushes_at depth wake standing _ = 0

abbrev pub due_pushes : SeatState → Wake → Standing → ℕ
due_pushes x wake standing = due_pushes_at x.depth wake standing x.point
