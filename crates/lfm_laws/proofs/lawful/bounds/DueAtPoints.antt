-- Upper bounds, at each point, on what an open call has yet to do while others interleave: its steps while the push word stays
-- the same, and its own changes of the push word.
use Rattle.std.proofs.Common.{◌≡◌, ℕ, Bool, true, false, ◌+◌, ◌≤◌, refl, sym, arith, inl, inr, if◌then◌else◌}
use Rattle.std.proofs.lemmas.Bool.{cases_Bool, false≢true}
use Rattle.lfm_protocol.specs.declared.points.Carrier.{Carrier}
use Rattle.lfm_protocol.specs.declared.points.Point.{Point}
use Rattle.lfm_protocol.specs.declared.points.Point.TheVariants.{Rest, Asleep, LockCountAdd, LockOwnerLoad, LockCountSubtract, TryCountExchange, TryOwnerLoad, TryHandoffLoad, TryHandoffExchange, TryCountAdd, SendWakeExchange, SendCountAdd, SendPushRecheck, SendWakeStore, PushLoad, LinkStore, PushExchange, PushedHandoffLoad, PushedHandoffExchange, ReleaseOwnerStore, ReleaseCountSubtract, ReleaseHandoffStore, ReleasePushRecheck, ReleaseHandoffExchange, WaitWakeStore, TakeClearHead, TakeLinkLoad, GrantWakeStore, EnterOwnerStore, ReceiveWakeLoad, ReceiveWakeStore}
use Rattle.lfm_protocol.specs.declared.points.Pusher.{Pusher}
use Rattle.lfm_protocol.specs.declared.points.Releaser.{Releaser}
use Rattle.lfm_protocol.specs.declared.points.Releaser.TheVariants.{Unlocker, Waiter}
use Rattle.lfm_words.specs.declared.links.Link.{Link}
use Rattle.lfm_words.specs.Popped.{oldest}
use Rattle.lfm_protocol.specs.After.{same_link}
use Rattle.lfm_laws.specs.laws.Progress.{changed_push}
use Rattle.lfm_laws.specs.laws.Schedules.{is_call}
use Rattle.lfm_laws.specs.steady.Views.{waits_on}
use Rattle.lfm_laws.proofs.lawful.bounds.ReleaseFalls.{wait_of}
use Rattle.lfm_laws.proofs.lawful.bounds.StepsFall.{same_link_self}

-- Steps

-- a push exchange that expects another word fails, and its link is stored once more
abbrev pub again_unless : Bool → ℕ
again_unless same = if same then 0 else 2

-- a locker collects its own record too, and has no later wake store of a start_wait
abbrev pub due_to_walk : ℕ → Carrier → ℕ
due_to_walk room Carrier.Locker = room + 1
due_to_walk room carrier = room + wait_of carrier

-- a releaser that finds no record posts, and may take its post back and clear the push list again
abbrev pub due_to_clear : ℕ → Carrier → ℕ
due_to_clear seats Carrier.Locker = seats + 2
due_to_clear seats (Carrier.Releaser releaser) = seats + 5 + waits_on releaser
due_to_clear seats (Carrier.Reclaimer releaser) = seats + 1 + waits_on releaser
due_to_clear seats Carrier.Sender = seats + 1

abbrev pub due_to_exchange : ℕ → Pusher → ℕ
due_to_exchange seats Pusher.Locker = seats + 3
due_to_exchange seats (Pusher.Sender t) = seats + 2

-- an upper bound on the steps of a call at this point, with this number of seats and room for this number of records in the pop
-- list
abbrev pub due_at : Link → ℕ → ℕ → Point → ℕ
due_at push seats room Rest = 0
due_at push seats room (Asleep sleeper) = 0
due_at push seats room LockCountAdd = seats + 9
due_at push seats room LockOwnerLoad = seats + 8
due_at push seats room LockCountSubtract = 1
due_at push seats room TryCountExchange = 6
due_at push seats room TryOwnerLoad = 5
due_at push seats room TryHandoffLoad = 4
due_at push seats room (TryHandoffExchange seen) = 3
due_at push seats room TryCountAdd = 2
due_at push seats room (SendWakeExchange t) = seats + 9
due_at push seats room (SendCountAdd t) = seats + 8
due_at push seats room (SendPushRecheck t seen) = seats + 3
due_at push seats room (SendWakeStore t) = 1
due_at push seats room (PushLoad pusher) = seats + 7
due_at push seats room (LinkStore pusher seen) = seats + 6 + again_unless (same_link push seen)
due_at push seats room (PushExchange pusher seen) = seats + 5 + again_unless (same_link push seen)
due_at push seats room (PushedHandoffLoad pusher) = seats + 4
due_at push seats room (PushedHandoffExchange pusher seen) = due_to_exchange seats pusher
due_at push seats room (ReleaseOwnerStore releaser) = seats + 7 + waits_on releaser
due_at push seats room (ReleaseCountSubtract releaser) = seats + 6 + waits_on releaser
due_at push seats room (ReleaseHandoffStore releaser) = seats + 4 + waits_on releaser
due_at push seats room (ReleasePushRecheck releaser) = seats + 3 + waits_on releaser
due_at push seats room (ReleaseHandoffExchange releaser) = seats + 2 + waits_on releaser
due_at push seats room (WaitWakeStore released) = 1
due_at push seats room (TakeClearHead carrier) = due_to_clear seats carrier
due_at push seats room (TakeLinkLoad carrier next) = due_to_walk room carrier
due_at push seats room (GrantWakeStore carrier oldest) = 1 + wait_of carrier
due_at push seats room (EnterOwnerStore entrant how) = 1
due_at push seats room (ReceiveWakeLoad sleeper) = 3
due_at push seats room (ReceiveWakeStore stamp) = 2

-- Changes of the push word: a push, and the clearing of a list with records

abbrev pub changes_at : Point → ℕ
changes_at LockCountAdd = 2
changes_at LockOwnerLoad = 2
changes_at (SendWakeExchange t) = 2
changes_at (SendCountAdd t) = 2
changes_at (SendPushRecheck t seen) = 1
changes_at (PushLoad pusher) = 2
changes_at (LinkStore pusher seen) = 2
changes_at (PushExchange pusher seen) = 2
changes_at (PushedHandoffLoad pusher) = 1
changes_at (PushedHandoffExchange pusher seen) = 1
changes_at (ReleaseOwnerStore releaser) = 1
changes_at (ReleaseCountSubtract releaser) = 1
changes_at (ReleaseHandoffStore releaser) = 1
changes_at (ReleasePushRecheck releaser) = 1
changes_at (ReleaseHandoffExchange releaser) = 1
changes_at (TakeClearHead carrier) = 1
changes_at _ = 0

-- Upper bounds of both

waits_on-le : (releaser : Releaser) → waits_on releaser ≤ 1
waits_on-le Unlocker = omega arith
waits_on-le Waiter = omega arith

pub again_unless-le : (same : Bool) → again_unless same ≤ 2
again_unless-le true = omega arith
again_unless-le false = omega arith

wait_of-le : (carrier : Carrier) → wait_of carrier ≤ 1
wait_of-le Carrier.Locker = omega arith
wait_of-le (Carrier.Releaser releaser) = waits_on-le releaser
wait_of-le (Carrier.Reclaimer releaser) = waits_on-le releaser
wait_of-le Carrier.Sender = omega arith

due_to_walk-le : (room : ℕ) (carrier : Carrier) → due_to_walk room carrier ≤ room + 1
due_to_walk-le room Carrier.Locker = omega arith
due_to_walk-le room (Carrier.Releaser releaser) = omega (arith, waits_on-le releaser)
due_to_walk-le room (Carrier.Reclaimer releaser) = omega (arith, waits_on-le releaser)
due_to_walk-le room Carrier.Sender = omega arith

due_to_clear-le : (seats : ℕ) (carrier : Carrier) → due_to_clear seats carrier ≤ seats + 6
due_to_clear-le seats Carrier.Locker = omega arith
due_to_clear-le seats (Carrier.Releaser releaser) = omega (arith, waits_on-le releaser)
due_to_clear-le seats (Carrier.Reclaimer releaser) = omega (arith, waits_on-le releaser)
due_to_clear-le seats Carrier.Sender = omega arith

due_to_exchange-le : (seats : ℕ) (pusher : Pusher) → due_to_exchange seats pusher ≤ seats + 3
due_to_exchange-le seats Pusher.Locker = omega arith
due_to_exchange-le seats (Pusher.Sender t) = omega arith

pub due_at-le : (push : Link) (seats room : ℕ) (p : Point) → room ≤ seats → due_at push seats room p ≤ seats + 9
due_at-le push seats room (LinkStore pusher seen) few = omega (arith, again_unless-le (same_link push seen))
due_at-le push seats room (PushExchange pusher seen) few = omega (arith, again_unless-le (same_link push seen))
due_at-le push seats room (PushedHandoffExchange pusher seen) few = omega (arith, due_to_exchange-le seats pusher)
due_at-le push seats room (ReleaseOwnerStore releaser) few = omega (arith, waits_on-le releaser)
due_at-le push seats room (ReleaseCountSubtract releaser) few = omega (arith, waits_on-le releaser)
due_at-le push seats room (ReleaseHandoffStore releaser) few = omega (arith, waits_on-le releaser)
due_at-le push seats room (ReleasePushRecheck releaser) few = omega (arith, waits_on-le releaser)
due_at-le push seats room (ReleaseHandoffExchange releaser) few = omega (arith, waits_on-le releaser)
due_at-le push seats room (TakeClearHead carrier) few = omega (arith, due_to_clear-le seats carrier)
due_at-le push seats room (TakeLinkLoad carrier next) few = omega (arith, few, due_to_walk-le room carrier)
due_at-le push seats room (GrantWakeStore carrier oldest) few = omega (arith, wait_of-le carrier)
due_at-le push seats room _ few = omega arith

pub changes_at-le : (p : Point) → changes_at p ≤ 2
changes_at-le LockCountAdd = omega arith
changes_at-le LockOwnerLoad = omega arith
changes_at-le (SendWakeExchange t) = omega arith
changes_at-le (SendCountAdd t) = omega arith
changes_at-le (SendPushRecheck t seen) = omega arith
changes_at-le (PushLoad pusher) = omega arith
changes_at-le (LinkStore pusher seen) = omega arith
changes_at-le (PushExchange pusher seen) = omega arith
changes_at-le (PushedHandoffLoad pusher) = omega arith
changes_at-le (PushedHandoffExchange pusher seen) = omega arith
changes_at-le (ReleaseOwnerStore releaser) = omega arith
changes_at-le (ReleaseCountSubtract releaser) = omega arith
changes_at-le (ReleaseHandoffStore releaser) = omega arith
changes_at-le (ReleasePushRecheck releaser) = omega arith
changes_at-le (ReleaseHandoffExchange releaser) = omega arith
changes_at-le (TakeClearHead carrier) = omega arith
changes_at-le _ = omega arith

-- if no call is open, nothing is due
pub none_due : (push : Link) (seats room : ℕ) (p : Point) → is_call p ≡ false → (due_at push seats room p ≡ 0) × (changes_at p ≡ 0)
none_due push seats room Rest closed = (refl, refl)
none_due push seats room (Asleep sleeper) closed = (refl, refl)
none_due push seats room _ closed = absurd (false≢true (sym closed))

pub changed_push-le : (before after : Link) → changed_push before after ≤ 1
changed_push-le before after = elim (cases_Bool (same_link after before)) [
  | inl same ↦ rw same (omega arith)
  | inr other ↦ rw other (omega arith)
]

pub changed_push_same : (l : Link) → changed_push l l ≡ 0
changed_push_same l = rw (same_link_self l) refl
