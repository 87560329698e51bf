-- An upper bound on the steps of an open call while only its seat makes steps, by the seat's point, the push word and the
-- number of records for which the pop list still has room.
use Rattle.std.proofs.Common.{ℕ, Bool, true, false, ◌+◌, ◌≤◌, length, if◌then◌else◌, arith}
use Rattle.lfm_protocol.specs.declared.points.Carrier.{Carrier}
use Rattle.lfm_protocol.specs.declared.points.Point.{Point}
use Rattle.lfm_protocol.specs.declared.points.Point.TheVariants.{Rest, Asleep, LockCountAdd, LockOwnerLoad, LockCountSubtract, TryCountExchange, TryOwnerLoad, TryHandoffLoad, TryHandoffExchange, TryCountAdd, SendWakeExchange, SendCountAdd, SendPushRecheck, SendWakeStore, PushLoad, LinkStore, PushExchange, PushedHandoffLoad, PushedHandoffExchange, ReleaseOwnerStore, ReleaseCountSubtract, ReleaseHandoffStore, ReleasePushRecheck, ReleaseHandoffExchange, WaitWakeStore, TakeClearHead, TakeLinkLoad, GrantWakeStore, EnterOwnerStore, ReceiveWakeLoad, ReceiveWakeStore}
use Rattle.lfm_words.specs.declared.links.Link.{Link}
use Rattle.lfm_protocol.specs.After.{same_link}
use Rattle.lfm_protocol.specs.Core.{Core}
use Rattle.lfm_protocol.specs.Seats.{seat}
use Rattle.lfm_laws.proofs.lawful.bounds.CallWeights.{room_left}

-- a push exchange that expects another word fails, and its link is stored once more
abbrev pub again_unless : Bool → ℕ
again_unless same = if same then 0 else 2

-- a releaser that finds no record posts, and may take its post back and clear the push list again
abbrev pub left_of_carrier : ℕ → Carrier → ℕ
left_of_carrier room (Carrier.Releaser releaser) = room + 7
left_of_carrier room _ = room + 3

abbrev pub left_at : Link → ℕ → Point → ℕ
left_at push room Rest = 0
left_at push room (Asleep sleeper) = 0
left_at push room LockCountAdd = room + 11
left_at push room LockOwnerLoad = room + 10
left_at push room LockCountSubtract = 1
left_at push room TryCountExchange = 6
left_at push room TryOwnerLoad = 5
left_at push room TryHandoffLoad = 4
left_at push room (TryHandoffExchange seen) = 3
left_at push room TryCountAdd = 2
left_at push room (SendWakeExchange t) = room + 11
left_at push room (SendCountAdd t) = room + 10
left_at push room (SendPushRecheck t seen) = room + 5
left_at push room (SendWakeStore t) = 1
left_at push room (PushLoad pusher) = room + 9
left_at push room (LinkStore pusher seen) = room + 8 + again_unless (same_link push seen)
left_at push room (PushExchange pusher seen) = room + 7 + again_unless (same_link push seen)
left_at push room (PushedHandoffLoad pusher) = room + 6
left_at push room (PushedHandoffExchange pusher seen) = room + 4
left_at push room (ReleaseOwnerStore releaser) = room + 9
left_at push room (ReleaseCountSubtract releaser) = room + 8
left_at push room (ReleaseHandoffStore releaser) = room + 6
left_at push room (ReleasePushRecheck releaser) = room + 5
left_at push room (ReleaseHandoffExchange releaser) = room + 4
left_at push room (WaitWakeStore released) = 1
left_at push room (TakeClearHead carrier) = left_of_carrier room carrier
left_at push room (TakeLinkLoad carrier next) = room + 2
left_at push room (GrantWakeStore carrier oldest) = 2
left_at push room (EnterOwnerStore entrant how) = 1
left_at push room (ReceiveWakeLoad sleeper) = 3
left_at push room (ReceiveWakeStore stamp) = 2

abbrev pub left : Core → ℕ → ℕ
left c s = left_at c.push (room_left c) (seat c.seats s).point

again_unless-le : (same : Bool) → again_unless same ≤ 2
again_unless-le true = omega arith
again_unless-le false = omega arith

left_of_carrier-le : (room : ℕ) (carrier : Carrier) → left_of_carrier room carrier ≤ room + 7
left_of_carrier-le room (Carrier.Releaser releaser) = omega arith
left_of_carrier-le room _ = omega arith

left_at-le : (push : Link) (room : ℕ) (p : Point) → left_at push room p ≤ room + 11
left_at-le push room (LinkStore pusher seen) = omega (arith, again_unless-le (same_link push seen))
left_at-le push room (PushExchange pusher seen) = omega (arith, again_unless-le (same_link push seen))
left_at-le push room (TakeClearHead carrier) = omega (arith, left_of_carrier-le room carrier)
left_at-le push room _ = omega arith

-- the longest call clears and collects the records of all seats
pub left-le : (c : Core) (s : ℕ) → left c s ≤ length c.seats + 11
left-le c s = omega (arith, left_at-le c.push (room_left c) (seat c.seats s).point)
