-- What a storing step writes and what an exchange expects: functions of the seat's data and number alone.
-- Each has a form over the point. At a point of another kind its value is the one that means none.
use Rattle.std.specs.Prelude.{ℕ, ◌+◌}
use Rattle.lfm_protocol.specs.declared.points.Point.{Point}
use Rattle.lfm_protocol.specs.declared.points.Point.TheVariants.{LinkStore, PushExchange, PushedHandoffExchange, TryHandoffExchange, ReleaseHandoffStore, ReleaseHandoffExchange, GrantWakeStore, SendWakeStore, WaitWakeStore, EnterOwnerStore}
use Rattle.lfm_protocol.specs.declared.seats.SeatState.{SeatState}
use Rattle.lfm_words.specs.declared.handoffs.Handoff.{Handoff}
use Rattle.lfm_words.specs.declared.links.Link.{Link}
use Rattle.lfm_words.specs.declared.wakes.Wake.{Wake}
use Rattle.lfm_words.specs.declared.wakes.Wake.TheVariants.{Quiet, Waiting, Grant}
use Rattle.lfm_protocol.specs.Points.{pushed_seat}
use Rattle.lfm_protocol.specs.Seats.{no_link, unposted}

-- the value of an owner store of seat s
abbrev pub stored_owner_at : ℕ → Point → ℕ
stored_owner_at s (EnterOwnerStore entrant how) = s
stored_owner_at s _ = 0

abbrev pub stored_owner : SeatState → ℕ → ℕ
stored_owner x s = stored_owner_at s x.point

-- the value of a link store: the stamp that was loaded plus 1, and the head that was loaded
abbrev pub stored_link_at : Point → Link
stored_link_at (LinkStore pusher seen) = record { stamp = seen.stamp + 1; next = seen.next }
stored_link_at _ = no_link

abbrev pub stored_link : SeatState → Link
stored_link x = stored_link_at x.point

-- the value that a push exchange expects: the push word that was loaded
abbrev pub expected_push_at : Point → Link
expected_push_at (PushExchange pusher seen) = seen
expected_push_at _ = no_link

abbrev pub expected_push : SeatState → Link
expected_push x = expected_push_at x.point

-- the value of a push exchange of seat s: the stamp that was loaded plus 1, and the pushed seat
abbrev pub exchanged_push_at : ℕ → Point → Link
exchanged_push_at s (PushExchange pusher seen) = record { stamp = seen.stamp + 1; next = pushed_seat pusher s }
exchanged_push_at s _ = no_link

abbrev pub exchanged_push : SeatState → ℕ → Link
exchanged_push x s = exchanged_push_at s x.point

-- the value of a handoff store of seat s: its next post
abbrev pub stored_handoff_at : SeatState → ℕ → Point → Handoff
stored_handoff_at x s (ReleaseHandoffStore releaser) = record { seat = s; post = x.posts + 1 }
stored_handoff_at x s _ = unposted

abbrev pub stored_handoff : SeatState → ℕ → Handoff
stored_handoff x s = stored_handoff_at x s x.point

-- the value that a handoff exchange of seat s expects: the post that was loaded, or its own last post
abbrev pub expected_handoff_at : SeatState → ℕ → Point → Handoff
expected_handoff_at x s (PushedHandoffExchange pusher seen) = seen
expected_handoff_at x s (TryHandoffExchange seen) = seen
expected_handoff_at x s (ReleaseHandoffExchange releaser) = record { seat = s; post = x.posts }
expected_handoff_at x s _ = unposted

abbrev pub expected_handoff : SeatState → ℕ → Handoff
expected_handoff x s = expected_handoff_at x s x.point

-- the value of a wake store: a grant, WAITING or QUIET
abbrev pub stored_wake_at : Point → Wake
stored_wake_at (GrantWakeStore carrier oldest) = Grant oldest.stamp
stored_wake_at (SendWakeStore t) = Grant 0
stored_wake_at (WaitWakeStore released) = Waiting
stored_wake_at _ = Quiet

abbrev pub stored_wake : SeatState → Wake
stored_wake x = stored_wake_at x.point
