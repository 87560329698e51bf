-- Which call tries next to take a posted handoff, if the push list has a record.
use Rattle.std.specs.Prelude.{◌≡◌, ℕ, ◌<◌, ⊤}
use Rattle.lfm_protocol.specs.declared.points.Point.{Point}
use Rattle.lfm_protocol.specs.declared.points.Point.TheVariants.{SendPushRecheck, PushedHandoffLoad, PushedHandoffExchange, ReleasePushRecheck, ReleaseHandoffExchange}
use Rattle.lfm_protocol.specs.declared.seats.SeatState.{SeatState}
use Rattle.lfm_protocol.specs.Core.{Core}
use Rattle.lfm_protocol.specs.Seats.{seat}
use Rattle.lfm_laws.specs.laws.Laws.{IsReached}

-- the call of seat s, at this point, is one of:
-- a lock or send that has pushed, and whose next step loads the handoff;
-- a lock or send that has loaded this post since its push, and has yet to try to take it;
-- the call that made this post, and has yet to try to take it back
abbrev pub WillTry : Core → ℕ → SeatState → Point → Type 0
WillTry c s x (PushedHandoffLoad pusher) = ⊤
WillTry c s x (SendPushRecheck t seen) = c.handoff ≡ seen
WillTry c s x (PushedHandoffExchange pusher seen) = c.handoff ≡ seen
WillTry c s x (ReleasePushRecheck releaser) = c.handoff ≡ record { seat = s; post = x.posts }
WillTry c s x (ReleaseHandoffExchange releaser) = c.handoff ≡ record { seat = s; post = x.posts }
WillTry c s x _ = ⊥

abbrev pub SeatWillTry : Core → ℕ → Type 0
SeatWillTry c s = WillTry c s (seat c.seats s) (seat c.seats s).point

-- if a handoff is posted and the push list has a record, some seat will try to take the post
abbrev pub IsTried : Core → Type 0
IsTried c = 0 < c.handoff.seat → 0 < c.push.next → (s : ℕ) × SeatWillTry c s

-- in every reached state
abbrev pub PostsWithRecordsAreTried : Type 0
PostsWithRecordsAreTried = (c : Core) → IsReached c → IsTried c
