-- Which call has yet to load a posted handoff, or has made or loaded it and has yet to try to take it.
use Rattle.std.specs.Prelude.{◌≡◌, ℕ, ◌<◌, Any, ⊤}
use Rattle.lfm_protocol.specs.declared.points.Point.{Point}
use Rattle.lfm_protocol.specs.declared.points.Point.TheVariants.{LockOwnerLoad, SendPushRecheck, PushLoad, LinkStore, PushExchange, PushedHandoffLoad, PushedHandoffExchange, ReleasePushRecheck, ReleaseHandoffExchange}
use Rattle.lfm_protocol.specs.declared.seats.SeatState.{SeatState}
use Rattle.lfm_protocol.specs.Core.{Core}
use Rattle.lfm_protocol.specs.Points.{pushed_seat}
use Rattle.lfm_protocol.specs.Queue.{queue_of}
use Rattle.lfm_protocol.specs.Seats.{seat}

-- seat t has a record in the queue
abbrev pub IsQueued : Core → ℕ → Type 0
IsQueued c t = Any (λ r. r.seat ≡ t) (queue_of c)

-- the call of seat s, at this point, is one of:
-- a lock or send whose seat asks or waits, and that has not loaded the handoff since its push;
-- a lock that has loaded this handoff and has yet to try to take it; or a send that has, while the push list isn't empty or
-- after it has found records there;
-- the call that posted it, before its recheck while the push list isn't empty, or after a recheck that found records
abbrev pub Watches : Core → ℕ → SeatState → Point → Type 0
Watches c s x LockOwnerLoad = x.depth ≡ 0
Watches c s x (PushLoad pusher) = ⊤
Watches c s x (LinkStore pusher seen) = ⊤
Watches c s x (PushExchange pusher seen) = ⊤
Watches c s x (PushedHandoffLoad pusher) = IsQueued c (pushed_seat pusher s)
Watches c s x (SendPushRecheck t seen) = (c.handoff ≡ seen) × (0 < c.push.next)
Watches c s x (PushedHandoffExchange pusher seen) = c.handoff ≡ seen
Watches c s x (ReleasePushRecheck releaser) = (c.handoff ≡ record { seat = s; post = x.posts }) × (0 < c.push.next)
Watches c s x (ReleaseHandoffExchange releaser) = c.handoff ≡ record { seat = s; post = x.posts }
Watches c s x _ = ⊥

pub record Watcher (c : Core) : Type 0 where
  pub who : ℕ
  pub watches : Watches c who (seat c.seats who) (seat c.seats who).point

-- a posted handoff has a watcher
abbrev pub Watched : Core → Type 0
Watched c = 0 < c.handoff.seat → Watcher c
