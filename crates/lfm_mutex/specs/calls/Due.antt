-- How many steps a call still makes at most, not counting two for each push that fails. For a call that doesn't push, it is the
-- weight.
use Rattle.std.specs.Prelude.{ℕ, ◌+◌, ◌-◌}
use Rattle.lfm_protocol.specs.declared.points.Carrier.{Carrier}
use Rattle.lfm_protocol.specs.declared.points.Point.{Point}
use Rattle.lfm_protocol.specs.declared.points.Point.TheVariants.{LockCountAdd, LockOwnerLoad, SendWakeExchange, SendCountAdd, SendPushRecheck, PushLoad, LinkStore, PushExchange, PushedHandoffLoad, PushedHandoffExchange, TakeClearHead, TakeLinkLoad, GrantWakeStore}
use Rattle.lfm_protocol.specs.declared.points.Pusher.{Pusher}
use Rattle.lfm_mutex.specs.calls.Runs.{weight}

-- at this point, with n seats and k records in the pop list
abbrev pub due : ℕ → ℕ → Point → ℕ
due n k LockCountAdd = n + 9
due n k LockOwnerLoad = n + 8
due n k (SendWakeExchange t) = n + 9
due n k (SendCountAdd t) = n + 8
due n k (SendPushRecheck t old) = n + 3
due n k (PushLoad pusher) = n + 7
due n k (LinkStore pusher old) = n + 6
due n k (PushExchange pusher old) = n + 5
due n k (PushedHandoffLoad pusher) = n + 4
due n k (PushedHandoffExchange Pusher.Locker old) = n + 3
due n k (PushedHandoffExchange (Pusher.Sender t) old) = n + 2
due n k (TakeClearHead Carrier.Locker) = n + 2
due n k (TakeClearHead Carrier.Sender) = n + 1
due n k (TakeLinkLoad Carrier.Locker next) = n - k + 1
due n k (TakeLinkLoad Carrier.Sender next) = n - k
due n k (GrantWakeStore Carrier.Locker oldest) = 1
due n k (GrantWakeStore Carrier.Sender oldest) = 1
due n k point = weight n k point
