-- The names of calls, operations, cases and steps, in ASCII.
use Rattle.std.specs.Prelude.{ℕ, List, [], codes}
use Rattle.lfm_protocol.specs.declared.answers.Call.{Call}
use Rattle.lfm_protocol.specs.declared.answers.Call.TheVariants.{Lock, TryLock, Unlock, StartWait, SendLock, Receive}
use Rattle.lfm_protocol.specs.declared.kinds.Kind.{Kind}
use Rattle.lfm_protocol.specs.declared.points.Carrier.{Carrier}
use Rattle.lfm_protocol.specs.declared.points.Entrant.{Entrant}
use Rattle.lfm_protocol.specs.declared.points.Point.{Point}
use Rattle.lfm_protocol.specs.declared.points.Point.TheVariants.{Rest, Asleep, LockCountAdd, LockOwnerLoad, LockCountSubtract, TryCountExchange, TryOwnerLoad, TryHandoffLoad, TryHandoffExchange, TryCountAdd, SendWakeExchange, SendCountAdd, SendPushRecheck, SendWakeStore, PushLoad, LinkStore, PushExchange, PushedHandoffLoad, PushedHandoffExchange, ReleaseOwnerStore, ReleaseCountSubtract, ReleaseHandoffStore, ReleasePushRecheck, ReleaseHandoffExchange, WaitWakeStore, TakeClearHead, TakeLinkLoad, GrantWakeStore, EnterOwnerStore, ReceiveWakeLoad, ReceiveWakeStore}
use Rattle.lfm_protocol.specs.declared.points.Pusher.{Pusher}
use Rattle.lfm_protocol.specs.declared.points.Releaser.{Releaser}
use Rattle.lfm_protocol.specs.declared.points.Releaser.TheVariants.{Unlocker, Waiter}
use Rattle.lfm_shown.specs.declared.cases.Case.{Case}

-- as in a schedule
abbrev pub call_name : Call → List ℕ
call_name Lock = codes "lock"
call_name TryLock = codes "try_lock"
call_name Unlock = codes "unlock"
call_name StartWait = codes "start_wait"
call_name (SendLock t) = codes "send_lock"
call_name Receive = codes "receive"

abbrev pub kind_name : Kind → List ℕ
kind_name Kind.CountAdd = codes "add"
kind_name Kind.CountSubtract = codes "subtract"
kind_name Kind.OwnerLoad = codes "load"
kind_name Kind.PushLoad = codes "load"
kind_name Kind.LinkLoad = codes "load"
kind_name Kind.HandoffLoad = codes "load"
kind_name Kind.WakeLoad = codes "load"
kind_name Kind.OwnerStore = codes "store"
kind_name Kind.LinkStore = codes "store"
kind_name Kind.HandoffStore = codes "store"
kind_name Kind.WakeStore = codes "store"
kind_name Kind.CountExchange = codes "exchange"
kind_name Kind.PushExchange = codes "exchange"
kind_name Kind.HandoffExchange = codes "exchange"
kind_name Kind.WakeExchange = codes "exchange"
kind_name Kind.ClearHead = codes "clear-head"

abbrev pub case_name : Case → List ℕ
case_name Case.Ask = codes "ask"
case_name Case.Queue = codes "queue"
case_name Case.Serve = codes "serve"
case_name Case.Post = codes "post"
case_name Case.Take = codes "take"
case_name Case.Accept = codes "accept"
case_name Case.TakeUp = codes "take_up"
case_name Case.Enter = codes "enter"
case_name Case.Release = codes "release"
case_name Case.Leave = codes "leave"

-- the first name for a `lock`, the second for a `send_lock`
abbrev pub of_pusher : Pusher → List ℕ → List ℕ → List ℕ
of_pusher Pusher.Locker locker sender = locker
of_pusher (Pusher.Sender t) locker sender = sender

-- the first name for an `unlock`, the second for a `start_wait`
abbrev pub of_releaser : Releaser → List ℕ → List ℕ → List ℕ
of_releaser Unlocker unlocker waiter = unlocker
of_releaser Waiter unlocker waiter = waiter

abbrev pub clear_name : Carrier → List ℕ
clear_name Carrier.Locker = codes "lock 8 take 1"
clear_name Carrier.Sender = codes "send_lock 8 take 1"
clear_name (Carrier.Releaser by) = of_releaser by (codes "unlock 2 take 1") (codes "start_wait 2 take 1")
clear_name (Carrier.Reclaimer by) = of_releaser by (codes "unlock 5 take 1") (codes "start_wait 5 take 1")

abbrev pub walk_name : Carrier → List ℕ
walk_name Carrier.Locker = codes "lock 8 take 2"
walk_name Carrier.Sender = codes "send_lock 8 take 2"
walk_name (Carrier.Releaser by) = of_releaser by (codes "unlock 2 take 2") (codes "start_wait 2 take 2")
walk_name (Carrier.Reclaimer by) = of_releaser by (codes "unlock 5 take 2") (codes "start_wait 5 take 2")

abbrev pub grant_name : Carrier → List ℕ
grant_name Carrier.Locker = codes "lock 10"
grant_name Carrier.Sender = codes "send_lock 9"
grant_name (Carrier.Releaser by) = of_releaser by (codes "unlock 6") (codes "start_wait 6")
grant_name (Carrier.Reclaimer by) = of_releaser by (codes "unlock 6") (codes "start_wait 6")

abbrev pub entry_name : Entrant → List ℕ
entry_name Entrant.Locker = codes "lock 9"
entry_name Entrant.Trier = codes "try_lock 3"
entry_name Entrant.Receiver = codes "receive 3"

-- the step at a point: its call, and its number there; nothing if no call is open
abbrev pub step_name : Point → List ℕ
step_name Rest = []
step_name (Asleep sleeper) = []
step_name LockCountAdd = codes "lock 1"
step_name LockOwnerLoad = codes "lock 2"
step_name LockCountSubtract = codes "lock 3"
step_name TryCountExchange = codes "try_lock 1"
step_name TryOwnerLoad = codes "try_lock 2"
step_name TryHandoffLoad = codes "try_lock 4"
step_name (TryHandoffExchange seen) = codes "try_lock 5"
step_name TryCountAdd = codes "try_lock 6"
step_name (SendWakeExchange t) = codes "send_lock 1"
step_name (SendCountAdd t) = codes "send_lock 2"
step_name (SendPushRecheck t seen) = codes "send_lock 7"
step_name (SendWakeStore t) = codes "send_lock 9"
step_name (PushLoad by) = of_pusher by (codes "lock 4") (codes "send_lock 3")
step_name (LinkStore by seen) = of_pusher by (codes "lock 5") (codes "send_lock 4")
step_name (PushExchange by seen) = of_pusher by (codes "lock 6") (codes "send_lock 5")
step_name (PushedHandoffLoad by) = of_pusher by (codes "lock 7") (codes "send_lock 6")
step_name (PushedHandoffExchange by seen) = of_pusher by (codes "lock 8") (codes "send_lock 8")
step_name (ReleaseOwnerStore by) = of_releaser by (codes "unlock 1") (codes "start_wait 1")
step_name (ReleaseCountSubtract by) = of_releaser by (codes "unlock 2") (codes "start_wait 2")
step_name (ReleaseHandoffStore by) = of_releaser by (codes "unlock 3") (codes "start_wait 3")
step_name (ReleasePushRecheck by) = of_releaser by (codes "unlock 4") (codes "start_wait 4")
step_name (ReleaseHandoffExchange by) = of_releaser by (codes "unlock 5") (codes "start_wait 5")
step_name (WaitWakeStore released) = codes "start_wait 7"
step_name (TakeClearHead by) = clear_name by
step_name (TakeLinkLoad by next) = walk_name by
step_name (GrantWakeStore by oldest) = grant_name by
step_name (EnterOwnerStore by how) = entry_name by
step_name (ReceiveWakeLoad sleeper) = codes "receive 1"
step_name (ReceiveWakeStore stamp) = codes "receive 2"
