-- The table of points: the kind of each step, the seat whose word it accesses, and the word of each kind.
use Rattle.std.specs.Prelude.{ℕ, Option, Some, None}
use Rattle.lfm_protocol.specs.declared.kinds.Kind.{Kind}
use Rattle.lfm_protocol.specs.declared.kinds.Kind.TheVariants.{CountExchange, CountAdd, CountSubtract, OwnerLoad, OwnerStore, ClearHead, LinkLoad, HandoffLoad, HandoffStore, HandoffExchange, WakeLoad, WakeStore, WakeExchange}
use Rattle.lfm_protocol.specs.declared.points.Point.{Point}
use Rattle.lfm_protocol.specs.declared.points.Point.TheVariants.{Rest, Asleep, LockCountAdd, LockOwnerLoad, LockCountSubtract, TryCountExchange, TryOwnerLoad, TryHandoffLoad, TryHandoffExchange, TryCountAdd, SendWakeExchange, SendCountAdd, SendPushRecheck, SendWakeStore, PushLoad, LinkStore, PushExchange, PushedHandoffLoad, PushedHandoffExchange, ReleaseOwnerStore, ReleaseCountSubtract, ReleaseHandoffStore, ReleasePushRecheck, ReleaseHandoffExchange, WaitWakeStore, TakeClearHead, TakeLinkLoad, GrantWakeStore, EnterOwnerStore, ReceiveWakeLoad, ReceiveWakeStore}
use Rattle.lfm_protocol.specs.declared.points.Pusher.{Pusher}
use Rattle.lfm_protocol.specs.declared.points.Pusher.TheVariants.{Locker, Sender}
use Rattle.lfm_protocol.specs.declared.kinds.Word.{Word}

-- the kind of the step at this point
abbrev pub kind : Point → Option Kind
kind Rest = None
kind (Asleep sleeper) = None
kind LockCountAdd = Some CountAdd
kind LockOwnerLoad = Some OwnerLoad
kind LockCountSubtract = Some CountSubtract
kind TryCountExchange = Some CountExchange
kind TryOwnerLoad = Some OwnerLoad
kind TryHandoffLoad = Some HandoffLoad
kind (TryHandoffExchange seen) = Some HandoffExchange
kind TryCountAdd = Some CountAdd
kind (SendWakeExchange t) = Some WakeExchange
kind (SendCountAdd t) = Some CountAdd
kind (SendPushRecheck t seen) = Some Kind.PushLoad
kind (SendWakeStore t) = Some WakeStore
kind (PushLoad pusher) = Some Kind.PushLoad
kind (LinkStore pusher seen) = Some Kind.LinkStore
kind (PushExchange pusher seen) = Some Kind.PushExchange
kind (PushedHandoffLoad pusher) = Some HandoffLoad
kind (PushedHandoffExchange pusher seen) = Some HandoffExchange
kind (ReleaseOwnerStore releaser) = Some OwnerStore
kind (ReleaseCountSubtract releaser) = Some CountSubtract
kind (ReleaseHandoffStore releaser) = Some HandoffStore
kind (ReleasePushRecheck releaser) = Some Kind.PushLoad
kind (ReleaseHandoffExchange releaser) = Some HandoffExchange
kind (WaitWakeStore released) = Some WakeStore
kind (TakeClearHead carrier) = Some ClearHead
kind (TakeLinkLoad carrier next) = Some LinkLoad
kind (GrantWakeStore carrier oldest) = Some WakeStore
kind (EnterOwnerStore entrant how) = Some OwnerStore
kind (ReceiveWakeLoad sleeper) = Some WakeLoad
kind (ReceiveWakeStore stamp) = Some WakeStore

-- the seat whose record is pushed by a call of seat s
abbrev pub pushed_seat : Pusher → ℕ → ℕ
pushed_seat Locker s = s
pushed_seat (Sender t) s = t

-- the seat whose link or wake word a step of seat s accesses; s itself if it accesses neither
abbrev pub target : Point → ℕ → ℕ
target (LinkStore pusher seen) s = pushed_seat pusher s
target (TakeLinkLoad carrier next) s = next
target (GrantWakeStore carrier oldest) s = oldest.seat
target (SendWakeExchange t) s = t
target (SendWakeStore t) s = t
target _ s = s

-- the word that a step of this kind with target t accesses
abbrev pub word : Kind → ℕ → Word
word CountExchange t = Word.Count
word CountAdd t = Word.Count
word CountSubtract t = Word.Count
word OwnerLoad t = Word.Owner
word OwnerStore t = Word.Owner
word Kind.PushLoad t = Word.Push
word Kind.PushExchange t = Word.Push
word ClearHead t = Word.Push
word HandoffLoad t = Word.Handoff
word HandoffStore t = Word.Handoff
word HandoffExchange t = Word.Handoff
word LinkLoad t = Word.Link t
word Kind.LinkStore t = Word.Link t
word WakeLoad t = Word.Wake t
word WakeStore t = Word.Wake t
word WakeExchange t = Word.Wake t
