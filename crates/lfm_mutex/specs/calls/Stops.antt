-- The points at which a fast path of lock or try_lock, or a push, stops.
use Rattle.lfm_model.specs.declared.answers.How.{How}
use Rattle.lfm_protocol.specs.declared.points.Entrant.{Entrant}
use Rattle.lfm_protocol.specs.declared.points.Point.{Point}
use Rattle.lfm_protocol.specs.declared.points.Point.TheVariants.{EnterOwnerStore, LinkStore, LockOwnerLoad, PushLoad, TryHandoffLoad}
use Rattle.lfm_protocol.specs.declared.points.Pusher.{Pusher}
use Rattle.lfm_protocol.specs.After.{found_posted}
use Rattle.lfm_laws.specs.table.Words.{handoff_of, link_of}
use Rattle.lfm_mutex.specs.declared.stops.PushStop.{PushStop}
use Rattle.lfm_mutex.specs.declared.stops.Stop.{Stop}

-- the point from which the call goes on
abbrev pub stop_point : Stop → Point
stop_point Stop.LockLoadsOwner = LockOwnerLoad
stop_point Stop.LockEnters = EnterOwnerStore Entrant.Locker How.Free
stop_point Stop.LockPushes = PushLoad Pusher.Locker
stop_point Stop.TryEnters = EnterOwnerStore Entrant.Trier How.Free
stop_point Stop.TryLoadsHandoff = TryHandoffLoad

-- the same for a push
abbrev pub push_stop_point : Pusher → PushStop → Point
push_stop_point pusher (PushStop.Changed word) = LinkStore pusher (link_of word)
push_stop_point pusher (PushStop.Posted word) = found_posted pusher (handoff_of word)
