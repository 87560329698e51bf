-- The step that a seat makes next keeps a state steady, by cases on the seat's point.
use Rattle.std.proofs.Common.{◌≡◌, ℕ, refl}
use Rattle.lfm_model.specs.declared.answers.How.{How}
use Rattle.lfm_protocol.specs.declared.points.Entrant.{Entrant}
use Rattle.lfm_protocol.specs.declared.points.Point.{Point}
use Rattle.lfm_protocol.specs.declared.points.Point.TheVariants.{Rest, Asleep, LockCountAdd, LockOwnerLoad, LockCountSubtract, TryCountExchange, TryOwnerLoad, TryHandoffLoad, TryHandoffExchange, TryCountAdd, SendWakeExchange, SendCountAdd, SendPushRecheck, SendWakeStore, PushLoad, LinkStore, PushExchange, PushedHandoffLoad, PushedHandoffExchange, ReleaseOwnerStore, ReleaseCountSubtract, ReleaseHandoffStore, ReleasePushRecheck, ReleaseHandoffExchange, WaitWakeStore, TakeClearHead, TakeLinkLoad, GrantWakeStore, EnterOwnerStore, ReceiveWakeLoad, ReceiveWakeStore}
use Rattle.lfm_protocol.specs.Core.{Core}
use Rattle.lfm_laws.specs.steady.Ghost.{Ghost}
use Rattle.lfm_laws.specs.steady.EventOutcome.{Kept}
use Rattle.lfm_protocol.specs.Seats.{seat, IsSeat}
use Rattle.lfm_laws.specs.steady.Steady.{Fits}
use Rattle.lfm_laws.proofs.steady.Begins.{at_Rest, at_Asleep}
use Rattle.lfm_laws.proofs.steady.queue.ClearedQueue.{at_TakeClearHead}
use Rattle.lfm_laws.proofs.steady.points.EnterSteps.{at_EnterOwnerStore_Locker, at_EnterOwnerStore_Trier, at_EnterOwnerStore_Receiver}
use Rattle.lfm_laws.proofs.steady.points.GrantSteps.{at_GrantWakeStore}
use Rattle.lfm_laws.proofs.steady.points.HandoffSteps.{at_PushedHandoffExchange, at_TryHandoffExchange, at_ReleaseHandoffExchange}
use Rattle.lfm_laws.proofs.steady.queue.Linking.{at_LinkStore}
use Rattle.lfm_laws.proofs.steady.points.LockSteps.{at_LockOwnerLoad, at_LockCountAdd, at_LockCountSubtract}
use Rattle.lfm_laws.proofs.steady.points.PostSteps.{at_ReleaseHandoffStore, at_ReleasePushRecheck}
use Rattle.lfm_laws.proofs.steady.points.PushExchanges.{at_PushExchange}
use Rattle.lfm_laws.proofs.steady.points.PushSteps.{at_PushLoad, at_PushedHandoffLoad, at_SendPushRecheck}
use Rattle.lfm_laws.proofs.steady.points.ReceiveSteps.{at_WaitWakeStore, at_ReceiveWakeStore, at_ReceiveWakeLoad}
use Rattle.lfm_laws.proofs.steady.points.ReleaseSteps.{at_ReleaseOwnerStore, at_ReleaseCountSubtract}
use Rattle.lfm_laws.proofs.steady.points.SendSteps.{at_SendWakeExchange, at_SendCountAdd}
use Rattle.lfm_laws.proofs.steady.points.ServeSteps.{at_EnterOwnerStore_taken, at_SendWakeStore}
use Rattle.lfm_laws.proofs.steady.points.TrySteps.{at_TryCountExchange, at_TryOwnerLoad, at_TryHandoffLoad, at_TryCountAdd}
use Rattle.lfm_laws.proofs.steady.queue.Walked.{at_TakeLinkLoad}

enters : (c : Core) (g : Ghost) (s : ℕ) (entrant : Entrant) (how : How) → IsSeat c.seats s → (seat c.seats s).point ≡ EnterOwnerStore entrant how → Fits c g → Kept c g s
enters c g s Entrant.Locker How.Free is at fits = at_EnterOwnerStore_Locker c g s is at fits
enters c g s Entrant.Locker (How.Queued stamp) is at fits = at_EnterOwnerStore_taken c g s stamp is at fits
enters c g s Entrant.Trier how is at fits = at_EnterOwnerStore_Trier c g s how is at fits
enters c g s Entrant.Receiver how is at fits = at_EnterOwnerStore_Receiver c g s how is at fits

step_at : (c : Core) (g : Ghost) (s : ℕ) (p : Point) → IsSeat c.seats s → (seat c.seats s).point ≡ p → Fits c g → Kept c g s
step_at c g s Rest is at fits = at_Rest c g s is at fits
step_at c g s (Asleep sleeper) is at fits = at_Asleep c g s sleeper is at fits
step_at c g s LockCountAdd is at fits = at_LockCountAdd c g s is at fits
step_at c g s LockOwnerLoad is at fits = at_LockOwnerLoad c g s is at fits
step_at c g s LockCountSubtract is at fits = at_LockCountSubtract c g s is at fits
step_at c g s TryCountExchange is at fits = at_TryCountExchange c g s is at fits
step_at c g s TryOwnerLoad is at fits = at_TryOwnerLoad c g s is at fits
step_at c g s TryHandoffLoad is at fits = at_TryHandoffLoad c g s is at fits
step_at c g s (TryHandoffExchange seen) is at fits = at_TryHandoffExchange c g s seen is at fits
step_at c g s TryCountAdd is at fits = at_TryCountAdd c g s is at fits
step_at c g s (SendWakeExchange t) is at fits = at_SendWakeExchange c g s t is at fits
step_at c g s (SendCountAdd t) is at fits = at_SendCountAdd c g s t is at fits
step_at c g s (SendPushRecheck t seen) is at fits = at_SendPushRecheck c g s t seen is at fits
step_at c g s (SendWakeStore t) is at fits = at_SendWakeStore c g s t is at fits
step_at c g s (PushLoad pusher) is at fits = at_PushLoad c g s pusher is at fits
step_at c g s (LinkStore pusher seen) is at fits = at_LinkStore c g s pusher seen is at fits
step_at c g s (PushExchange pusher seen) is at fits = at_PushExchange c g s pusher seen is at fits
step_at c g s (PushedHandoffLoad pusher) is at fits = at_PushedHandoffLoad c g s pusher is at fits
step_at c g s (PushedHandoffExchange pusher seen) is at fits = at_PushedHandoffExchange c g s pusher seen is at fits
step_at c g s (ReleaseOwnerStore releaser) is at fits = at_ReleaseOwnerStore c g s releaser is at fits
step_at c g s (ReleaseCountSubtract releaser) is at fits = at_ReleaseCountSubtract c g s releaser is at fits
step_at c g s (ReleaseHandoffStore releaser) is at fits = at_ReleaseHandoffStore c g s releaser is at fits
step_at c g s (ReleasePushRecheck releaser) is at fits = at_ReleasePushRecheck c g s releaser is at fits
step_at c g s (ReleaseHandoffExchange releaser) is at fits = at_ReleaseHandoffExchange c g s releaser is at fits
step_at c g s (WaitWakeStore released) is at fits = at_WaitWakeStore c g s released is at fits
step_at c g s (TakeClearHead carrier) is at fits = at_TakeClearHead c g s carrier is at fits
step_at c g s (TakeLinkLoad carrier next) is at fits = at_TakeLinkLoad c g s carrier next is at fits
step_at c g s (GrantWakeStore carrier oldest) is at fits = at_GrantWakeStore c g s carrier oldest is at fits
step_at c g s (EnterOwnerStore entrant how) is at fits = enters c g s entrant how is at fits
step_at c g s (ReceiveWakeLoad sleeper) is at fits = at_ReceiveWakeLoad c g s sleeper is at fits
step_at c g s (ReceiveWakeStore stamp) is at fits = at_ReceiveWakeStore c g s stamp is at fits

pub made_keeps : (c : Core) (g : Ghost) (s : ℕ) → IsSeat c.seats s → Fits c g → Kept c g s
made_keeps c g s is fits = step_at c g s (seat c.seats s).point is refl fits
