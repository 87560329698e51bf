-- A posted handoff is watched: the ghost's watcher is at one of the points that watch it.
use Rattle.std.proofs.Common.{◌≡◌, ◌≢◌, ℕ, ◌<◌, List, [], length, refl, sym, ap, ◌∙◌, arith}
use Rattle.std.proofs.Math.Bool.{or-false}
use Rattle.lfm_protocol.specs.declared.points.Point.{Point}
use Rattle.lfm_protocol.specs.declared.points.Point.TheVariants.{SendPushRecheck, PushedHandoffLoad, ReleasePushRecheck}
use Rattle.lfm_protocol.specs.declared.points.Pusher.{Pusher}
use Rattle.lfm_protocol.specs.declared.seats.SeatState.{SeatState}
use Rattle.lfm_words.specs.declared.pop_lists.Record.{Record}
use Rattle.lfm_protocol.specs.Core.{Core}
use Rattle.lfm_laws.specs.steady.Ghost.{Responsibility, posted, Ghost}
use Rattle.lfm_protocol.specs.Points.{pushed_seat}
use Rattle.lfm_protocol.specs.Seats.{seat}
use Rattle.lfm_laws.specs.steady.Steady.{HasQueue, AwaitsAsPusher, StandsAt, WatchesAsPusher, WatchesAt, CarriedFits, cleared, Fits}
use Rattle.lfm_laws.specs.steady.Views.{is_queued}
use Rattle.lfm_laws.specs.laws.Watched.{IsQueued, Watches, Watched}
use Rattle.lfm_laws.proofs.lawful.read.QueueRead.{waits_told}
use Rattle.lfm_laws.proofs.steady.frames.Seated.{seat_of_stamp}
use Rattle.lfm_laws.proofs.steady.queue.Serving.{queue_of_queued}
use Rattle.lfm_laws.proofs.steady.handoff.Handoffs.{posted_of}
use Rattle.lfm_laws.proofs.steady.queue.Pushers.{newest_is}

-- if nothing is being collected and the pop list is empty, the push word leads to the queue
pub head_some : (c : Core) (g : Ghost) → Fits c g → g.walk ≡ 0 → c.popped ≡ [] → HasQueue g → 0 < c.push.next
head_some c g fits walked empty some =
    let none : length c.popped ≡ 0 = ap length empty in
    let away : cleared c g ≢ g.pushed = λ e. omega arith in
    let head = newest_is c g fits away in
    let is = seat_of_stamp c g g.pushed fits some (omega arith) in
    omega (arith, is.above, head)

pub carried_posted : (p : Responsibility) (walk : ℕ) (popped : List Record) → p ≡ posted → CarriedFits p walk popped → (walk ≡ 0) × (popped ≡ [])
carried_posted p walk popped place fits = rw place at fits

-- while a handoff is posted and some seat is queued, the push list has a record
pub head_posted : (c : Core) (g : Ghost) → Fits c g → g.place ≡ posted → HasQueue g → 0 < c.push.next
head_posted c g fits place some =
    let carried = carried_posted g.place g.walk c.popped place fits.words.carried in
    head_some c g fits carried.0 carried.1 some

-- nothing is granted while a handoff is posted, so a seat that awaits a grant is queued
pusher_waits : (c : Core) (g : Ghost) (s : ℕ) (pusher : Pusher) → Fits c g → g.place ≡ posted → AwaitsAsPusher g.place s (g.standing s) pusher
    → WatchesAsPusher g pusher → IsQueued c (pushed_seat pusher s)
pusher_waits c g s Pusher.Locker fits place awaits watches =
    let awaits = rw place at awaits in
    waits_told c g fits s (sym (or-false (is_queued (g.standing s))) ∙ awaits)
pusher_waits c g s (Pusher.Sender t) fits place awaits watches = waits_told c g fits t watches

watches_told : (c : Core) (g : Ghost) (s : ℕ) (x : SeatState) (p : Point) → Fits c g → g.place ≡ posted → StandsAt g.place x.depth s (g.standing s) p
    → WatchesAt c g s x p → Watches c s x p
watches_told c g s x (PushedHandoffLoad pusher) fits place stands watches = pusher_waits c g s pusher fits place stands watches
watches_told c g s x (SendPushRecheck t seen) fits place stands watches = (watches.0, head_posted c g fits place (queue_of_queued c g t fits watches.1))
watches_told c g s x (ReleasePushRecheck releaser) fits place stands watches = (watches.0, head_posted c g fits place watches.1)
watches_told c g s x _ fits place stands watches = watches

pub watched_read : (c : Core) (g : Ghost) → Fits c g → Watched c
watched_read c g fits some =
    let place = posted_of c.seats g.place c.handoff some fits.words.handoff in
    let here = fits.each g.watcher in
    record {
      who = g.watcher;
      watches = watches_told c g g.watcher (seat c.seats g.watcher) (seat c.seats g.watcher).point fits place here.stands (here.watches place refl);
    }
