-- A pusher stores into the link of the seat that it will push. That seat still asks, so its link belongs to no record in the
-- queue, and the others see no change.
use Rattle.std.proofs.Common.{◌≡◌, ◌≢◌, ℕ, ◌+◌, ◌≤◌, ◌<◌, length, refl, sym, ap, ◌∙◌, arith}
use Rattle.lfm_protocol.specs.declared.points.Point.TheVariants.{LinkStore, PushExchange}
use Rattle.lfm_protocol.specs.declared.points.Pusher.{Pusher}
use Rattle.lfm_protocol.specs.declared.seats.SeatState.{SeatState}
use Rattle.lfm_words.specs.declared.links.Link.{Link}
use Rattle.lfm_words.specs.declared.wakes.Wake.{Wake}
use Rattle.lfm_protocol.specs.Core.{Core, put, put_link}
use Rattle.lfm_laws.specs.steady.Ghost.{asks, Ghost}
use Rattle.lfm_laws.specs.steady.EventOutcome.{Kept}
use Rattle.lfm_protocol.specs.Points.{pushed_seat}
use Rattle.lfm_protocol.specs.Seats.{seat, wake, no_link, IsSeat}
use Rattle.lfm_laws.specs.steady.Steady.{ErrandFits, StandsAsPusher, SeatFits, StampFits, Fits}
use Rattle.lfm_laws.specs.steady.Views.{grant_at}
use Rattle.lfm_laws.proofs.steady.frames.Abstracts.{stays_same}
use Rattle.lfm_laws.proofs.steady.frames.Entries.{entry-with_same, entry-with_other, length-with_entry}
use Rattle.lfm_laws.proofs.steady.frames.Frames.{Sees, Errands, each_after, agents_after, IsSeat_after, IsOld_after, HandoffFits_after, WatchesAt_seen, fits_moved, sizes_after}
use Rattle.lfm_laws.proofs.steady.frames.Histories.{history_stays}
use Rattle.lfm_laws.proofs.steady.queue.Pushers.{fits_at}
use Rattle.lfm_laws.proofs.steady.frames.Seated.{seat_of_standing}
use Rattle.lfm_laws.proofs.steady.frames.Quiet.{wake_by_same}

-- the seat that a pusher will push asks through it
pub pushed_asks : (g : Ghost) (s : ℕ) (pusher : Pusher) → StandsAsPusher s (g.standing s) pusher → ErrandFits g s pusher
    → g.standing (pushed_seat pusher s) ≡ asks s
pushed_asks g s Pusher.Locker stands errand = stands
pushed_asks g s (Pusher.Sender t) stands errand = errand.1

-- The store

-- the other seats see no change
sees_link : (c : Core) (g : Ghost) (s u t : ℕ) (y x : SeatState) (l : Link) → IsSeat c.seats s → (seat c.seats s).posts ≤ y.posts
    → g.standing u ≡ asks s → t ≢ s → Sees c (put (put_link c u l) s y) g g t x
sees_link c g s u t y x l is posts asked other =
    record {
      held = refl;
      grant = refl;
      entered = refl;
      standing = refl;
      listed = λ stamp e fits. fits;
      errand = λ v e. e;
      errand_link = λ v e. entry-with_other no_link c.links u v l (λ same. let f = sym e ∙ ap g.standing same ∙ asked in other cc);
      claim = λ v e. e;
      seats = λ v there. IsSeat_after c s v y there;
      old = λ n known. IsOld_after c s y n is posts known;
      number = λ e above. refl;
      head = λ n most stays. stays;
      seen = λ m known. known;
      carrier = λ e. record { walk = refl; popped = refl; next = refl; queue = λ some. some };
      budget = refl;
      pushes = refl;
      watches = λ was at watcher. WatchesAt_seen c (put (put_link c u l) s y) g g t x x.point refl (λ some. some) (λ v e. e) (was at watcher);
    }

-- the store is not into the link of a queued record
stamp_with_link : (c : Core) (g : Ghost) (s u stamp : ℕ) (y : SeatState) (l : Link) → g.standing u ≡ asks s
    → StampFits c g stamp → StampFits (put (put_link c u l) s y) g stamp
stamp_with_link c g s u stamp y l asked fits =
    let same = entry-with_other no_link c.links u (g.pushed_at stamp) l (λ e. let f = sym fits.stands ∙ ap g.standing e ∙ asked in absurd (cc)) in
    record {
      stands = fits.stands;
      fresh = λ above. same ∙ fits.fresh above;
      walked = λ within. same ∙ fits.walked within;
    }

-- the state stays steady when seat s stores into the link of u, which asks through s
pub link_stores : (c : Core) (g : Ghost) (s u : ℕ) (y : SeatState) (l : Link) → IsSeat c.seats s → Fits c g → Errands c s y → g.standing u ≡ asks s
    → SeatFits (put_link c u l) g s y (wake c.wakes s) → Fits (put (put_link c u l) s y) g
link_stores c g s u y l is fits errands asked own =
    let words = fits.words in
    let posts : (seat c.seats s).posts ≤ y.posts = omega (arith, errands.posts_same) in
    let fewer : y.posts ≤ (seat c.seats s).posts = omega (arith, errands.posts_same) in
    let own_after = fits_moved (put_link c u l) g s y c.count c.owner c.wakes s y (wake c.wakes s) is posts fewer own in
    record {
      words = record {
        owner = words.owner;
        handoff = HandoffFits_after c s y g.place c.handoff words.handoff;
        stamp = words.stamp;
        head = words.head;
        parts = words.parts;
        count = words.count;
        work = words.work;
        carried = words.carried;
        last = words.last;
        answers = words.answers;
        listed = words.listed;
      };
      stamps = λ stamp above within. stamp_with_link c g s u stamp y l asked (fits.stamps stamp above within);
      each = each_after c (put_link c u l) g g s y is refl fits posts (λ t other. refl) (λ t other. sees_link c g s u t y (seat c.seats t) l is posts asked other) own_after;
      agents = agents_after c g.standing s y is errands fits.agents;
      sums = rw (length-with_entry c.seats s y) fits.sums;
      sizes = sizes_after c _ s y refl (length-with_entry c.links u l) refl fits.sizes;
    }

-- after the store, what the pusher knows includes its link
own_link_store : (c : Core) (g : Ghost) (s : ℕ) (x : SeatState) (w : Wake) (pusher : Pusher) (seen : Link) → 0 < pushed_seat pusher s
    → pushed_seat pusher s ≤ length c.links → SeatFits c g s (record x { point = LinkStore pusher seen }) w
    → SeatFits (put_link c (pushed_seat pusher s) (record { stamp = seen.stamp + 1; next = seen.next })) g s (record x { point = PushExchange pusher seen }) w
own_link_store c g s x w pusher seen above within fits =
    record {
      claims = fits.claims;
      woken = fits.woken ∙ wake_by_same (grant_at g.place s) g.place (g.standing s) (g.standing s) s (LinkStore pusher seen) (PushExchange pusher seen) refl;
      granted = fits.granted;
      entered = fits.entered;
      listed = fits.listed;
      stands = fits.stands;
      depth = fits.depth;
      knows = (fits.knows.0, fits.knows.1, entry-with_same no_link c.links (pushed_seat pusher s) (record { stamp = seen.stamp + 1; next = seen.next }) above within);
      number = fits.number;
      takes = fits.takes;
      posts = fits.posts;
      pushes = fits.pushes;
      watches = fits.watches;
    }

pub at_LinkStore : (c : Core) (g : Ghost) (s : ℕ) (pusher : Pusher) (seen : Link) → IsSeat c.seats s → (seat c.seats s).point ≡ LinkStore pusher seen → Fits c g → Kept c g s
at_LinkStore c g s pusher seen is at fits =
    let x = seat c.seats s in
    let w = wake c.wakes s in
    let u = pushed_seat pusher s in
    let here = fits_at c g s x w (LinkStore pusher seen) at (fits.each s) in
    let asked = pushed_asks g s pusher here.stands here.knows.0 in
    let there = seat_of_standing c g u fits (λ e. let f = sym asked ∙ e in absurd (cc)) in
    rw (at, at) (record {
      to = g;
      fits =
          link_stores c g s u (record x { point = PushExchange pusher seen }) (record { stamp = seen.stamp + 1; next = seen.next }) is fits
          (record { asks_same = rw at; claims_same = rw at; posts_same = refl }) asked
          (own_link_store c g s x w pusher seen there.above (omega (arith, there.within, fits.sizes.links)) here);
      goes = stays_same g g refl (λ t. refl) refl;
      history = history_stays g g refl refl refl refl;
    })
