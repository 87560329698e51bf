-- The stores of a grant: for the first record of the queue by a call that serves, and the free grant of a send.
use Rattle.std.proofs.Common.{◌≡◌, ◌≢◌, ℕ, ◌+◌, ◌≤◌, None, List, ◌∷◌, refl, sym, ap, ◌∙◌, arith}
use Rattle.std.proofs.lemmas.Bool.{ne_eqb, false≢true}
use Rattle.lfm_protocol.specs.declared.points.Point.{Point}
use Rattle.lfm_protocol.specs.declared.seats.SeatState.{SeatState}
use Rattle.lfm_words.specs.declared.pop_lists.Record.{Record}
use Rattle.lfm_words.specs.declared.wakes.Wake.{Wake}
use Rattle.lfm_words.specs.declared.wakes.Wake.TheVariants.{Quiet, Grant}
use Rattle.lfm_protocol.specs.Core.{Core, put}
use Rattle.lfm_laws.specs.steady.Ghost.{nobody, granted, posted, serving, apart, queued, Ghost}
use Rattle.lfm_protocol.specs.Seats.{seat, wake, with_entry, IsSeat}
use Rattle.lfm_laws.specs.steady.Steady.{KnowsAt, DepthAt, StandsAt, QueuedFits, SeatFits, unanswered, GrantFits, Fits}
use Rattle.lfm_laws.specs.steady.Views.{claim_at, held_by, grant_at, wake_at, due_posts_at, due_pushes_at}
use Rattle.lfm_laws.proofs.steady.frames.Entries.{entry-with_same, entry-with_other, length-with_entry}
use Rattle.lfm_laws.proofs.steady.frames.Frames.{Errands, held_by-other}
use Rattle.lfm_laws.proofs.steady.grant.Granted.{awaits_queued, granted_seat}
use Rattle.lfm_laws.proofs.steady.handoff.Handing.{handed}
use Rattle.lfm_laws.proofs.steady.queue.Popping.{IsFirst, popped_to, listed_popped, pops_fit}
use Rattle.lfm_laws.proofs.steady.frames.Sums.{changed_same, changed_other}

-- The granter

-- the point of a seat after it has stored a grant: it has no claim there, and what it knew suffices
pub record Rests (g : Ghost) (s u stamp : ℕ) (x : SeatState) (w : Wake) (p : Point) : Type 0 where
  pub claims : claim_at x.depth s p ≡ nobody
  pub woken : w ≡ wake_at (granted u stamp) (g.standing s) s p
  pub stands : StandsAt (granted u stamp) x.depth s (g.standing s) p
  pub depth : DepthAt x.depth p
  pub knows : (d : Core) (h : Ghost) → KnowsAt d h s x.posts p
  pub posts : x.posts + due_posts_at x.depth p ≤ x.takes
  pub pushes : g.pushes s + due_pushes_at x.depth w (g.standing s) p ≤ x.takes

pub grant_of_other : (u s stamp : ℕ) → u ≢ s → grant_at (granted u stamp) s ≡ None
grant_of_other u s stamp other = rw (ne_eqb u s other) refl

-- a seat that has granted another fits at such a point
pub granter : (c : Core) (g h : Ghost) (s u stamp owner : ℕ) (popped : List Record) (wakes : List Wake) (x : SeatState) (w : Wake) (p : Point) → SeatFits c g s x w → u ≢ s
    → h.place ≡ granted u stamp → h.standing s ≡ g.standing s → h.pushes s ≡ g.pushes s → ((k : ℕ) → QueuedFits g s k → QueuedFits h s k)
    → Rests g s u stamp x w p → SeatFits (handed c owner popped wakes) h s (record x { point = p }) w
granter c g h s u stamp owner popped wakes x w p fits other place stands pushes listed rests =
    let none = grant_of_other u s stamp other in
    record {
      claims = rests.claims ∙ rw place refl;
      woken = rw (place, none, stands) rests.woken;
      granted = λ some. absurd (false≢true (rw (place, none) at some));
      entered = λ entered. absurd (false≢true (rw place at entered));
      listed = λ k at. listed k (fits.listed k (sym stands ∙ at));
      stands = rw (place, stands) rests.stands;
      depth = rests.depth;
      knows = rests.knows (handed c owner popped wakes) h;
      number = fits.number;
      takes = fits.takes;
      posts = rests.posts;
      pushes = rw (pushes, stands) rests.pushes;
      watches = λ placed at. (let clash : granted u stamp ≡ posted = sym place ∙ placed in absurd (cc));
    }

-- The grant of the first record

-- the wake words after the grant of this record's seat
abbrev pub granted_wakes : Core → Record → List Wake
granted_wakes c r = with_entry c.wakes r.seat (Grant r.stamp)

-- the ghost after it
abbrev pub granted_to : Ghost → Record → Ghost
granted_to g r = popped_to g r.seat (granted r.seat r.stamp) g.answered

unanswered_granted : (u stamp : ℕ) → stamp ≢ 0 → unanswered (granted u stamp) ≡ 1
unanswered_granted u stamp some = rw (ne_eqb stamp 0 some) refl

last_granted : (popped : ℕ) (pushed_at : ℕ → ℕ) (r : Record) → r.stamp ≡ popped → pushed_at popped ≡ r.seat → GrantFits popped pushed_at r.seat r.stamp
last_granted popped pushed_at r stamp here some = (stamp, ap pushed_at stamp ∙ here)

-- the seat of the first record fits after its grant
first_granted : (c : Core) (g : Ghost) (s : ℕ) (r : Record) (rest : List Record) → Fits c g → g.place ≡ serving s → IsFirst c g r rest → r.seat ≢ s
    → SeatFits (handed c c.owner rest (granted_wakes c r)) (granted_to g r) r.seat (seat c.seats r.seat) (Grant r.stamp)
first_granted c g s r rest fits serves first other =
    let there = fits.each r.seat in
    let x : SeatState = seat c.seats r.seat in
    let none : held_by g.place r.seat ≡ nobody = rw serves (held_by-other (serving s) s r.seat refl other) in
    let stands : StandsAt g.place x.depth r.seat (queued (g.popped + 1)) x.point = rw first.stands at there.stands in
    let awaits = awaits_queued g.place x.depth r.seat (g.popped + 1) x.point (there.claims ∙ none) stands in
    granted_seat c g (granted_to g r) r.seat r.stamp c.owner rest (granted_wakes c r) x (wake c.wakes r.seat) there none awaits refl (changed_same g.standing r.seat apart) refl

-- the state stays steady when a call of seat s that serves has granted the first record and s is at such a point
pub grant_fits : (c : Core) (g : Ghost) (s : ℕ) (r : Record) (rest : List Record) (p : Point) → IsSeat c.seats s → Fits c g
    → Errands c s (record (seat c.seats s) { point = p }) → g.place ≡ serving s → g.walk ≡ 0 → c.popped ≡ r ∷ rest → IsFirst c g r rest → IsSeat c.seats r.seat → r.seat ≢ s
    → Rests g s r.seat r.stamp (seat c.seats s) (wake c.wakes s) p
    → Fits (put (handed c c.owner rest (granted_wakes c r)) s (record (seat c.seats s) { point = p })) (granted_to g r)
grant_fits c g s r rest p is fits errands serves walked popped first there other rests =
    let x : SeatState = seat c.seats s in
    let away : s ≢ r.seat = λ e. other (sym e) in
    let idle : c.owner ≡ 0 = rw serves at fits.words.owner in
    let level : g.answered + 0 ≡ g.popped = rw serves at fits.words.answers in
    let none : wake (granted_wakes c r) s ≡ wake c.wakes s = entry-with_other Quiet c.wakes r.seat s (Grant r.stamp) away in
    let gives : wake (granted_wakes c r) r.seat ≡ Grant r.stamp = entry-with_same Quiet c.wakes r.seat (Grant r.stamp) there.above (omega (arith, there.within, fits.sizes.wakes)) in
    pops_fit c g s (record x { point = p }) r c.owner rest (granted_wakes c r) (granted r.seat r.stamp) g.answered is fits
    (record {
      errands = errands;
      serves = serves;
      walked = walked;
      first = popped;
      unposted_after = λ e. cc;
      holds = λ t differs apart. (refl, grant_of_other r.seat t r.stamp (λ e. apart (sym e)), refl);
      owns = idle;
      handoff = λ e. e;
      units = refl;
      work = tt;
      carried = walked;
      last = λ stamp here. last_granted (g.popped + 1) g.pushed_at r stamp here;
      answers = omega (arith, level, unanswered_granted r.seat r.stamp (omega (arith, first.stamp)));
      woken = λ t differs apart. entry-with_other Quiet c.wakes r.seat t (Grant r.stamp) apart;
      woken_all = length-with_entry c.wakes r.seat (Grant r.stamp);
      own = rw none (granter c g (granted_to g r) s r.seat r.stamp c.owner rest (granted_wakes c r) x (wake c.wakes s) p (fits.each s) other refl (changed_other g.standing r.seat s apart away) refl
          (λ k was. listed_popped g r.seat (granted r.seat r.stamp) g.answered s k first.here away was) rests);
      second = λ far. rw gives (first_granted c g s r rest fits serves first other);
    })
