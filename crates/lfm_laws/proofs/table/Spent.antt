-- A resting seat that holds nothing can be read as one that has spent its budget. So can seats that do not exist yet, or no
-- longer exist.
use Rattle.std.proofs.Common.{◌≡◌, ℕ, ◌<◌, ◌≤◌, length, refl, sym, ap, ◌∙◌, inl, inr, arith}
use Rattle.lfm_protocol.specs.declared.points.Point.TheVariants.{Rest}
use Rattle.lfm_protocol.specs.declared.seats.SeatState.{SeatState}
use Rattle.lfm_words.specs.declared.handoffs.Handoff.{Handoff}
use Rattle.lfm_words.specs.declared.wakes.Wake.{Wake}
use Rattle.lfm_protocol.specs.Core.{Core, put}
use Rattle.lfm_laws.specs.steady.Ghost.{nobody, posted, Ghost}
use Rattle.lfm_protocol.specs.Seats.{seat, wake, with_entry, unposted, IsSeat}
use Rattle.lfm_laws.specs.steady.Steady.{SeatFits, Fits}
use Rattle.std.proofs.lemmas.Bool.{cases_eq}
use Rattle.lfm_laws.specs.steady.Views.{asks_for, claims_for}
use Rattle.lfm_laws.proofs.steady.frames.Entries.{seat-with_same, seat-with_other, length-with_entry}
use Rattle.lfm_laws.proofs.steady.frames.Frames.{each_after, sees_moved, HandoffFits_after}
use Rattle.lfm_laws.specs.table.Settles.{spent}

not_here : (h : Handoff) (s : ℕ) → h ≡ unposted → h.seat ≡ s → 0 < s → ⊥
not_here h s none here above = let e : h.seat ≡ 0 = ap (λ h. h.seat) none in omega (arith, e)

spent_own : (c d : Core) (g : Ghost) (s takes posts : ℕ) (w : Wake) → d.handoff ≡ unposted → d.budget ≡ c.budget → g.place ≡ nobody
    → SeatFits c g s (record { depth = 0; takes = takes; posts = posts; point = Rest }) w → SeatFits d g s (spent c.budget) w
spent_own c d g s takes posts w none budget place here =
    record {
      claims = here.claims;
      woken = here.woken;
      granted = here.granted;
      entered = here.entered;
      listed = here.listed;
      stands = here.stands;
      depth = here.depth;
      knows = tt;
      number = λ is above. absurd (not_here d.handoff s none is above);
      takes = omega (arith, budget);
      posts = omega arith;
      pushes = omega (arith, here.pushes, here.takes);
      watches = λ posts watcher. let f : nobody ≡ posted = sym place ∙ posts in absurd (cc);
    }

-- such a seat has no errands, before or after
spent_asks : (c : Core) (s : ℕ) → IsSeat c.seats s → (seat c.seats s).point ≡ Rest → (t : ℕ)
    → asks_for (seat (with_entry c.seats s (spent c.budget)) t) t ≡ asks_for (seat c.seats t) t
spent_asks c s is at t =
    elim (cases_eq t s) [
      | inl here ↦ rw (here, seat-with_same c.seats s (spent c.budget) is, at) refl
      | inr other ↦ rw (seat-with_other c.seats s t (spent c.budget) other) refl
    ]

spent_claims : (c : Core) (s : ℕ) → IsSeat c.seats s → (seat c.seats s).point ≡ Rest → (t : ℕ)
    → claims_for (seat (with_entry c.seats s (spent c.budget)) t) ≡ claims_for (seat c.seats t)
spent_claims c s is at t =
    elim (cases_eq t s) [
      | inl here ↦ rw (here, seat-with_same c.seats s (spent c.budget) is, at) refl
      | inr other ↦ rw (seat-with_other c.seats s t (spent c.budget) other) refl
    ]

pub spent_fits : (c : Core) (g : Ghost) (s : ℕ) → IsSeat c.seats s → Fits c g → g.place ≡ nobody → (seat c.seats s).point ≡ Rest → (seat c.seats s).depth ≡ 0
    → Fits (put c s (spent c.budget)) g
spent_fits c g s is fits place at deep =
    let x = seat c.seats s in
    let y : SeatState = spent c.budget in
    let same : length (with_entry c.seats s y) ≡ length c.seats = length-with_entry c.seats s y in
    let more : (seat c.seats s).posts ≤ c.budget = omega (arith, (fits.each s).posts, (fits.each s).takes) in
    let none : c.handoff ≡ unposted = rw place at fits.words.handoff in
    let own = spent_own c (put c s y) g s x.takes x.posts (wake c.wakes s) none refl place (rw (at, deep) at (fits.each s)) in
    let w = fits.words in
    record {
      words = record {
        owner = w.owner;
        handoff = HandoffFits_after c s y g.place c.handoff w.handoff;
        stamp = w.stamp;
        head = w.head;
        parts = w.parts;
        count = w.count;
        work = w.work;
        carried = w.carried;
        last = w.last;
        answers = w.answers;
        listed = w.listed;
      };
      stamps = λ stamp above within. let f = fits.stamps stamp above within in record { stands = f.stands; fresh = f.fresh; walked = f.walked };
      each = each_after c c g g s y is refl fits more (λ t other. refl) (λ t other. sees_moved c g s y c.count c.owner c.wakes t (seat c.seats t) is more) own;
      agents = λ t. record {
        asked = λ agent asking. rw (spent_asks c s is at agent) ((fits.agents t).asked agent asking);
        sent = λ agent claiming. rw (spent_claims c s is at agent) ((fits.agents t).sent agent claiming);
      };
      sums = rw same (record { asking = fits.sums.asking; queued = fits.sums.queued; pushed = fits.sums.pushed });
      sizes = record {
        links = fits.sizes.links ∙ sym same;
        wakes = fits.sizes.wakes ∙ sym same;
        seats = omega (arith, fits.sizes.seats, same);
      };
    }
