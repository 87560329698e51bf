-- A won handoff exchange: the handoff word becomes empty, and the seat that won has the responsibility.
use Rattle.std.proofs.Common.{◌≡◌, ◌≢◌, ℕ, false, ◌+◌, None, List, refl, sym, ap, ◌∙◌, arith}
use Rattle.lfm_protocol.specs.declared.seats.SeatState.{SeatState}
use Rattle.lfm_protocol.specs.Core.{Core, put}
use Rattle.lfm_laws.specs.steady.Ghost.{Responsibility, nobody, owned, granted, posted, entering, accepting, leaving, serving, Ghost}
use Rattle.lfm_protocol.specs.Seats.{wake, unposted, IsSeat}
use Rattle.lfm_laws.specs.steady.Steady.{HandoffFits, SeatFits, Fits, owner_of, own_unit, again_unit, WorkFits, CarriedFits, LastFits, unanswered}
use Rattle.lfm_laws.specs.steady.Views.{grant_at, is_entered}
use Rattle.lfm_laws.proofs.steady.frames.Entries.{length-with_entry}
use Rattle.lfm_laws.proofs.steady.frames.Frames.{Errands, IsOf, each_after, IsSeat_after, IsOld_after, agents_after, held_by-other, fits_moved, sizes_after}
use Rattle.lfm_laws.proofs.steady.handoff.Handoffs.{listed_same}

-- seat s serves, or accepts the responsibility
abbrev pub IsWonBy : ℕ → Responsibility → Type 0
IsWonBy s (serving t) = t ≡ s
IsWonBy s (accepting t) = t ≡ s
IsWonBy s _ = ⊥

-- the words at such a place
record Won (c : Core) (g : Ghost) (s : ℕ) (place : Responsibility) : Type 0 where
  by : IsOf s place
  unpost : (seats : List SeatState) → HandoffFits seats place unposted
  none : place ≢ posted
  owns : owner_of place ≡ 0
  own : own_unit place ≡ 0
  again : again_unit place ≡ 0
  work : WorkFits place g.asking g.pushed g.popped
  carried : CarriedFits place g.walk c.popped
  last : LastFits g.popped g.pushed_at place
  answers : unanswered place ≡ 0
  grant : (t : ℕ) → grant_at place t ≡ None
  entered : (t : ℕ) → is_entered place t ≡ false

won : (c : Core) (g : Ghost) (s : ℕ) (place : Responsibility) → IsWonBy s place → WorkFits posted g.asking g.pushed g.popped → CarriedFits posted g.walk c.popped → Won c g s place
won c g s (serving t) by work carried = record { by = by; unpost = λ seats. refl; none = λ e. cc; owns = refl; own = refl; again = refl; work = work; carried = tt; last = tt; answers = refl; grant = λ t. refl; entered = λ t. refl }
won c g s (accepting t) by work carried = record { by = by; unpost = λ seats. refl; none = λ e. cc; owns = refl; own = refl; again = refl; work = work; carried = carried.0; last = tt; answers = refl; grant = λ t. refl; entered = λ t. refl }
won c g s nobody by work carried = absurd by
won c g s (owned t again) by work carried = absurd by
won c g s (granted t stamp) by work carried = absurd by
won c g s posted by work carried = absurd by
won c g s (entering t into stamp) by work carried = absurd by
won c g s (leaving t) by work carried = absurd by

-- what the step must show: the new state y of seat s fits the new place and word
pub record Wins (c : Core) (g : Ghost) (s : ℕ) (y : SeatState) (place : Responsibility) : Type 0 where
  pub errands : Errands c s y
  pub before : g.place ≡ posted
  pub after : IsWonBy s place
  pub own : SeatFits (record c { handoff = unposted }) (record g { place = place }) s y (wake c.wakes s)

pub handoff_wins : (c : Core) (g : Ghost) (s : ℕ) (y : SeatState) (place : Responsibility) → IsSeat c.seats s → Fits c g → Wins c g s y place
    → Fits (put (record c { handoff = unposted }) s y) (record g { place = place })
handoff_wins c g s y place is fits wins =
    let words = fits.words in
    let before = wins.before in
    let at = won c g s place wins.after (rw before at words.work) (rw before at words.carried) in
    let e : Core = record c { handoff = unposted } in
    let h : Ghost = record g { place = place } in
    let posts = wins.errands.posts_same in
    let size = length-with_entry c.seats s y in
    let owner : c.owner ≡ 0 = rw before at words.owner in
    let count : c.count + g.popped ≡ g.asking + g.pushed + 0 + 0 = rw before at words.count in
    let answers : g.answered + 0 ≡ g.popped = rw before at words.answers in
    record {
      words = record {
        owner = owner ∙ sym at.owns;
        handoff = at.unpost _;
        stamp = words.stamp;
        head = words.head;
        parts = words.parts;
        count = omega (arith, count, at.own, at.again);
        work = at.work;
        carried = at.carried;
        last = at.last;
        answers = omega (arith, answers, at.answers);
        listed = words.listed;
      };
      stamps = λ stamp above within. (let f = fits.stamps stamp above within in record { stands = f.stands; fresh = f.fresh; walked = f.walked });
      each = each_after c e g h s y is refl fits (omega (arith, posts)) (λ t other. refl) (λ t other. record {
        held = rw before (held_by-other place s t at.by other);
        grant = rw before (at.grant t);
        entered = rw before (at.entered t);
        standing = refl;
        listed = λ stamp stands q. listed_same g h t stamp refl refl refl q;
        errand = λ u stands. stands;
        errand_link = λ u stands. refl;
        claim = λ u stands. stands;
        seats = λ u is. IsSeat_after c s u y is;
        old = λ n old. IsOld_after c s y n is (omega (arith, posts)) old;
        number = λ same above. absurd (omega arith);
        head = λ n older stays same above. (let none : 0 ≡ n.seat = ap (λ k. k.seat) same in absurd (omega arith));
        seen = λ l seen. seen;
        carrier = λ serves. (let none : nobody ≡ serving t = rw before at serves in cc);
        budget = refl;
        pushes = refl;
        watches = λ watches posts. absurd (at.none posts);
      }) (fits_moved e h s y e.count e.owner e.wakes s y (wake c.wakes s) is (omega (arith, posts)) (omega (arith, posts)) wins.own);
      agents = agents_after c g.standing s y is wins.errands fits.agents;
      sums = rw size (record { asking = fits.sums.asking; queued = fits.sums.queued; pushed = fits.sums.pushed });
      sizes = sizes_after c _ s y refl refl refl fits.sizes;
    }
