-- The two steps of a send that change the standing of its target: it claims a seat that waits, and, if the count was 0, it
-- brings in the claimed seat.
use Rattle.std.proofs.Common.{◌≡◌, ◌≢◌, ℕ, true, false, ◌+◌, ◌≤◌, List, refl, sym, ap, ◌∙◌, arith}
use Rattle.std.proofs.lemmas.Bool.{eq-eqb, ne_eqb}
use Rattle.lfm_protocol.specs.declared.seats.SeatState.{SeatState}
use Rattle.lfm_words.specs.declared.wakes.Wake.{Wake}
use Rattle.lfm_words.specs.declared.wakes.Wake.TheVariants.{Quiet, Waiting, Claimed}
use Rattle.lfm_protocol.specs.Core.{Core, put, put_wake}
use Rattle.lfm_laws.specs.steady.Ghost.{Responsibility, nobody, owned, granted, posted, entering, accepting, leaving, serving, Standing, apart, claimed, Ghost}
use Rattle.lfm_laws.specs.steady.Numbered.{changed}
use Rattle.lfm_protocol.specs.Seats.{seat, wake, with_entry, IsSeat}
use Rattle.lfm_laws.specs.steady.Steady.{own_unit, WorkFits, SeatFits, WordsFit, Fits, sleeps_as_waiter}
use Rattle.lfm_laws.specs.steady.Views.{asks_for, claims_for, is_queued}
use Rattle.lfm_laws.proofs.steady.frames.Entries.{entry-with_same, entry-with_other, length-with_entry, seat-with_same}
use Rattle.lfm_laws.proofs.steady.frames.Frames.{Sees, WatchesAt_seen, HandoffFits_after, IsSeat_after, IsOld_after, sizes_after}
use Rattle.lfm_laws.proofs.steady.grant.Standings.{zero_apart, agents_anew, sums_anew, stamps_anew}
use Rattle.lfm_laws.proofs.steady.frames.Sums.{changed_same, changed_other}
use Rattle.lfm_laws.proofs.steady.grant.Wakings.{IsWaiting, waiting_of, claimed_sleeps_at}
use Rattle.lfm_laws.proofs.steady.handoff.Handing.{each_after_two}
use Rattle.lfm_laws.proofs.steady.grant.Claimed.{sleeper_fits, wake_asleep, pays_asleep}

-- The claim

-- the ghost after seat s has claimed seat u
abbrev pub claiming : Ghost → ℕ → ℕ → Ghost
claiming g s u = record g { standing = changed g.standing u (claimed s) }

-- seat s goes on with state y and the errand to count seat u, whose wake word it found WAITING
pub record Claims (c : Core) (g : Ghost) (s u : ℕ) (y : SeatState) : Type 0 where
  pub known : IsSeat c.seats u
  pub other : u ≢ s
  pub found : wake c.wakes u ≡ Waiting
  pub asks_same : asks_for y s ≡ asks_for (seat c.seats s) s
  pub claims_before : claims_for (seat c.seats s) ≡ 0
  pub claims_now : claims_for y ≡ u
  pub posts_same : y.posts ≡ (seat c.seats s).posts
  pub own : SeatFits c (claiming g s u) s y (wake c.wakes s)

-- the claimed seat fits
claimed_fits : (c : Core) (g : Ghost) (s u : ℕ) (x : SeatState) → IsWaiting g.place (g.standing u) u x.point → SeatFits c g u x Waiting
    → SeatFits c (claiming g s u) u x Claimed
claimed_fits c g s u x waits here =
    let now = changed_same g.standing u (claimed s) in
    let due = pays_asleep c g u x Waiting waits.sleeps here in
    sleeper_fits c c g (claiming g s u) u x Waiting Claimed waits.sleeps here refl refl refl waits.ungranted (rw now refl)
    (λ into none. let f = sym into ∙ waits.unentered in absurd (cc)) (λ stamp e. let f = sym now ∙ e in absurd (cc)) (rw now due) here.watches

-- a queued seat stays queued if a seat that was not queued changes its standing
queued_on : (g : Ghost) (u : ℕ) (standing : Standing) → is_queued (g.standing u) ≡ false → (t : ℕ) → is_queued (g.standing t) ≡ true
    → is_queued (changed g.standing u standing t) ≡ true
queued_on g u standing unqueued t is =
    let other : t ≢ u = λ e. let f = sym is ∙ ap (λ v. is_queued (g.standing v)) e ∙ unqueued in cc in
    ap is_queued (changed_other g.standing u t standing other) ∙ is

sees_claim : (c : Core) (g : Ghost) (s u : ℕ) (y : SeatState) (count : ℕ) (wakes : List Wake) → IsSeat c.seats s → y.posts ≡ (seat c.seats s).posts → g.standing u ≡ apart
    → (t : ℕ) → t ≢ s → t ≢ u → Sees c (put (record c { count = count; wakes = wakes }) s y) g (claiming g s u) t (seat c.seats t)
sees_claim c g s u y count wakes is posts stands t away aside =
    let d = put (record c { count = count; wakes = wakes }) s y in
    let x = seat c.seats t in
    let unqueued : is_queued (g.standing u) ≡ false = rw stands in
    record {
      held = refl;
      grant = refl;
      entered = refl;
      standing = changed_other g.standing u t (claimed s) aside;
      listed = λ n e q. record { above = q.above; within = q.within; here = q.here };
      errand = λ v e. changed_other g.standing u v (claimed s) (λ same. let f = sym e ∙ ap g.standing same ∙ stands in cc) ∙ e;
      errand_link = λ v e. refl;
      claim = λ v e. changed_other g.standing u v (claimed s) (λ same. let f = sym e ∙ ap g.standing same ∙ stands in cc) ∙ e;
      seats = λ v v_is. IsSeat_after c s v y v_is;
      old = λ n old. IsOld_after c s y n is (omega (arith, posts)) old;
      number = λ e some. refl;
      head = λ n before stays. stays;
      seen = λ l seen. seen;
      carrier = λ e. record { walk = refl; popped = refl; next = refl; queue = λ q. q };
      budget = refl;
      pushes = refl;
      watches = λ before here watcher. WatchesAt_seen c d g (claiming g s u) t x x.point refl (λ q. q) (queued_on g u (claimed s) unqueued) (before here watcher);
    }

words_claim : (c : Core) (g : Ghost) (s u : ℕ) (y : SeatState) (wakes : List Wake) → WordsFit c g
    → WordsFit (put (record c { wakes = wakes }) s y) (claiming g s u)
words_claim c g s u y wakes words =
    record {
      owner = words.owner;
      handoff = HandoffFits_after c s y g.place c.handoff words.handoff;
      stamp = words.stamp;
      head = words.head;
      parts = words.parts;
      count = words.count;
      work = words.work;
      carried = words.carried;
      last = words.last;
      answers = words.answers;
      listed = words.listed;
    }

-- a seat that is at no send has claimed no seat
unsent : (c : Core) (g : Ghost) (s : ℕ) → Fits c g → claims_for (seat c.seats s) ≡ 0 → (t : ℕ) → g.standing t ≢ claimed s
unsent c g s fits idle t stands =
    let none : t ≡ 0 = sym ((fits.agents t).sent s stands) ∙ idle in
    let f = sym stands ∙ ap g.standing none ∙ zero_apart c g fits in
    cc

-- the state stays steady when the send of seat s claims seat u
pub claim_moves : (c : Core) (g : Ghost) (s u : ℕ) (y : SeatState) → IsSeat c.seats s → Fits c g → Claims c g s u y
    → Fits (put (put_wake c u Claimed) s y) (claiming g s u)
claim_moves c g s u y is fits claims =
    let x = seat c.seats u in
    let wakes = with_entry c.wakes u Claimed in
    let waits = waiting_of g.place (g.standing u) u x.point (sym claims.found ∙ (fits.each u).woken) in
    let now : wake wakes u ≡ Claimed = entry-with_same Quiet c.wakes u Claimed claims.known.above (omega (arith, claims.known.within, fits.sizes.wakes)) in
    record {
      words = words_claim c g s u y wakes fits.words;
      stamps = stamps_anew c g s u y c.count wakes g.place (claimed s) (rw waits.stands) fits;
      each = each_after_two c c g (claiming g s u) s u y c.count c.owner wakes is refl fits claims.posts_same
          (λ t away aside. entry-with_other Quiet c.wakes u t Claimed aside) (sees_claim c g s u y c.count wakes is claims.posts_same waits.stands)
          (rw (entry-with_other Quiet c.wakes u s Claimed (λ e. claims.other (sym e))) claims.own)
          (λ far. rw now (claimed_fits c g s u x waits (rw claims.found at (fits.each u))));
      agents = agents_anew c g s u y (claimed s) is fits claims.asks_same (λ t other stands. absurd (unsent c g s fits claims.claims_before t stands)) (record {
        asked = λ agent e. cc;
        sent = λ agent e. let same : agent ≡ s = cc in rw (same, seat-with_same c.seats s y is) claims.claims_now;
      });
      sums = sums_anew c.seats g s u y g.place (claimed s) (rw waits.stands) (rw waits.stands) fits.sums;
      sizes = sizes_after c _ s y refl refl (length-with_entry c.wakes u Claimed) fits.sizes;
    }

-- The count add for a claimed seat if the count was 0

-- the ghost after seat s has begun to bring in seat u
abbrev pub bringing : Ghost → ℕ → ℕ → Ghost
bringing g s u = record g { place = entering s u 0; standing = changed g.standing u apart }

-- seat s goes on with state y and brings in seat u, which it has claimed
pub record Brings (c : Core) (g : Ghost) (s u : ℕ) (y : SeatState) : Type 0 where
  pub free : c.count ≡ 0
  pub other : u ≢ s
  pub stands : g.standing u ≡ claimed s
  pub asks_same : asks_for y s ≡ asks_for (seat c.seats s) s
  pub posts_same : y.posts ≡ (seat c.seats s).posts
  pub own : SeatFits c (bringing g s u) s y (wake c.wakes s)

nobody_from : (p : Responsibility) (asking pushed popped : ℕ) → own_unit p ≡ 0 → asking + pushed ≤ popped → WorkFits p asking pushed popped → p ≡ nobody
nobody_from nobody asking pushed popped none few work = refl
nobody_from (owned s again) asking pushed popped none few work = absurd (omega arith)
nobody_from (granted s stamp) asking pushed popped none few work = absurd (omega arith)
nobody_from posted asking pushed popped none few work = absurd (omega arith)
nobody_from (entering s into stamp) asking pushed popped none few work = absurd (omega arith)
nobody_from (accepting s) asking pushed popped none few work = absurd (omega arith)
nobody_from (leaving s) asking pushed popped none few work = absurd (omega arith)
nobody_from (serving s) asking pushed popped none few work = absurd (omega arith)

-- if the count is 0, no seat holds the mutex or waits for it
pub free_place : (c : Core) (g : Ghost) → WordsFit c g → c.count ≡ 0 → g.place ≡ nobody
free_place c g words free =
    let none : own_unit g.place ≡ 0 = omega (arith, words.count, words.parts, free) in
    let few : g.asking + g.pushed ≤ g.popped = omega (arith, words.count, free) in
    nobody_from g.place g.asking g.pushed g.popped none few words.work

-- the seat that is brought in fits
brought_fits : (c : Core) (g : Ghost) (s u : ℕ) (x : SeatState) (w : Wake) → g.place ≡ nobody → g.standing u ≡ claimed s → u ≢ s → sleeps_as_waiter x.point ≡ true
    → SeatFits c g u x w → SeatFits c (bringing g s u) u x w
brought_fits c g s u x w place stands other sleeps here =
    let now = changed_same g.standing u apart in
    let woken : w ≡ Claimed = rw (place, stands) at (wake_asleep c g u x w sleeps (rw place refl) here) in
    let due = rw (woken, stands) at (pays_asleep c g u x w sleeps here) in
    sleeper_fits c c g (bringing g s u) u x w w sleeps here refl refl (rw (place, ne_eqb s u (λ e. other (sym e))) refl) refl (rw (now, eq-eqb u u refl) woken)
    (λ into none. now) (λ stamp e. let f = sym now ∙ e in absurd (cc)) (rw (woken, now) due) (λ e watcher. absurd (cc))

sees_bringing : (c : Core) (g : Ghost) (s u : ℕ) (y : SeatState) (count : ℕ) (wakes : List Wake) → IsSeat c.seats s → y.posts ≡ (seat c.seats s).posts
    → g.place ≡ nobody → g.standing u ≡ claimed s → (t : ℕ) → t ≢ s → t ≢ u
    → Sees c (put (record c { count = count; wakes = wakes }) s y) g (bringing g s u) t (seat c.seats t)
sees_bringing c g s u y count wakes is posts place stands t away aside =
    record {
      held = rw (place, ne_eqb s t (λ e. away (sym e)));
      grant = rw place;
      entered = rw (place, ne_eqb u t (λ e. aside (sym e)));
      standing = changed_other g.standing u t apart aside;
      listed = λ n e q. record { above = q.above; within = q.within; here = q.here };
      errand = λ v e. changed_other g.standing u v apart (λ same. let f = sym e ∙ ap g.standing same ∙ stands in cc) ∙ e;
      errand_link = λ v e. refl;
      claim = λ v e. changed_other g.standing u v apart (λ same. let f = sym e ∙ ap g.standing same ∙ stands in away (cc)) ∙ e;
      seats = λ v v_is. IsSeat_after c s v y v_is;
      old = λ n old. IsOld_after c s y n is (omega (arith, posts)) old;
      number = λ e some. refl;
      head = λ n before stays. stays;
      seen = λ l seen. seen;
      carrier = λ e. let f = rw place at e in cc;
      budget = refl;
      pushes = refl;
      watches = λ before here watcher. cc;
    }

words_bringing : (c : Core) (g : Ghost) (s u : ℕ) (y : SeatState) → WordsFit c g → c.count ≡ 0 → g.place ≡ nobody
    → WordsFit (put (record c { count = c.count + 1 }) s y) (bringing g s u)
words_bringing c g s u y words free place =
    let units : c.count + g.popped ≡ g.asking + g.pushed + 0 + 0 = rw place at words.count in
    record {
      owner = rw place at words.owner;
      handoff = rw place at words.handoff;
      stamp = words.stamp;
      head = words.head;
      parts = words.parts;
      count = omega (arith, units);
      work = tt;
      carried = rw place at words.carried;
      last = λ some. absurd (omega arith);
      answers = rw place at words.answers;
      listed = words.listed;
    }

-- the state stays steady when the send of seat s brings in seat u
pub bring_moves : (c : Core) (g : Ghost) (s u : ℕ) (y : SeatState) → IsSeat c.seats s → Fits c g → Brings c g s u y
    → Fits (put (record c { count = c.count + 1 }) s y) (bringing g s u)
bring_moves c g s u y is fits brings =
    let x = seat c.seats u in
    let place = free_place c g fits.words brings.free in
    let sleeps = claimed_sleeps_at g.place x.depth u s x.point (rw place) (rw brings.stands at (fits.each u).stands) in
    record {
      words = words_bringing c g s u y fits.words brings.free place;
      stamps = stamps_anew c g s u y (c.count + 1) c.wakes (entering s u 0) apart (rw brings.stands) fits;
      each = each_after_two c c g (bringing g s u) s u y (c.count + 1) c.owner c.wakes is refl fits brings.posts_same (λ t away aside. refl)
          (sees_bringing c g s u y (c.count + 1) c.wakes is brings.posts_same place brings.stands) brings.own
          (λ far. brought_fits c g s u x (wake c.wakes u) place brings.stands brings.other sleeps (fits.each u));
      agents = agents_anew c g s u y apart is fits brings.asks_same
          (λ t other stands. absurd (other (sym ((fits.agents t).sent s stands) ∙ (fits.agents u).sent s brings.stands))) (record {
            asked = λ agent e. cc;
            sent = λ agent e. cc;
          });
      sums = sums_anew c.seats g s u y (entering s u 0) apart (rw brings.stands) (rw brings.stands) fits.sums;
      sizes = sizes_after c _ s y refl refl refl fits.sizes;
    }
