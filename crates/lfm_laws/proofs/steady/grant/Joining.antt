-- A seat starts to ask: it is counted by its own lock, or, if the count was not 0, by the send that has claimed it.
use Rattle.std.proofs.Common.{◌≡◌, ◌≢◌, ℕ, true, false, ◌||◌, nat_eq, ◌+◌, ◌<◌, ◌≤◌, Some, None, length, inl, inr, refl, sym, ap, ◌∙◌, arith}
use Rattle.std.proofs.lemmas.Bool.{cases_eq, eq-eqb, ne_eqb}
use Rattle.std.proofs.Math.Bool.{or-false}
use Rattle.lfm_protocol.specs.declared.points.Point.TheVariants.{LockCountAdd}
use Rattle.lfm_protocol.specs.declared.seats.SeatState.{SeatState}
use Rattle.lfm_words.specs.declared.wakes.Wake.{Wake}
use Rattle.lfm_model.specs.Abstract as Abstract
use Rattle.lfm_model.specs.AbstractRuns.{ask}
use Rattle.lfm_protocol.specs.Core.{Core, put}
use Rattle.lfm_laws.specs.steady.Ghost.{Responsibility, nobody, owned, granted, posted, entering, accepting, leaving, serving, Standing, apart, claimed, asks, queued, Ghost}
use Rattle.lfm_laws.specs.steady.Numbered.{changed}
use Rattle.lfm_laws.specs.steady.EventOutcome.{abstract, abstract_place, GoesBy}
use Rattle.lfm_protocol.specs.Seats.{seat, wake, with_entry, IsSeat}
use Rattle.lfm_laws.specs.steady.Steady.{SeatFits, AgentFits, WordsFit, WorkFits, asking_unit, queued_unit, SumsFit, StampFits, Fits}
use Rattle.lfm_laws.specs.steady.Views.{asks_for, claims_for, is_asking, is_queued, held_by, grant_at, is_entered}
use Rattle.lfm_laws.proofs.steady.frames.Abstracts.{nothing_of}
use Rattle.lfm_laws.proofs.steady.grant.Claimed.{claim_asleep, claimed_ungranted, claimed_unentered, claimed_sleeps, not_apart, ungranted_at, unentered_at, sleeper_fits, wake_asleep, pays_asleep}
use Rattle.lfm_laws.proofs.steady.frames.Entries.{seat-with_same, seat-with_other, length-with_entry}
use Rattle.lfm_laws.proofs.steady.frames.Frames.{Sees, moved, IsSeat_after, IsOld_after, HandoffFits_after, WatchesAt_seen, sizes_after}
use Rattle.lfm_laws.proofs.steady.frames.Sums.{changed_same, changed_other, sum_update, sum_agrees}
use Rattle.lfm_laws.proofs.steady.frames.Seated.{seat_of_standing, seat_of_asking}
use Rattle.lfm_laws.proofs.steady.handoff.Handing.{each_after_two}
use Rattle.lfm_words.specs.declared.wakes.Wake.TheVariants.{Claimed}

-- the ghost after seat s has counted seat u
abbrev pub joined : Ghost → ℕ → ℕ → Ghost
joined g s u = record g { standing = changed g.standing u (asks s); asking = g.asking + 1 }

-- seat s goes on with state y and the errand to push seat u
pub record Joins (c : Core) (g : Ghost) (s u : ℕ) (y : SeatState) : Type 0 where
  pub some : 0 < c.count
  pub idle : asks_for (seat c.seats s) s ≡ 0
  pub asks_now : asks_for y s ≡ u
  pub claims_now : claims_for y ≡ 0
  pub posts_same : y.posts ≡ (seat c.seats s).posts
  pub own : SeatFits c (joined g s u) s y (wake c.wakes s)

-- The seat that starts to ask

asks_not_queued : (s stamp : ℕ) → asks s ≡ queued stamp → ⊥
asks_not_queued s stamp e = cc

-- a claimed seat still fits when it is counted
claimed_joins : (c : Core) (g : Ghost) (s u : ℕ) (x : SeatState) (w : Wake) → g.standing u ≡ claimed s → SeatFits c g u x w → SeatFits c (joined g s u) u x w
claimed_joins c g s u x w stands fits =
    let now : (joined g s u).standing u ≡ asks s = changed_same g.standing u (asks s) in
    let sleeps = claimed_sleeps c g s u x w stands fits in
    let none = claimed_ungranted c g s u x w stands fits in
    let woken : w ≡ Claimed = rw stands at (wake_asleep c g u x w sleeps none fits) in
    let due = rw (woken, stands) at (pays_asleep c g u x w sleeps fits) in
    sleeper_fits c c g (joined g s u) u x w w sleeps fits refl refl refl none (rw now woken)
    (λ into unheld. absurd (not_apart s (g.standing u) stands (fits.entered into unheld).1)) (λ stamp waits. absurd (asks_not_queued s stamp (sym now ∙ waits)))
    (rw (woken, now) due) fits.watches

-- The words, the sums and the agents

some_place : (c : Core) (g : Ghost) → Fits c g → 0 < c.count → g.place ≢ nobody
some_place c g fits some e =
    let work = rw e at fits.words.work in
    let count = rw e at fits.words.count in
    absurd (omega (arith, some, work.0, work.1, count))

more_work : (p : Responsibility) (asking pushed popped : ℕ) → p ≢ nobody → WorkFits p asking pushed popped → WorkFits p (asking + 1) pushed popped
more_work nobody asking pushed popped some work = absurd (some refl)
more_work posted asking pushed popped some work = omega (arith, work)
more_work (serving s) asking pushed popped some work = omega (arith, work)
more_work (accepting s) asking pushed popped some work = omega (arith, work)
more_work (owned s again) asking pushed popped some work = work
more_work (granted s stamp) asking pushed popped some work = work
more_work (entering s into stamp) asking pushed popped some work = work
more_work (leaving s) asking pushed popped some work = work

-- seat u neither asks nor is queued, and no other seat has claimed it
record Unasked (g : Ghost) (s u : ℕ) : Type 0 where
  asking : is_asking (g.standing u) ≡ false
  queued : is_queued (g.standing u) ≡ false
  claims : (t : ℕ) → g.standing u ≡ claimed t → t ≡ s

sums_join : (n : ℕ) (g : Ghost) (s u : ℕ) → 0 < u → u ≤ n → Unasked g s u → SumsFit n g → SumsFit n (joined g s u)
sums_join n g s u above within unasked sums =
    let h = joined g s u in
    let now : h.standing u ≡ asks s = changed_same g.standing u (asks s) in
    let asking = sum_update n u (λ i. asking_unit (g.standing i)) (λ i. asking_unit (h.standing i)) above within (λ i other. ap asking_unit (changed_other g.standing u i (asks s) other)) in
    let before : asking_unit (g.standing u) ≡ 0 = rw unasked.asking refl in
    let after : asking_unit (h.standing u) ≡ 1 = rw now refl in
    let queues = sum_agrees n (λ i. queued_unit (g.standing i)) (λ i. queued_unit (h.standing i)) (λ i. elim (cases_eq i u) [
      | inl e ↦ rw (e, now, unasked.queued) refl
      | inr other ↦ ap queued_unit (changed_other g.standing u i (asks s) other)
    ]) in
    record {
      asking = omega (arith, sums.asking, asking, before, after);
      queued = sums.queued ∙ ap (λ n. g.popped + n) (sym queues);
      pushed = sums.pushed;
    }

words_join : (c : Core) (g : Ghost) (s u : ℕ) (y : SeatState) → Fits c g → 0 < c.count → WordsFit (moved c s y (c.count + 1) c.owner c.wakes) (joined g s u)
words_join c g s u y fits some =
    record {
      owner = fits.words.owner;
      handoff = HandoffFits_after c s y g.place c.handoff fits.words.handoff;
      stamp = fits.words.stamp;
      head = fits.words.head;
      parts = fits.words.parts;
      count = omega (arith, fits.words.count);
      work = more_work g.place g.asking g.pushed g.popped (some_place c g fits some) fits.words.work;
      carried = fits.words.carried;
      last = fits.words.last;
      answers = fits.words.answers;
      listed = fits.words.listed;
    }

-- a queued seat stays queued
still_queued : (g : Ghost) (s u t : ℕ) → Unasked g s u → is_queued (g.standing t) ≡ true → is_queued ((joined g s u).standing t) ≡ true
still_queued g s u t unasked waits =
    elim (cases_eq t u) [
      | inl e ↦ absurd (cc (rw e at waits, unasked.queued))
      | inr other ↦ rw (changed_other g.standing u t (asks s) other) waits
    ]

standing_queued : (standing : Standing) (stamp : ℕ) → is_queued standing ≡ false → standing ≡ queued stamp → ⊥
standing_queued standing stamp none e = absurd (cc (rw e at none))

standing_asks : (standing : Standing) (agent : ℕ) → is_asking standing ≡ false → standing ≡ asks agent → ⊥
standing_asks standing agent none e = absurd (cc (rw e at none))

stamps_join : (c : Core) (g : Ghost) (s u : ℕ) (y : SeatState) (stamp : ℕ) → Unasked g s u → StampFits c g stamp
    → StampFits (moved c s y (c.count + 1) c.owner c.wakes) (joined g s u) stamp
stamps_join c g s u y stamp unasked fits =
    record {
      stands = elim (cases_eq (g.pushed_at stamp) u) [
        | inl e ↦ absurd (standing_queued (g.standing u) stamp unasked.queued (rw e at fits.stands))
        | inr other ↦ changed_other g.standing u (g.pushed_at stamp) (asks s) other ∙ fits.stands
      ];
      fresh = fits.fresh;
      walked = fits.walked;
    }

-- another seat sees nothing of the count
sees_join : (c : Core) (g : Ghost) (s u t : ℕ) (y x : SeatState) → IsSeat c.seats s → (seat c.seats s).posts ≤ y.posts → Unasked g s u → t ≢ s → t ≢ u
    → Sees c (moved c s y (c.count + 1) c.owner c.wakes) g (joined g s u) t x
sees_join c g s u t y x is more unasked away other =
    record {
      held = refl;
      grant = refl;
      entered = refl;
      standing = changed_other g.standing u t (asks s) other;
      listed = λ stamp stands listed. record { above = listed.above; within = listed.within; here = listed.here };
      errand = λ v asked. elim (cases_eq v u) [
        | inl e ↦ absurd (standing_asks (g.standing u) t unasked.asking (rw e at asked))
        | inr differs ↦ changed_other g.standing u v (asks s) differs ∙ asked
      ];
      errand_link = λ v asked. refl;
      claim = λ v claims. elim (cases_eq v u) [
        | inl e ↦ absurd (away (unasked.claims t (rw e at claims)))
        | inr differs ↦ changed_other g.standing u v (asks s) differs ∙ claims
      ];
      seats = λ v seat. IsSeat_after c s v y seat;
      old = λ n old. IsOld_after c s y n is more old;
      number = λ here above. refl;
      head = λ n most stays. stays;
      seen = λ l seen. seen;
      carrier = λ serves. record { walk = refl; popped = refl; next = refl; queue = λ queue. queue };
      budget = refl;
      pushes = refl;
      watches = λ watches place here. WatchesAt_seen c (moved c s y (c.count + 1) c.owner c.wakes) g (joined g s u) t x x.point refl (λ queue. queue) (λ v waits. still_queued g s u v unasked waits) (watches place here);
    }

asks_agent : (s agent : ℕ) → asks s ≡ asks agent → agent ≡ s
asks_agent s agent e = cc

asks_a_seat : (c : Core) (g : Ghost) (s t : ℕ) → Fits c g → g.standing t ≡ asks s → t ≡ 0 → ⊥
asks_a_seat c g s t fits asked e = absurd (omega (arith, e, (seat_of_asking c g t s fits asked).above))

claims_a_seat : (c : Core) (g : Ghost) (s t : ℕ) → Fits c g → g.standing t ≡ claimed s → t ≡ 0 → ⊥
claims_a_seat c g s t fits claims e = absurd (omega (arith, e, (seat_of_standing c g t fits (not_apart s (g.standing t) claims)).above))

agents_join : (c : Core) (g : Ghost) (s u : ℕ) (y : SeatState) → IsSeat c.seats s → Fits c g → Joins c g s u y
    → ((t : ℕ) → claims_for (seat c.seats s) ≡ t → t ≢ u → t ≡ 0) → (t : ℕ) → AgentFits (with_entry c.seats s y) ((joined g s u).standing t) t
agents_join c g s u y is fits joins idle t =
    elim (cases_eq t u) [
      | inl e ↦ rw (e, changed_same g.standing u (asks s)) (record {
        asked = λ agent asking. rw (asks_agent s agent asking, seat-with_same c.seats s y is) joins.asks_now;
        sent = λ agent claims. absurd (cc claims);
      })
      | inr other ↦ rw (changed_other g.standing u t (asks s) other) (record {
        asked = λ agent asking. elim (cases_eq agent s) [
          | inl here ↦ absurd (asks_a_seat c g s t fits (rw here at asking) (sym (rw here at ((fits.agents t).asked agent asking)) ∙ joins.idle))
          | inr away ↦ rw (seat-with_other c.seats s agent y away) ((fits.agents t).asked agent asking)
        ];
        sent = λ agent claims. elim (cases_eq agent s) [
          | inl here ↦ absurd (claims_a_seat c g s t fits (rw here at claims) (idle t (rw here at ((fits.agents t).sent agent claims)) other))
          | inr away ↦ rw (seat-with_other c.seats s agent y away) ((fits.agents t).sent agent claims)
        ];
      })
    ]

fits_join : (c : Core) (g : Ghost) (s u : ℕ) (y : SeatState) → IsSeat c.seats s → IsSeat c.seats u → Fits c g → Unasked g s u → Joins c g s u y
    → ((t : ℕ) → claims_for (seat c.seats s) ≡ t → t ≢ u → t ≡ 0) → (u ≢ s → SeatFits c (joined g s u) u (seat c.seats u) (wake c.wakes u))
    → Fits (put (record c { count = c.count + 1 }) s y) (joined g s u)
fits_join c g s u y is other_is fits unasked joins idle other_fits =
    let h = joined g s u in
    let more : (seat c.seats s).posts ≤ y.posts = omega (arith, joins.posts_same) in
    let same : length (with_entry c.seats s y) ≡ length c.seats = length-with_entry c.seats s y in
    record {
      words = words_join c g s u y fits joins.some;
      stamps = λ stamp above within. stamps_join c g s u y stamp unasked (fits.stamps stamp above within);
      each = each_after_two c c g h s u y (c.count + 1) c.owner c.wakes is refl fits joins.posts_same (λ t away differs. refl)
          (λ t away differs. sees_join c g s u t y (seat c.seats t) is more unasked away differs) joins.own other_fits;
      agents = agents_join c g s u y is fits joins idle;
      sums = rw same (sums_join (length c.seats) g s u other_is.above other_is.within unasked fits.sums);
      sizes = sizes_after c _ s y refl refl refl fits.sizes;
    }

claims_seat : (s t : ℕ) (standing : Standing) → standing ≡ claimed s → standing ≡ claimed t → t ≡ s
claims_seat s t standing e f = cc

unasked_claimed : (g : Ghost) (s u : ℕ) → g.standing u ≡ claimed s → Unasked g s u
unasked_claimed g s u stands = record { asking = rw stands refl; queued = rw stands refl; claims = λ t e. claims_seat s t (g.standing u) stands e }

-- the state stays steady when its own call counts seat s
pub joins_itself : (c : Core) (g : Ghost) (s : ℕ) (y : SeatState) → IsSeat c.seats s → Fits c g → g.standing s ≡ apart
    → claims_for (seat c.seats s) ≡ 0 → Joins c g s s y → Fits (put (record c { count = c.count + 1 }) s y) (joined g s s)
joins_itself c g s y is fits stands claims joins =
    fits_join c g s s y is is fits (record { asking = rw stands refl; queued = rw stands refl; claims = λ t e. absurd (not_apart t (g.standing s) e stands) }) joins
    (λ t e differs. sym e ∙ claims) (λ differs. absurd (differs refl))

-- the state stays steady when the send of seat s counts seat u, which it has claimed
pub joins_another : (c : Core) (g : Ghost) (s u : ℕ) (y : SeatState) → IsSeat c.seats s → Fits c g → u ≢ s → g.standing u ≡ claimed s
    → Joins c g s u y → Fits (put (record c { count = c.count + 1 }) s y) (joined g s u)
joins_another c g s u y is fits other stands joins =
    fits_join c g s u y is (seat_of_standing c g u fits (not_apart s (g.standing u) stands)) fits (unasked_claimed g s u stands) joins
    (λ t e differs. absurd (differs (sym e ∙ (fits.agents u).sent s stands))) (λ differs. claimed_joins c g s u (seat c.seats u) (wake c.wakes u) stands (fits.each u))

-- The abstract case

place_taken : (p : Responsibility) → p ≢ nobody → abstract_place p ≢ Abstract.free
place_taken nobody some e = some refl
place_taken (owned s again) some e = cc
place_taken (granted s stamp) some e = cc
place_taken posted some e = cc
place_taken (entering s into stamp) some e = cc
place_taken (accepting s) some e = cc
place_taken (leaving s) some e = cc
place_taken (serving s) some e = cc

asking_joins : (g : Ghost) (s u t : ℕ) → is_asking (g.standing u) ≡ false → is_asking ((joined g s u).standing t) ≡ (is_asking (g.standing t) || nat_eq t u)
asking_joins g s u t none =
    elim (cases_eq t u) [
      | inl e ↦ rw (e, changed_same g.standing u (asks s), none, eq-eqb u u refl) refl
      | inr other ↦ rw (changed_other g.standing u t (asks s) other, ne_eqb t u other, or-false) refl
    ]

asks_by_joining : (c : Core) (g : Ghost) (s u : ℕ) → Fits c g → 0 < c.count → is_asking (g.standing u) ≡ false → is_queued (g.standing u) ≡ false
    → held_by g.place u ≡ nobody → grant_at g.place u ≡ None → is_entered g.place u ≡ false → GoesBy (Some ask) (abstract g) (abstract (joined g s u))
asks_by_joining c g s u fits some asking waits held grant entered = (
  Abstract.ask_joins u (place_taken g.place (some_place c g fits some)) (nothing_of c g fits u asking waits held grant entered)
      (record { place = refl; asking = λ t. asking_joins g s u t asking; waiting = refl }),
  refl,
)

-- if seat s is at the count add of a lock and holds nothing, the abstract case is ask
pub joining_itself_asks : (c : Core) (g : Ghost) (s : ℕ) → Fits c g → 0 < c.count → (seat c.seats s).point ≡ LockCountAdd → (seat c.seats s).depth ≡ 0
    → GoesBy (Some ask) (abstract g) (abstract (joined g s s))
joining_itself_asks c g s fits some at depth =
    let here = fits.each s in
    let stands : g.standing s ≡ apart = rw at at here.stands in
    let held : held_by g.place s ≡ nobody = sym (rw (at, depth) at here.claims) in
    asks_by_joining c g s s fits some (rw stands refl) (rw stands refl) held
    (ungranted_at c g s (seat c.seats s) (wake c.wakes s) (rw at refl) here) (unentered_at c g s (seat c.seats s) (wake c.wakes s) (rw at refl) held here)

-- the abstract case is ask for a counted target too
pub joining_another_asks : (c : Core) (g : Ghost) (s u : ℕ) → Fits c g → 0 < c.count → g.standing u ≡ claimed s
    → GoesBy (Some ask) (abstract g) (abstract (joined g s u))
joining_another_asks c g s u fits some stands =
    let there = fits.each u in
    let x = seat c.seats u in
    let sleeps = claimed_sleeps c g s u x (wake c.wakes u) stands there in
    let held : held_by g.place u ≡ nobody = sym there.claims ∙ claim_asleep x.depth u x.point sleeps in
    asks_by_joining c g s u fits some (rw stands refl) (rw stands refl) held
    (claimed_ungranted c g s u x (wake c.wakes u) stands there) (claimed_unentered c g s u x (wake c.wakes u) stands held there)
