-- A pusher adds the record of a seat that asks at the end of the queue: the words, the queue and the sums after it, and what
-- the other seats see.
use Rattle.std.proofs.Common.{◌≡◌, ◌≢◌, ℕ, true, ◌+◌, ◌-◌, ◌≤◌, ◌<◌, length, refl, sym, ap, ◌∙◌, arith, inl, inr, nat_eq, if◌then◌else◌}
use Rattle.std.proofs.lemmas.Bool.{cases_eq, eq-eqb, ne_eqb}
use Rattle.lfm_protocol.specs.declared.seats.SeatState.{SeatState}
use Rattle.lfm_words.specs.declared.links.Link.{Link}
use Rattle.lfm_protocol.specs.Core.{Core, put}
use Rattle.lfm_laws.specs.steady.Ghost.{Responsibility, nobody, granted, posted, entering, accepting, serving, Standing, asks, queued, Ghost}
use Rattle.lfm_laws.specs.steady.Numbered.{changed}
use Rattle.lfm_protocol.specs.Seats.{seat, link, with_entry, IsSeat}
use Rattle.lfm_laws.specs.steady.Steady.{IsSeen, AgentFits, WorkFits, LastFits, WordsFit, StampFits, SumsFit, Fits, newest, cleared, before, asking_unit, queued_unit}
use Rattle.lfm_laws.specs.steady.Views.{asks_for, claims_for, is_queued}
use Rattle.lfm_laws.proofs.steady.frames.Entries.{seat-with_same, seat-with_other}
use Rattle.lfm_laws.proofs.steady.frames.Frames.{Sees, IsSeat_after, IsOld_after, HandoffFits_after, WatchesAt_seen}
use Rattle.lfm_laws.proofs.steady.frames.Histories.{records_agree}
use Rattle.lfm_laws.proofs.steady.frames.Sums.{changed_same, changed_other, sum_update}

-- the ghost after seat u is pushed with the next stamp
abbrev pub with_pushed : Ghost → ℕ → Ghost
with_pushed g u =
    record g {
      standing = changed g.standing u (queued (g.pushed + 1));
      pushed_at = changed g.pushed_at (g.pushed + 1) u;
      pushed = g.pushed + 1;
      asking = g.asking - 1;
      pushes = changed g.pushes u (g.pushes u + 1);
    }

-- the core after the exchange that expected this link word has pushed seat u
abbrev pub exchanged : Core → Link → ℕ → Core
exchanged c seen u = record c { push = record { stamp = seen.stamp + 1; next = u } }

-- The words

work_pushed : (place : Responsibility) (asking pushed popped : ℕ) → 0 < asking → WorkFits place asking pushed popped
    → WorkFits place (asking - 1) (pushed + 1) popped
work_pushed nobody asking pushed popped some work = absurd (omega (arith, work.0))
work_pushed posted asking pushed popped some work = omega arith
work_pushed (serving s) asking pushed popped some work = omega arith
work_pushed (accepting s) asking pushed popped some work = omega arith
work_pushed _ asking pushed popped some work = tt

last_pushed : (place : Responsibility) (popped x u : ℕ) (f : ℕ → ℕ) → popped < x → LastFits popped f place → LastFits popped (changed f x u) place
last_pushed (granted s stamp) popped x u f less last =
    λ some. let at = last some in (at.0, changed_other f x stamp u (λ e. absurd (omega (arith, at.0))) ∙ at.1)
last_pushed (entering s into stamp) popped x u f less last =
    λ some. let at = last some in (at.0, changed_other f x stamp u (λ e. absurd (omega (arith, at.0))) ∙ at.1)
last_pushed _ popped x u f less last = tt

pub words_pushed : (c : Core) (g : Ghost) (s u : ℕ) (seen : Link) (y : SeatState) → c.push ≡ seen → 0 < g.asking → WordsFit c g
    → WordsFit (put (exchanged c seen u) s y) (with_pushed g u)
words_pushed c g s u seen y found some words =
    let stamp : c.push.stamp ≡ seen.stamp = ap (λ l. l.stamp) found in
    record {
      owner = words.owner;
      handoff = HandoffFits_after c s y g.place c.handoff words.handoff;
      stamp = omega (arith, stamp, words.stamp);
      head = rw (ne_eqb (cleared c g) (g.pushed + 1) (λ e. absurd (omega (arith, words.parts))), changed_same g.pushed_at (g.pushed + 1) u);
      parts = omega (arith, words.parts);
      count = omega (arith, words.count);
      work = work_pushed g.place g.asking g.pushed g.popped some words.work;
      carried = words.carried;
      last = last_pushed g.place g.popped (g.pushed + 1) u g.pushed_at (omega (arith, words.parts)) words.last;
      answers = words.answers;
      listed = words.listed ∙ sym (records_agree g.pushed_at (changed g.pushed_at (g.pushed + 1) u) (g.popped + g.walk) (length c.popped) (λ x above within. changed_other g.pushed_at (g.pushed + 1) x u (λ e. absurd (omega (arith, words.parts)))));
    }

-- The queue

-- a link to the head that was seen leads to the record before
next_of_head : (f : ℕ → ℕ) (first pushed u : ℕ) → newest first pushed f ≡ before (changed f (pushed + 1) u) first (pushed + 1)
next_of_head f first pushed u =
    elim (cases_eq first pushed) [
      | inl e ↦ rw (eq-eqb first pushed e, eq-eqb (pushed + 1) (first + 1) (omega (arith, e)))
      | inr differ ↦
          let back : pushed + 1 - 1 ≡ pushed = omega arith in
          rw (ne_eqb first pushed differ, ne_eqb (pushed + 1) (first + 1) (λ e. differ (omega arith)), back, changed_other f (pushed + 1) pushed u (λ e. absurd (omega (arith, e))))
    ]

-- the record before an older one stays the same
before_pushed : (f : ℕ → ℕ) (first stamp x u : ℕ) → stamp < x → before (changed f x u) first stamp ≡ before f first stamp
before_pushed f first stamp x u less =
    ap (λ n. if nat_eq stamp (first + 1) then 0 else n) (changed_other f x (stamp - 1) u (λ e. absurd (omega (arith, e))))

new_link : (l : Link) (stamp next : ℕ) → l.stamp ≡ stamp → l.next ≡ next → l ≡ record { stamp = stamp; next = next }
new_link l stamp next e f = λ i. record { stamp = e i; next = f i }

pub stamp_pushed : (c : Core) (g : Ghost) (s u : ℕ) (seen : Link) (y : SeatState) (stamp : ℕ) → c.push ≡ seen → Fits c g → g.standing u ≡ asks s
    → link c.links u ≡ record { stamp = seen.stamp + 1; next = seen.next } → g.popped < stamp → stamp ≤ g.pushed + 1
    → StampFits (put (exchanged c seen u) s y) (with_pushed g u) stamp
stamp_pushed c g s u seen y stamp found fits asked linked above within =
    let n = g.pushed + 1 in
    let f : ℕ → ℕ = changed g.pushed_at n u in
    elim (cases_eq stamp n) [
      | inl e ↦
          let here : f stamp ≡ u = rw e (changed_same g.pushed_at n u) in
          let stamps : seen.stamp + 1 ≡ n = omega (arith, ap (λ l. l.stamp) found, fits.words.stamp) in
          let nexts : seen.next ≡ before f (cleared c g) n = sym (ap (λ l. l.next) found) ∙ fits.words.head ∙ next_of_head g.pushed_at (cleared c g) g.pushed u in
          record {
            stands = rw (here, e) (changed_same g.standing u (queued n));
            fresh = λ fresh. rw (here, e) (linked ∙ new_link (record { stamp = seen.stamp + 1; next = seen.next }) n (before f (cleared c g) n) stamps nexts);
            walked = λ walked. absurd (omega (arith, fits.words.parts));
          }
      | inr differ ↦
          let older : stamp ≤ g.pushed = omega arith in
          let was = fits.stamps stamp above older in
          let here : f stamp ≡ g.pushed_at stamp = changed_other g.pushed_at n stamp u differ in
          let other : g.pushed_at stamp ≢ u = λ e. let k = sym was.stands ∙ ap g.standing e ∙ asked in absurd (cc) in
          record {
            stands = rw here (changed_other g.standing u (g.pushed_at stamp) (queued n) other ∙ was.stands);
            fresh = λ fresh. rw (here, before_pushed g.pushed_at (cleared c g) stamp n u (omega arith)) (was.fresh fresh);
            walked = λ walked. rw (here, before_pushed g.pushed_at g.popped stamp n u (omega arith)) (was.walked walked);
          }
    ]

-- The sums

pub sums_pushed : (seats s u : ℕ) (g : Ghost) → 0 < u → u ≤ seats → g.standing u ≡ asks s → SumsFit seats g → SumsFit seats (with_pushed g u)
sums_pushed seats s u g above within asked sums =
    let n = g.pushed + 1 in
    let standing : ℕ → Standing = changed g.standing u (queued n) in
    let pushes : ℕ → ℕ = changed g.pushes u (g.pushes u + 1) in
    let here = changed_same g.standing u (queued n) in
    let asked_was : asking_unit (g.standing u) ≡ 1 = rw asked in
    let asked_is : asking_unit (standing u) ≡ 0 = rw here in
    let queued_was : queued_unit (g.standing u) ≡ 0 = rw asked in
    let queued_is : queued_unit (standing u) ≡ 1 = rw here in
    let pushes_are : pushes u ≡ g.pushes u + 1 = changed_same g.pushes u (g.pushes u + 1) in
    let asking_sum = sum_update seats u (λ t. asking_unit (g.standing t)) (λ t. asking_unit (standing t)) above within (λ t other. ap asking_unit (changed_other g.standing u t (queued n) other)) in
    let queued_sum = sum_update seats u (λ t. queued_unit (g.standing t)) (λ t. queued_unit (standing t)) above within (λ t other. ap queued_unit (changed_other g.standing u t (queued n) other)) in
    let pushes_sum = sum_update seats u g.pushes pushes above within (λ t other. changed_other g.pushes u t (g.pushes u + 1) other) in
    record {
      asking = omega (arith, sums.asking, asking_sum, asked_was, asked_is);
      queued = omega (arith, sums.queued, queued_sum, queued_was, queued_is);
      pushed = omega (arith, sums.pushed, pushes_sum, pushes_are);
    }

-- The other seats

-- a push is seen only by its higher stamp
seen_on : (push seen l : Link) (u : ℕ) → push.stamp ≡ seen.stamp → IsSeen push l → IsSeen (record { stamp = seen.stamp + 1; next = u }) l
seen_on push seen l u same known = record { older = omega (arith, known.older); same = λ e. absurd (omega (arith, known.older)) }

-- a seat stays queued when another is pushed
stays_queued : (f : ℕ → Standing) (u v : ℕ) (new : Standing) → is_queued new ≡ true → is_queued (f v) ≡ true → is_queued (changed f u new v) ≡ true
stays_queued f u v new is was =
    elim (cases_eq v u) [
      | inl e ↦ rw (eq-eqb v u e) is
      | inr other ↦ rw (ne_eqb v u other) was
    ]

pub sees_push : (c : Core) (g : Ghost) (s u t : ℕ) (seen : Link) (y x : SeatState) → IsSeat c.seats s → (seat c.seats s).posts ≤ y.posts → c.push ≡ seen
    → WordsFit c g → g.standing u ≡ asks s → t ≢ s → t ≢ u → Sees c (put (exchanged c seen u) s y) g (with_pushed g u) t x
sees_push c g s u t seen y x is posts found words asked other differ =
    let n = g.pushed + 1 in
    record {
      held = refl;
      grant = refl;
      entered = refl;
      standing = changed_other g.standing u t (queued n) differ;
      listed = λ stamp e at. record {
        above = at.above;
        within = omega (arith, at.within);
        here = changed_other g.pushed_at n stamp u (λ e. absurd (omega (arith, at.within))) ∙ at.here;
      };
      errand = λ v e. changed_other g.standing u v (queued n) (λ same. let f = sym e ∙ ap g.standing same ∙ asked in other cc) ∙ e;
      errand_link = λ v e. refl;
      claim = λ v e. changed_other g.standing u v (queued n) (λ same. let f = sym e ∙ ap g.standing same ∙ asked in absurd (cc)) ∙ e;
      seats = λ v there. IsSeat_after c s v y there;
      old = λ m known. IsOld_after c s y m is posts known;
      number = λ e above. refl;
      head = λ m most stays. λ e above. omega (arith, words.parts);
      seen = λ l known. seen_on c.push seen l u (ap (λ l. l.stamp) found) known;
      carrier = λ e. record {
        walk = refl;
        popped = refl;
        next = changed_other g.pushed_at n (g.popped + g.walk) u (λ e. absurd (omega (arith, words.parts)));
        queue = λ some. omega arith;
      };
      budget = refl;
      pushes = changed_other g.pushes u t (g.pushes u + 1) differ;
      watches = λ was at watcher. WatchesAt_seen c (put (exchanged c seen u) s y) g (with_pushed g u) t x x.point refl (λ some. omega arith) (λ v. stays_queued g.standing u v (queued n) refl) (was at watcher);
    }

-- no call has the errand to push the pushed seat any more, and the errands for the other seats stay
pub agents_pushed : (c : Core) (g : Ghost) (s u : ℕ) (y : SeatState) → IsSeat c.seats s → asks_for (seat c.seats s) s ≡ u → claims_for y ≡ claims_for (seat c.seats s)
    → ((t : ℕ) → AgentFits c.seats (g.standing t) t) → (t : ℕ) → AgentFits (with_entry c.seats s y) ((with_pushed g u).standing t) t
agents_pushed c g s u y is errand claims agents t =
    let n = g.pushed + 1 in
    elim (cases_eq t u) [
      | inl e ↦
          let here : changed g.standing u (queued n) t ≡ queued n = rw e (changed_same g.standing u (queued n)) in
          record {
            asked = λ agent f. let k = sym here ∙ f in absurd (cc);
            sent = λ agent f. let k = sym here ∙ f in absurd (cc);
          }
      | inr differ ↦
          let same = changed_other g.standing u t (queued n) differ in
          record {
            asked = λ agent f. let was = (agents t).asked agent (sym same ∙ f) in elim (cases_eq agent s) [
              | inl e ↦ let own : asks_for (seat c.seats s) s ≡ t = rw e at was in absurd (differ (sym own ∙ errand))
              | inr other ↦ rw (seat-with_other c.seats s agent y other) was
            ];
            sent = λ agent f. let was = (agents t).sent agent (sym same ∙ f) in elim (cases_eq agent s) [
              | inl e ↦ let own : claims_for (seat c.seats s) ≡ t = rw e at was in rw (e, seat-with_same c.seats s y is) (claims ∙ own)
              | inr other ↦ rw (seat-with_other c.seats s agent y other) was
            ];
          }
    ]
