-- A serving seat's store removes the first record from the queue: the words, the queue, the errands and the sums after it.
use Rattle.std.proofs.Common.{◌≡◌, ◌≢◌, ℕ, false, ◌+◌, ◌<◌, ◌≤◌, None, List, ◌∷◌, length, refl, sym, ap, ◌∙◌, inl, inr, arith, if◌then◌else◌}
use Rattle.std.proofs.lemmas.Bool.{cases_eq}
use Rattle.lfm_protocol.specs.declared.seats.SeatState.{SeatState}
use Rattle.lfm_words.specs.declared.links.Link.{Link}
use Rattle.lfm_words.specs.declared.pop_lists.Record.{Record}
use Rattle.lfm_words.specs.declared.wakes.Wake.{Wake}
use Rattle.lfm_protocol.specs.Core.{Core, put}
use Rattle.lfm_laws.specs.steady.Ghost.{Responsibility, nobody, posted, serving, Standing, apart, claimed, asks, queued, Ghost}
use Rattle.lfm_laws.specs.steady.Numbered.{changed, records}
use Rattle.lfm_model.specs.Sums.{sum_to}
use Rattle.lfm_protocol.specs.Seats.{seat, wake, with_entry, unposted, IsSeat}
use Rattle.lfm_laws.specs.steady.Steady.{HandoffFits, QueuedFits, SeatFits, AgentFits, owner_of, newest, own_unit, again_unit, WorkFits, CarriedFits, LastFits, unanswered, before, cleared, WordsFit, StampFits, asking_unit, queued_unit, SumsFit, Fits}
use Rattle.lfm_laws.specs.steady.Views.{held_by, grant_at, is_entered, is_asking}
use Rattle.lfm_laws.proofs.steady.frames.Entries.{length-with_entry}
use Rattle.lfm_laws.proofs.steady.frames.Frames.{Sees, Errands, agents_after, held_by-other, IsSeat_after, IsOld_after, sizes_after}
use Rattle.lfm_laws.proofs.steady.handoff.Handing.{handed, each_after_two}
use Rattle.lfm_laws.proofs.steady.frames.Sums.{changed_same, changed_other, sum_agrees, sum_update}
use Rattle.lfm_laws.proofs.steady.frames.Seated.{seat_of_queued}
use Rattle.lfm_laws.proofs.steady.queue.Carrying.{nobody_serves}

-- The queue's first record

-- r is the first record of the queue, and the others of the pop list follow it
pub record IsFirst (c : Core) (g : Ghost) (r : Record) (rest : List Record) : Type 0 where
  pub stamp : r.stamp ≡ g.popped + 1
  pub here : g.pushed_at (g.popped + 1) ≡ r.seat
  pub stands : g.standing r.seat ≡ queued (g.popped + 1)
  pub some : g.popped < g.pushed
  pub later : rest ≡ records g.pushed_at (g.popped + 1) (length rest)
  pub level : g.popped + 1 + length rest ≡ cleared c g

first_record : (f : ℕ → ℕ) (k : ℕ) (r : Record) (rest : List Record) → r ∷ rest ≡ records f k (length (r ∷ rest))
    → (r.stamp ≡ k + 1) × (f (k + 1) ≡ r.seat) × (rest ≡ records f (k + 1) (length rest))
first_record f k r rest e =
    let same : r ≡ record { seat = f (k + 1); stamp = k + 1 } = cc in
    (ap (λ x. x.stamp) same, sym (ap (λ x. x.seat) same), cc)

pub first_of : (c : Core) (g : Ghost) (r : Record) (rest : List Record) → Fits c g → g.walk ≡ 0 → c.popped ≡ r ∷ rest → IsFirst c g r rest
first_of c g r rest fits walked popped =
    let level : g.popped + g.walk ≡ g.popped = omega (arith, walked) in
    let parts = first_record g.pushed_at g.popped r rest (rw (popped, level) at fits.words.listed) in
    let size : length c.popped ≡ length rest + 1 = rw popped (omega arith) in
    let some : g.popped < g.pushed = omega (arith, fits.words.parts, size) in
    let queued_first = (fits.stamps (g.popped + 1) (omega arith) (omega (arith, some))).stands in
    record {
      stamp = parts.0;
      here = parts.1;
      stands = rw parts.1 at queued_first;
      some = some;
      later = parts.2;
      level = omega (arith, size, walked);
    }

pub first_record_is : (g : Ghost) (r : Record) → r.stamp ≡ g.popped + 1 → g.pushed_at (g.popped + 1) ≡ r.seat → r ≡ record { seat = g.pushed_at (g.popped + 1); stamp = g.popped + 1 }
first_record_is g r stamp here = λ i. record { seat = sym here i; stamp = stamp i }

-- What is unchanged of the rest of the queue

pub queued_injective : (m n : ℕ) → queued m ≡ queued n → m ≡ n
queued_injective m n e = cc

-- the ghost after the record of seat u has left the queue, with this place of the responsibility and this number of seats that
-- have answered
abbrev pub popped_to : Ghost → ℕ → Responsibility → ℕ → Ghost
popped_to g u place answered =
    record g { place = place; standing = changed g.standing u apart; popped = g.popped + 1; answered = answered }

-- a later record than the first belongs to another seat
later_seat : (g : Ghost) (u stamp : ℕ) → g.standing u ≡ queued (g.popped + 1) → g.popped + 1 < stamp → g.standing (g.pushed_at stamp) ≡ queued stamp → g.pushed_at stamp ≢ u
later_seat g u stamp first above stands e =
    let same : stamp ≡ g.popped + 1 = queued_injective stamp (g.popped + 1) (sym stands ∙ ap g.standing e ∙ first) in
    omega (arith, same, above)

abbrev linked_at : (ℕ → ℕ) → ℕ → ℕ → Link
linked_at f stamp first = record { stamp = stamp; next = before f first stamp }

stamps_popped : (c : Core) (g : Ghost) (s : ℕ) (y : SeatState) (r : Record) (owner : ℕ) (rest : List Record) (wakes : List Wake) (place : Responsibility) (answered : ℕ)
    → Fits c g → g.walk ≡ 0 → IsFirst c g r rest → (stamp : ℕ) → g.popped + 1 < stamp → stamp ≤ g.pushed
    → StampFits (put (handed c owner rest wakes) s y) (popped_to g r.seat place answered) stamp
stamps_popped c g s y r owner rest wakes place answered fits walked first stamp above within =
    let was = fits.stamps stamp (omega arith) within in
    let other = later_seat g r.seat stamp first.stands above was.stands in
    let level : g.popped + 1 + g.walk + length rest ≡ cleared c g = omega (arith, first.level, walked) in
    record {
      stands = changed_other g.standing r.seat (g.pushed_at stamp) apart other ∙ was.stands;
      fresh = λ over. was.fresh (omega (arith, over, level)) ∙ ap (linked_at g.pushed_at stamp) (sym level);
      walked = λ under. absurd (omega (arith, under, walked, above));
    }

agents_apart : (c : Core) (g : Ghost) (u : ℕ) → ((t : ℕ) → AgentFits c.seats (g.standing t) t) → (t : ℕ) → AgentFits c.seats (changed g.standing u apart t) t
agents_apart c g u agents t =
    elim (cases_eq t u) [
      | inl same ↦ rw (same, changed_same g.standing u apart) (record { asked = λ agent e. absurd (cc); sent = λ agent e. absurd (cc) })
      | inr other ↦ rw (changed_other g.standing u t apart other) (agents t)
    ]

-- a queued seat does not ask, so the asking seats are the same
pub asking_stays : (g : Ghost) (u stamp : ℕ) → g.standing u ≡ queued stamp → (t : ℕ) → is_asking (changed g.standing u apart t) ≡ is_asking (g.standing t)
asking_stays g u stamp stands t =
    elim (cases_eq t u) [
      | inl same ↦ rw (same, changed_same g.standing u apart, stands) refl
      | inr other ↦ rw (changed_other g.standing u t apart other) refl
    ]

asking_apart : (g : Ghost) (u stamp : ℕ) → g.standing u ≡ queued stamp → (t : ℕ) → asking_unit (changed g.standing u apart t) ≡ asking_unit (g.standing t)
asking_apart g u stamp stands t = ap (λ b. if b then 1 else 0) (asking_stays g u stamp stands t)

sums_popped : (n : ℕ) (g : Ghost) (u : ℕ) (place : Responsibility) (answered : ℕ) → 0 < u → u ≤ n → g.standing u ≡ queued (g.popped + 1) → SumsFit n g
    → SumsFit n (popped_to g u place answered)
sums_popped n g u place answered above within stands sums =
    let f : ℕ → ℕ = λ t. queued_unit (g.standing t) in
    let f' : ℕ → ℕ = λ t. queued_unit (changed g.standing u apart t) in
    let update : sum_to f' n + f u ≡ sum_to f n + f' u = sum_update n u f f' above within (λ t other. ap queued_unit (changed_other g.standing u t apart other)) in
    let was : f u ≡ 1 = ap queued_unit stands in
    let now : f' u ≡ 0 = ap queued_unit (changed_same g.standing u apart) in
    let sum : g.pushed ≡ g.popped + sum_to f n = sums.queued in
    record {
      asking = sums.asking ∙ sym (sum_agrees n (λ t. asking_unit (g.standing t)) (λ t. asking_unit (changed g.standing u apart t)) (asking_apart g u (g.popped + 1) stands));
      queued = omega (arith, update, was, now, sum);
      pushed = sums.pushed;
    }

-- a standing other than queued stays the same
stays_queued : (g : Ghost) (u stamp t : ℕ) (x : Standing) → g.standing u ≡ queued stamp → queued stamp ≢ x → g.standing t ≡ x → changed g.standing u apart t ≡ x
stays_queued g u stamp t x stands differ at =
    let other : t ≢ u = λ e. differ (sym stands ∙ ap g.standing (sym e) ∙ at) in
    changed_other g.standing u t apart other ∙ at

pub listed_popped : (g : Ghost) (u : ℕ) (place : Responsibility) (answered t stamp : ℕ) → g.pushed_at (g.popped + 1) ≡ u → t ≢ u → QueuedFits g t stamp
    → QueuedFits (popped_to g u place answered) t stamp
listed_popped g u place answered t stamp first away was =
    let differ : stamp ≢ g.popped + 1 = λ e. away (sym was.here ∙ ap g.pushed_at e ∙ first) in
    record { above = omega (arith, was.above, differ); within = was.within; here = was.here }

-- The whole state

-- The first record of the queue leaves it by a store of seat s, which serves: the words, the facts of the new place, and the
-- facts of s and of the record's seat after the store
pub record Pops (c : Core) (g : Ghost) (s : ℕ) (y : SeatState) (r : Record) (owner : ℕ) (rest : List Record) (wakes : List Wake) (place : Responsibility) (answered : ℕ) : Type 0 where
  pub errands : Errands c s y
  pub serves : g.place ≡ serving s
  pub walked : g.walk ≡ 0
  pub first : c.popped ≡ r ∷ rest
  pub unposted_after : place ≢ posted
  pub holds : (t : ℕ) → t ≢ s → t ≢ r.seat → (held_by place t ≡ nobody) × (grant_at place t ≡ None) × (is_entered place t ≡ false)
  pub owns : owner ≡ owner_of place
  pub handoff : c.handoff ≡ unposted → HandoffFits (with_entry c.seats s y) place c.handoff
  pub units : own_unit place + again_unit place ≡ 1
  pub work : WorkFits place g.asking g.pushed (g.popped + 1)
  pub carried : CarriedFits place g.walk rest
  pub last : r.stamp ≡ g.popped + 1 → g.pushed_at (g.popped + 1) ≡ r.seat → LastFits (g.popped + 1) g.pushed_at place
  pub answers : answered + unanswered place ≡ g.popped + 1
  pub woken : (t : ℕ) → t ≢ s → t ≢ r.seat → wake wakes t ≡ wake c.wakes t
  pub woken_all : length wakes ≡ length c.wakes
  pub own : SeatFits (handed c owner rest wakes) (popped_to g r.seat place answered) s y (wake wakes s)
  pub second : r.seat ≢ s → SeatFits (handed c owner rest wakes) (popped_to g r.seat place answered) r.seat (seat c.seats r.seat) (wake wakes r.seat)

words_popped : (c : Core) (g : Ghost) (s : ℕ) (y : SeatState) (r : Record) (owner : ℕ) (rest : List Record) (wakes : List Wake) (place : Responsibility) (answered : ℕ)
    → Fits c g → Pops c g s y r owner rest wakes place answered → IsFirst c g r rest
    → WordsFit (put (handed c owner rest wakes) s y) (popped_to g r.seat place answered)
words_popped c g s y r owner rest wakes place answered fits pops first =
    let words = fits.words in
    let level : g.popped + 1 + g.walk + length rest ≡ cleared c g = omega (arith, first.level, pops.walked) in
    let own_before : own_unit g.place ≡ 0 = ap own_unit pops.serves in
    let again_before : again_unit g.place ≡ 0 = ap again_unit pops.serves in
    let start : g.popped + 1 + g.walk ≡ g.popped + 1 = omega (arith, pops.walked) in
    record {
      owner = pops.owns;
      handoff = pops.handoff (rw pops.serves at words.handoff);
      stamp = words.stamp;
      head = words.head ∙ ap (λ k. newest k g.pushed g.pushed_at) (sym level);
      parts = omega (arith, level, words.parts);
      count = omega (arith, words.count, own_before, again_before, pops.units);
      work = pops.work;
      carried = pops.carried;
      last = pops.last first.stamp first.here;
      answers = pops.answers;
      listed = first.later ∙ ap (λ k. records g.pushed_at k (length rest)) (sym start);
    }

-- a seat that is neither s nor that of the record reads nothing new
sees_popped : (c : Core) (g : Ghost) (s : ℕ) (y : SeatState) (r : Record) (owner : ℕ) (rest : List Record) (wakes : List Wake) (place : Responsibility) (answered : ℕ)
    → IsSeat c.seats s → Fits c g → Pops c g s y r owner rest wakes place answered → IsFirst c g r rest → (t : ℕ) → t ≢ s → t ≢ r.seat → (x : SeatState)
    → Sees c (put (handed c owner rest wakes) s y) g (popped_to g r.seat place answered) t x
sees_popped c g s y r owner rest wakes place answered is fits pops first t other away x =
    let after = pops.holds t other away in
    let none : held_by g.place t ≡ nobody = rw pops.serves (held_by-other (serving s) s t refl other) in
    let unposted_before : c.handoff ≡ unposted = rw pops.serves at fits.words.handoff in
    record {
      held = after.0 ∙ sym none;
      grant = rw pops.serves after.1;
      entered = rw pops.serves after.2;
      standing = changed_other g.standing r.seat t apart away;
      listed = λ stamp at was. listed_popped g r.seat place answered t stamp first.here away was;
      errand = λ u at. stays_queued g r.seat (g.popped + 1) u (asks t) first.stands (λ e. cc) at;
      errand_link = λ u at. refl;
      claim = λ u at. stays_queued g r.seat (g.popped + 1) u (claimed t) first.stands (λ e. cc) at;
      seats = λ u there. IsSeat_after c s u y there;
      old = λ n old. IsOld_after c s y n is (omega (arith, pops.errands.posts_same)) old;
      number = λ at above. refl;
      head = λ n old stays e above. (let zero_seat : n.seat ≡ 0 = ap (λ m. m.seat) (sym e ∙ unposted_before) in absurd (omega (arith, zero_seat, above)));
      seen = λ l seen. seen;
      carrier = λ holds. absurd (nobody_serves t (sym none ∙ holds));
      budget = refl;
      pushes = refl;
      watches = λ watch placed at. absurd (pops.unposted_after placed);
    }

pub pops_fit : (c : Core) (g : Ghost) (s : ℕ) (y : SeatState) (r : Record) (owner : ℕ) (rest : List Record) (wakes : List Wake) (place : Responsibility) (answered : ℕ)
    → IsSeat c.seats s → Fits c g → Pops c g s y r owner rest wakes place answered
    → Fits (put (handed c owner rest wakes) s y) (popped_to g r.seat place answered)
pops_fit c g s y r owner rest wakes place answered is fits pops =
    let first = first_of c g r rest fits pops.walked pops.first in
    let there = seat_of_queued c g r.seat (g.popped + 1) fits first.stands in
    let size : length (with_entry c.seats s y) ≡ length c.seats = length-with_entry c.seats s y in
    record {
      words = words_popped c g s y r owner rest wakes place answered fits pops first;
      stamps = stamps_popped c g s y r owner rest wakes place answered fits pops.walked first;
      each = each_after_two c (handed c owner rest wakes) g (popped_to g r.seat place answered) s r.seat y c.count owner wakes is refl fits pops.errands.posts_same pops.woken
          (λ t other away. sees_popped c g s y r owner rest wakes place answered is fits pops first t other away (seat c.seats t)) pops.own pops.second;
      agents = agents_after c (changed g.standing r.seat apart) s y is pops.errands (agents_apart c g r.seat fits.agents);
      sums = rw size (sums_popped (length c.seats) g r.seat place answered there.above there.within first.stands fits.sums);
      sizes = sizes_after c _ s y refl refl pops.woken_all fits.sizes;
    }
