-- In a steady state each seat's next step has room: its numbers fit their words, and the seats that it touches exist.
use Rattle.std.proofs.Common.{◌≡◌, ℕ, true, false, ◌+◌, ◌*◌, ◌^◌, ◌≤◌, ◌<◌, List, [], ◌∷◌, length, refl, sym, ap, arith}
use Rattle.std.proofs.lemmas.Bool.{false≢true, eq-eqb, ne_eqb}
use Rattle.std.proofs.Math.Nat.{mul-le-mul_left}
use Rattle.lfm_protocol.specs.declared.points.Carrier.{Carrier}
use Rattle.lfm_protocol.specs.declared.points.Point.{Point}
use Rattle.lfm_protocol.specs.declared.points.Point.TheVariants.{LockCountAdd, LockCountSubtract, TryOwnerLoad, TryHandoffLoad, TryHandoffExchange, TryCountAdd, SendWakeExchange, SendCountAdd, SendWakeStore, LinkStore, PushExchange, ReleaseCountSubtract, ReleaseHandoffStore, TakeLinkLoad, GrantWakeStore}
use Rattle.lfm_protocol.specs.declared.points.Pusher.{Pusher}
use Rattle.lfm_protocol.specs.declared.points.Releaser.{Releaser}
use Rattle.lfm_words.specs.declared.links.Link.{Link}
use Rattle.lfm_words.specs.declared.pop_lists.Record.{Record}
use Rattle.lfm_protocol.specs.Core.{Core}
use Rattle.lfm_laws.specs.steady.Ghost.{Responsibility, nobody, owned, granted, entering, leaving, Standing, asks, queued, Ghost}
use Rattle.lfm_protocol.specs.Limits.{max_seats, max_budget}
use Rattle.lfm_protocol.specs.Points.{kind, target, pushed_seat}
use Rattle.lfm_protocol.specs.Room.{HasNumbers, CountFits, PopFits, HasRoom}
use Rattle.lfm_protocol.specs.Seats.{seat, IsSeat}
use Rattle.lfm_laws.specs.steady.Steady.{ErrandFits, own_unit, again_unit, asking_unit, queued_unit, Fits, NumbersFit, Steady}
use Rattle.lfm_laws.specs.steady.Views.{is_entered, held_by}
use Rattle.lfm_laws.proofs.steady.frames.Frames.{place_of_claim}
use Rattle.lfm_laws.proofs.steady.frames.Seated.{seat_of_point, seat_of_stamp, seat_of_asking}
use Rattle.lfm_laws.proofs.steady.frames.Sums.{sum_bound}

-- The bounds

pub own_unit-le : (place : Responsibility) → own_unit place ≤ 1
own_unit-le (owned s again) = omega arith
own_unit-le (granted s stamp) = omega arith
own_unit-le (entering s into stamp) = omega arith
own_unit-le (leaving s) = omega arith
own_unit-le _ = omega arith

again_unit-le : (place : Responsibility) → again_unit place ≤ 1
again_unit-le (owned s true) = omega arith
again_unit-le (owned s false) = omega arith
again_unit-le _ = omega arith

asking_unit-le : (standing : Standing) → asking_unit standing ≤ 1
asking_unit-le (asks agent) = omega arith
asking_unit-le _ = omega arith

pub queued_unit-le : (standing : Standing) → queued_unit standing ≤ 1
queued_unit-le (queued stamp) = omega arith
queued_unit-le _ = omega arith

-- each push and each post was charged, so they are bounded if the budget is
pub numbers_fit : (c : Core) (g : Ghost) → Fits c g → c.budget ≤ max_budget → NumbersFit c
numbers_fit c g fits small =
    let most = sum_bound (length c.seats) c.budget g.pushes (λ s. omega (arith, (fits.each s).pushes, (fits.each s).takes)) in
    let wide : length c.seats * c.budget ≤ length c.seats * max_budget = mul-le-mul_left (length c.seats) small in
    let long : length c.seats * max_budget ≤ max_seats * max_budget = omega (arith, fits.sizes.seats) in
    record {
      stamp = omega (arith, fits.words.stamp, fits.sums.pushed, most, wide, long);
      posts = λ s. let here = fits.each s in omega (arith, here.posts, here.takes, small);
    }

pub asking_fits : (c : Core) (g : Ghost) → Fits c g → g.asking ≤ length c.seats
asking_fits c g fits =
    let most = sum_bound (length c.seats) 1 (λ s. asking_unit (g.standing s)) (λ s. asking_unit-le (g.standing s)) in
    omega (arith, fits.sums.asking, most)

-- at most as many records are queued as there are seats
pub queue_fits : (c : Core) (g : Ghost) → Fits c g → g.pushed ≤ g.popped + length c.seats
queue_fits c g fits =
    let most = sum_bound (length c.seats) 1 (λ s. queued_unit (g.standing s)) (λ s. queued_unit-le (g.standing s)) in
    omega (arith, fits.sums.queued, most)

pub count_room : (c : Core) (g : Ghost) → Fits c g → c.count + 1 < 2 ^ 64
count_room c g fits =
    omega (arith, fits.words.count, own_unit-le g.place, again_unit-le g.place, asking_fits c g fits, queue_fits c g fits, fits.sizes.seats)

-- The numbers of the seat

stamp_room : (c : Core) (seen : Link) → NumbersFit c → seen.stamp ≤ c.push.stamp → seen.stamp + 1 < 2 ^ 64
stamp_room c seen numbers older = omega (arith, older, numbers.stamp)

-- the seat whose link is loaded next
walked_seat : (c : Core) (g : Ghost) (s : ℕ) (carrier : Carrier) (next : ℕ) → (seat c.seats s).point ≡ TakeLinkLoad carrier next → Fits c g → IsSeat c.seats next
walked_seat c g s carrier next at fits =
    let knows = rw at at (fits.each s).knows in
    let some = knows.0 in
    rw knows.1 (seat_of_stamp c g (g.popped + g.walk) fits (omega (arith, some)) (omega (arith, fits.words.parts)))

numbers_at : (c : Core) (g : Ghost) (s : ℕ) (p : Point) → (seat c.seats s).point ≡ p → Fits c g → NumbersFit c → HasNumbers (seat c.seats s) p
numbers_at c g s LockCountSubtract at fits numbers = let deep = rw at at (fits.each s).depth in omega (arith, deep.1)
numbers_at c g s TryOwnerLoad at fits numbers = let deep = rw at at (fits.each s).depth in omega (arith, deep)
numbers_at c g s TryHandoffLoad at fits numbers = let paid = rw at at (fits.each s).pushes in omega (arith, paid)
numbers_at c g s (TryHandoffExchange seen) at fits numbers = let paid = rw at at (fits.each s).pushes in omega (arith, paid)
numbers_at c g s (LinkStore pusher seen) at fits numbers = let knows = rw at at (fits.each s).knows in stamp_room c seen numbers knows.1.older
numbers_at c g s (PushExchange pusher seen) at fits numbers = let knows = rw at at (fits.each s).knows in stamp_room c seen numbers knows.1.older
numbers_at c g s (ReleaseHandoffStore releaser) at fits numbers = let few = numbers.posts s in omega (arith, few)
numbers_at c g s (TakeLinkLoad carrier next) at fits numbers =
    let is = walked_seat c g s carrier next at fits in (is.above, omega (arith, is.within, fits.sizes.seats))
numbers_at c g s _ at fits numbers = tt

-- The count

again_counts : (c : Core) (g : Ghost) (s : ℕ) → (seat c.seats s).point ≡ LockCountSubtract → Fits c g → 0 < c.count
again_counts c g s at fits =
    let claim = rw at at (fits.each s).claims in
    let place = place_of_claim g.place (owned s true) s (λ e. cc) claim in
    let own : own_unit g.place ≡ 1 = rw place refl in
    omega (arith, fits.words.count, own, fits.words.parts)

leaving_counts : (c : Core) (g : Ghost) (s : ℕ) (releaser : Releaser) → (seat c.seats s).point ≡ ReleaseCountSubtract releaser → Fits c g → 0 < c.count
leaving_counts c g s releaser at fits =
    let claim = rw at at (fits.each s).claims in
    let place = place_of_claim g.place (leaving s) s (λ e. cc) claim in
    let own : own_unit g.place ≡ 1 = rw place refl in
    omega (arith, fits.words.count, own, fits.words.parts)

counts_at : (c : Core) (g : Ghost) (s : ℕ) (p : Point) → (seat c.seats s).point ≡ p → Fits c g → CountFits c.count (kind p)
counts_at c g s LockCountAdd at fits = count_room c g fits
counts_at c g s TryCountAdd at fits = count_room c g fits
counts_at c g s (SendCountAdd t) at fits = count_room c g fits
counts_at c g s LockCountSubtract at fits = again_counts c g s at fits
counts_at c g s (ReleaseCountSubtract releaser) at fits = leaving_counts c g s releaser at fits
counts_at c g s _ at fits = tt

-- The pop list

pops_room : (c : Core) (g : Ghost) → Fits c g → 0 < g.walk → length c.popped < length c.seats
pops_room c g fits some = omega (arith, some, fits.words.parts, queue_fits c g fits)

pops_at : (c : Core) (g : Ghost) (s : ℕ) (p : Point) → (seat c.seats s).point ≡ p → Fits c g → PopFits (length c.popped) (length c.seats) (kind p)
pops_at c g s (TakeLinkLoad carrier next) at fits = let knows = rw at at (fits.each s).knows in pops_room c g fits knows.0
pops_at c g s _ at fits = tt

-- The seat that is touched

pushed_one : (c : Core) (g : Ghost) (s : ℕ) (pusher : Pusher) → IsSeat c.seats s → Fits c g → ErrandFits g s pusher → IsSeat c.seats (pushed_seat pusher s)
pushed_one c g s Pusher.Locker is fits errand = is
pushed_one c g s (Pusher.Sender t) is fits errand =
    seat_of_asking c g t s fits errand.1

abbrev first_or : Record → List Record → Record
first_or r [] = r
first_or r (x ∷ rest) = x

-- the first record of the pop list is one of the queue
first_seat : (c : Core) (g : Ghost) (oldest : Record) (rest : List Record) → Fits c g → c.popped ≡ oldest ∷ rest → IsSeat c.seats oldest.seat
first_seat c g oldest rest fits first =
    let one : length c.popped ≡ length (oldest ∷ rest) = ap length first in
    let listed = rw first at fits.words.listed in
    let same = ap (first_or oldest) listed in
    let seat_is = ap (λ r. r.seat) same in
    rw seat_is (seat_of_stamp c g (g.popped + g.walk + 1) fits (omega arith) (omega (arith, one, fits.words.parts)))

-- the target of a send that brings it in is asleep, so it is a seat
entered_seat : (c : Core) (g : Ghost) (s t : ℕ) → (seat c.seats s).point ≡ SendWakeStore t → Fits c g → IsSeat c.seats t
entered_seat c g s t at fits =
    let claim = rw at at (fits.each s).claims in
    let place = place_of_claim g.place (entering s t 0) s (λ e. cc) claim in
    let other = rw at at (fits.each s).knows in
    let entered : is_entered g.place t ≡ true = rw place (eq-eqb t t refl) in
    let unheld : held_by g.place t ≡ nobody = rw (place, ne_eqb s t (λ e. other (sym e))) refl in
    let sleeps = (fits.each t).entered entered unheld in
    seat_of_point c.seats t (λ e. false≢true (rw e at sleeps.0))

touches_at : (c : Core) (g : Ghost) (s : ℕ) (p : Point) → IsSeat c.seats s → (seat c.seats s).point ≡ p → Fits c g → IsSeat c.seats (target p s)
touches_at c g s (LinkStore pusher seen) is at fits = let knows = rw at at (fits.each s).knows in pushed_one c g s pusher is fits knows.0
touches_at c g s (TakeLinkLoad carrier next) is at fits = walked_seat c g s carrier next at fits
touches_at c g s (GrantWakeStore carrier oldest) is at fits = let knows = rw at at (fits.each s).knows in first_seat c g oldest knows.1.0 fits knows.1.1
touches_at c g s (SendWakeExchange t) is at fits = rw at at (fits.each s).knows
touches_at c g s (SendWakeStore t) is at fits = entered_seat c g s t at fits
touches_at c g s _ is at fits = is

-- the room of the pop list, and the seat that is touched, need no bound
pub pops_of_fits : (c : Core) (g : Ghost) (s : ℕ) → Fits c g → PopFits (length c.popped) (length c.seats) (kind (seat c.seats s).point)
pops_of_fits c g s fits = pops_at c g s (seat c.seats s).point refl fits

pub has_room_of_fits : (c : Core) (g : Ghost) (s : ℕ) → Fits c g → NumbersFit c → IsSeat c.seats s → HasRoom c s
has_room_of_fits c g s fits fit is =
    record {
      numbers = numbers_at c g s (seat c.seats s).point refl fits fit;
      counts = counts_at c g s (seat c.seats s).point refl fits;
      pops = pops_at c g s (seat c.seats s).point refl fits;
      touches = touches_at c g s (seat c.seats s).point is refl fits;
    }

pub steady_has_room : (c : Core) (s : ℕ) → Steady c → NumbersFit c → IsSeat c.seats s → HasRoom c s
steady_has_room c s steady fit is = has_room_of_fits c steady.ghost_state s steady.fits fit is
