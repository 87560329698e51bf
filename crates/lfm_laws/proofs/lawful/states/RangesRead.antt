-- The numbers of a steady state stay in their ranges, and its next steps have room.
use Rattle.std.proofs.Common.{◌≡◌, ◌≢◌, ℕ, zero, suc, true, false, ◌+◌, ◌*◌, ◌≤◌, length, refl, ap, arith}
use Rattle.std.proofs.lemmas.Bool.{ne_eqb}
use Rattle.lfm_protocol.specs.declared.points.Point.{Point}
use Rattle.lfm_protocol.specs.declared.points.Point.TheVariants.{Rest, LockCountAdd, LockOwnerLoad, LockCountSubtract, TryCountExchange, TryOwnerLoad, SendWakeExchange, SendCountAdd, PushLoad, LinkStore, PushExchange, PushedHandoffLoad}
use Rattle.lfm_protocol.specs.declared.points.Pusher.{Pusher}
use Rattle.lfm_protocol.specs.Core.{Core}
use Rattle.lfm_laws.specs.steady.Ghost.{Responsibility, owned, Standing, apart, asks, queued, Ghost}
use Rattle.lfm_model.specs.Sums.{sum_to}
use Rattle.lfm_laws.specs.laws.Ranges.{NumbersStayInRange, StepsHaveRoom, StepsHaveRoomInLimits}
use Rattle.lfm_laws.specs.laws.Reading.{unit_of_recursion}
use Rattle.lfm_protocol.specs.Limits.{max_depth}
use Rattle.lfm_protocol.specs.Seats.{seat, IsSeat}
use Rattle.lfm_laws.specs.steady.Steady.{StandsAt, DepthOfPusher, DepthAt, own_unit, again_unit, asking_unit, queued_unit, Fits}
use Rattle.lfm_laws.specs.steady.Views.{claim_at}
use Rattle.lfm_laws.proofs.lawful.read.ClaimsRead.{held_self, self_claims}
use Rattle.lfm_laws.proofs.lawful.read.CountRead.{again_read}
use Rattle.lfm_laws.proofs.steady.Room.{own_unit-le, numbers_fit, steady_has_room}
use Rattle.lfm_laws.proofs.steady.frames.Seated.{seat_of_point}
use Rattle.lfm_laws.proofs.steady.frames.Sums.{sum_add, sum_bound, sum_bound_less}

-- The stamp

stamp_most : (c : Core) (g : Ghost) → Fits c g → c.push.stamp ≤ length c.seats * c.budget
stamp_most c g fits =
    let most = sum_bound (length c.seats) c.budget g.pushes (λ s. omega (arith, (fits.each s).pushes, (fits.each s).takes)) in
    omega (arith, fits.words.stamp, fits.sums.pushed, most)

-- The count

-- how often a seat with this standing is counted for itself
abbrev work_unit : Standing → ℕ
work_unit standing = asking_unit standing + queued_unit standing

work_unit-le : (standing : Standing) → work_unit standing ≤ 1
work_unit-le (asks agent) = omega arith
work_unit-le (queued stamp) = omega arith
work_unit-le _ = omega arith

work_of : (c : Core) (g : Ghost) → Fits c g → g.asking + g.pushed ≡ g.popped + sum_to (λ s. work_unit (g.standing s)) (length c.seats)
work_of c g fits =
    omega (arith, fits.sums.asking, fits.sums.queued, sum_add (length c.seats) (λ s. asking_unit (g.standing s)) (λ s. queued_unit (g.standing s)))

-- each seat is counted at most once
work_most : (c : Core) (g : Ghost) → Fits c g → g.asking + g.pushed ≤ g.popped + length c.seats
work_most c g fits =
    let most = sum_bound (length c.seats) 1 (λ s. work_unit (g.standing s)) (λ s. work_unit-le (g.standing s)) in
    omega (arith, work_of c g fits, most)

-- a seat that is apart is not counted
work_beside : (c : Core) (g : Ghost) (s : ℕ) → Fits c g → IsSeat c.seats s → g.standing s ≡ apart → g.asking + g.pushed + 1 ≤ g.popped + length c.seats
work_beside c g s fits is away =
    let none : work_unit (g.standing s) ≡ 0 = ap work_unit away in
    let most =
    sum_bound_less (length c.seats) 1 s (λ t. work_unit (g.standing t)) is.above is.within (λ t. work_unit-le (g.standing t)) (omega (arith, none))
    in
    omega (arith, work_of c g fits, most)

-- the owner's recursive lock between its add and its subtract is the call of a seat that is apart
again_apart : (depth s : ℕ) (place : Responsibility) (standing : Standing) (p : Point) → unit_of_recursion p ≡ 1 → claim_at depth s p ≡ owned s true
    → StandsAt place depth s standing p → standing ≡ apart
again_apart zero s place standing LockOwnerLoad unit claims stands = absurd (cc)
again_apart (suc depth) s place standing LockOwnerLoad unit claims stands = rw (ne_eqb (suc depth) 0 (λ none. omega arith)) at stands
again_apart depth s place standing LockCountSubtract unit claims stands = stands
again_apart depth s place standing _ unit claims stands = absurd (omega (arith, unit))

again_open : (p : Point) → unit_of_recursion p ≡ 1 → p ≢ Rest
again_open p unit rests = let none = ap unit_of_recursion rests in omega (arith, unit, none)

count_again : (c : Core) (g : Ghost) (s : ℕ) → Fits c g → g.place ≡ owned s true → c.count ≤ length c.seats + 1
count_again c g s fits here =
    let x = seat c.seats s in
    let unit : unit_of_recursion x.point ≡ 1 = again_read c g (owned s true) fits here in
    let claims = self_claims c g s (owned s true) fits here (held_self s _) in
    let away = again_apart x.depth s g.place (g.standing s) x.point unit claims (fits.each s).stands in
    let beside = work_beside c g s fits (seat_of_point c.seats s (again_open x.point unit)) away in
    let own : own_unit g.place ≡ 1 = ap own_unit here in
    let again : again_unit g.place ≡ 1 = ap again_unit here in
    omega (arith, fits.words.count, own, again, beside)

count_plain : (c : Core) (g : Ghost) → Fits c g → again_unit g.place ≡ 0 → c.count ≤ length c.seats + 1
count_plain c g fits again = omega (arith, fits.words.count, own_unit-le g.place, again, work_most c g fits)

count_most : (c : Core) (g : Ghost) (place : Responsibility) → Fits c g → g.place ≡ place → c.count ≤ length c.seats + 1
count_most c g (owned s true) fits here = count_again c g s fits here
count_most c g (owned s false) fits here = count_plain c g fits (ap again_unit here)
count_most c g _ fits here = count_plain c g fits (ap again_unit here)

-- The seats

depth_of_pusher : (depth : ℕ) (pusher : Pusher) → DepthOfPusher depth pusher → depth ≤ max_depth
depth_of_pusher depth Pusher.Locker fits = omega (arith, fits)
depth_of_pusher depth (Pusher.Sender t) fits = fits

depth_most : (depth : ℕ) (p : Point) → DepthAt depth p → depth ≤ max_depth
depth_most depth Rest fits = fits
depth_most depth LockCountAdd fits = omega (arith, fits)
depth_most depth LockOwnerLoad fits = omega (arith, fits)
depth_most depth LockCountSubtract fits = omega (arith, fits.1)
depth_most depth TryCountExchange fits = omega (arith, fits)
depth_most depth TryOwnerLoad fits = omega (arith, fits)
depth_most depth (SendWakeExchange t) fits = fits
depth_most depth (SendCountAdd t) fits = fits
depth_most depth (PushLoad pusher) fits = depth_of_pusher depth pusher fits
depth_most depth (LinkStore pusher seen) fits = depth_of_pusher depth pusher fits
depth_most depth (PushExchange pusher seen) fits = depth_of_pusher depth pusher fits
depth_most depth (PushedHandoffLoad pusher) fits = depth_of_pusher depth pusher fits
depth_most depth _ fits = omega (arith, fits)

pub numbers_stay_in_range : NumbersStayInRange
numbers_stay_in_range c is =
    let steady = is in
    let g : Ghost = steady.ghost_state in
    let fits = steady.fits in
    record {
      stamp = stamp_most c g fits;
      count = count_most c g g.place fits refl;
      depth = λ s. depth_most (seat c.seats s).depth (seat c.seats s).point (fits.each s).depth;
      takes = λ s. (fits.each s).takes;
      posts = λ s. let paid = (fits.each s).posts in omega (arith, paid);
    }

pub steps_have_room : StepsHaveRoom
steps_have_room c s is numbers seat_is = steady_has_room c s is numbers seat_is

pub steps_have_room_in_limits : StepsHaveRoomInLimits
steps_have_room_in_limits c is small =
    let numbers = numbers_fit c is.ghost_state is.fits small in (numbers, λ s seat_is. steady_has_room c s is numbers seat_is)
