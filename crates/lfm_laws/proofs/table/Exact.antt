-- In a steady state in which every seat number that a seat has read fits the lower half of a word, the next step of each seat
-- packs exactly.
use Rattle.std.proofs.Common.{◌≡◌, ℕ, ◌+◌, ◌-◌, ◌^◌, ◌<◌, ◌≤◌, refl, ap, ◌∙◌, inl, inr, arith}
use Rattle.std.proofs.lemmas.Bool.{cases_eq, ne_eqb, eq-eqb}
use Rattle.lfm_protocol.specs.declared.points.Point.{Point}
use Rattle.lfm_protocol.specs.declared.points.Point.TheVariants.{LockCountAdd, LockCountSubtract, TryHandoffLoad, TryHandoffExchange, TryCountAdd, SendWakeExchange, SendCountAdd, SendPushRecheck, SendWakeStore, PushLoad, LinkStore, PushExchange, PushedHandoffLoad, PushedHandoffExchange, ReleaseCountSubtract, ReleasePushRecheck, ReleaseHandoffExchange, WaitWakeStore, TakeClearHead, TakeLinkLoad, GrantWakeStore, ReceiveWakeLoad, ReceiveWakeStore}
use Rattle.lfm_words.specs.declared.handoffs.Handoff.{Handoff}
use Rattle.lfm_words.specs.Words.{seat_field_size}
use Rattle.lfm_protocol.specs.Core.{Core}
use Rattle.lfm_laws.specs.steady.Ghost.{Responsibility, nobody, owned, granted, posted, entering, accepting, leaving, serving, Ghost}
use Rattle.lfm_protocol.specs.Points.{kind, target}
use Rattle.lfm_protocol.specs.Room.{HasRoom}
use Rattle.lfm_protocol.specs.Seats.{seat, link, unposted, IsSeat}
use Rattle.lfm_laws.specs.steady.Steady.{HandoffFits, before, cleared, Fits, NumbersFit}
use Rattle.lfm_laws.proofs.steady.Room.{count_room, has_room_of_fits}
use Rattle.lfm_laws.proofs.steady.frames.Seated.{seat_of_stamp}
use Rattle.lfm_laws.specs.table.Words.{AreNarrow}
use Rattle.lfm_laws.proofs.table.Steps.{Exact}

-- The push word

seat_small : (c : Core) (g : Ghost) (t : ℕ) → Fits c g → IsSeat c.seats t → t < seat_field_size
seat_small c g t fits is = omega (arith, is.within, fits.sizes.seats)

pub push_narrow : (c : Core) (g : Ghost) → Fits c g → c.push.next < seat_field_size
push_narrow c g fits =
    elim (cases_eq (cleared c g) g.pushed) [
      | inl all ↦
          let none : c.push.next ≡ 0 = fits.words.head ∙ rw (eq-eqb (cleared c g) g.pushed all) refl in
          omega (arith, none)
      | inr some ↦
          let here : c.push.next ≡ g.pushed_at g.pushed = fits.words.head ∙ rw (ne_eqb (cleared c g) g.pushed some) refl in
          let is = seat_of_stamp c g g.pushed fits (omega (arith, some, fits.words.parts)) (omega arith) in
          omega (arith, here, seat_small c g (g.pushed_at g.pushed) fits is)
    ]

pub stamp_narrow : (c : Core) → NumbersFit c → c.push.stamp < 2 ^ 48
stamp_narrow c fit = let few = fit.stamp in omega (arith, few)

-- The handoff word

unposted_narrow : (h : Handoff) → h ≡ unposted → h.seat < seat_field_size
unposted_narrow h none = let e : h.seat ≡ 0 = ap (λ h. h.seat) none in omega (arith, e)

handoff_by : (c : Core) (g : Ghost) (place : Responsibility) → Fits c g → HandoffFits c.seats place c.handoff → c.handoff.seat < seat_field_size
handoff_by c g posted fits here = seat_small c g c.handoff.seat fits here
handoff_by c g nobody fits here = unposted_narrow c.handoff here
handoff_by c g (owned s again) fits here = unposted_narrow c.handoff here
handoff_by c g (granted s stamp) fits here = unposted_narrow c.handoff here
handoff_by c g (entering s into stamp) fits here = unposted_narrow c.handoff here
handoff_by c g (accepting s) fits here = unposted_narrow c.handoff here
handoff_by c g (leaving s) fits here = unposted_narrow c.handoff here
handoff_by c g (serving s) fits here = unposted_narrow c.handoff here

pub handoff_narrow : (c : Core) (g : Ghost) → Fits c g → c.handoff.seat < seat_field_size
handoff_narrow c g fits = handoff_by c g g.place fits fits.words.handoff

-- The link that a carrier loads next

before_small : (c : Core) (g : Ghost) (stamp : ℕ) → Fits c g → g.popped < stamp → stamp ≤ g.pushed → before g.pushed_at g.popped stamp < seat_field_size
before_small c g stamp fits above within =
    elim (cases_eq stamp (g.popped + 1)) [
      | inl first ↦ let none : before g.pushed_at g.popped stamp ≡ 0 = rw (eq-eqb stamp (g.popped + 1) first) refl in omega (arith, none)
      | inr later ↦
          let here : before g.pushed_at g.popped stamp ≡ g.pushed_at (stamp - 1) = rw (ne_eqb stamp (g.popped + 1) later) refl in
          let is = seat_of_stamp c g (stamp - 1) fits (omega (arith, above, later)) (omega (arith, within)) in
          omega (arith, here, seat_small c g (g.pushed_at (stamp - 1)) fits is)
    ]

walked_narrow : (c : Core) (g : Ghost) (next : ℕ) → Fits c g → 0 < g.walk → next ≡ g.pushed_at (g.popped + g.walk) → (link c.links next).next < seat_field_size
walked_narrow c g next fits some here =
    let stamp : ℕ = g.popped + g.walk in
    let above : g.popped < g.popped + g.walk = omega (arith, some) in
    let within : g.popped + g.walk ≤ g.pushed = omega (arith, fits.words.parts) in
    let stands = fits.stamps (g.popped + g.walk) above within in
    let linked : (link c.links next).next ≡ before g.pushed_at g.popped (g.popped + g.walk) =
    (rw here refl) ∙ ap (λ l. l.next) (stands.walked (omega arith))
    in
    omega (arith, linked, before_small c g (g.popped + g.walk) fits above within)

-- Every point

exact_at : (c : Core) (g : Ghost) (s : ℕ) (p : Point) → IsSeat c.seats s → (seat c.seats s).point ≡ p → Fits c g → NumbersFit c → AreNarrow c.seats → HasRoom c s
    → Exact c (seat c.seats s) s (target p s) (kind p)
exact_at c g s LockCountAdd is at fits fit narrow room = count_room c g fits
exact_at c g s TryCountAdd is at fits fit narrow room = count_room c g fits
exact_at c g s (SendCountAdd t) is at fits fit narrow room = count_room c g fits
exact_at c g s LockCountSubtract is at fits fit narrow room = (rw at at room.counts, count_room c g fits)
exact_at c g s (ReleaseCountSubtract releaser) is at fits fit narrow room = (rw at at room.counts, count_room c g fits)
exact_at c g s (PushLoad pusher) is at fits fit narrow room = push_narrow c g fits
exact_at c g s (SendPushRecheck t seen) is at fits fit narrow room = push_narrow c g fits
exact_at c g s (ReleasePushRecheck releaser) is at fits fit narrow room = push_narrow c g fits
exact_at c g s (PushExchange pusher seen) is at fits fit narrow room = (push_narrow c g fits, rw at (rw at at (narrow s)))
exact_at c g s (TakeClearHead carrier) is at fits fit narrow room = (push_narrow c g fits, stamp_narrow c fit)
exact_at c g s (TakeLinkLoad carrier next) is at fits fit narrow room =
    let knows = rw at at (fits.each s).knows in
    (rw at at room.touches, walked_narrow c g next fits knows.0 knows.1)
exact_at c g s (LinkStore pusher seen) is at fits fit narrow room = rw at at room.touches
exact_at c g s TryHandoffLoad is at fits fit narrow room = handoff_narrow c g fits
exact_at c g s (PushedHandoffLoad pusher) is at fits fit narrow room = handoff_narrow c g fits
exact_at c g s (PushedHandoffExchange pusher seen) is at fits fit narrow room = (handoff_narrow c g fits, rw at (rw at at (narrow s)))
exact_at c g s (TryHandoffExchange seen) is at fits fit narrow room = (handoff_narrow c g fits, rw at (rw at at (narrow s)))
exact_at c g s (ReleaseHandoffExchange releaser) is at fits fit narrow room = (handoff_narrow c g fits, rw at (seat_small c g s fits is))
exact_at c g s (ReceiveWakeLoad sleeper) is at fits fit narrow room = is
exact_at c g s (ReceiveWakeStore stamp) is at fits fit narrow room = is
exact_at c g s (WaitWakeStore released) is at fits fit narrow room = is
exact_at c g s (GrantWakeStore carrier oldest) is at fits fit narrow room = rw at at room.touches
exact_at c g s (SendWakeStore t) is at fits fit narrow room = rw at at room.touches
exact_at c g s (SendWakeExchange t) is at fits fit narrow room = rw at at room.touches
exact_at c g s _ is at fits fit narrow room = tt

pub exact_of_fits : (c : Core) (g : Ghost) (s : ℕ) → IsSeat c.seats s → Fits c g → NumbersFit c → AreNarrow c.seats
    → Exact c (seat c.seats s) s (target (seat c.seats s).point s) (kind (seat c.seats s).point)
exact_of_fits c g s is fits fit narrow = exact_at c g s (seat c.seats s).point is refl fits fit narrow (has_room_of_fits c g s fits fit is)
