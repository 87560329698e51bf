-- In a steady state every seat is ready for its next step, and stays so if it begins calls without a step.
use Rattle.std.proofs.Common.{◌≡◌, ◌≢◌, ℕ, ◌+◌, ◌^◌, ◌<◌, ◌≤◌, List, ◌∷◌, length, refl, sym, ◌∙◌, arith}
use Rattle.lfm_protocol.specs.declared.points.Point.{Point}
use Rattle.lfm_protocol.specs.declared.points.Point.TheVariants.{LinkStore, PushExchange, PushedHandoffExchange, TryHandoffExchange, ReleaseHandoffStore, ReleaseHandoffExchange, GrantWakeStore, SendWakeStore}
use Rattle.lfm_protocol.specs.declared.points.Pusher.{Pusher}
use Rattle.lfm_words.specs.declared.handoffs.Handoff.{Handoff}
use Rattle.lfm_words.specs.declared.pop_lists.Record.{Record}
use Rattle.lfm_words.specs.Words.{IsSmallWake, seat_field_size}
use Rattle.lfm_protocol.specs.Core.{Core}
use Rattle.lfm_laws.specs.steady.Ghost.{apart, asks, Ghost}
use Rattle.lfm_protocol.specs.Points.{pushed_seat}
use Rattle.lfm_protocol.specs.Seats.{seat, no_link, unposted, IsSeat}
use Rattle.lfm_laws.specs.steady.Steady.{ErrandFits, IsOld, Fits, NumbersFit}
use Rattle.lfm_laws.proofs.steady.frames.Seated.{seat_of_standing}
use Rattle.lfm_protocol.specs.Stores.{stored_link_at, expected_push_at, exchanged_push_at, stored_handoff_at, expected_handoff_at, stored_wake_at}
use Rattle.lfm_laws.specs.table.Words.{AreNarrow}
use Rattle.lfm_laws.proofs.steady.queue.Popping.{first_of}
use Rattle.lfm_laws.proofs.steady.Room.{has_room_of_fits}
use Rattle.lfm_laws.specs.table.Ready.{PacksLink, PacksHandoff, IsReady}

pub packs_none : PacksLink no_link
packs_none = record { stamp = omega arith; next = omega arith }

pub packs_unposted : PacksHandoff unposted
packs_unposted = record { seat = omega arith; post = omega arith }

-- one more than a stamp that was seen
next_stamp : (c : Core) (stamp : ℕ) → NumbersFit c → stamp ≤ c.push.stamp → stamp + 1 < 2 ^ 48
next_stamp c stamp fit older = omega (arith, older, fit.stamp)

small_posts : (c : Core) (s : ℕ) → NumbersFit c → (seat c.seats s).posts < 2 ^ 48
small_posts c s fit = let here = fit.posts s in omega (arith, here)

old_packs : (c : Core) (seen : Handoff) → NumbersFit c → IsOld c.seats seen → seen.seat < seat_field_size → PacksHandoff seen
old_packs c seen fit old small =
    record { seat = small; post = let most = small_posts c seen.seat fit in omega (arith, old.before, most) }

small_seat : (c : Core) (g : Ghost) (t : ℕ) → Fits c g → IsSeat c.seats t → t < seat_field_size
small_seat c g t fits is = omega (arith, is.within, fits.sizes.seats)

asks_not_apart : (s : ℕ) → asks s ≢ apart
asks_not_apart s e = cc

pushed_is_small : (c : Core) (g : Ghost) (s : ℕ) (pusher : Pusher) → IsSeat c.seats s → Fits c g → ErrandFits g s pusher → pushed_seat pusher s < seat_field_size
pushed_is_small c g s Pusher.Locker is fits errand = small_seat c g s fits is
pushed_is_small c g s (Pusher.Sender t) is fits errand =
    small_seat c g t fits (seat_of_standing c g t fits (λ e. let here = errand.1 in absurd (asks_not_apart s (sym here ∙ e))))

-- Each number, by the point

link_ready : (c : Core) (g : Ghost) (s : ℕ) (p : Point) → (seat c.seats s).point ≡ p → Fits c g → NumbersFit c → AreNarrow c.seats → PacksLink (stored_link_at p)
link_ready c g s (LinkStore pusher seen) at fits fit narrow =
    let knows = rw at at (fits.each s).knows in
    let small = rw at at (narrow s) in
    record { stamp = next_stamp c seen.stamp fit knows.1.older; next = small }
link_ready c g s _ at fits fit narrow = packs_none

push_ready : (c : Core) (g : Ghost) (s : ℕ) (p : Point) → (seat c.seats s).point ≡ p → Fits c g → NumbersFit c → AreNarrow c.seats → PacksLink (expected_push_at p)
push_ready c g s (PushExchange pusher seen) at fits fit narrow =
    let knows = rw at at (fits.each s).knows in
    let small = rw at at (narrow s) in
    let next = next_stamp c seen.stamp fit knows.1.older in
    record { stamp = omega (arith, next); next = small }
push_ready c g s _ at fits fit narrow = packs_none

pushed_small : (c : Core) (g : Ghost) (s : ℕ) (p : Point) → IsSeat c.seats s → (seat c.seats s).point ≡ p → Fits c g → NumbersFit c → PacksLink (exchanged_push_at s p)
pushed_small c g s (PushExchange pusher seen) is at fits fit =
    let knows = rw at at (fits.each s).knows in
    record { stamp = next_stamp c seen.stamp fit knows.1.older; next = pushed_is_small c g s pusher is fits knows.0 }
pushed_small c g s _ is at fits fit = packs_none

handoff_ready : (c : Core) (g : Ghost) (s : ℕ) (p : Point) → IsSeat c.seats s → (seat c.seats s).point ≡ p → Fits c g → NumbersFit c
    → PacksHandoff (stored_handoff_at (seat c.seats s) s p)
handoff_ready c g s (ReleaseHandoffStore releaser) is at fits fit =
    record { seat = small_seat c g s fits is; post = fit.posts s }
handoff_ready c g s _ is at fits fit = packs_unposted

expected_ready : (c : Core) (g : Ghost) (s : ℕ) (p : Point) → IsSeat c.seats s → (seat c.seats s).point ≡ p → Fits c g → NumbersFit c → AreNarrow c.seats
    → PacksHandoff (expected_handoff_at (seat c.seats s) s p)
expected_ready c g s (PushedHandoffExchange pusher seen) is at fits fit narrow =
    let knows = rw at at (fits.each s).knows in
    let small = rw at at (narrow s) in
    old_packs c seen fit knows.0 small
expected_ready c g s (TryHandoffExchange seen) is at fits fit narrow =
    let knows = rw at at (fits.each s).knows in
    let small = rw at at (narrow s) in
    old_packs c seen fit knows small
expected_ready c g s (ReleaseHandoffExchange releaser) is at fits fit narrow =
    record { seat = small_seat c g s fits is; post = small_posts c s fit }
expected_ready c g s _ is at fits fit narrow = packs_unposted

granted_small : (c : Core) (g : Ghost) (r : Record) (rest : List Record) → Fits c g → NumbersFit c → g.walk ≡ 0 → c.popped ≡ r ∷ rest → r.stamp < 2 ^ 48
granted_small c g r rest fits fit walked popped =
    let first = first_of c g r rest fits walked popped in
    omega (arith, first.stamp, first.some, fits.words.stamp, fit.stamp)

wake_ready : (c : Core) (g : Ghost) (s : ℕ) (p : Point) → (seat c.seats s).point ≡ p → Fits c g → NumbersFit c → IsSmallWake (stored_wake_at p)
wake_ready c g s (GrantWakeStore carrier oldest) at fits fit =
    let knows = rw at at (fits.each s).knows in granted_small c g oldest knows.1.0 fits fit knows.0 knows.1.1
wake_ready c g s (SendWakeStore t) at fits fit = omega arith
wake_ready c g s _ at fits fit = tt

pub ready_of_fits : (c : Core) (g : Ghost) (s : ℕ) → IsSeat c.seats s → Fits c g → NumbersFit c → AreNarrow c.seats → IsReady (length c.seats) s (seat c.seats s)
ready_of_fits c g s is fits fit narrow =
    let room = has_room_of_fits c g s fits fit is in
    let p = (seat c.seats s).point in
    record {
      numbers = room.numbers;
      above = room.touches.above;
      within = room.touches.within;
      stored_link = link_ready c g s p refl fits fit narrow;
      expected_push = push_ready c g s p refl fits fit narrow;
      exchanged_push = pushed_small c g s p is refl fits fit;
      stored_handoff = handoff_ready c g s p is refl fits fit;
      expected_handoff = expected_ready c g s p is refl fits fit narrow;
      stored_wake = wake_ready c g s p refl fits fit;
    }
