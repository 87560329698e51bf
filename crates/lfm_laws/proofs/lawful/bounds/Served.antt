-- If only unlocks and receives of granted seats begin, few calls begin while a record stays queued: two for each record before
-- it, and two more. So few steps are made.
use Rattle.std.proofs.Common.{◌≡◌, ℕ, true, false, ◌+◌, ◌*◌, ◌≤◌, ◌<◌, List, [], ◌∷◌, length, refl, sym, ap, ◌∙◌, inl, inr, arith}
use Rattle.std.proofs.lemmas.Bool.{cases_Bool, cases_eq, cases_lt, ne_eqb}
use Rattle.std.proofs.lemmas.List.{length-append}
use Rattle.std.proofs.Math.Nat.{mul-le-mul_left}
use Rattle.lfm_model.specs.Abstract.{AbstractPlace, AbstractStep, free, owner, passed, carried, brought_in}
use Rattle.lfm_model.specs.Abstract as Abstract
use Rattle.lfm_protocol.specs.declared.answers.Call.{Call}
use Rattle.lfm_protocol.specs.declared.answers.Call.TheVariants.{Lock, TryLock, Unlock, StartWait, SendLock, Receive}
use Rattle.lfm_protocol.specs.declared.points.Point.{Point}
use Rattle.lfm_protocol.specs.declared.points.Point.TheVariants.{Rest, Asleep, ReleaseOwnerStore, ReceiveWakeLoad}
use Rattle.lfm_protocol.specs.declared.points.Releaser.TheVariants.{Unlocker}
use Rattle.lfm_protocol.specs.declared.points.Sleeper.{Sleeper}
use Rattle.lfm_protocol.specs.declared.seats.SeatState.{SeatState}
use Rattle.lfm_words.specs.declared.wakes.Wake.TheVariants.{Grant}
use Rattle.lfm_protocol.specs.Begin as Begin
use Rattle.lfm_protocol.specs.Core.{Core, limits}
use Rattle.lfm_protocol.specs.Seats.{seat, wake, is_seat, IsSeat}
use Rattle.lfm_protocol.specs.Step.{made, begin}
use Rattle.lfm_laws.specs.laws.Events.{popped_by}
use Rattle.lfm_laws.specs.laws.Progress.{opened_at, opened_in, opened_in_run, open_calls}
use Rattle.lfm_laws.specs.laws.Service.{Serves, OnlyServes, QueuedSeatsAreServedSoon, StepsServe}
use Rattle.lfm_laws.specs.laws.Schedules.{Event, begins, makes, happens, is_call, popped_in, popped_record}
use Rattle.lfm_laws.specs.steady.Ghost.{owned, Ghost}
use Rattle.lfm_laws.specs.steady.EventOutcome.{abstract_place}
use Rattle.lfm_laws.specs.steady.Steady.{HasQueue, Fits}
use Rattle.lfm_laws.specs.steady.Views.{held_by}
use Rattle.lfm_laws.proofs.lawful.bounds.Leaving.{begun_other, begin_leaves}
use Rattle.lfm_laws.proofs.lawful.bounds.LockFree.{calls_share_their_steps}
use Rattle.lfm_laws.specs.laws.Laws.{post_weight}
use Rattle.lfm_laws.proofs.lawful.bounds.HistoryCounts.{popped_by_history, pushed_by_history}
use Rattle.lfm_laws.proofs.lawful.read.QueueRead.{queue_length}
use Rattle.lfm_laws.proofs.lawful.runs.Reached.{absent_tested, begin_keeps, made_keeps}
use Rattle.lfm_laws.proofs.steady.frames.Entries.{seat-with_same}
use Rattle.lfm_laws.proofs.steady.frames.Frames.{place_of_claim}
use Rattle.lfm_laws.proofs.steady.frames.Seated.{seat_of_test}
use Rattle.lfm_laws.proofs.steady.grant.Wakings.{grant_of_load, wake_to_load, place_of_grant}
use Rattle.lfm_laws.proofs.lawful.bounds.DueCalls.{unlocks_due, receives_due, due_at, due, due_at-le, step_spends}

-- Starts of calls

same_points : (c d : Core) (p : AbstractPlace) → ((s : ℕ) → (seat d.seats s).point ≡ (seat c.seats s).point) → due_at d p ≡ due_at c p
same_points c d (owner s) same = ap unlocks_due (same s)
same_points c d (passed s) same = ap (λ q. 1 + receives_due q) (same s)
same_points c d (carried s Abstract.serving) same = ap post_weight (same s)
same_points c d (carried s (Abstract.entering into)) same = refl
same_points c d (carried s Abstract.leaving) same = refl
same_points c d free same = refl
same_points c d Abstract.posted same = refl

abbrev BeginSpends : Core → Ghost → ℕ → Call → Type 0
BeginSpends c g u call = opened_at c (begin c u call).core u + due (begin c u call).core g ≤ due c g

-- the start of a call that leaves its seat at its point opens nothing
quiet_begin : (c : Core) (g : Ghost) (u : ℕ) (call : Call) → (seat (begin c u call).core.seats u).point ≡ (seat c.seats u).point → BeginSpends c g u call
quiet_begin c g u call same =
    let points : (s : ℕ) → (seat (begin c u call).core.seats s).point ≡ (seat c.seats s).point =
    λ s. elim (cases_eq s u) [
      | inl own ↦ rw own same
      | inr other ↦ ap (λ (x : SeatState). x.point) (begun_other c u s call other)
    ] in
    let stays = same_points c (begin c u call).core (abstract_place g.place) points in
    elim (cases_Bool (is_call (seat c.seats u).point)) [
      | inl inside ↦ rw inside (omega (arith, stays))
      | inr closed ↦ rw (closed, same, closed) (omega (arith, stays))
    ]

pub begun_view : (c : Core) (u : ℕ) (call : Call) → IsSeat c.seats u → is_seat c.seats u ≡ true
    → seat (begin c u call).core.seats u ≡ (Begin.begin (seat c.seats u) (limits c) call).seat
begun_view c u call is known = rw known (seat-with_same c.seats u (Begin.begin (seat c.seats u) (limits c) call).seat is)

-- an owner that starts its unlock
unlock_begins : (c : Core) (g : Ghost) (u : ℕ) → Fits c g → IsSeat c.seats u → is_seat c.seats u ≡ true → (seat c.seats u).point ≡ Rest → (seat c.seats u).depth ≡ 1
    → BeginSpends c g u Unlock
unlock_begins c g u fits is known at one =
    let view : (seat (begin c u Unlock).core.seats u).point ≡ ReleaseOwnerStore Unlocker = ap (λ (x : SeatState). x.point) (begun_view c u Unlock is known) ∙ rw (at, one) refl in
    let owns : owned u false ≡ held_by g.place u = rw (at, one) at (fits.each u).claims in
    let place = place_of_claim g.place (owned u false) u (λ e. cc) owns in
    rw (place, view, at) (omega arith)

unlock_rests : (c : Core) (g : Ghost) (u : ℕ) → Fits c g → IsSeat c.seats u → is_seat c.seats u ≡ true → (seat c.seats u).point ≡ Rest → BeginSpends c g u Unlock
unlock_rests c g u fits is known at =
    elim (cases_eq (seat c.seats u).depth 0) [
      | inl none ↦ quiet_begin c g u Unlock (ap (λ (x : SeatState). x.point) (begun_view c u Unlock is known) ∙ rw (at, none) refl)
      | inr some ↦ elim (cases_eq (seat c.seats u).depth 1) [
        | inl one ↦ unlock_begins c g u fits is known at one
        | inr more ↦
            quiet_begin c g u Unlock
            (ap (λ (x : SeatState). x.point) (begun_view c u Unlock is known) ∙ rw (at, ne_eqb (seat c.seats u).depth 0 some, ne_eqb (seat c.seats u).depth 1 more) refl)
      ]
    ]

-- a granted seat that starts its receive
receive_begins : (c : Core) (g : Ghost) (u stamp : ℕ) (sleeper : Sleeper) → Fits c g → IsSeat c.seats u → is_seat c.seats u ≡ true → (seat c.seats u).point ≡ Asleep sleeper
    → wake c.wakes u ≡ Grant stamp → BeginSpends c g u Receive
receive_begins c g u stamp sleeper fits is known at word =
    let view : (seat (begin c u Receive).core.seats u).point ≡ ReceiveWakeLoad sleeper = ap (λ (x : SeatState). x.point) (begun_view c u Receive is known) ∙ rw at refl in
    let woken = sym word ∙ rw at at (fits.each u).woken in
    let given = grant_of_load g.place (g.standing u) u stamp sleeper (woken ∙ sym (wake_to_load g.place (g.standing u) u sleeper)) in
    let place = place_of_grant g.place u stamp given in
    rw (place, view, at) (omega arith)

begin_at_point : (c : Core) (g : Ghost) (u : ℕ) (call : Call) (p : Point) → (seat c.seats u).point ≡ p → Fits c g → IsSeat c.seats u → is_seat c.seats u ≡ true
    → Serves c (begins u call) → BeginSpends c g u call
begin_at_point c g u Unlock Rest at fits is known serves = unlock_rests c g u fits is known at
begin_at_point c g u Receive Rest at fits is known serves = quiet_begin c g u Receive (ap (λ (x : SeatState). x.point) (begun_view c u Receive is known) ∙ rw at refl)
begin_at_point c g u Unlock (Asleep sleeper) at fits is known serves = quiet_begin c g u Unlock (ap (λ (x : SeatState). x.point) (begun_view c u Unlock is known) ∙ rw at refl)
begin_at_point c g u Receive (Asleep sleeper) at fits is known serves = receive_begins c g u serves.0 sleeper fits is known at serves.1
begin_at_point c g u Lock p at fits is known serves = absurd serves
begin_at_point c g u TryLock p at fits is known serves = absurd serves
begin_at_point c g u StartWait p at fits is known serves = absurd serves
begin_at_point c g u (SendLock t) p at fits is known serves = absurd serves
begin_at_point c g u call p at fits is known serves =
    quiet_begin c g u call (ap (λ (x : SeatState). x.point) (begin_leaves c u u call (rw at refl)).view)

-- Events

record Passes (c d : Core) (g : Ghost) (opened pops : ℕ) : Type 0 where
  pub to : Ghost
  pub fits : Fits d to
  pub popped : to.popped ≡ g.popped + pops
  pub pushed : g.pushed ≤ to.pushed
  pub spends : opened + due d to ≤ due c g + 2 * pops

passes_made : (c : Core) (g : Ghost) (u : ℕ) → Fits c g → HasQueue g → IsSeat c.seats u → Passes c (made c u).core g 0 (length (popped_by c u))
passes_made c g u fits some is =
    let kept = made_keeps c g u is fits in
    let less = step_spends c g kept.to u (seat c.seats u).point refl fits some is kept.fits kept.goes in
    record {
      to = kept.to;
      fits = kept.fits;
      popped = popped_by_history g kept.to _ _ _ kept.history;
      pushed = pushed_by_history g kept.to _ _ _ kept.history;
      spends = omega (arith, less);
    }

stays_here : (c d : Core) (g : Ghost) (opened : ℕ) → Fits d g → opened + due d g ≤ due c g → Passes c d g opened 0
stays_here c d g opened fits less = record { to = g; fits = fits; popped = omega arith; pushed = omega arith; spends = omega (arith, less) }

passes_event : (c : Core) (g : Ghost) (e : Event) → Fits c g → HasQueue g → Serves c e → Passes c (happens c e).core g (opened_in c e) (length (popped_in c e))
passes_event c g (begins u call) fits some serves =
    stays_here c (begin c u call).core g (opened_at c (begin c u call).core u) (begin_keeps c g u call fits)
    (elim (cases_Bool (is_seat c.seats u)) [
      | inl known ↦ begin_at_point c g u call (seat c.seats u).point refl fits (seat_of_test c.seats u known) known serves
      | inr none ↦ quiet_begin c g u call (rw none refl)
    ])
passes_event c g (makes u) fits some serves =
    elim (cases_Bool (is_seat c.seats u)) [
      | inl known ↦ rw known (passes_made c g u fits some (seat_of_test c.seats u known))
      | inr none ↦ rw (none, absent_tested c.seats u none) (stays_here c c g 0 fits (omega arith))
    ]

-- Runs

opened-le : (c : Core) (g : Ghost) (events : List Event) → Fits c g → OnlyServes c events → g.popped + length (popped_record c events) < g.pushed
    → opened_in_run c events ≤ due c g + 2 * length (popped_record c events)
opened-le c g [] fits serve some = omega arith
opened-le c g (e ∷ later) fits serve some =
    let split = length-append (popped_in c e) (popped_record (happens c e).core later) in
    let one = passes_event c g e fits (omega (arith, some)) serve.0 in
    let popped = one.popped in
    let pushed = one.pushed in
    let less = one.spends in
    let rest = opened-le (happens c e).core one.to later one.fits serve.1 (omega (arith, some, split, popped, pushed)) in
    omega (arith, rest, less, split)

pub queued_seats_are_served_soon : QueuedSeatsAreServedSoon
queued_seats_are_served_soon c events k is within serve few =
    let steady = is in
    let g : Ghost = steady.ghost_state in
    let long = queue_length c g steady.fits in
    let opened = opened-le c g events steady.fits serve (omega (arith, within, few, long)) in
    let two = due_at-le c (abstract_place g.place) in
    let steps = calls_share_their_steps c events is in
    let calls : open_calls c + opened_in_run c events ≤ open_calls c + 2 * k + 2 = omega (arith, opened, two, few) in
    let most = mul-le-mul_left (5 * length c.seats + 5) calls in
    omega (arith, steps, most)

pub steps_serve : StepsServe
steps_serve c events k is within serve more =
    elim (cases_lt k (length (popped_record c events))) [
      | inl left ↦ left
      | inr few ↦ let most = queued_seats_are_served_soon c events k is within serve few in absurd (omega (arith, most, more))
    ]
