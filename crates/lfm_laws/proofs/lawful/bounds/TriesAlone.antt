-- A try_lock of a free mutex holds after two steps, and a try_lock that finds a posted handoff holds after six.
use Rattle.std.proofs.Common.{◌≡◌, ℕ, true, false, ◌+◌, ◌<◌, nat_eq, refl, ap, arith}
use Rattle.std.proofs.lemmas.Bool.{lt-ltb, eq-eqb, ne_eqb}
use Rattle.lfm_model.specs.declared.answers.How.TheVariants as How
use Rattle.lfm_model.specs.declared.answers.Locked.TheVariants as Locked
use Rattle.lfm_protocol.specs.declared.answers.Answer.TheVariants as Answer
use Rattle.lfm_protocol.specs.declared.answers.Turn.TheVariants.{Ended}
use Rattle.lfm_protocol.specs.declared.points.Entrant.TheVariants.{Trier}
use Rattle.lfm_protocol.specs.declared.points.Point.{Point}
use Rattle.lfm_protocol.specs.declared.points.Point.TheVariants.{TryCountExchange, TryOwnerLoad, TryHandoffLoad, TryHandoffExchange, TryCountAdd, EnterOwnerStore}
use Rattle.lfm_protocol.specs.declared.seats.SeatState.{SeatState}
use Rattle.lfm_words.specs.declared.handoffs.Handoff.{Handoff}
use Rattle.lfm_protocol.specs.After.{same_handoff}
use Rattle.lfm_protocol.specs.Core.{Core, put}
use Rattle.lfm_laws.specs.steady.Ghost.{Ghost, posted}
use Rattle.lfm_laws.specs.laws.Laws.{TriesAloneHold}
use Rattle.lfm_laws.specs.laws.Schedules.{steps}
use Rattle.lfm_protocol.specs.Seats.{seat, unposted, IsSeat}
use Rattle.lfm_laws.specs.steady.Steady.{Fits}
use Rattle.lfm_laws.proofs.steady.frames.Entries.{seat-with_same, length-with_entry}
use Rattle.lfm_laws.proofs.steady.handoff.Handoffs.{posted_of}
use Rattle.lfm_laws.proofs.steady.frames.Seated.{test_of_seat}

-- seat s is at this point
record Stands (c : Core) (s : ℕ) (p : Point) : Type 0 where
  pub is : IsSeat c.seats s
  pub at : (seat c.seats s).point ≡ p

stands_put : (d : Core) (s : ℕ) (y : SeatState) → IsSeat d.seats s → Stands (put d s y) s y.point
stands_put d s y is =
    record {
      is = record { above = is.above; within = omega (arith, is.within, length-with_entry d.seats s y) };
      at = ap (λ x. x.point) (seat-with_same d.seats s y is);
    }

-- A free mutex

enters : (c : Core) (s : ℕ) → Stands c s (EnterOwnerStore Trier How.Free) → (steps 1 c s).turn ≡ Ended (Answer.Locked (Locked.Held How.Free))
enters c s here = rw (test_of_seat c.seats s here.is, here.at, here.at) refl

exchanges : (c : Core) (s : ℕ) → Stands c s TryCountExchange → c.count ≡ 0 → (steps 2 c s).turn ≡ Ended (Answer.Locked (Locked.Held How.Free))
exchanges c s here free =
    rw (test_of_seat c.seats s here.is, here.at, here.at, free)
    (enters (put (record c { count = 1 }) s (record (seat c.seats s) { point = EnterOwnerStore Trier How.Free })) s
    (stands_put (record c { count = 1 }) s (record (seat c.seats s) { point = EnterOwnerStore Trier How.Free }) here.is))

-- A posted handoff

adds : (c : Core) (s : ℕ) → Stands c s TryCountAdd → (steps 2 c s).turn ≡ Ended (Answer.Locked (Locked.Held How.Free))
adds c s here =
    let d : Core = record c { count = c.count + 1 } in
    let y : SeatState = record (seat c.seats s) { point = EnterOwnerStore Trier How.Free } in
    rw (test_of_seat c.seats s here.is, here.at, here.at) (enters (put d s y) s (stands_put d s y here.is))

same_handoff_self : (seen : Handoff) → same_handoff seen seen ≡ true
same_handoff_self seen = rw (eq-eqb seen.seat seen.seat refl, eq-eqb seen.post seen.post refl) refl

accepts : (c : Core) (s : ℕ) → Stands c s (TryHandoffExchange c.handoff) → (steps 3 c s).turn ≡ Ended (Answer.Locked (Locked.Held How.Free))
accepts c s here =
    let d : Core = record c { handoff = unposted } in
    let y : SeatState = record (seat c.seats s) { point = TryCountAdd } in
    rw (test_of_seat c.seats s here.is, here.at, here.at, same_handoff_self c.handoff) (adds (put d s y) s (stands_put d s y here.is))

sees_post : (c : Core) (s : ℕ) → Stands c s TryHandoffLoad → 0 < c.handoff.seat → (steps 4 c s).turn ≡ Ended (Answer.Locked (Locked.Held How.Free))
sees_post c s here above =
    let y : SeatState = record (seat c.seats s) { point = TryHandoffExchange c.handoff } in
    rw (test_of_seat c.seats s here.is, here.at, here.at, ne_eqb c.handoff.seat 0 (λ none. omega (arith, none, above)))
    (accepts (put c s y) s (stands_put c s y here.is))

sees_no_owner : (c : Core) (s : ℕ) → Stands c s TryOwnerLoad → 0 < c.handoff.seat → c.owner ≡ 0 → (steps 5 c s).turn ≡ Ended (Answer.Locked (Locked.Held How.Free))
sees_no_owner c s here above unowned =
    let y : SeatState = record (seat c.seats s) { point = TryHandoffLoad } in
    let other : nat_eq c.owner s ≡ false = ne_eqb c.owner s (λ same. omega (arith, same, unowned, here.is.above)) in
    rw (test_of_seat c.seats s here.is, here.at, here.at, other) (sees_post (put c s y) s (stands_put c s y here.is) above)

finds_count : (c : Core) (s : ℕ) → Stands c s TryCountExchange → 0 < c.handoff.seat → c.owner ≡ 0 → 0 < c.count
    → (steps 6 c s).turn ≡ Ended (Answer.Locked (Locked.Held How.Free))
finds_count c s here above unowned some =
    let y : SeatState = record (seat c.seats s) { point = TryOwnerLoad } in
    rw (test_of_seat c.seats s here.is, here.at, here.at, ne_eqb c.count 0 (λ none. omega (arith, none, some)))
    (sees_no_owner (put c s y) s (stands_put c s y here.is) above unowned)

-- while a handoff is posted no seat owns, and some seat is counted
posted_facts : (c : Core) (g : Ghost) → Fits c g → 0 < c.handoff.seat → (c.owner ≡ 0) × (0 < c.count)
posted_facts c g fits above =
    let place : g.place ≡ posted = posted_of c.seats g.place c.handoff above fits.words.handoff in
    let owner : c.owner ≡ 0 = rw place at fits.words.owner in
    let work : g.popped < g.asking + g.pushed = rw place at fits.words.work in
    (owner, omega (arith, fits.words.count, work))

pub tries_alone_hold : TriesAloneHold
tries_alone_hold c s reached is rests apart left =
    let x = seat c.seats s in
    let y : SeatState = record { depth = 0; takes = x.takes + 1; posts = x.posts; point = TryCountExchange } in
    let begun = lt-ltb x.takes c.budget left in
    let here = stands_put c s y is in (
      λ free. rw (test_of_seat c.seats s is, rests, apart, begun) (exchanges (put c s y) s here free),
      λ above.
          let facts = posted_facts c reached.ghost_state reached.fits above in
          rw (test_of_seat c.seats s is, rests, apart, begun) (finds_count (put c s y) s here above facts.0 facts.1),
    )
