-- How many calls have yet to begin before a queued record is served, if only unlocks and receives of granted seats begin: no
-- step raises this number by more than two for each record that leaves.
use Rattle.std.proofs.Common.{◌≡◌, ℕ, false, ◌+◌, ◌*◌, ◌≤◌, Option, Some, None, length, nat_eq, refl, sym, ap, ◌∙◌, inl, inr, arith, if◌then◌else◌}
use Rattle.std.proofs.lemmas.Bool.{cases_Bool, cases_eq, eq-eqb, false≢true}
use Rattle.lfm_model.specs.Abstract.{AbstractPlace, AbstractStep, free, owner, passed, carried, brought_in}
use Rattle.lfm_model.specs.Abstract as Abstract
use Rattle.lfm_model.specs.AbstractRuns.{Case, case_of}
use Rattle.lfm_model.specs.AbstractRuns as Runs
use Rattle.lfm_model.specs.declared.answers.How.{How}
use Rattle.lfm_protocol.specs.declared.points.Entrant.{Entrant}
use Rattle.lfm_protocol.specs.declared.points.Point.{Point}
use Rattle.lfm_protocol.specs.declared.points.Point.TheVariants.{Rest, ReleaseOwnerStore, ReleaseCountSubtract, ReleaseHandoffStore, GrantWakeStore, EnterOwnerStore, ReceiveWakeLoad}
use Rattle.lfm_protocol.specs.declared.points.Releaser.{Releaser}
use Rattle.lfm_protocol.specs.declared.points.Sleeper.{Sleeper}
use Rattle.lfm_words.specs.declared.wakes.Wake.{Wake}
use Rattle.lfm_words.specs.declared.wakes.Wake.TheVariants.{Grant}
use Rattle.lfm_protocol.specs.Core.{Core}
use Rattle.lfm_protocol.specs.Seats.{seat, wake, IsSeat}
use Rattle.lfm_protocol.specs.Step.{made}
use Rattle.lfm_laws.specs.laws.Cases.{GoesBy}
use Rattle.lfm_laws.specs.laws.Events.{popped_at_point, case_at, takes_up}
use Rattle.lfm_laws.specs.steady.Ghost as Places
use Rattle.lfm_laws.specs.steady.Ghost.{Responsibility, nobody, owned, posted, entering, accepting, leaving, serving, Ghost}
use Rattle.lfm_laws.specs.steady.EventOutcome.{abstract, abstract_place}
use Rattle.lfm_laws.specs.steady.Steady.{HasQueue, Fits}
use Rattle.lfm_laws.specs.steady.Views.{claim_to_enter, held_by, stamp_of}
use Rattle.lfm_laws.proofs.lawful.bounds.Leaving.{own_made, other_made}
use Rattle.lfm_laws.specs.laws.Laws.{post_weight}
use Rattle.lfm_laws.proofs.lawful.bounds.NextPosts.{post_weight-le, next_stays, leaving_next}
use Rattle.lfm_laws.proofs.lawful.bounds.PlainCases.{not_empty, gives, gives_by, plain_case}
use Rattle.lfm_laws.proofs.steady.frames.Frames.{place_of_claim}

-- The calls that have yet to begin

-- 1 if the owner has yet to begin its unlock
abbrev pub unlocks_due : Point → ℕ
unlocks_due (ReleaseOwnerStore releaser) = 0
unlocks_due _ = 1

-- 1 if the granted seat has yet to begin its receive
abbrev pub receives_due : Point → ℕ
receives_due (ReceiveWakeLoad sleeper) = 0
receives_due _ = 1

-- a seat that is about to enter then owns; the target of a send is granted first
abbrev pub entry_due : ℕ → ℕ → ℕ
entry_due into s = if nat_eq into s then 1 else 2

abbrev pub due_at : Core → AbstractPlace → ℕ
due_at c free = 2
due_at c (owner s) = unlocks_due (seat c.seats s).point
due_at c (passed s) = 1 + receives_due (seat c.seats s).point
due_at c Abstract.posted = 1
due_at c (carried s (Abstract.entering into)) = entry_due into s
due_at c (carried s Abstract.leaving) = 0
due_at c (carried s Abstract.serving) = post_weight (seat c.seats s).point

abbrev pub due : Core → Ghost → ℕ
due c g = due_at c (abstract_place g.place)

unlocks_due-le : (p : Point) → unlocks_due p ≤ 1
unlocks_due-le (ReleaseOwnerStore releaser) = omega arith
unlocks_due-le _ = omega arith

receives_due-le : (p : Point) → receives_due p ≤ 1
receives_due-le (ReceiveWakeLoad sleeper) = omega arith
receives_due-le _ = omega arith

entry_due-le : (into s : ℕ) → entry_due into s ≤ 2
entry_due-le into s =
    elim (cases_Bool (nat_eq into s)) [
      | inl own ↦ rw own (omega arith)
      | inr other ↦ rw other (omega arith)
    ]

pub due_at-le : (c : Core) (p : AbstractPlace) → due_at c p ≤ 2
due_at-le c (owner s) = let one = unlocks_due-le (seat c.seats s).point in omega (arith, one)
due_at-le c (passed s) = let one = receives_due-le (seat c.seats s).point in omega (arith, one)
due_at-le c (carried s (Abstract.entering into)) = entry_due-le into s
due_at-le c (carried s Abstract.leaving) = omega arith
due_at-le c (carried s Abstract.serving) = let one = post_weight-le (seat c.seats s).point in omega (arith, one)
due_at-le c _ = omega arith

-- Steps

-- what the seat that owns, is granted or serves has yet to do does not grow
record Stays (c d : Core) (g : Ghost) : Type 0 where
  pub owns : (s : ℕ) → abstract_place g.place ≡ owner s → unlocks_due (seat d.seats s).point ≤ unlocks_due (seat c.seats s).point
  pub granted : (s : ℕ) → abstract_place g.place ≡ passed s → receives_due (seat d.seats s).point ≤ receives_due (seat c.seats s).point
  pub serves : (s : ℕ) → abstract_place g.place ≡ carried s Abstract.serving → post_weight (seat d.seats s).point ≤ post_weight (seat c.seats s).point

same_place : (c d : Core) (g : Ghost) (p : AbstractPlace) → abstract_place g.place ≡ p → Stays c d g → due_at d p ≤ due_at c p
same_place c d g (owner s) at stays = stays.owns s at
same_place c d g (passed s) at stays = let less = stays.granted s at in omega (arith, less)
same_place c d g (carried s Abstract.serving) at stays = stays.serves s at
same_place c d g (carried s (Abstract.entering into)) at stays = omega arith
same_place c d g (carried s Abstract.leaving) at stays = omega arith
same_place c d g free at stays = omega arith
same_place c d g Abstract.posted at stays = omega arith

brought_due : (d : Core) (s x : ℕ) → due_at d (brought_in s x) ≤ entry_due x s
brought_due d s x =
    elim (cases_Bool (nat_eq x s)) [
      | inl own ↦ let one = unlocks_due-le (seat d.seats s).point in rw own (omega (arith, one))
      | inr other ↦ let one = receives_due-le (seat d.seats x).point in rw other (omega (arith, one))
    ]

self_due : (x : ℕ) → entry_due x x ≡ 1
self_due x = rw (eq-eqb x x refl) refl

by_step : (c : Core) (g h : Ghost) (u : ℕ) → Fits c g → HasQueue g → IsSeat c.seats u → Stays c (made c u).core g
    → (step : AbstractStep (abstract g) (abstract h)) → gives (case_of step) ≡ false → due (made c u).core h ≤ due c g
by_step c g h u fits some is stays (Abstract.ask_free s x moves) other = rw moves.before (due_at-le (made c u).core (abstract_place h.place))
by_step c g h u fits some is stays (Abstract.ask_joins x taken nothing joins) other = rw joins.place (same_place c (made c u).core g (abstract_place g.place) refl stays)
by_step c g h u fits some is stays (Abstract.queue x queues) other = rw queues.place (same_place c (made c u).core g (abstract_place g.place) refl stays)
by_step c g h u fits some is stays (Abstract.serve s w serves) other = absurd (false≢true (sym other))
by_step c g h u fits some is stays (Abstract.post s somebody moves) other = absurd (false≢true (sym other))
by_step c g h u fits some is stays (Abstract.take x moves) other = rw (moves.before, moves.after) (post_weight-le (seat (made c u).core.seats x).point)
by_step c g h u fits some is stays (Abstract.accept x moves) other = let one = self_due x in rw (moves.before, moves.after) (omega (arith, one))
by_step c g h u fits some is stays (Abstract.take_up x moves) other = let one = self_due x in rw (moves.before, moves.after) (omega (arith, one))
by_step c g h u fits some is stays (Abstract.enter s x moves) other = rw (moves.before, moves.after) (brought_due (made c u).core s x)
by_step c g h u fits some is stays (Abstract.release s moves) other = rw moves.after (omega arith)
by_step c g h u fits some is stays (Abstract.leave s to goes moves) other =
    elim goes [
      | inl away ↦ absurd (not_empty g some away.0.waiting)
      | inr served ↦
          let none = leaving_next c g s fits moves.before in
          let next = next_stays c g u s fits some is in
          rw (moves.after, served.1, moves.before) (omega (arith, none, next))
    ]

by_case : (c : Core) (g h : Ghost) (u : ℕ) (k : Option Case) → Fits c g → HasQueue g → IsSeat c.seats u → Stays c (made c u).core g → GoesBy k (abstract g) (abstract h)
    → gives_by k ≡ false → due (made c u).core h ≤ due c g
by_case c g h u None fits some is stays goes other = rw goes.place (same_place c (made c u).core g (abstract_place g.place) refl stays)
by_case c g h u (Some case) fits some is stays goes other = by_step c g h u fits some is stays goes.0 (ap gives goes.1 ∙ other)

-- a step of a seat that neither releases nor loads its grant
stays_beside : (c : Core) (g : Ghost) (u : ℕ) → Fits c g → HasQueue g → IsSeat c.seats u → unlocks_due (seat c.seats u).point ≡ 1 → receives_due (seat c.seats u).point ≡ 1
    → Stays c (made c u).core g
stays_beside c g u fits some is unlock receive =
    record {
      owns = λ s place. elim (cases_eq s u) [
        | inl own ↦ let one = unlocks_due-le (seat (made c u).core.seats u).point in rw own (omega (arith, one, unlock))
        | inr other ↦ rw (other_made c u s other) (omega arith)
      ];
      granted = λ s place. elim (cases_eq s u) [
        | inl own ↦ let one = receives_due-le (seat (made c u).core.seats u).point in rw own (omega (arith, one, receive))
        | inr other ↦ rw (other_made c u s other) (omega arith)
      ];
      serves = λ s place. next_stays c g u s fits some is;
    }

-- a receive that finds no grant is not by the granted seat

pub passed_place : (p : Responsibility) (u : ℕ) → abstract_place p ≡ passed u → (stamp : ℕ) × (p ≡ Places.granted u stamp)
passed_place (Places.granted t stamp) u e = (stamp, cc)
passed_place nobody u e = absurd (cc)
passed_place (owned t again) u e = absurd (cc)
passed_place posted u e = absurd (cc)
passed_place (entering t into stamp) u e = absurd (cc)
passed_place (accepting t) u e = absurd (cc)
passed_place (leaving t) u e = absurd (cc)
passed_place (serving t) u e = absurd (cc)

pub granted_word : (c : Core) (g : Ghost) (u stamp : ℕ) → Fits c g → g.place ≡ Places.granted u stamp → wake c.wakes u ≡ Grant stamp
granted_word c g u stamp fits place = (fits.each u).woken ∙ rw (place, eq-eqb u u refl) refl

ungranted : (c : Core) (g : Ghost) (u : ℕ) → Fits c g → takes_up (wake c.wakes u) ≡ None → abstract_place g.place ≡ passed u → ⊥
ungranted c g u fits none at =
    let place = passed_place g.place u at in
    let word = granted_word c g u place.0 fits place.1 in
    let none = rw word at none in
    cc

stays_asleep : (c : Core) (g : Ghost) (u : ℕ) (sleeper : Sleeper) → (seat c.seats u).point ≡ ReceiveWakeLoad sleeper → Fits c g → HasQueue g → IsSeat c.seats u
    → takes_up (wake c.wakes u) ≡ None → Stays c (made c u).core g
stays_asleep c g u sleeper at fits some is none =
    record {
      owns = λ s place. elim (cases_eq s u) [
        | inl own ↦
            let one = unlocks_due-le (seat (made c u).core.seats u).point in
            let before : unlocks_due (seat c.seats u).point ≡ 1 = rw at refl in
            rw own (omega (arith, one, before))
        | inr other ↦ rw (other_made c u s other) (omega arith)
      ];
      granted = λ s place. elim (cases_eq s u) [
        | inl own ↦ absurd (ungranted c g u fits none (place ∙ ap passed own))
        | inr other ↦ rw (other_made c u s other) (omega arith)
      ];
      serves = λ s place. next_stays c g u s fits some is;
    }

-- a grant that is taken up
taken_up : (c d : Core) (g h : Ghost) → (step : AbstractStep (abstract g) (abstract h)) → case_of step ≡ Runs.take_up → due d h ≤ due c g
taken_up c d g h (Abstract.take_up x moves) e = let one = self_due x in rw (moves.before, moves.after) (omega (arith, one))
taken_up c d g h (Abstract.ask_free s x moves) e = absurd (cc)
taken_up c d g h (Abstract.ask_joins x taken nothing joins) e = absurd (cc)
taken_up c d g h (Abstract.queue x queues) e = absurd (cc)
taken_up c d g h (Abstract.serve s w serves) e = absurd (cc)
taken_up c d g h (Abstract.post s somebody moves) e = absurd (cc)
taken_up c d g h (Abstract.take x moves) e = absurd (cc)
taken_up c d g h (Abstract.accept x moves) e = absurd (cc)
taken_up c d g h (Abstract.enter s x moves) e = absurd (cc)
taken_up c d g h (Abstract.release s moves) e = absurd (cc)
taken_up c d g h (Abstract.leave s to goes moves) e = absurd (cc)

-- a post
posted_due : (d : Core) (g h : Ghost) → (step : AbstractStep (abstract g) (abstract h)) → case_of step ≡ Runs.post → due d h ≡ 1
posted_due d g h (Abstract.post s somebody moves) e = rw moves.after refl
posted_due d g h (Abstract.take_up x moves) e = absurd (cc)
posted_due d g h (Abstract.ask_free s x moves) e = absurd (cc)
posted_due d g h (Abstract.ask_joins x taken nothing joins) e = absurd (cc)
posted_due d g h (Abstract.queue x queues) e = absurd (cc)
posted_due d g h (Abstract.serve s w serves) e = absurd (cc)
posted_due d g h (Abstract.take x moves) e = absurd (cc)
posted_due d g h (Abstract.accept x moves) e = absurd (cc)
posted_due d g h (Abstract.enter s x moves) e = absurd (cc)
posted_due d g h (Abstract.release s moves) e = absurd (cc)
posted_due d g h (Abstract.leave s to goes moves) e = absurd (cc)

received : (c : Core) (g h : Ghost) (u : ℕ) (sleeper : Sleeper) (w : Wake) → wake c.wakes u ≡ w → (seat c.seats u).point ≡ ReceiveWakeLoad sleeper → Fits c g → HasQueue g
    → IsSeat c.seats u → GoesBy (takes_up w) (abstract g) (abstract h) → due (made c u).core h ≤ due c g
received c g h u sleeper (Grant stamp) found at fits some is goes = taken_up c (made c u).core g h goes.0 goes.1
received c g h u sleeper w found at fits some is goes =
    rw goes.place (same_place c (made c u).core g (abstract_place g.place) refl (stays_asleep c g u sleeper at fits some is (rw found refl)))

-- a seat that enters is an owner that has yet to begin its unlock
entered_due : (c : Core) (h : Ghost) (u : ℕ) (entrant : Entrant) (how : How) → (seat c.seats u).point ≡ EnterOwnerStore entrant how → IsSeat c.seats u → Fits (made c u).core h
    → due (made c u).core h ≡ 1
entered_due c h u entrant how at is fits =
    let view : seat (made c u).core.seats u ≡ record (seat c.seats u) { point = Rest; depth = 1 } = own_made c u is ∙ rw (at, at) refl in
    let owns : owned u false ≡ held_by h.place u = rw view at (fits.each u).claims in
    let place = place_of_claim h.place (owned u false) u (λ e. cc) owns in
    rw (place, view) refl

placed : (c : Core) (g : Ghost) (u stamp : ℕ) → entering u u stamp ≡ held_by g.place u → due c g ≡ 1
placed c g u stamp claims = let place = place_of_claim g.place (entering u u stamp) u (λ e. cc) claims in rw place (self_due u)

entering_due : (c : Core) (g : Ghost) (u : ℕ) (entrant : Entrant) (how : How) → claim_to_enter u entrant how ≡ held_by g.place u
    → 1 ≤ due c g + 2 * length (popped_at_point u (EnterOwnerStore entrant how))
entering_due c g u Entrant.Locker How.Free claims = let one = placed c g u 0 claims in omega (arith, one)
entering_due c g u Entrant.Locker (How.Queued stamp) claims = omega arith
entering_due c g u Entrant.Trier how claims = let one = placed c g u 0 claims in omega (arith, one)
entering_due c g u Entrant.Receiver how claims = let one = placed c g u (stamp_of how) claims in omega (arith, one)

left_due : (c : Core) (h : Ghost) (u : ℕ) (releaser : Releaser) → (seat c.seats u).point ≡ ReleaseOwnerStore releaser → IsSeat c.seats u → Fits (made c u).core h
    → due (made c u).core h ≡ 0
left_due c h u releaser at is fits =
    let view : seat (made c u).core.seats u ≡ record (seat c.seats u) { point = ReleaseCountSubtract releaser; depth = 0 } = own_made c u is ∙ rw (at, at) refl in
    let leaves : leaving u ≡ held_by h.place u = rw view at (fits.each u).claims in
    let place = place_of_claim h.place (leaving u) u (λ e. cc) leaves in
    rw place refl

posting_due : (c : Core) (g : Ghost) (u : ℕ) (releaser : Releaser) → (seat c.seats u).point ≡ ReleaseHandoffStore releaser → Fits c g → due c g ≡ 1
posting_due c g u releaser at fits =
    let claims : serving u ≡ held_by g.place u = rw at at (fits.each u).claims in
    let place = place_of_claim g.place (serving u) u (λ e. cc) claims in
    rw (place, at) refl

pub step_spends : (c : Core) (g h : Ghost) (u : ℕ) (p : Point) → (seat c.seats u).point ≡ p → Fits c g → HasQueue g → IsSeat c.seats u → Fits (made c u).core h
    → GoesBy (case_at c u (seat c.seats u) p) (abstract g) (abstract h) → due (made c u).core h ≤ due c g + 2 * length (popped_at_point u p)
step_spends c g h u (EnterOwnerStore entrant how) at fits some is after goes =
    let one = entered_due c h u entrant how at is after in
    let least = entering_due c g u entrant how (rw at at (fits.each u).claims) in
    omega (arith, one, least)
step_spends c g h u (GrantWakeStore carrier oldest) at fits some is after goes = let most = due_at-le (made c u).core (abstract_place h.place) in omega (arith, most)
step_spends c g h u (ReleaseHandoffStore releaser) at fits some is after goes =
    let one = posting_due c g u releaser at fits in
    let still = posted_due (made c u).core g h goes.0 goes.1 in
    omega (arith, one, still)
step_spends c g h u (ReleaseOwnerStore releaser) at fits some is after goes = let none = left_due c h u releaser at is after in omega (arith, none)
step_spends c g h u (ReceiveWakeLoad sleeper) at fits some is after goes =
    let less = received c g h u sleeper (wake c.wakes u) refl at fits some is goes in omega (arith, less)
step_spends c g h u p at fits some is after goes =
    let less = by_case c g h u (case_at c u (seat c.seats u) p) fits some is (stays_beside c g u fits some is (rw at refl) (rw at refl)) goes
    (plain_case c u (seat c.seats u) p refl) in
    omega (arith, less)
