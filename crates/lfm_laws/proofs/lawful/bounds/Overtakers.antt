-- While a record stays queued, no seat becomes the owner twice. A seat enters by its record before that one, by what is already
-- on its way to it, or by a post; after it has entered it has none of these again.
use Rattle.std.proofs.Common.{◌≡◌, ℕ, zero, suc, false, ◌+◌, ◌-◌, ◌≤◌, ◌<◌, Option, Some, None, List, [], ◌∷◌, length, nat_eq, refl, sym, ap, ◌∙◌, inl, inr, arith, if◌then◌else◌}
use Rattle.std.proofs.lemmas.Bool.{cases_Bool, cases_eq, eq-eqb, ne_eqb, false≢true}
use Rattle.std.proofs.lemmas.List.{length-append}
use Rattle.lfm_model.specs.Abstract.{AbstractPlace, AbstractStep, free, owner, passed, carried, brought_in}
use Rattle.lfm_model.specs.Abstract as Abstract
use Rattle.lfm_model.specs.AbstractRuns.{Case, case_of}
use Rattle.lfm_model.specs.AbstractRuns as Runs
use Rattle.lfm_model.specs.declared.answers.How.{How}
use Rattle.lfm_protocol.specs.declared.points.Entrant.{Entrant}
use Rattle.lfm_protocol.specs.declared.points.Point.{Point}
use Rattle.lfm_protocol.specs.declared.points.Point.TheVariants.{Rest, ReleaseHandoffStore, GrantWakeStore, EnterOwnerStore}
use Rattle.lfm_words.specs.declared.pop_lists.Record.{Record}
use Rattle.lfm_protocol.specs.Core.{Core}
use Rattle.lfm_protocol.specs.Seats.{seat, is_seat, IsSeat}
use Rattle.lfm_protocol.specs.Step.{made, begin}
use Rattle.lfm_laws.specs.laws.Cases.{GoesBy}
use Rattle.lfm_laws.specs.laws.Events.{popped_by, popped_at_point, case_at}
use Rattle.lfm_laws.specs.laws.Overtaking.{enters_at, entries_of_seat, NoSeatOvertakesTwice}
use Rattle.lfm_laws.specs.laws.Schedules.{Event, begins, makes, happens, weight_of, popped_in, popped_record}
use Rattle.lfm_laws.specs.steady.Ghost as Places
use Rattle.lfm_laws.specs.steady.Ghost.{Responsibility, nobody, owned, posted, entering, accepting, leaving, serving, Standing, apart, queued, Ghost}
use Rattle.lfm_laws.specs.steady.EventOutcome.{abstract, abstract_place, GoesOn}
use Rattle.lfm_laws.specs.steady.Steady.{HasQueue, Fits}
use Rattle.lfm_laws.specs.steady.Views.{claim_to_enter, held_by, stamp_of}
use Rattle.lfm_laws.proofs.lawful.bounds.Leaving.{own_made}
use Rattle.lfm_laws.specs.laws.Laws.{post_weight}
use Rattle.lfm_laws.proofs.lawful.bounds.HistoryCounts.{popped_by_history, pushed_by_history}
use Rattle.lfm_laws.proofs.lawful.bounds.NextPosts.{post_weight-le, next_stays, begin_stays, leaving_next}
use Rattle.lfm_laws.proofs.lawful.bounds.PlainCases.{not_empty, gives, gives_by, plain_case}
use Rattle.lfm_laws.proofs.lawful.read.QueueRead.{queue_read}
use Rattle.lfm_laws.proofs.lawful.read.RecordsRead.{length-records}
use Rattle.lfm_laws.proofs.lawful.runs.Reached.{absent_tested, begin_keeps, made_keeps}
use Rattle.lfm_laws.proofs.steady.frames.Frames.{place_of_claim}
use Rattle.lfm_laws.proofs.steady.frames.Seated.{seat_of_test}
use Rattle.lfm_laws.proofs.lawful.bounds.AheadRecords.{ahead, ahead-le, ahead_none, ahead_first, first_popped, ahead_goes}

-- What can still bring in seat t, besides the records before the one that stays

abbrev is_same : ℕ → ℕ → ℕ
is_same s t = if nat_eq s t then 1 else 0

is_same-le : (s t : ℕ) → is_same s t ≤ 1
is_same-le s t =
    elim (cases_Bool (nat_eq s t)) [
      | inl own ↦ rw own (omega arith)
      | inr other ↦ rw other (omega arith)
    ]

abbrev spare_to : ℕ → Core → AbstractPlace → ℕ
spare_to t c free = 1
spare_to t c (owner s) = 0
spare_to t c (passed s) = is_same s t
spare_to t c Abstract.posted = 1
spare_to t c (carried s (Abstract.entering into)) = is_same into t
spare_to t c (carried s Abstract.leaving) = 0
spare_to t c (carried s Abstract.serving) = post_weight (seat c.seats s).point

abbrev spare : ℕ → Core → Ghost → ℕ
spare t c g = spare_to t c (abstract_place g.place)

spare_to-le : (t : ℕ) (c : Core) (p : AbstractPlace) → spare_to t c p ≤ 1
spare_to-le t c (passed s) = is_same-le s t
spare_to-le t c (carried s (Abstract.entering into)) = is_same-le into t
spare_to-le t c (carried s Abstract.leaving) = omega arith
spare_to-le t c (carried s Abstract.serving) = post_weight-le (seat c.seats s).point
spare_to-le t c _ = omega arith

same_place : (t : ℕ) (c d : Core) (p : Responsibility) → ((s : ℕ) → p ≡ serving s → post_weight (seat d.seats s).point ≤ post_weight (seat c.seats s).point)
    → spare_to t d (abstract_place p) ≤ spare_to t c (abstract_place p)
same_place t c d (serving s) stays = stays s refl
same_place t c d (leaving s) stays = omega arith
same_place t c d nobody stays = omega arith
same_place t c d (owned s again) stays = omega arith
same_place t c d (Places.granted s stamp) stays = omega arith
same_place t c d posted stays = omega arith
same_place t c d (entering s into stamp) stays = omega arith
same_place t c d (accepting s) stays = omega arith

brought_same : (t : ℕ) (d : Core) (s x : ℕ) → spare_to t d (brought_in s x) ≤ is_same x t
brought_same t d s x =
    elim (cases_Bool (nat_eq x s)) [
      | inl own ↦ rw own (omega arith)
      | inr other ↦ rw other (omega arith)
    ]

-- Steps

by_step : (t : ℕ) (c : Core) (g h : Ghost) (u : ℕ) → Fits c g → HasQueue g → IsSeat c.seats u → (step : AbstractStep (abstract g) (abstract h)) → gives (case_of step) ≡ false
    → spare t (made c u).core h ≤ spare t c g
by_step t c g h u fits some is (Abstract.ask_free s x moves) other = rw moves.before (spare_to-le t (made c u).core (abstract_place h.place))
by_step t c g h u fits some is (Abstract.ask_joins x taken nothing joins) other =
    rw joins.place (same_place t c (made c u).core g.place (λ s e. next_stays c g u s fits some is))
by_step t c g h u fits some is (Abstract.queue x queues) other =
    rw queues.place (same_place t c (made c u).core g.place (λ s e. next_stays c g u s fits some is))
by_step t c g h u fits some is (Abstract.serve s w serves) other = absurd (false≢true (sym other))
by_step t c g h u fits some is (Abstract.post s somebody moves) other = absurd (false≢true (sym other))
by_step t c g h u fits some is (Abstract.take x moves) other = rw moves.before (spare_to-le t (made c u).core (abstract_place h.place))
by_step t c g h u fits some is (Abstract.accept x moves) other = rw moves.before (spare_to-le t (made c u).core (abstract_place h.place))
by_step t c g h u fits some is (Abstract.take_up x moves) other = rw (moves.before, moves.after) (omega arith)
by_step t c g h u fits some is (Abstract.enter s x moves) other = rw (moves.before, moves.after) (brought_same t (made c u).core s x)
by_step t c g h u fits some is (Abstract.release s moves) other = rw moves.after (omega arith)
by_step t c g h u fits some is (Abstract.leave s to goes moves) other =
    elim goes [
      | inl away ↦ absurd (not_empty g some away.0.waiting)
      | inr served ↦
          let none = leaving_next c g s fits moves.before in
          let stays = next_stays c g u s fits some is in
          rw (moves.after, served.1, moves.before) (omega (arith, none, stays))
    ]

by_case : (t : ℕ) (c : Core) (g h : Ghost) (u : ℕ) (k : Option Case) → Fits c g → HasQueue g → IsSeat c.seats u → GoesBy k (abstract g) (abstract h) → gives_by k ≡ false
    → spare t (made c u).core h ≤ spare t c g
by_case t c g h u None fits some is goes other = rw goes.place (same_place t c (made c u).core g.place (λ s e. next_stays c g u s fits some is))
by_case t c g h u (Some case) fits some is goes other = by_step t c g h u fits some is goes.0 (ap gives goes.1 ∙ other)

-- the first record is that of the seat that the step serves
first_waits : (g h : Ghost) (w : ℕ) → HasQueue g → (abstract g).waiting ≡ w ∷ (abstract h).waiting → g.pushed_at (g.popped + 1) ≡ w
first_waits g h w some all =
    let one : g.pushed - g.popped ≡ suc (g.pushed - g.popped - 1) = omega (arith, some) in
    let all = rw one at all in
    cc

-- a grant goes to the seat of the first record
grant_to : (t : ℕ) (c : Core) (g h : Ghost) (u n : ℕ) → HasQueue g → 0 < n → (step : AbstractStep (abstract g) (abstract h)) → case_of step ≡ Runs.serve
    → spare t (made c u).core h ≤ ahead g.pushed_at g.popped n t
grant_to t c g h u n some more (Abstract.serve s w serves) e =
    let first = first_waits g h w some serves.waiting in
    let less = brought_same t (made c u).core s w in
    elim (cases_eq w t) [
      | inl own ↦
          let one = ahead_first g.pushed_at g.popped n t (first ∙ own) more in
          let most = is_same-le w t in
          rw serves.after (omega (arith, less, one, most))
      | inr other ↦ let none : is_same w t ≡ 0 = rw (ne_eqb w t other) refl in rw serves.after (omega (arith, less, none))
    ]
grant_to t c g h u n some more (Abstract.ask_free s x moves) e = absurd (cc)
grant_to t c g h u n some more (Abstract.ask_joins x taken nothing joins) e = absurd (cc)
grant_to t c g h u n some more (Abstract.queue x queues) e = absurd (cc)
grant_to t c g h u n some more (Abstract.post s somebody moves) e = absurd (cc)
grant_to t c g h u n some more (Abstract.take x moves) e = absurd (cc)
grant_to t c g h u n some more (Abstract.accept x moves) e = absurd (cc)
grant_to t c g h u n some more (Abstract.take_up x moves) e = absurd (cc)
grant_to t c g h u n some more (Abstract.enter s x moves) e = absurd (cc)
grant_to t c g h u n some more (Abstract.release s moves) e = absurd (cc)
grant_to t c g h u n some more (Abstract.leave s to goes moves) e = absurd (cc)

-- What can bring in seat t at all

-- 1 if the first is above 0, and otherwise the second
abbrev either : ℕ → ℕ → ℕ
either zero m = m
either (suc n) m = 1

either-le : (n m : ℕ) → m ≤ 1 → either n m ≤ 1
either-le zero m few = few
either-le (suc n) m few = omega arith

second-le : (n m : ℕ) → m ≤ 1 → m ≤ either n m
second-le zero m few = omega arith
second-le (suc n) m few = few

first-le : (n m : ℕ) → n ≤ 1 → n ≤ either n m
first-le zero m few = omega arith
first-le (suc n) m few = few

either_falls : (n n' m m' : ℕ) → n' ≤ n → m' ≤ 1 → m' ≤ either n m → either n' m' ≤ either n m
either_falls n zero m m' less few within = within
either_falls zero (suc n') m m' less few within = absurd (omega (arith, less))
either_falls (suc n) (suc n') m m' less few within = omega arith

abbrev brings : ℕ → Core → Ghost → ℕ → ℕ
brings t c g n = either (ahead g.pushed_at g.popped n t) (spare t c g)

brings-le : (t : ℕ) (c : Core) (g : Ghost) (n : ℕ) → brings t c g n ≤ 1
brings-le t c g n = either-le (ahead g.pushed_at g.popped n t) (spare t c g) (spare_to-le t c (abstract_place g.place))

-- after the step, what can bring in seat t besides the records could do so before, or was one of the records
goes_down : (t : ℕ) (c d : Core) (g h : Ghost) (pushes pops answers : List Record) (n : ℕ) → GoesOn g h pushes pops answers → g.popped + (length pops + n) < g.pushed
    → spare t d h ≤ brings t c g (length pops + n) → brings t d h n ≤ brings t c g (length pops + n)
goes_down t c d g h pushes pops answers n on within less =
    either_falls _ _ _ _ (ahead_goes g h pushes pops answers n t on within) (spare_to-le t d (abstract_place h.place)) less

-- A seat that enters

view_entered : (c : Core) (h : Ghost) (u : ℕ) (entrant : Entrant) (how : How) → (seat c.seats u).point ≡ EnterOwnerStore entrant how → IsSeat c.seats u → Fits (made c u).core h
    → (h.place ≡ owned u false) × (h.standing u ≡ apart)
view_entered c h u entrant how at is fits =
    let view : seat (made c u).core.seats u ≡ record (seat c.seats u) { point = Rest; depth = 1 } = own_made c u is ∙ rw (at, at) refl in
    let owns : owned u false ≡ held_by h.place u = rw view at (fits.each u).claims in
    let stands : h.standing u ≡ apart = rw view at (fits.each u).stands in
    (place_of_claim h.place (owned u false) u (λ e. cc) owns, stands)

-- it then has no record
none_ahead : (d : Core) (h : Ghost) (t n : ℕ) → Fits d h → h.standing t ≡ apart → h.popped + n ≤ h.pushed → ahead h.pushed_at h.popped n t ≡ 0
none_ahead d h t n fits stands within =
    ahead_none h.pushed_at h.popped n t (λ x above below here.
    let queued_there = (fits.stamps x above (omega (arith, below, within))).stands in
    let same : h.standing t ≡ queued x = rw here at queued_there in
    let both = sym stands ∙ same in
    cc)

-- and nothing else can then bring it in
none_brings : (t : ℕ) (d : Core) (h : Ghost) (n : ℕ) → Fits d h → h.place ≡ owned t false → h.standing t ≡ apart → h.popped + n ≤ h.pushed → brings t d h n ≡ 0
none_brings t d h n fits place stands within = rw (none_ahead d h t n fits stands within, place) refl

placed : (t : ℕ) (c : Core) (g : Ghost) (n stamp : ℕ) → entering t t stamp ≡ held_by g.place t → 1 ≤ brings t c g n
placed t c g n stamp claims =
    let place = place_of_claim g.place (entering t t stamp) t (λ e. cc) claims in
    let one : spare t c g ≡ 1 = rw (place, eq-eqb t t refl) refl in
    let least = second-le (ahead g.pushed_at g.popped n t) (spare t c g) (omega (arith, one)) in
    omega (arith, one, least)

-- before that step it was on its way or had the first record
some_brings : (t : ℕ) (c : Core) (g h : Ghost) (pushes answers : List Record) (n : ℕ) (entrant : Entrant) (how : How) → claim_to_enter t entrant how ≡ held_by g.place t
    → HasQueue g → GoesOn g h pushes (popped_at_point t (EnterOwnerStore entrant how)) answers → 1 ≤ brings t c g (length (popped_at_point t (EnterOwnerStore entrant how)) + n)
some_brings t c g h pushes answers n Entrant.Locker How.Free claims some on = placed t c g _ 0 claims
some_brings t c g h pushes answers n Entrant.Locker (How.Queued stamp) claims some on =
    let first = first_popped g h pushes answers (record { seat = t; stamp = stamp }) on some in
    let one = ahead_first g.pushed_at g.popped (1 + n) t first (omega arith) in
    let least = first-le (ahead g.pushed_at g.popped (1 + n) t) (spare t c g) (omega (arith, one)) in
    omega (arith, one, least)
some_brings t c g h pushes answers n Entrant.Trier how claims some on = placed t c g _ 0 claims
some_brings t c g h pushes answers n Entrant.Receiver how claims some on = placed t c g _ (stamp_of how) claims

-- Events

abbrev weighs_at : ℕ → ℕ → Point → ℕ
weighs_at t u p = if nat_eq u t then enters_at p else 0

spends_at : (t : ℕ) (c : Core) (g h : Ghost) (u : ℕ) (p : Point) (pushes answers : List Record) (n : ℕ) → (seat c.seats u).point ≡ p → Fits c g → HasQueue g → IsSeat c.seats u
    → Fits (made c u).core h → GoesBy (case_at c u (seat c.seats u) p) (abstract g) (abstract h) → GoesOn g h pushes (popped_at_point u p) answers
    → g.popped + (length (popped_at_point u p) + n) < g.pushed → weighs_at t u p + brings t (made c u).core h n ≤ brings t c g (length (popped_at_point u p) + n)
spends_at t c g h u (EnterOwnerStore entrant how) pushes answers n at fits some is after goes on within =
    let entered = view_entered c h u entrant how at is after in
    let place = entered.0 in
    let stands = entered.1 in
    let popped = popped_by_history g h pushes _ answers on in
    let pushed = pushed_by_history g h pushes _ answers on in
    elim (cases_eq u t) [
      | inl own ↦
          let none = none_brings t (made c u).core h n after (rw own at place) (rw own at stands) (omega (arith, popped, pushed, within)) in
          let claims = rw at at (fits.each u).claims in
          let one = some_brings t c g h pushes answers n entrant how (rw own at claims) some (rw own at on) in
          rw (own, eq-eqb t t refl) (omega (arith, rw own at none, one))
      | inr other ↦
          let less = goes_down t c (made c u).core g h pushes _ answers n on within (rw place (omega arith)) in
          rw (ne_eqb u t other) (omega (arith, less))
    ]
spends_at t c g h u (GrantWakeStore carrier oldest) pushes answers n at fits some is after goes on within =
    let grant = grant_to t c g h u (1 + n) some (omega arith) goes.0 goes.1 in
    let most = ahead-le g.pushed_at g.popped (1 + n) t in
    let first = first-le (ahead g.pushed_at g.popped (1 + n) t) (spare t c g) most in
    let less = goes_down t c (made c u).core g h pushes _ answers n on within (omega (arith, grant, first)) in
    elim (cases_Bool (nat_eq u t)) [
      | inl own ↦ rw own (omega (arith, less))
      | inr other ↦ rw other (omega (arith, less))
    ]
spends_at t c g h u (ReleaseHandoffStore releaser) pushes answers n at fits some is after goes on within =
    let claims : serving u ≡ held_by g.place u = rw at at (fits.each u).claims in
    let place = place_of_claim g.place (serving u) u (λ e. cc) claims in
    let one : spare t c g ≡ 1 = rw (place, at) refl in
    let least = second-le (ahead g.pushed_at g.popped (0 + n) t) (spare t c g) (omega (arith, one)) in
    let most = spare_to-le t (made c u).core (abstract_place h.place) in
    let less = goes_down t c (made c u).core g h pushes _ answers n on within (omega (arith, one, least, most)) in
    elim (cases_Bool (nat_eq u t)) [
      | inl own ↦ rw own (omega (arith, less))
      | inr other ↦ rw other (omega (arith, less))
    ]
spends_at t c g h u p pushes answers n at fits some is after goes on within =
    let stays = by_case t c g h u (case_at c u (seat c.seats u) p) fits some is goes (plain_case c u (seat c.seats u) p refl) in
    let least = second-le (ahead g.pushed_at g.popped (0 + n) t) (spare t c g) (spare_to-le t c (abstract_place g.place)) in
    let less = goes_down t c (made c u).core g h pushes [] answers n on within (omega (arith, stays, least)) in
    elim (cases_Bool (nat_eq u t)) [
      | inl own ↦ rw own (omega (arith, less))
      | inr other ↦ rw other (omega (arith, less))
    ]

-- an event of this weight; from it on, this number of records leave until the end of the run, and n after it
record Passes (t : ℕ) (c d : Core) (g : Ghost) (weighs pops n : ℕ) : Type 0 where
  pub to : Ghost
  pub fits : Fits d to
  pub popped : to.popped ≡ g.popped + pops
  pub pushed : g.pushed ≤ to.pushed
  pub spends : weighs + brings t d to n ≤ brings t c g (pops + n)

passes_made : (t : ℕ) (c : Core) (g : Ghost) (u n : ℕ) → Fits c g → IsSeat c.seats u → g.popped + (length (popped_by c u) + n) < g.pushed
    → Passes t c (made c u).core g (weighs_at t u (seat c.seats u).point) (length (popped_by c u)) n
passes_made t c g u n fits is within =
    let kept = made_keeps c g u is fits in
    record {
      to = kept.to;
      fits = kept.fits;
      popped = popped_by_history g kept.to _ _ _ kept.history;
      pushed = pushed_by_history g kept.to _ _ _ kept.history;
      spends = spends_at t c g kept.to u (seat c.seats u).point _ _ n refl fits (omega (arith, within)) is kept.fits kept.goes kept.history within;
    }

weighs_own : (t : ℕ) (c : Core) (u : ℕ) → weight_of enters_at c t (makes u) ≡ weighs_at t u (seat c.seats u).point
weighs_own t c u =
    elim (cases_eq u t) [
      | inl own ↦ rw (eq-eqb u t own, own) refl
      | inr other ↦ rw (ne_eqb u t other) refl
    ]

stays_here : (t : ℕ) (c d : Core) (g : Ghost) (n : ℕ) → Fits d g → spare t d g ≤ spare t c g → Passes t c d g 0 0 n
stays_here t c d g n fits less =
    let all : 0 + n ≡ n = omega arith in
    let least = second-le (ahead g.pushed_at g.popped n t) (spare t c g) (spare_to-le t c (abstract_place g.place)) in
    let falls = either_falls (ahead g.pushed_at g.popped n t) (ahead g.pushed_at g.popped n t) (spare t c g) (spare t d g) (omega arith) (spare_to-le t d (abstract_place g.place))
    (omega (arith, less, least)) in
    record { to = g; fits = fits; popped = omega arith; pushed = omega arith; spends = rw all (omega (arith, falls)) }

passes_event : (t : ℕ) (c : Core) (g : Ghost) (e : Event) (n : ℕ) → Fits c g → g.popped + (length (popped_in c e) + n) < g.pushed
    → Passes t c (happens c e).core g (weight_of enters_at c t e) (length (popped_in c e)) n
passes_event t c g (begins u call) n fits within =
    stays_here t c (begin c u call).core g n (begin_keeps c g u call fits)
    (same_place t c (begin c u call).core g.place (λ s place. begin_stays c g u s call fits place))
passes_event t c g (makes u) n fits within =
    rw (weighs_own t c u)
    (elim (cases_Bool (is_seat c.seats u)) [
      | inl known ↦ rw known (passes_made t c g u n fits (seat_of_test c.seats u known) within)
      | inr none ↦
          elim (cases_Bool (nat_eq u t)) [
            | inl own ↦ rw (none, absent_tested c.seats u none, own) (stays_here t c c g n fits (omega arith))
            | inr other ↦ rw (none, absent_tested c.seats u none, other) (stays_here t c c g n fits (omega arith))
          ]
    ])

-- Runs

entries-le : (t : ℕ) (c : Core) (g : Ghost) (events : List Event) → Fits c g → g.popped + length (popped_record c events) < g.pushed
    → entries_of_seat c t events ≤ brings t c g (length (popped_record c events))
entries-le t c g [] fits some = omega arith
entries-le t c g (e ∷ later) fits some =
    let rest_pops = length (popped_record (happens c e).core later) in
    let split = length-append (popped_in c e) (popped_record (happens c e).core later) in
    let one = passes_event t c g e rest_pops fits (omega (arith, some, split)) in
    let popped = one.popped in
    let pushed = one.pushed in
    let less = one.spends in
    let rest = entries-le t (happens c e).core one.to later one.fits (omega (arith, some, split, popped, pushed)) in
    rw split (omega (arith, rest, less))

pub no_seat_overtakes_twice : NoSeatOvertakesTwice
no_seat_overtakes_twice c t events k is within few =
    let steady = is in
    let g : Ghost = steady.ghost_state in
    let long = ap length (queue_read c g steady.fits) ∙ length-records g.pushed_at g.popped (g.pushed - g.popped) in
    let most = entries-le t c g events steady.fits (omega (arith, within, few, long)) in
    let one = brings-le t c g (length (popped_record c events)) in
    omega (arith, most, one)
