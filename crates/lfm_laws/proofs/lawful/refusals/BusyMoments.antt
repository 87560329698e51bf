-- Busy is linearizable. At its count exchange a try_lock finds the count above 0, so the mutex is busy there or is posted.
-- While it is posted, only an exchange takes the post, and that leaves the mutex busy.
use Rattle.std.proofs.Common.{nat_eq, nat_lt, ◌≡◌, ◌≢◌, ◌⊎◌, ⊎_elim, ℕ, Bool, true, false, ◌<◌, List, [], ◌∷◌, Option, Some, if◌then◌else◌, refl, sym, ap, ◌∙◌, inl, inr, arith}
use Rattle.std.proofs.lemmas.Bool.{cases_Bool, cases_eq}
use Rattle.std.specs.Prelude.{⊤}
use Rattle.lfm_model.specs.Abstract.{posted, carried, serving}
use Rattle.lfm_model.specs.declared.refusals.Refusal.TheVariants.{Busy}
use Rattle.lfm_protocol.specs.declared.answers.Call.TheVariants.{TryLock}
use Rattle.lfm_protocol.specs.declared.answers.Turn.TheVariants.{Open, Refused}
use Rattle.lfm_protocol.specs.declared.answers.Why.TheVariants.{By}
use Rattle.lfm_protocol.specs.declared.kinds.Kind.{Kind}
use Rattle.lfm_protocol.specs.declared.kinds.Kind.TheVariants.{HandoffStore, HandoffExchange, WakeExchange}
use Rattle.lfm_protocol.specs.declared.limits.Limits.{Limits}
use Rattle.lfm_protocol.specs.declared.points.Point.{Point}
use Rattle.lfm_protocol.specs.declared.points.Point.TheVariants.{Rest, Asleep, TryCountExchange, TryOwnerLoad, TryHandoffLoad, TryHandoffExchange, ReleaseHandoffStore}
use Rattle.lfm_protocol.specs.declared.seats.SeatState.{SeatState}
use Rattle.lfm_words.specs.declared.handoffs.Handoff.{Handoff}
use Rattle.lfm_words.specs.declared.wakes.Wake.{Wake}
use Rattle.lfm_words.specs.declared.wakes.Wake.TheVariants.{Waiting}
use Rattle.lfm_protocol.specs.After.{same_handoff}
use Rattle.lfm_protocol.specs.Begin as Begin
use Rattle.lfm_protocol.specs.Begin.{Stepped, begin_entry}
use Rattle.lfm_protocol.specs.Core.{Core, limits}
use Rattle.lfm_protocol.specs.Points.{kind, target}
use Rattle.lfm_protocol.specs.Seats.{seat, is_seat, unposted}
use Rattle.lfm_protocol.specs.Step.{begin, step, step_of, claims_word}
use Rattle.lfm_protocol.specs.Stores.{expected_handoff}
use Rattle.lfm_laws.specs.laws.BusyMoments.{IsBusy, WasBusy, BusyWasBusy}
use Rattle.lfm_laws.specs.laws.Reading as Reading
use Rattle.lfm_laws.specs.laws.Reading.{carrying_at}
use Rattle.lfm_laws.specs.laws.Refusals.{CauseOfStep, TriesBy}
use Rattle.lfm_laws.specs.laws.Schedules.{Event, begins, makes, happens, run_of}
use Rattle.lfm_laws.specs.steady.Steady.{Steady}
use Rattle.lfm_laws.proofs.lawful.refusals.BusyTries.{tries_see_a_holder}
use Rattle.lfm_laws.proofs.lawful.refusals.RefusedSteps.{steps_are_refused_for_cause}
use Rattle.lfm_laws.proofs.lawful.runs.Reached.{run_keeps}
use Rattle.lfm_laws.proofs.lawful.states.CountLaws.{count_is_zero_if_free}
use Rattle.lfm_laws.proofs.lawful.states.StateLaws.{states_are_lawful}
use Rattle.lfm_laws.proofs.steady.frames.Entries.{seat-with_same}
use Rattle.lfm_laws.proofs.steady.frames.Seated.{seat_of_test}
use Rattle.lfm_laws.proofs.steady.handoff.Handoffs.{same_handoff_false}

-- While the mutex is posted

-- the handoff word stays the same, or an exchange empties it and leaves the count unchanged
abbrev KeepsOrEmpties : Core → Core → Type 0
KeepsOrEmpties c d = (d.handoff ≡ c.handoff) ⊎ ((d.handoff ≡ unposted) × (d.count ≡ c.count))

exchanged : (b : Bool) (h : Handoff) → ((if b then unposted else h) ≡ h) ⊎ ((if b then unposted else h) ≡ unposted)
exchanged true h = inr refl
exchanged false h = inl refl

claimed_handoff : (c : Core) (t : ℕ) (w : Wake) → (claims_word c t w).handoff ≡ c.handoff
claimed_handoff c t Waiting = refl
claimed_handoff c t _ = refl

-- every kind of step except the handoff store
of_kind : (c : Core) (s t : ℕ) (k : Option Kind) → k ≢ Some HandoffStore → KeepsOrEmpties c (step_of c s t k).core
of_kind c s t (Some HandoffStore) other = absurd (other refl)
of_kind c s t (Some HandoffExchange) other =
    ⊎_elim (λ same. inl same) (λ gone. inr (gone, refl)) (exchanged (same_handoff c.handoff (expected_handoff (seat c.seats s) s)) c.handoff)
of_kind c s t (Some WakeExchange) other = inl (claimed_handoff c t _)
of_kind c s t _ other = inl refl

stores_carry : (s : ℕ) (p : Point) → kind p ≡ Some HandoffStore → carrying_at s p ≡ Some serving
stores_carry s (ReleaseHandoffStore releaser) e = refl
stores_carry s _ e = absurd (let a = e in cc)

-- a seat that stores a post has the responsibility, so nothing is posted yet
stores_none : (c : Core) (s : ℕ) → Steady c → 0 < c.handoff.seat → kind (seat c.seats s).point ≢ Some HandoffStore
stores_none c s steady stands e =
    let l = states_are_lawful c steady in
    let first = l.lawful.reads.place.only posted (Reading.by_handoff stands refl) in
    let second = l.lawful.reads.place.only (carried s serving) (Reading.by_call s serving (stores_carry s (seat c.seats s).point e) refl) in
    let both : posted ≡ carried s serving = first ∙ sym second in
    absurd (cc)

-- while the mutex is posted, the count is above 0
counted : (c : Core) → Steady c → 0 < c.handoff.seat → 0 < c.count
counted c steady stands =
    let l = states_are_lawful c steady in
    let here = l.lawful.reads.place.only posted (Reading.by_handoff stands refl) in
    elim (cases_eq c.count 0) [
      | inl none ↦ let free = (count_is_zero_if_free c l.reading steady l.lawful.reads).0 none in let both = here ∙ free in absurd (cc)
      | inr some ↦ omega (arith, some)
    ]

of_event : (c : Core) (e : Event) → Steady c → 0 < c.handoff.seat → KeepsOrEmpties c (happens c e).core
of_event c (begins s call) steady stands =
    elim (cases_Bool (is_seat c.seats s)) [
      | inl is ↦ rw is (inl refl)
      | inr none ↦ rw none (inl refl)
    ]
of_event c (makes s) steady stands =
    elim (cases_Bool (is_seat c.seats s)) [
      | inl is ↦ rw is (of_kind c s (target (seat c.seats s).point s) (kind (seat c.seats s).point) (stores_none c s steady stands))
      | inr none ↦ rw none (inl refl)
    ]

-- the post stays, or is taken and the mutex is busy
stays_or_busy : (c : Core) (e : Event) → Steady c → 0 < c.handoff.seat → ((happens c e).core.handoff ≡ c.handoff) ⊎ IsBusy (happens c e).core
stays_or_busy c e steady stands =
    ⊎_elim (λ same. inl same)
    (λ (gone : ((happens c e).core.handoff ≡ unposted) × ((happens c e).core.count ≡ c.count)).
    let some = counted c steady stands in let same = gone.1 in inr (omega (arith, some, same), ap (λ (h : Handoff). h.seat) gone.0))
    (of_event c e steady stands)

-- What a try_lock knows at its points if the mutex was never busy: the post that it could have taken is still there

abbrev Knows : Core → Point → Type 0
Knows c TryOwnerLoad = 0 < c.handoff.seat
Knows c TryHandoffLoad = 0 < c.handoff.seat
Knows c (TryHandoffExchange seen) = (c.handoff ≡ seen) × (0 < seen.seat)
Knows c _ = ⊤

stands_after : (c d : Core) → d.handoff ≡ c.handoff → 0 < c.handoff.seat → 0 < d.handoff.seat
stands_after c d same stands = rw same stands

-- an event that leaves the seat at its point
known_after : (c : Core) (e : Event) (p : Point) → Steady c → Knows c p → IsBusy (happens c e).core ⊎ Knows (happens c e).core p
known_after c e TryOwnerLoad steady stands =
    ⊎_elim (λ same. inr (stands_after c (happens c e).core same stands)) (λ busy. inl busy) (stays_or_busy c e steady stands)
known_after c e TryHandoffLoad steady stands =
    ⊎_elim (λ same. inr (stands_after c (happens c e).core same stands)) (λ busy. inl busy) (stays_or_busy c e steady stands)
known_after c e (TryHandoffExchange seen) steady knows =
    let stands : 0 < c.handoff.seat = rw knows.0 knows.1 in
    ⊎_elim (λ same. inr (same ∙ knows.0, knows.1)) (λ busy. inl busy) (stays_or_busy c e steady stands)
known_after c e _ steady knows = inr tt

-- a step that leads the try_lock to its next point
known_next : (c : Core) (e : Event) (s : ℕ) (p : Point) → Steady c → Knows c (seat c.seats s).point → TriesBy c s e p
    → IsBusy c ⊎ (IsBusy (happens c e).core ⊎ Knows (happens c e).core p)
known_next c e s TryOwnerLoad steady knows by =
    elim (cases_eq c.handoff.seat 0) [
      | inl none ↦ inl (by.2, none)
      | inr some ↦ inr (known_after c e TryOwnerLoad steady (omega (arith, some)))
    ]
known_next c e s TryHandoffLoad steady knows by = let stands : Knows c TryOwnerLoad = rw by.1 at knows in inr (known_after c e TryHandoffLoad steady stands)
known_next c e s (TryHandoffExchange seen) steady knows by = inr (known_after c e (TryHandoffExchange seen) steady (by.2, by.3))
known_next c e s _ steady knows by = inr (inr tt)

known : (c : Core) (e : Event) (s : ℕ) → Steady c → Knows c (seat c.seats s).point
    → IsBusy c ⊎ (IsBusy (happens c e).core ⊎ Knows (happens c e).core (seat (happens c e).core.seats s).point)
known c e s steady knows =
    ⊎_elim (λ same. inr (rw same (known_after c e (seat c.seats s).point steady knows)))
    (λ by. known_next c e s (seat (happens c e).core.seats s).point steady knows by) (tries_see_a_holder c e s steady)

-- while that post is there, no step is refused as Busy
not_refused : (c : Core) (p : Point) → Knows c p → CauseOfStep c p Busy → ⊥
not_refused c TryHandoffLoad stands none = omega (arith, stands, none)
not_refused c (TryHandoffExchange seen) knows differ = same_handoff_false c.handoff seen differ knows.0
not_refused c _ knows cause = cause

-- Runs

busy_now : (c : Core) (events : List Event) → IsBusy c → WasBusy c events
busy_now c [] busy = busy
busy_now c (e ∷ later) busy = inl busy

was_busy : (c : Core) (s : ℕ) (events : List Event) → Steady c → Knows c (seat c.seats s).point → (step (run_of c events) s).turn ≡ Refused (By Busy)
    → WasBusy c events
was_busy c s [] steady knows refused =
    absurd (not_refused c (seat c.seats s).point knows ((steps_are_refused_for_cause c s Busy steady).0 refused).0)
was_busy c s (e ∷ later) steady knows refused =
    ⊎_elim (λ busy. inl busy)
    (λ next. inr (⊎_elim (λ busy. busy_now (happens c e).core later busy)
    (λ still. was_busy (happens c e).core s later (run_keeps c (e ∷ []) steady) still refused) next))
    (known c e s steady knows)

-- The start: a try_lock that opens is at its count exchange

abbrev Starts : Stepped → Type 0
Starts x = x.turn ≡ Open → x.seat.point ≡ TryCountExchange

starts_if : (b : Bool) (x y : Stepped) → Starts x → Starts y → Starts (if b then x else y)
starts_if true x y first second = first
starts_if false x y first second = second

entry_starts : (x : SeatState) (budget : ℕ) → Starts (begin_entry x budget TryCountExchange)
entry_starts x budget =
    starts_if (nat_lt 65534 x.depth) _ _ (λ e. absurd (let a = e in cc))
    (starts_if (nat_eq x.depth 0) _ _ (starts_if (nat_lt x.takes budget) _ _ (λ e. refl) (λ e. absurd (let a = e in cc))) (λ e. refl))

try_starts : (x : SeatState) (bounds : Limits) (p : Point) → Starts (Begin.begin_at x bounds TryLock p)
try_starts x bounds Rest = entry_starts x bounds.budget
try_starts x bounds (Asleep sleeper) = λ e. absurd (let a = e in cc)
try_starts x bounds _ = λ e. absurd (let a = e in cc)

begin_starts : (c : Core) (s : ℕ) → (begin c s TryLock).turn ≡ Open → (seat (begin c s TryLock).core.seats s).point ≡ TryCountExchange
begin_starts c s =
    elim (cases_Bool (is_seat c.seats s)) [
      | inl is ↦ rw (is, seat-with_same c.seats s (Begin.begin (seat c.seats s) (limits c) TryLock).seat (seat_of_test c.seats s is))
          (try_starts (seat c.seats s) (limits c) (seat c.seats s).point)
      | inr none ↦ rw none (λ e. absurd (let a = e in cc))
    ]

pub busy_was_busy : BusyWasBusy
busy_was_busy c s events steady opens inside refused =
    was_busy (begin c s TryLock).core s events (run_keeps c (begins s TryLock ∷ []) steady) (rw (begin_starts c s opens) tt) refused
