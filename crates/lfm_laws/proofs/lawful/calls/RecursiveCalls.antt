-- A lock or try_lock of a seat that holds makes exactly the listed steps, including the load of the owner word, whatever the
-- others do in between.
use Rattle.std.proofs.Common.{◌≡◌, ◌≢◌, ℕ, Bool, true, false, List, [], ◌∷◌, refl, sym, ap, ◌∙◌, inl, inr, arith}
use Rattle.std.proofs.lemmas.Bool.{cases_Bool, cases_eq, cases_lt, eq-eqb, ne_eqb, lt-ltb, le-ltb, false≢true}
use Rattle.std.specs.Prelude.{Option, Some}
use Rattle.lfm_model.specs.declared.refusals.Refusal.{Refusal}
use Rattle.lfm_protocol.specs.declared.answers.Call.{Call}
use Rattle.lfm_protocol.specs.declared.answers.Call.TheVariants.{Lock, TryLock}
use Rattle.lfm_protocol.specs.declared.answers.Turn.TheVariants.{Open}
use Rattle.lfm_protocol.specs.declared.answers.Why.{Why}
use Rattle.lfm_protocol.specs.declared.answers.Why.TheVariants.{By}
use Rattle.lfm_protocol.specs.declared.kinds.Kind.{Kind}
use Rattle.lfm_protocol.specs.declared.kinds.Kind.TheVariants.{CountAdd, CountExchange, CountSubtract, OwnerLoad}
use Rattle.lfm_protocol.specs.declared.limits.Limits.{Limits}
use Rattle.lfm_protocol.specs.declared.points.Point.{Point}
use Rattle.lfm_protocol.specs.declared.points.Point.TheVariants.{Rest, Asleep, LockCountAdd, LockOwnerLoad, LockCountSubtract, TryCountExchange, TryOwnerLoad}
use Rattle.lfm_protocol.specs.declared.seats.SeatState.{SeatState}
use Rattle.lfm_protocol.specs.Begin as Begin
use Rattle.lfm_protocol.specs.Begin.{begin_entry}
use Rattle.lfm_protocol.specs.Core.{Core, limits}
use Rattle.lfm_protocol.specs.Points.{kind}
use Rattle.lfm_protocol.specs.Seats.{seat, is_seat}
use Rattle.lfm_protocol.specs.Step.{begin, step}
use Rattle.lfm_laws.specs.laws.Entries.{kinds_of_call, RecursiveCallsLoadTheOwner}
use Rattle.lfm_laws.specs.laws.Schedules.{Event, begins, makes, run_of, is_call}
use Rattle.lfm_laws.specs.steady.Ghost.{owned, nobody, Ghost}
use Rattle.lfm_laws.specs.steady.Steady.{Fits, Steady}
use Rattle.lfm_laws.specs.steady.Views.{held_by}
use Rattle.lfm_laws.proofs.lawful.bounds.Leaving.{seat_of_call, begin_leaves}
use Rattle.lfm_laws.proofs.lawful.calls.WaitsTold.{not_open, own_after, other_step}
use Rattle.lfm_laws.proofs.lawful.runs.Reached.{run_keeps}
use Rattle.lfm_laws.proofs.steady.frames.Entries.{seat-with_same}
use Rattle.lfm_laws.proofs.steady.frames.Frames.{place_of_claim}
use Rattle.lfm_laws.proofs.steady.frames.Seated.{seat_of_test}
use Rattle.lfm_laws.proofs.steady.grant.Entering.{nobody_of_none}

-- The next step of a seat, and what it leads to

abbrev EndsBy : Core → ℕ → List Event → Type 0
EndsBy c s events = is_call (seat (run_of c events).seats s).point ≡ false

-- from each state in which seat s is x, its next step leads to a state of s whose steps are the rest
abbrev LeadsTo : ℕ → SeatState → List (Option Kind) → Type 0
LeadsTo s x rest =
    (d : Core) (later : List Event) → Steady d → seat d.seats s ≡ x → EndsBy (step d s).core s later → kinds_of_call (step d s).core s later ≡ rest

-- until its next step, the others leave seat s unchanged
steps_of : (s : ℕ) (x : SeatState) (rest : List (Option Kind)) → is_call x.point ≡ true → LeadsTo s x rest
    → (c : Core) (events : List Event) → Steady c → seat c.seats s ≡ x → EndsBy c s events → kinds_of_call c s events ≡ kind x.point ∷ rest
steps_of s x rest inside leads c [] steady view ends = absurd (false≢true (sym ends ∙ ap (λ y. is_call y.point) view ∙ inside))
steps_of s x rest inside leads c (begins t call ∷ later) steady view ends =
    let here : is_call (seat c.seats s).point ≡ true = ap (λ y. is_call y.point) view ∙ inside in
    let same = (begin_leaves c t s call here).view ∙ view in
    rw here (steps_of s x rest inside leads (begin c t call).core later (run_keeps c (begins t call ∷ []) steady) same ends)
steps_of s x rest inside leads c (makes t ∷ later) steady view ends =
    let here : is_call (seat c.seats s).point ≡ true = ap (λ y. is_call y.point) view ∙ inside in
    elim (cases_eq t s) [
      | inl own ↦
          let last = leads c later steady view (rw own at ends) in
          rw (here, own, eq-eqb s s refl)
          (ap (λ y. kind y.point ∷ kinds_of_call (step c s).core s later) view ∙ ap (λ l. kind x.point ∷ l) last)
      | inr other ↦
          let same = other_step c t s (λ e. other (sym e)) ∙ view in
          rw (here, ne_eqb t s other) (steps_of s x rest inside leads (step c t).core later (run_keeps c (makes t ∷ []) steady) same ends)
    ]

ended : (c : Core) (s : ℕ) (events : List Event) → is_call (seat c.seats s).point ≡ false → kinds_of_call c s events ≡ []
ended c s [] outside = refl
ended c s (e ∷ later) outside = rw outside refl

-- What a seat that holds finds

-- while a seat owns, the count is above 0
counted : (c : Core) (g : Ghost) (s : ℕ) (again : Bool) → Fits c g → owned s again ≡ held_by g.place s → c.count ≢ 0
counted c g s again fits claims none = let f : owned s again ≡ nobody = rw (nobody_of_none c g fits none) at claims in cc

-- while a seat owns, the owner word has its number
pub owner_of_claim : (c : Core) (g : Ghost) (s : ℕ) (again : Bool) → Fits c g → owned s again ≡ held_by g.place s → c.owner ≡ s
owner_of_claim c g s again fits claims = let place = place_of_claim g.place (owned s again) s (λ e. cc) claims in fits.words.owner ∙ rw place refl

-- the same state of a seat with this point
abbrev at_point : SeatState → Point → SeatState
at_point x p = record x { point = p }

-- A lock

subtracts : (s : ℕ) (x : SeatState) → LeadsTo s (at_point x LockCountSubtract) []
subtracts s x d later steady view ends =
    let at = ap (λ y. y.point) view in
    let is = seat_of_call d s (rw at refl) in
    ended (step d s).core s later (ap (λ y. is_call y.point) (own_after d s is) ∙ rw (at, at) refl)

loads : (s : ℕ) (x : SeatState) → x.depth ≢ 0 → LeadsTo s (at_point x LockOwnerLoad) (Some CountSubtract ∷ [])
loads s x held d later steady view ends =
    let fits = steady.fits in
    let at = ap (λ y. y.point) view in
    let deep : (seat d.seats s).depth ≢ 0 = λ e. held (sym (ap (λ y. y.depth) view) ∙ e) in
    let is = seat_of_call d s (rw at refl) in
    let claims = rw (at, ne_eqb (seat d.seats s).depth 0 deep) at (fits.each s).claims in
    let own = owner_of_claim d steady.ghost_state s true fits claims in
    let after : seat (step d s).core.seats s ≡ at_point (seat d.seats s) LockCountSubtract =
    own_after d s is ∙ rw (at, at, eq-eqb d.owner s own) refl in
    steps_of s (at_point x LockCountSubtract) [] refl (subtracts s x) (step d s).core later (run_keeps d (makes s ∷ []) steady)
    (after ∙ ap (λ y. at_point y LockCountSubtract) view) ends

adds : (s : ℕ) (x : SeatState) → x.depth ≢ 0 → LeadsTo s (at_point x LockCountAdd) (Some OwnerLoad ∷ Some CountSubtract ∷ [])
adds s x held d later steady view ends =
    let fits = steady.fits in
    let at = ap (λ y. y.point) view in
    let deep : (seat d.seats s).depth ≢ 0 = λ e. held (sym (ap (λ y. y.depth) view) ∙ e) in
    let is = seat_of_call d s (rw at refl) in
    let claims = rw (at, ne_eqb (seat d.seats s).depth 0 deep) at (fits.each s).claims in
    let some = counted d steady.ghost_state s false fits claims in
    let after : seat (step d s).core.seats s ≡ at_point (seat d.seats s) LockOwnerLoad =
    own_after d s is ∙ rw (at, at, ne_eqb d.count 0 some) refl in
    steps_of s (at_point x LockOwnerLoad) (Some CountSubtract ∷ []) refl (loads s x held) (step d s).core later (run_keeps d (makes s ∷ []) steady)
    (after ∙ ap (λ y. at_point y LockOwnerLoad) view) ends

-- A try_lock

tries_again : (s : ℕ) (x : SeatState) → x.depth ≢ 0 → LeadsTo s (at_point x TryOwnerLoad) []
tries_again s x held d later steady view ends =
    let fits = steady.fits in
    let at = ap (λ y. y.point) view in
    let deep : (seat d.seats s).depth ≢ 0 = λ e. held (sym (ap (λ y. y.depth) view) ∙ e) in
    let is = seat_of_call d s (rw at refl) in
    let claims = rw (at, ne_eqb (seat d.seats s).depth 0 deep) at (fits.each s).claims in
    let own = owner_of_claim d steady.ghost_state s false fits claims in
    ended (step d s).core s later (ap (λ y. is_call y.point) (own_after d s is) ∙ rw (at, at, eq-eqb d.owner s own) refl)

tries : (s : ℕ) (x : SeatState) → x.depth ≢ 0 → LeadsTo s (at_point x TryCountExchange) (Some OwnerLoad ∷ [])
tries s x held d later steady view ends =
    let fits = steady.fits in
    let at = ap (λ y. y.point) view in
    let deep : (seat d.seats s).depth ≢ 0 = λ e. held (sym (ap (λ y. y.depth) view) ∙ e) in
    let is = seat_of_call d s (rw at refl) in
    let claims = rw (at, ne_eqb (seat d.seats s).depth 0 deep) at (fits.each s).claims in
    let some = counted d steady.ghost_state s false fits claims in
    let after : seat (step d s).core.seats s ≡ at_point (seat d.seats s) TryOwnerLoad =
    own_after d s is ∙ rw (at, at, ne_eqb d.count 0 some) refl in
    steps_of s (at_point x TryOwnerLoad) [] refl (tries_again s x held) (step d s).core later (run_keeps d (makes s ∷ []) steady)
    (after ∙ ap (λ y. at_point y TryOwnerLoad) view) ends

-- The start

entry_opens : (x : SeatState) (budget : ℕ) (p : Point) → x.depth ≢ 0 → (begin_entry x budget p).turn ≡ Open → (begin_entry x budget p).seat ≡ at_point x p
entry_opens x budget p held opens =
    elim (cases_lt 65534 x.depth) [
      | inl full ↦ absurd (not_open (By Refusal.DepthFull) (rw (lt-ltb 65534 x.depth full) at opens))
      | inr room ↦ rw (le-ltb 65534 x.depth room, ne_eqb x.depth 0 held) refl
    ]

lock_opens : (x : SeatState) (bounds : Limits) (p : Point) → x.depth ≢ 0 → (Begin.begin_at x bounds Lock p).turn ≡ Open
    → (Begin.begin_at x bounds Lock p).seat ≡ at_point x LockCountAdd
lock_opens x bounds Rest held opens = entry_opens x bounds.budget LockCountAdd held opens
lock_opens x bounds (Asleep sleeper) held opens = absurd (not_open (By Refusal.Asleep) opens)
lock_opens x bounds _ held opens = absurd (not_open Why.InCall opens)

try_opens : (x : SeatState) (bounds : Limits) (p : Point) → x.depth ≢ 0 → (Begin.begin_at x bounds TryLock p).turn ≡ Open
    → (Begin.begin_at x bounds TryLock p).seat ≡ at_point x TryCountExchange
try_opens x bounds Rest held opens = entry_opens x bounds.budget TryCountExchange held opens
try_opens x bounds (Asleep sleeper) held opens = absurd (not_open (By Refusal.Asleep) opens)
try_opens x bounds _ held opens = absurd (not_open Why.InCall opens)

-- a call that opens gives its seat this state
begins_as : (c : Core) (s : ℕ) (call : Call) (y : SeatState)
    → ((Begin.begin (seat c.seats s) (limits c) call).turn ≡ Open → (Begin.begin (seat c.seats s) (limits c) call).seat ≡ y)
    → (begin c s call).turn ≡ Open → seat (begin c s call).core.seats s ≡ y
begins_as c s call y first opens =
    elim (cases_Bool (is_seat c.seats s)) [
      | inl is ↦ rw (is, seat-with_same c.seats s (Begin.begin (seat c.seats s) (limits c) call).seat (seat_of_test c.seats s is)) (first (rw is at opens))
      | inr none ↦ absurd (not_open Why.NoSuchSeat (rw none at opens))
    ]

locks : (c : Core) (s : ℕ) (events : List Event) → Steady c → (seat c.seats s).depth ≢ 0 → (begin c s Lock).turn ≡ Open → EndsBy (begin c s Lock).core s events
    → kinds_of_call (begin c s Lock).core s events ≡ Some CountAdd ∷ Some OwnerLoad ∷ Some CountSubtract ∷ []
locks c s events steady held opens ends =
    let view = begins_as c s Lock (at_point (seat c.seats s) LockCountAdd) (lock_opens (seat c.seats s) (limits c) (seat c.seats s).point held) opens in
    steps_of s (at_point (seat c.seats s) LockCountAdd) (Some OwnerLoad ∷ Some CountSubtract ∷ []) refl (adds s (seat c.seats s) held) (begin c s Lock).core events
    (run_keeps c (begins s Lock ∷ []) steady) view ends

try_locks : (c : Core) (s : ℕ) (events : List Event) → Steady c → (seat c.seats s).depth ≢ 0 → (begin c s TryLock).turn ≡ Open → EndsBy (begin c s TryLock).core s events
    → kinds_of_call (begin c s TryLock).core s events ≡ Some CountExchange ∷ Some OwnerLoad ∷ []
try_locks c s events steady held opens ends =
    let view = begins_as c s TryLock (at_point (seat c.seats s) TryCountExchange) (try_opens (seat c.seats s) (limits c) (seat c.seats s).point held) opens in
    steps_of s (at_point (seat c.seats s) TryCountExchange) (Some OwnerLoad ∷ []) refl (tries s (seat c.seats s) held) (begin c s TryLock).core events
    (run_keeps c (begins s TryLock ∷ []) steady) view ends

pub recursive_calls_load_the_owner : RecursiveCallsLoadTheOwner
recursive_calls_load_the_owner c s events steady some =
    let held : (seat c.seats s).depth ≢ 0 = omega (arith, some) in
    (locks c s events steady held, try_locks c s events steady held)
