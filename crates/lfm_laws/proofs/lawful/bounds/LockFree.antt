-- All calls of a run together: the steps due to all of them fall with each step of a call. A change of the push word costs each
-- other call at most two steps, and each call makes at most two changes, so each call is charged in advance for what its own
-- changes cost the others.
use Rattle.std.proofs.Common.{◌≡◌, ◌≢◌, ℕ, zero, suc, true, false, ◌+◌, ◌-◌, ◌*◌, ◌≤◌, ◌<◌, List, [], ◌∷◌, length, refl, sym, ◌∙◌, inl, inr, arith}
use Rattle.std.proofs.lemmas.Bool.{cases_Bool, cases_eq, false≢true}
use Rattle.std.proofs.Math.Nat.{mul-le-mul_left, mul-add}
use Rattle.lfm_protocol.specs.declared.answers.Call.{Call}
use Rattle.lfm_protocol.specs.declared.points.Point.{Point}
use Rattle.lfm_protocol.specs.declared.points.Point.TheVariants.{Rest, Asleep}
use Rattle.lfm_protocol.specs.Core.{Core}
use Rattle.lfm_protocol.specs.Seats.{seat, is_seat, IsSeat}
use Rattle.lfm_protocol.specs.Step.{made, step, begin}
use Rattle.lfm_laws.specs.laws.Progress.{changed_push, open_unit, open_calls, stepped_in, opened_at, opened_in, ended_in, steps_of_run, opened_in_run, ended_in_run, CallsShareTheirSteps, SomeCallEnds}
use Rattle.lfm_laws.specs.laws.Schedules.{Event, begins, makes, happens, is_call}
use Rattle.lfm_laws.specs.steady.Ghost.{Ghost}
use Rattle.lfm_model.specs.Sums.{sum_to}
use Rattle.lfm_laws.specs.steady.Steady.{Fits, Steady}
use Rattle.lfm_laws.proofs.lawful.bounds.Beside.{due, due-le, changes_left, due_beside, begun_push}
use Rattle.lfm_laws.proofs.lawful.bounds.CallWeights.{room_left}
use Rattle.lfm_laws.proofs.lawful.bounds.DueAtPoints.{changes_at, changes_at-le, changed_push-le, none_due}
use Rattle.lfm_laws.proofs.lawful.bounds.DueSteps.{own_spends}
use Rattle.lfm_laws.proofs.lawful.bounds.Leaving.{stepped, seat_of_call, own_made, other_made, size_made, begun_other, begun_popped, begin_leaves, step_leaves}
use Rattle.lfm_laws.proofs.lawful.runs.Reached.{absent_tested, run_keeps}
use Rattle.lfm_laws.proofs.steady.frames.Seated.{seat_of_test}
use Rattle.lfm_laws.proofs.steady.frames.Sums.{sum_update, sum_bound}
use Rattle.lfm_laws.proofs.steady.frames.SameSeats.{seats-step, seats-begin}
use Rattle.lfm_laws.proofs.lawful.bounds.SumBounds.{sum_spreads, sum_scales}

-- What is owed, the potential of this argument: for each call the steps that are due, plus k for each change of the push word
-- that it has left

abbrev pub owed : ℕ → Core → ℕ → ℕ
owed k c s = due c s + k * changes_left c s

abbrev pub all_owed : ℕ → Core → ℕ
all_owed k c = sum_to (owed k c) (length c.seats)

-- a seat without an open call is owed nothing
owed_closed : (k : ℕ) (c : Core) (s : ℕ) → is_call (seat c.seats s).point ≡ false → owed k c s ≡ 0
owed_closed k c s closed =
    let none = none_due c.push (length c.seats) (room_left c) (seat c.seats s).point closed in
    rw (none.0, none.1) (omega arith)

owed-le : (k share : ℕ) (c : Core) (s : ℕ) → length c.seats + 9 + k * 2 ≤ share → owed k c s ≤ share
owed-le k share c s most =
    let steps = due-le c s in
    let changes = mul-le-mul_left k (changes_at-le (seat c.seats s).point) in
    omega (arith, steps, changes, most)

owed_unit : (k share : ℕ) (c : Core) (s : ℕ) → length c.seats + 9 + k * 2 ≤ share → owed k c s ≤ share * open_unit c s
owed_unit k share c s most =
    elim (cases_Bool (is_call (seat c.seats s).point)) [
      | inl inside ↦ let few = owed-le k share c s most in rw inside (omega (arith, few))
      | inr closed ↦ let none = owed_closed k c s closed in rw closed (omega (arith, none))
    ]

-- A step

-- a seat whose call is not open makes no step
pub idle_made : (c : Core) (s : ℕ) (p : Point) → (seat c.seats s).point ≡ p → is_call p ≡ false → (made c s).core ≡ c
idle_made c s Rest at closed = rw at refl
idle_made c s (Asleep sleeper) at closed = rw at refl
idle_made c s _ at closed = absurd (false≢true (sym closed))

owed_beside : (k : ℕ) (c : Core) (g : Ghost) (t s : ℕ) → Fits c g → s ≢ t → owed k (made c t).core s ≤ owed k c s + 2 * changed_push c.push (made c t).core.push
owed_beside k c g t s fits other =
    let more = due_beside c (made c t).core s (step_leaves c g t s fits other) in
    let same : changes_left (made c t).core s ≡ changes_left c s = rw (other_made c t s other) refl in
    rw same (omega (arith, more))

owed_own : (k : ℕ) (c : Core) (g : Ghost) (s : ℕ) → Fits c g → IsSeat c.seats s → is_call (seat c.seats s).point ≡ true
    → owed k (made c s).core s + 1 + k * changed_push c.push (made c s).core.push ≤ owed k c s
owed_own k c g s fits is inside =
    let spends = own_spends c g s fits inside in
    let steps = spends.0 in
    let changes = mul-le-mul_left k spends.1 in
    let both = mul-add k (changes_at (stepped c s).seat.point) (changed_push c.push (made c s).core.push) in
    rw (own_made c s is, size_made c s) (omega (arith, steps, changes, both))

-- the call that makes a change pays for what the change costs all others
borne : (seats k n sum sum' f f' : ℕ) → 2 * seats ≤ k + 2 → n ≤ 1 → sum' + f + 2 * n ≤ sum + f' + seats * (2 * n) → f' + 1 + k * n ≤ f → 1 + sum' ≤ sum
borne seats k zero sum sum' f f' enough one spread own = omega (arith, spread, own)
borne seats k (suc zero) sum sum' f f' enough one spread own = omega (arith, spread, own, enough)
borne seats k (suc (suc n)) sum sum' f f' enough one spread own = absurd (omega (arith, one))

made_pays : (k : ℕ) (c : Core) (g : Ghost) (s : ℕ) → Fits c g → IsSeat c.seats s → is_call (seat c.seats s).point ≡ true → 2 * length c.seats ≤ k + 2
    → 1 + all_owed k (made c s).core ≤ all_owed k c
made_pays k c g s fits is inside enough =
    let n = changed_push c.push (made c s).core.push in
    let spread = sum_spreads (length c.seats) s (2 * n) (owed k c) (owed k (made c s).core) is.above is.within (λ j other. owed_beside k c g s j fits other) in
    rw (size_made c s)
    (borne (length c.seats) k n (all_owed k c) (sum_to (owed k (made c s).core) (length c.seats)) (owed k c s) (owed k (made c s).core s) enough
    (changed_push-le c.push (made c s).core.push) spread (owed_own k c g s fits is inside))

-- Events

pub step_pays : (k : ℕ) (c : Core) (g : Ghost) (s : ℕ) → Fits c g → 2 * length c.seats ≤ k + 2 → open_unit c s + all_owed k (step c s).core ≤ all_owed k c
step_pays k c g s fits enough =
    elim (cases_Bool (is_seat c.seats s)) [
      | inl known ↦
          let is = seat_of_test c.seats s known in
          elim (cases_Bool (is_call (seat c.seats s).point)) [
            | inl inside ↦ rw (known, inside) (made_pays k c g s fits is inside enough)
            | inr closed ↦ rw (known, closed, idle_made c s (seat c.seats s).point refl closed) (omega arith)
          ]
      | inr none ↦
          let closed : is_call (seat c.seats s).point ≡ false = rw (absent_tested c.seats s none) refl in
          rw (none, closed) (omega arith)
    ]

-- the start of a call changes only what its own seat is owed
owed_begun : (k : ℕ) (c : Core) (t s : ℕ) (call : Call) → s ≢ t → owed k (begin c t call).core s ≡ owed k c s
owed_begun k c t s call other =
    rw (begun_other c t s call other, begun_push c t call, begun_popped c t call, seats-begin c t call) refl

-- if a call is open already, its seat is owed the same
owed_open : (k : ℕ) (c : Core) (t : ℕ) (call : Call) → is_call (seat c.seats t).point ≡ true → owed k (begin c t call).core t ≡ owed k c t
owed_open k c t call inside =
    let leaves = begin_leaves c t t call inside in
    rw (leaves.view, begun_push c t call, begun_popped c t call, seats-begin c t call) refl

-- if a call opens, what its seat is owed rises by at most a share
owed_opened : (k share : ℕ) (c : Core) (t : ℕ) (call : Call) → length c.seats + 9 + k * 2 ≤ share
    → owed k (begin c t call).core t ≤ owed k c t + share * opened_at c (begin c t call).core t
owed_opened k share c t call most =
    elim (cases_Bool (is_call (seat c.seats t).point)) [
      | inl inside ↦ let same = owed_open k c t call inside in omega (arith, same)
      | inr closed ↦ let few = owed_unit k share (begin c t call).core t (rw (seats-begin c t call) most) in rw closed (omega (arith, few))
    ]

begin_pays : (k share : ℕ) (c : Core) (t : ℕ) (call : Call) → length c.seats + 9 + k * 2 ≤ share
    → all_owed k (begin c t call).core ≤ all_owed k c + share * opened_at c (begin c t call).core t
begin_pays k share c t call most =
    elim (cases_Bool (is_seat c.seats t)) [
      | inl known ↦
          let is = seat_of_test c.seats t known in
          let more = owed_opened k share c t call most in
          let update = sum_update (length c.seats) t (owed k c) (owed k (begin c t call).core) is.above is.within (λ j other. owed_begun k c t j call other) in
          rw (seats-begin c t call) (omega (arith, more, update))
      | inr none ↦ rw none (omega arith)
    ]

pays : (k share : ℕ) (c : Core) (g : Ghost) (e : Event) → Fits c g → 2 * length c.seats ≤ k + 2 → length c.seats + 9 + k * 2 ≤ share
    → stepped_in c e + all_owed k (happens c e).core ≤ all_owed k c + share * opened_in c e
pays k share c g (begins t call) fits enough most = let few = begin_pays k share c t call most in omega (arith, few)
pays k share c g (makes s) fits enough most = let few = step_pays k c g s fits enough in omega (arith, few)

pub size_event : (c : Core) (e : Event) → length (happens c e).core.seats ≡ length c.seats
size_event c (begins t call) = seats-begin c t call
size_event c (makes s) = seats-step c s

pub steady_event : (c : Core) (e : Event) → Steady c → Steady (happens c e).core
steady_event c e steady = run_keeps c (e ∷ []) steady

run_pays : (k share : ℕ) (c : Core) (events : List Event) → Steady c → 2 * length c.seats ≤ k + 2 → length c.seats + 9 + k * 2 ≤ share
    → steps_of_run c events ≤ all_owed k c + share * opened_in_run c events
run_pays k share c [] steady enough most = omega arith
run_pays k share c (e ∷ later) steady enough most =
    let size = size_event c e in
    let one = pays k share c steady.ghost_state e steady.fits enough most in
    let rest = run_pays k share (happens c e).core later (steady_event c e steady) (rw size enough) (rw size most) in
    omega (arith, one, rest, mul-add share (opened_in c e) (opened_in_run (happens c e).core later))

pub owed_to_all : (k share : ℕ) (c : Core) → length c.seats + 9 + k * 2 ≤ share → all_owed k c ≤ share * open_calls c
owed_to_all k share c most = sum_scales (length c.seats) share (owed k c) (open_unit c) (λ j. owed_unit k share c j most)

shared : (k share : ℕ) (c : Core) (events : List Event) → Steady c → 2 * length c.seats ≤ k + 2 → length c.seats + 9 + k * 2 ≤ share
    → steps_of_run c events ≤ share * (open_calls c + opened_in_run c events)
shared k share c events steady enough most =
    let run = run_pays k share c events steady enough most in
    let before = owed_to_all k share c most in
    omega (arith, run, before, mul-add share (open_calls c) (opened_in_run c events))

-- without seats no call makes a step
none_stepped : (c : Core) (e : Event) → length c.seats ≡ 0 → stepped_in c e ≡ 0
none_stepped c (begins t call) none = refl
none_stepped c (makes s) none =
    elim (cases_Bool (is_call (seat c.seats s).point)) [
      | inl inside ↦ let is = seat_of_call c s inside in absurd (omega (arith, is.above, is.within, none))
      | inr closed ↦ rw closed refl
    ]

none_made : (c : Core) (events : List Event) → length c.seats ≡ 0 → steps_of_run c events ≡ 0
none_made c [] none = refl
none_made c (e ∷ later) none =
    let one = none_stepped c e none in
    let rest = none_made (happens c e).core later (size_event c e ∙ none) in
    omega (arith, one, rest)

-- what a change costs, and an upper bound on what a call is owed
pub record Shares (c : Core) : Type 0 where
  pub change : ℕ
  pub enough : 2 * length c.seats ≤ change + 2
  pub most : length c.seats + 9 + change * 2 ≤ 5 * length c.seats + 5

pub shares : (c : Core) → 0 < length c.seats → Shares c
shares c some = record { change = 2 * (length c.seats - 1); enough = omega (arith, some); most = omega (arith, some) }

pub calls_share_their_steps : CallsShareTheirSteps
calls_share_their_steps c events is =
    elim (cases_eq (length c.seats) 0) [
      | inl none ↦ let steps = none_made c events none in omega (arith, steps)
      | inr some ↦ let all = shares c (omega (arith, some)) in shared all.change (5 * length c.seats + 5) c events is all.enough all.most
    ]

-- Calls that end

unit-le : (c : Core) (s : ℕ) → open_unit c s ≤ 1
unit-le c s =
    elim (cases_Bool (is_call (seat c.seats s).point)) [
      | inl inside ↦ rw inside (omega arith)
      | inr closed ↦ rw closed (omega arith)
    ]

open-le : (c : Core) → open_calls c ≤ length c.seats
open-le c = let most = sum_bound (length c.seats) 1 (open_unit c) (unit-le c) in omega (arith, most)

-- for the acting seat: an open call before the event plus one that the event opens is an open call after it plus one that it
-- ends
unit_begun : (c : Core) (t : ℕ) (call : Call) → open_unit (begin c t call).core t ≡ open_unit c t + opened_at c (begin c t call).core t
unit_begun c t call =
    elim (cases_Bool (is_call (seat c.seats t).point)) [
      | inl inside ↦ let leaves = begin_leaves c t t call inside in rw (inside, leaves.view, inside) refl
      | inr closed ↦ rw closed (omega arith)
    ]

unit_made : (c : Core) (t : ℕ) → open_unit (made c t).core t + opened_at (made c t).core c t ≡ open_unit c t
unit_made c t =
    elim (cases_Bool (is_call (seat c.seats t).point)) [
      | inl inside ↦ elim (cases_Bool (is_call (seat (made c t).core.seats t).point)) [
        | inl goes ↦ rw (inside, goes) refl
        | inr over ↦ rw (inside, over) refl
      ]
      | inr closed ↦ rw (idle_made c t (seat c.seats t).point refl closed, closed) refl
    ]

open_begun : (c : Core) (t : ℕ) (call : Call) → open_calls (begin c t call).core ≡ open_calls c + opened_at c (begin c t call).core t
open_begun c t call =
    elim (cases_Bool (is_seat c.seats t)) [
      | inl known ↦
          let is = seat_of_test c.seats t known in
          let one = unit_begun c t call in
          let update = sum_update (length c.seats) t (open_unit c) (open_unit (begin c t call).core) is.above is.within
          (λ j other. rw (begun_other c t j call other) refl) in
          rw (seats-begin c t call) (omega (arith, one, update))
      | inr none ↦
          let closed : is_call (seat c.seats t).point ≡ false = rw (absent_tested c.seats t none) refl in
          rw (none, closed) (omega arith)
    ]

open_stepped : (c : Core) (t : ℕ) → open_calls (step c t).core + opened_at (step c t).core c t ≡ open_calls c
open_stepped c t =
    elim (cases_Bool (is_seat c.seats t)) [
      | inl known ↦
          let is = seat_of_test c.seats t known in
          let one = unit_made c t in
          let update = sum_update (length c.seats) t (open_unit c) (open_unit (made c t).core) is.above is.within (λ j other. rw (other_made c t j other) refl) in
          rw (known, size_made c t) (omega (arith, one, update))
      | inr none ↦
          let closed : is_call (seat c.seats t).point ≡ false = rw (absent_tested c.seats t none) refl in
          rw (none, closed) (omega arith)
    ]

open_event : (c : Core) (e : Event) → open_calls (happens c e).core + ended_in c e ≡ open_calls c + opened_in c e
open_event c (begins t call) = let one = open_begun c t call in omega (arith, one)
open_event c (makes s) = let one = open_stepped c s in omega (arith, one)

-- each call that is open before a run or opens in it either ends in it or is open after it
ended-le : (c : Core) (events : List Event) → open_calls c + opened_in_run c events ≤ length c.seats + ended_in_run c events
ended-le c [] = let few = open-le c in omega (arith, few)
ended-le c (e ∷ later) =
    let one = open_event c e in
    let rest = ended-le (happens c e).core later in
    let size = size_event c e in
    omega (arith, one, rest, size)

pub some_call_ends : SomeCallEnds
some_call_ends c events is =
    let most = calls_share_their_steps c events is in
    let ended = mul-le-mul_left (5 * length c.seats + 5) (ended-le c events) in
    omega (arith, most, ended)
