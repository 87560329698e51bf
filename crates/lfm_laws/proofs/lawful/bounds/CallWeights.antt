-- If a measure of the seat's point falls at each own step by at least the step's weight, the steps of a call together weigh no
-- more than that measure, whatever the others do in between.
use Rattle.std.proofs.Common.{◌≡◌, ℕ, Bool, true, false, ◌+◌, ◌-◌, ◌≤◌, List, [], ◌∷◌, length, refl, sym, ◌∙◌, inl, inr, arith}
use Rattle.std.proofs.lemmas.Bool.{cases_Bool, cases_eq, eq-eqb, ne_eqb, false≢true}
use Rattle.lfm_protocol.specs.declared.points.Point.{Point}
use Rattle.lfm_protocol.specs.declared.points.Point.TheVariants.{TakeLinkLoad}
use Rattle.lfm_protocol.specs.Core.{Core}
use Rattle.lfm_laws.specs.steady.Ghost.{serving, Ghost}
use Rattle.lfm_laws.specs.laws.Schedules.{Event, begins, makes, happens, is_call, weight_of, weight_of_call}
use Rattle.lfm_protocol.specs.Seats.{seat, is_seat, IsSeat}
use Rattle.lfm_laws.specs.steady.Steady.{Fits, Steady}
use Rattle.lfm_protocol.specs.Step.{made, begin}
use Rattle.lfm_laws.specs.steady.Views.{claim_at}
use Rattle.lfm_laws.proofs.lawful.bounds.Leaving.{stepped, own_made, size_made, seat_of_call, KeepsSeat, leaves_all, begin_leaves, step_leaves}
use Rattle.lfm_laws.proofs.lawful.runs.Reached.{made_keeps, begin_keeps}
use Rattle.lfm_laws.proofs.steady.frames.Seated.{seat_of_test, test_of_seat}

-- a carrier at this point collects records
abbrev pub is_walking : Point → Bool
is_walking (TakeLinkLoad carrier next) = true
is_walking _ = false

pub walking_serves : (depth s : ℕ) (p : Point) → is_walking p ≡ true → claim_at depth s p ≡ serving s
walking_serves depth s (TakeLinkLoad carrier next) walks = refl
walking_serves depth s _ walks = absurd (false≢true walks)

-- how many more records the pop list has room for
abbrev pub room_left : Core → ℕ
room_left c = length c.seats - length c.popped

-- an upper bound on what the call of seat s still weighs, by the number of seats, the room of the pop list and the point
abbrev pub measure : (ℕ → ℕ → Point → ℕ) → Core → ℕ → ℕ
measure most c s = most (length c.seats) (room_left c) (seat c.seats s).point

-- `most` bounds the weight of what a call has yet to do at each of these points: the room of the pop list counts only while a
-- carrier collects, and each own step leads to one of these points again and lowers the measure by at least its weight
pub record Falls (weight : Point → ℕ) (most : ℕ → ℕ → Point → ℕ) (among : Point → Bool) : Type 0 where
  pub unread : (seats room room' : ℕ) (p : Point) → is_walking p ≡ false → most seats room p ≡ most seats room' p
  pub lower : (c : Core) (g : Ghost) (s : ℕ) → Fits c g → is_call (seat c.seats s).point ≡ true → among (seat c.seats s).point ≡ true
      → (among (stepped c s).seat.point ≡ true)
      × (weight (seat c.seats s).point + most (length c.seats) (length c.seats - length (made c s).core.popped) (stepped c s).seat.point ≤ measure most c s)

module _ (weight : Point → ℕ) (most : ℕ → ℕ → Point → ℕ) (among : Point → Bool) (falls : Falls weight most among) where
  -- an event after which the measure has fallen by at least this much, and the point is again one of the call
  record Goes (c d : Core) (s spent : ℕ) : Type 0 where
    pub steady : Steady d
    pub within : among (seat d.seats s).point ≡ true
    pub spends : spent + measure most d s ≤ measure most c s

  left_same : (c d : Core) (s : ℕ) → KeepsSeat c d s → measure most d s ≡ measure most c s
  left_same c d s leaves =
      elim (cases_Bool (is_walking (seat c.seats s).point)) [
        | inl walks ↦ rw (leaves.view, leaves.size, leaves.popped (walking_serves _ s (seat c.seats s).point walks)) refl
        | inr stands ↦ rw (leaves.view, leaves.size) (falls.unread (length c.seats) _ _ (seat c.seats s).point stands)
      ]

  goes_left : (c d : Core) (s : ℕ) → Steady d → among (seat c.seats s).point ≡ true → KeepsSeat c d s → Goes c d s 0
  goes_left c d s steady within leaves =
      record {
        steady = steady;
        within = rw leaves.view within;
        spends = let same = left_same c d s leaves in omega (arith, same);
      }

  goes_own : (c : Core) (s : ℕ) → Steady c → is_call (seat c.seats s).point ≡ true → among (seat c.seats s).point ≡ true
      → Goes c (made c s).core s (weight (seat c.seats s).point)
  goes_own c s steady inside within =
      let is = seat_of_call c s inside in
      let kept = made_keeps c steady.ghost_state s is steady.fits in
      let next = falls.lower c steady.ghost_state s steady.fits inside within in
      record {
        steady = record { ghost_state = kept.to; fits = kept.fits };
        within = rw (own_made c s is) next.0;
        spends = rw (own_made c s is, size_made c s) next.1;
      }

  goes_on_made : (c : Core) (t s : ℕ) → Steady c → is_call (seat c.seats s).point ≡ true → among (seat c.seats s).point ≡ true → IsSeat c.seats t
      → Goes c (made c t).core s (weight_of weight c s (makes t))
  goes_on_made c t s steady inside within is =
      elim (cases_eq t s) [
        | inl own ↦ rw (own, eq-eqb s s refl) (goes_own c s steady inside within)
        | inr other ↦
            let kept = made_keeps c steady.ghost_state t is steady.fits in
            rw (ne_eqb t s other)
            (goes_left c (made c t).core s (record { ghost_state = kept.to; fits = kept.fits }) within (step_leaves c steady.ghost_state t s steady.fits (λ e. other (sym e))))
      ]

  -- a number that no seat has makes no step, so it is not the seat of an open call
  goes_refused : (c : Core) (t s : ℕ) → Steady c → is_call (seat c.seats s).point ≡ true → among (seat c.seats s).point ≡ true → is_seat c.seats t ≡ false
      → Goes c c s (weight_of weight c s (makes t))
  goes_refused c t s steady inside within none =
      elim (cases_eq t s) [
        | inl own ↦ absurd (false≢true (sym none ∙ rw own (test_of_seat c.seats s (seat_of_call c s inside))))
        | inr other ↦ rw (ne_eqb t s other) (goes_left c c s steady within (leaves_all c s))
      ]

  goes_event : (c : Core) (e : Event) (s : ℕ) → Steady c → is_call (seat c.seats s).point ≡ true → among (seat c.seats s).point ≡ true
      → Goes c (happens c e).core s (weight_of weight c s e)
  goes_event c (begins t call) s steady inside within =
      let fits = begin_keeps c steady.ghost_state t call steady.fits in
      goes_left c (begin c t call).core s (record { ghost_state = steady.ghost_state; fits = fits }) within (begin_leaves c t s call inside)
  goes_event c (makes t) s steady inside within =
      elim (cases_Bool (is_seat c.seats t)) [
        | inl is ↦ rw is (goes_on_made c t s steady inside within (seat_of_test c.seats t is))
        | inr none ↦ rw none (goes_refused c t s steady inside within none)
      ]

  pub weight_le : (c : Core) (s : ℕ) (events : List Event) → Steady c → among (seat c.seats s).point ≡ true → weight_of_call weight c s events ≤ measure most c s
  weight_le c s [] steady within = omega arith
  weight_le c s (e ∷ later) steady within =
      elim (cases_Bool (is_call (seat c.seats s).point)) [
        | inl inside ↦
            let goes = goes_event c e s steady inside within in
            let rest = weight_le (happens c e).core s later goes.steady goes.within in
            let spends = goes.spends in
            rw inside (omega (arith, rest, spends))
        | inr closed ↦ rw closed (omega arith)
      ]
