-- How many steps an open call makes while others interleave: the steps that are due fall by at least one with each own step,
-- and rise by at most two when another seat changes the push word.
use Rattle.std.proofs.Common.{◌≡◌, ℕ, true, false, ◌+◌, ◌*◌, ◌≤◌, List, [], ◌∷◌, length, nat_eq, refl, sym, ◌∙◌, inl, inr, arith, if◌then◌else◌}
use Rattle.std.proofs.lemmas.Bool.{cases_Bool, cases_eq, eq-eqb, ne_eqb, false≢true}
use Rattle.lfm_protocol.specs.declared.answers.Call.{Call}
use Rattle.lfm_protocol.specs.declared.points.Point.{Point}
use Rattle.lfm_protocol.specs.declared.points.Point.TheVariants.{LinkStore, PushExchange, TakeLinkLoad}
use Rattle.lfm_words.specs.declared.links.Link.{Link}
use Rattle.lfm_protocol.specs.After.{same_link}
use Rattle.lfm_protocol.specs.Core.{Core}
use Rattle.lfm_protocol.specs.Seats.{seat, is_seat, IsSeat}
use Rattle.lfm_protocol.specs.Step.{made, begin}
use Rattle.lfm_laws.specs.laws.Progress.{changed_push, changed_beside, changes_beside, changed_own, changes_of_call, CallsEndBesideOthers, CallsChangeThePushWordTwice}
use Rattle.lfm_laws.specs.laws.Schedules.{Event, begins, makes, happens, is_call, weight_of, steps_of_call}
use Rattle.lfm_laws.specs.steady.Steady.{Steady}
use Rattle.lfm_laws.proofs.lawful.bounds.CallWeights.{is_walking, walking_serves, room_left}
use Rattle.lfm_laws.proofs.lawful.bounds.DueAtPoints.{again_unless-le, due_at, due_at-le, changes_at, changes_at-le, changed_push_same}
use Rattle.lfm_laws.proofs.lawful.bounds.DueSteps.{own_spends}
use Rattle.lfm_laws.proofs.lawful.bounds.Leaving.{own_made, size_made, seat_of_call, KeepsSeat, leaves_all, begin_leaves, step_leaves}
use Rattle.lfm_laws.proofs.lawful.runs.Reached.{made_keeps, begin_keeps}
use Rattle.lfm_laws.proofs.steady.frames.Seated.{seat_of_test, test_of_seat}
use Rattle.lfm_laws.proofs.steady.queue.Pushers.{same_link_true}

-- an upper bound on the steps that seat s has yet to make while the push word stays the same
abbrev pub due : Core → ℕ → ℕ
due c s = due_at c.push (length c.seats) (room_left c) (seat c.seats s).point

abbrev pub changes_left : Core → ℕ → ℕ
changes_left c s = changes_at (seat c.seats s).point

pub due-le : (c : Core) (s : ℕ) → due c s ≤ length c.seats + 9
due-le c s = due_at-le c.push (length c.seats) (room_left c) (seat c.seats s).point (omega arith)

-- A changed push word

two_more : (push after : Link) (seats room : ℕ) (p : Point) → due_at after seats room p ≤ due_at push seats room p + 2
two_more push after seats room (LinkStore pusher seen) = let most = again_unless-le (same_link after seen) in omega (arith, most)
two_more push after seats room (PushExchange pusher seen) = let most = again_unless-le (same_link after seen) in omega (arith, most)
two_more push after seats room _ = omega arith

due_after : (push after : Link) (seats room : ℕ) (p : Point) → due_at after seats room p ≤ due_at push seats room p + 2 * changed_push push after
due_after push after seats room p =
    elim (cases_Bool (same_link after push)) [
      | inl same ↦ rw (same_link_true after push same) (omega arith)
      | inr other ↦ let most = two_more push after seats room p in rw other (omega (arith, most))
    ]

-- the room of the pop list counts only while a carrier collects
unread : (push : Link) (seats room room' : ℕ) (p : Point) → is_walking p ≡ false → due_at push seats room p ≡ due_at push seats room' p
unread push seats room room' (TakeLinkLoad carrier next) stands = absurd (false≢true (sym stands))
unread push seats room room' _ stands = refl

due_left : (c d : Core) (s : ℕ) → KeepsSeat c d s → due_at c.push (length d.seats) (room_left d) (seat d.seats s).point ≡ due c s
due_left c d s leaves =
    elim (cases_Bool (is_walking (seat c.seats s).point)) [
      | inl walks ↦ rw (leaves.view, leaves.size, leaves.popped (walking_serves _ s (seat c.seats s).point walks)) refl
      | inr stands ↦ rw (leaves.view, leaves.size) (unread c.push (length c.seats) _ _ (seat c.seats s).point stands)
    ]

pub due_beside : (c d : Core) (s : ℕ) → KeepsSeat c d s → due d s ≤ due c s + 2 * changed_push c.push d.push
due_beside c d s leaves =
    let same = due_left c d s leaves in
    let more = due_after c.push d.push (length d.seats) (room_left d) (seat d.seats s).point in
    omega (arith, same, more)

-- One event

pub begun_push : (c : Core) (t : ℕ) (call : Call) → (begin c t call).core.push ≡ c.push
begun_push c t call =
    elim (cases_Bool (is_seat c.seats t)) [
      | inl is ↦ rw is refl
      | inr none ↦ rw none refl
    ]

-- an event after which seat s has made this number of steps and of own changes, while others made this number of changes
pub record Spent (c d : Core) (s steps own beside : ℕ) : Type 0 where
  pub steady : Steady d
  pub due : steps + due d s ≤ due c s + 2 * beside
  pub changes : own + changes_left d s ≤ changes_left c s

spent_beside : (c d : Core) (s beside : ℕ) → Steady d → KeepsSeat c d s → changed_push c.push d.push ≡ beside → Spent c d s 0 0 beside
spent_beside c d s beside steady leaves changes =
    record {
      steady = steady;
      due = let most = due_beside c d s leaves in omega (arith, most, changes);
      changes = rw leaves.view (omega arith);
    }

spent_own : (c : Core) (s : ℕ) → Steady c → is_call (seat c.seats s).point ≡ true → Spent c (made c s).core s 1 (changed_push c.push (made c s).core.push) 0
spent_own c s steady inside =
    let is = seat_of_call c s inside in
    let kept = made_keeps c steady.ghost_state s is steady.fits in
    let spends = own_spends c steady.ghost_state s steady.fits inside in
    let steps = spends.0 in
    let changes = spends.1 in
    record {
      steady = record { ghost_state = kept.to; fits = kept.fits };
      due = rw (own_made c s is, size_made c s) (omega (arith, steps));
      changes = rw (own_made c s is) (omega (arith, changes));
    }

spent_made : (c : Core) (t s : ℕ) → Steady c → is_call (seat c.seats s).point ≡ true → IsSeat c.seats t
    → Spent c (made c t).core s (weight_of (λ p. 1) c s (makes t)) (if nat_eq t s then changed_push c.push (made c t).core.push else 0)
    (if nat_eq t s then 0 else changed_push c.push (made c t).core.push)
spent_made c t s steady inside is =
    elim (cases_eq t s) [
      | inl own ↦ rw (own, eq-eqb s s refl) (spent_own c s steady inside)
      | inr other ↦
          let kept = made_keeps c steady.ghost_state t is steady.fits in
          rw (ne_eqb t s other)
          (spent_beside c (made c t).core s (changed_push c.push (made c t).core.push) (record { ghost_state = kept.to; fits = kept.fits })
          (step_leaves c steady.ghost_state t s steady.fits (λ e. other (sym e))) refl)
    ]

-- a number that no seat has makes no step, so it is not the seat of an open call
spent_refused : (c : Core) (t s : ℕ) → Steady c → is_call (seat c.seats s).point ≡ true → is_seat c.seats t ≡ false
    → Spent c c s (weight_of (λ p. 1) c s (makes t)) (if nat_eq t s then changed_push c.push c.push else 0) (if nat_eq t s then 0 else changed_push c.push c.push)
spent_refused c t s steady inside none =
    elim (cases_eq t s) [
      | inl own ↦ absurd (false≢true (sym none ∙ rw own (test_of_seat c.seats s (seat_of_call c s inside))))
      | inr other ↦ rw (ne_eqb t s other) (spent_beside c c s (changed_push c.push c.push) steady (leaves_all c s) refl)
    ]

pub spent_event : (c : Core) (e : Event) (s : ℕ) → Steady c → is_call (seat c.seats s).point ≡ true
    → Spent c (happens c e).core s (weight_of (λ p. 1) c s e) (changed_own c s e) (changed_beside c s e)
spent_event c (begins t call) s steady inside =
    let fits = begin_keeps c steady.ghost_state t call steady.fits in
    spent_beside c (begin c t call).core s 0 (record { ghost_state = steady.ghost_state; fits = fits }) (begin_leaves c t s call inside)
    (rw (begun_push c t call) (changed_push_same c.push))
spent_event c (makes t) s steady inside =
    elim (cases_Bool (is_seat c.seats t)) [
      | inl is ↦ rw is (spent_made c t s steady inside (seat_of_test c.seats t is))
      | inr none ↦ rw none (spent_refused c t s steady inside none)
    ]

-- All events until the call ends

beside-le : (c : Core) (s : ℕ) (events : List Event) → Steady c → steps_of_call c s events ≤ due c s + 2 * changes_beside c s events
beside-le c s [] steady = omega arith
beside-le c s (e ∷ later) steady =
    elim (cases_Bool (is_call (seat c.seats s).point)) [
      | inl inside ↦
          let spent = spent_event c e s steady inside in
          let rest = beside-le (happens c e).core s later spent.steady in
          let one = spent.due in
          rw inside (omega (arith, rest, one))
      | inr closed ↦ rw closed (omega arith)
    ]

pub calls_end_beside_others : CallsEndBesideOthers
calls_end_beside_others c s events is =
    let most = beside-le c s events is in
    let due = due-le c s in
    omega (arith, most, due)

changes-le : (c : Core) (s : ℕ) (events : List Event) → Steady c → changes_of_call c s events ≤ changes_left c s
changes-le c s [] steady = omega arith
changes-le c s (e ∷ later) steady =
    elim (cases_Bool (is_call (seat c.seats s).point)) [
      | inl inside ↦
          let spent = spent_event c e s steady inside in
          let rest = changes-le (happens c e).core s later spent.steady in
          let one = spent.changes in
          rw inside (omega (arith, rest, one))
      | inr closed ↦ rw closed (omega arith)
    ]

pub calls_change_the_push_word_twice : CallsChangeThePushWordTwice
calls_change_the_push_word_twice c s events is =
    let most = changes-le c s events is in
    let two = changes_at-le (seat c.seats s).point in
    omega (arith, most, two)
