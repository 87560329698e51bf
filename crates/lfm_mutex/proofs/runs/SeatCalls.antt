-- The whole contract of a call, from its seat before the call, after the call's start, and at its end.
use Rattle.std.proofs.Common.{◌≡◌, ◌≢◌, ℕ, ◌+◌, true, false, Option, sym, ap, ◌∙◌, subst}
use Rattle.lfm_protocol.specs.declared.answers.Call.{Call}
use Rattle.lfm_protocol.specs.declared.answers.Turn.{Turn}
use Rattle.lfm_protocol.specs.declared.answers.Turn.TheVariants.{Open}
use Rattle.lfm_protocol.specs.declared.limits.Limits.{Limits}
use Rattle.lfm_protocol.specs.Begin as Begin
use Rattle.lfm_table.specs.declared.seat_view.View.{View}
use Rattle.lfm_table.specs.declared.rule.Moving.{Moving}
use Rattle.lfm_table.specs.Rule.{value_in}
use Rattle.lfm_mutex.specs.declared.seat.Seat.{Seat}
use Rattle.lfm_mutex.specs.calls.FastPath.{Course, ComesTo}
use Rattle.lfm_mutex.specs.calls.OpenCalls.{EndsHold, KeepsSeat, KeepsTableSeat, StepsLeadTo}
use Rattle.lfm_mutex.specs.calls.Runs.{Answers, Ends, Ran, errand, errand_of, is_releasing, opens}
use Rattle.lfm_mutex.specs.calls.Sight.{Concludes, sight, sight_of}
use Rattle.lfm_mutex.proofs.runs.Courses.{comes, ends_at_once, released}
use Rattle.lfm_mutex.proofs.runs.EndSights.{called_ends}
use Rattle.lfm_mutex.proofs.runs.Running.{ends_answers}

-- the seat s has become b by the start of the call, in a mutex with these limits
module _ {T : Type 0} (follows : ℕ → T → T → Type 0) (suits : T → ℕ → Type 0) (s b : Seat T) (l : Limits) (call : Call) (of : s.table_seat.limits ≡ l) (same : KeepsTableSeat s.table_seat b.table_seat) (is : b.state ≡ (Begin.begin s.state s.table_seat.limits call).seat) where
  -- a call that ends at its start
  pub at_once : (turn : Turn) → turn ≢ Open → turn ≡ (Begin.begin s.state s.table_seat.limits call).turn → ComesTo follows suits l call (sight s) (sight b) turn
  at_once turn some is_turn =
      subst (λ (t : ℕ × View T × Option (Moving T)). ComesTo follows suits l call (sight s) (sight_of t.0 b.state t.1 (value_in t.2)) turn) (λ i. (sym same.1 i, ap (λ p. p.me.0) (sym same.0) i, sym same.3 i))
      (ends_at_once follows suits s.table_seat.number s.table_seat.limits l call s.state b.state s.table_seat.place.me.0 s.table_seat.moving turn of some (λ i. record { seat = sym is i; turn = sym is_turn i }))

  -- a call that makes steps, and whose seat is t when it has ended
  module _ (t : Seat T) (turn : Turn) (opened : Open ≡ (Begin.begin s.state s.table_seat.limits call).turn) (kept : KeepsSeat b t) (ends : Ends (errand b.state.point) turn) where
    begins : Begin.begin s.state s.table_seat.limits call ≡ opens b.state
    begins = λ i. record { seat = sym is i; turn = sym opened i }

    ended : Ends (errand_of call) turn
    ended = called_ends s.table_seat.limits call s.state b.state turn opened is ends

    pub answers : Answers (errand_of call) turn
    answers = ends_answers (errand_of call) turn ended

    -- it releases nothing
    pub by_steps : is_releasing (errand_of call) ≡ false → StepsLeadTo follows suits b turn t → ComesTo follows suits l call (sight s) (sight t) turn
    by_steps keeps steps =
        comes follows suits s.table_seat.number b.state s.table_seat.moving s.table_seat.place.me.0 t.table_seat.number s.table_seat.limits l call s.state t.state turn t.table_seat.moving t.table_seat.place.me.0 of (kept.same.0 ∙ same.1) keeps begins ended
        (subst (λ (x : ℕ × Option (Moving T) × View T). Course follows suits x.0 b.state x.1 x.2 turn t.state t.table_seat.moving t.table_seat.place.me.0) (λ i. (same.1 i, same.3 i, ap (λ p. p.me.0) same.0 i)) steps)

    -- it releases the mutex
    pub by_release : is_releasing (errand_of call) ≡ true → Concludes (record b.state { depth = 0 }) turn t.state → EndsHold b t → Ran b.table_seat.number (opens b.state) b.table_seat.place.me.0 turn t.state t.table_seat.place.me.0
        → ComesTo follows suits l call (sight s) (sight t) turn
    by_release gives concludes last ran =
        released follows suits s.table_seat.number t.table_seat.number s.table_seat.limits l call s.state b.state t.state s.table_seat.place.me.0 t.table_seat.place.me.0 s.table_seat.moving t.table_seat.moving turn of (kept.same.0 ∙ same.1) gives begins ended concludes
        (last ∙ (λ i. (value_in (same.3 i), ap (λ p. p.me.0.found) same.0 i, ap (λ p. p.me.0.limits) same.0 i, ap (λ p. p.me.0.holds_ended + 1) same.0 i)))
        (subst (λ (x : ℕ × View T). Ran x.0 (opens b.state) x.1 turn t.state t.table_seat.place.me.0) (λ i. (same.1 i, ap (λ p. p.me.0) same.0 i)) ran)
