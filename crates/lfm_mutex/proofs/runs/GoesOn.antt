-- From facts about the rest of a call to the same facts about the whole call, whose steps so far are a plain course. The facts
-- about the rest are stated for the seat after these steps, with the number and the limits that it has then.
use Rattle.std.proofs.Common.{◌≡◌, ◌∙◌, ℕ, List, Option, subst, length}
use Rattle.lfm_protocol.specs.declared.answers.Turn.{Turn}
use Rattle.lfm_protocol.specs.declared.answers.Turn.TheVariants.{Open}
use Rattle.lfm_protocol.specs.declared.limits.Limits.{Limits}
use Rattle.lfm_protocol.specs.declared.seats.SeatState.{SeatState}
use Rattle.lfm_table.specs.declared.rule.Moving.{Moving}
use Rattle.lfm_table.specs.declared.seat_view.Seen.{Seen}
use Rattle.lfm_table.specs.declared.seat_view.View.{View}
use Rattle.lfm_mutex.specs.declared.seat.Seat.{Seat}
use Rattle.lfm_mutex.specs.calls.Due.{due}
use Rattle.lfm_mutex.specs.calls.FailedPushes.{Spends}
use Rattle.lfm_mutex.specs.calls.FastPath.{Course}
use Rattle.lfm_mutex.specs.calls.Pushes.{PlainCourse}
use Rattle.lfm_mutex.specs.calls.OpenCalls.{FinishesAs, KeepsSeat}
use Rattle.lfm_mutex.specs.calls.WakeUps.{Wakes}
use Rattle.lfm_mutex.specs.calls.Woken.{WakesNobody}
use Rattle.lfm_mutex.proofs.runs.Courses.{course_join}
use Rattle.lfm_mutex.proofs.runs.SameSeats.{wakes_same}
use Rattle.lfm_mutex.proofs.runs.Spending.{spends_join}
use Rattle.lfm_mutex.proofs.runs.WakeUps.{wakes_after}

module _ {T : Type 0} {follows : ℕ → T → T → Type 0} {suits : T → ℕ → Type 0} {s k : ℕ} {l j : Limits} {x y z q : SeatState} {a b d : Option (Moving T)} {v0 v w : View T} {turn : Turn}
    (so : PlainCourse follows suits s l.seats x a v0 Open y b v) (there : z ≡ y) (same : (k ≡ s) × (j ≡ l)) where
  rest_course : Course follows suits k z b v turn q d w → Course follows suits s x a v0 turn q d w
  rest_course rest = course_join follows suits s x a v0 y q b d v w turn so.course (subst (λ (e : ℕ × SeatState). Course follows suits e.0 e.1 b v turn q d w) (λ i. (same.0 i, there i)) rest)

module _ {T : Type 0} {follows : ℕ → T → T → Type 0} {suits : T → ℕ → Type 0} {s k : ℕ} {l j : Limits} {x y z : SeatState} {a b : Option (Moving T)} {v0 v : View T}
    (so : PlainCourse follows suits s l.seats x a v0 Open y b v) (there : z ≡ y) (same : (k ≡ s) × (j ≡ l)) where
  pub rest_spends : {t : List Seen} → Spends (due j.seats (length v.popped) z.point) 0 v.trail t → Spends (due l.seats (length v0.popped) x.point) 0 v0.trail t
  rest_spends {t} rest =
      spends_join (due l.seats (length v0.popped) x.point) (due l.seats (length v.popped) y.point) 0 v0.trail v.trail t so.spends
      (subst (λ (e : Limits × SeatState). Spends (due e.0.seats (length v.popped) e.1.point) 0 v.trail t) (λ i. (same.1 i, there i)) rest)

  rest_wakes : {t : List Seen} (wake_up : Option ℕ) → Wakes j.seats wake_up v.trail t → Wakes l.seats wake_up v0.trail t
  rest_wakes {t} wake_up rest = wakes_after l.seats wake_up v0.trail v.trail t so.grants (wakes_same wake_up v.trail t same.1 rest)

pub nobody_join : {T : Type 0} (s m t : Seat T) → WakesNobody s m → WakesNobody m t → WakesNobody s t
nobody_join s m t h k = k ∙ h

kept_join : {T : Type 0} (s m t : Seat T) → KeepsSeat s m → KeepsSeat m t → KeepsSeat s t
kept_join s m t h k =
    record { table = k.table ∙ h.table; same = (k.same.0 ∙ h.same.0, k.same.1 ∙ h.same.1); woken = nobody_join s m t h.woken k.woken }

-- the same for whole seats: the steps so far have made s to m, with the plain data y, and the rest has made m to t
pub rest_finishes : {T : Type 0} {follows : ℕ → T → T → Type 0} {suits : T → ℕ → Type 0} {s m t : Seat T} {y : SeatState} {turn : Turn} {wake_up : Option ℕ}
    → PlainCourse follows suits s.table_seat.number s.table_seat.limits.seats s.state s.table_seat.moving s.table_seat.place.me.0 Open y m.table_seat.moving m.table_seat.place.me.0
    → m.state ≡ y → FinishesAs follows suits m turn wake_up t → KeepsSeat s m → FinishesAs follows suits s turn wake_up t
rest_finishes {T} {follows} {suits} {s} {m} {t} {y} {turn} {wake_up} so there rest kept =
    record { kept = kept_join s m t kept rest.kept; made = rest_course so there kept.same rest.made; wakes = rest_wakes so there kept.same wake_up rest.wakes }
