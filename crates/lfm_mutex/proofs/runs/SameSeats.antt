-- Facts about a course, its failed pushes and its wake-ups hold under equal numbers and limits of the seat.
use Rattle.std.proofs.Common.{◌≡◌, ℕ, List, subst, Option}
use Rattle.lfm_protocol.specs.declared.answers.Turn.{Turn}
use Rattle.lfm_protocol.specs.declared.limits.Limits.{Limits}
use Rattle.lfm_protocol.specs.declared.seats.SeatState.{SeatState}
use Rattle.lfm_table.specs.declared.seat_view.Seen.{Seen}
use Rattle.lfm_table.specs.declared.seat_view.View.{View}
use Rattle.lfm_table.specs.declared.rule.Moving.{Moving}
use Rattle.lfm_mutex.specs.calls.FastPath.{Course}
use Rattle.lfm_mutex.specs.calls.WakeUps.{Wakes}

pub course_same : {T : Type 0} {follows : ℕ → T → T → Type 0} {suits : T → ℕ → Type 0} {s k : ℕ} {p0 p : SeatState} {a0 a : Option (Moving T)} {v0 v : View T} {turn : Turn} → k ≡ s → Course follows suits k p0 a0 v0 turn p a v → Course follows suits s p0 a0 v0 turn p a v
course_same {T} {follows} {suits} {s} {k} {p0} {p} {a0} {a} {v0} {v} {turn} same so = subst (λ (n : ℕ). Course follows suits n p0 a0 v0 turn p a v) same so

pub wakes_same : {l k : Limits} (wake_up : Option ℕ) (t u : List Seen) → k ≡ l → Wakes k.seats wake_up t u → Wakes l.seats wake_up t u
wakes_same wake_up t u same wakes = subst (λ (n : Limits). Wakes n.seats wake_up t u) same wakes
