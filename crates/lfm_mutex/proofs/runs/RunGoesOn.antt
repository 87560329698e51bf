-- Each step of a seat, and each call, extends the run of a table.
use Rattle.std.proofs.Common.{◌≡◌, ℕ, Option, refl, subst, sym}
use Rattle.lfm_table.specs.Table.{Me}
use Rattle.lfm_protocol.specs.declared.answers.Turn.{Turn}
use Rattle.lfm_protocol.specs.declared.limits.Limits.{Limits}
use Rattle.lfm_protocol.specs.declared.seats.SeatState.{SeatState}
use Rattle.lfm_table.specs.declared.rule.Moving.{Moving}
use Rattle.lfm_table.specs.declared.seat_view.View.{View}
use Rattle.lfm_table.specs.Actions.{RunGoesOn}
use Rattle.lfm_table.specs.Steps.{Event}
use Rattle.lfm_table.specs.FastPath.{MadeStep}
pub use Rattle.lfm_table.proofs.tables.Actions.{run_next, run_same}
use Rattle.lfm_table.proofs.tables.Actions.{run_by, run_rests, step_last}
use Rattle.lfm_mutex.specs.calls.RunGoesOn.{SameTrailsKnowTheSame}

-- one event of the seat extends the run
pub run_stepped : {T : Type 0} {follows : ℕ → T → T → Type 0} {suits : T → ℕ → Type 0} {p p' : SeatState} {a a' : Option (Moving T)} {v w : View T} {turn : Turn} → Event follows suits p a v turn p' a' w → RunGoesOn v w
run_stepped {T} {follows} {suits} {p} {p'} {a} {a'} {v} {w} {turn} e = run_by e.did.root.number e.did.root.limits_are (step_last v.number v.number v.state p refl) e.did.run

-- a step extends the run
pub run_made : {T : Type 0} {follows : ℕ → T → T → Type 0} {suits : T → ℕ → Type 0} {number words id : ℕ} {l : Limits} {p : SeatState} {n : ℕ} {m m' : Me (Option (Moving T)) (View T)} {a a' : Option (Moving T)} → MadeStep follows suits number words id l p n m a m' a'
    → RunGoesOn m.0 m'.0
run_made made = run_stepped made.event

-- if the view has not changed, the run has not either
pub run_stays_at : {T : Type 0} {v w : View T} → w ≡ v → RunGoesOn v w
run_stays_at {T} {v} {w} same = subst (λ (z : View T). RunGoesOn v z) (sym same) run_same

-- if the trail has not grown, the seat knows no more than before
pub same_trails_know_the_same : (T : Type 0) → SameTrailsKnowTheSame T
same_trails_know_the_same T s t goes same = run_rests s.table_seat.place.me.0 t.table_seat.place.me.0 goes same
