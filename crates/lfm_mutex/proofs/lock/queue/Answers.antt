use Rattle.std.proofs.Common.{rules, ◌≡◌, ◌≢◌, ℕ, ◌∙◌, Option, sym, subst, refl, arith, length}
use Rattle.lfm_model.specs.declared.answers.Asked.{Asked}
use Rattle.lfm_protocol.specs.declared.answers.Answer.{Answer}
use Rattle.lfm_protocol.specs.declared.answers.Turn.{Turn}
use Rattle.lfm_protocol.specs.declared.answers.Turn.TheVariants.{Open, Ended}
use Rattle.lfm_protocol.specs.declared.limits.Limits.{Limits}
use Rattle.lfm_protocol.specs.declared.points.Point.{Point}
use Rattle.lfm_protocol.specs.declared.points.Point.TheVariants.{Asleep, LockOwnerLoad, PushLoad}
use Rattle.lfm_protocol.specs.declared.points.Sleeper.{Sleeper}
use Rattle.lfm_protocol.specs.Begin.{Stepped}
use Rattle.lfm_protocol.specs.declared.points.Pusher.{Pusher}
use Rattle.lfm_protocol.specs.declared.seats.SeatState.{SeatState}
use Rattle.lfm_table.specs.Table.{Me}
use Rattle.lfm_table.specs.declared.rule.Moving.{Moving}
use Rattle.lfm_table.specs.declared.seat_view.View.{View}
use Rattle.lfm_table.specs.Steps.{oldest_in}
use Rattle.lfm_table.specs.FastPath.{Fit, IsBetweenSteps, MadeStep}
use Rattle.lfm_table.proofs.tables.StepFacts.{made_of}
use Rattle.lfm_mutex.specs.calls.Due.{due}
use Rattle.lfm_mutex.specs.calls.Pushes.{PlainCourse}
use Rattle.lfm_mutex.specs.calls.Runs.{opens}
use Rattle.lfm_mutex.specs.calls.FastPath.{Course}
use Rattle.lfm_mutex.specs.calls.Stops.{push_stop_point}
use Rattle.lfm_mutex.proofs.runs.GoesOn.{rest_finishes, rest_spends}
use Rattle.lfm_mutex.proofs.runs.PlainCourses.{plain_none, plain_next, plain_join}
use Rattle.lfm_mutex.proofs.runs.Spending.{spends_within}
use Rattle.lfm_mutex.proofs.runs.FastPathPoints.{not_owned}
use Rattle.lfm_mutex.proofs.runs.WakeUps.{wakes_none}
use Rattle.lfm_table.proofs.tables.FastPathSteps.{told_before, same_then}
use Rattle.lfm_mutex.proofs.lock.queue.Goals as goal

-- the load of the owner word, which doesn't find this seat
loads_owner : {T : Type 0} {follows : ℕ → T → T → Type 0} {suits : T → ℕ → Type 0} {s w0 i0 w1 i1 n : ℕ} {l : Limits} {a b : Option (Moving T)} {m m' : Me (Option (Moving T)) (View T)} (x : SeatState) → x.point ≡ LockOwnerLoad → x.depth ≡ 0 → Fit s w0 i0 l x m a
    → MadeStep follows suits s w1 i1 l (made_of 0 x.takes x.posts LockOwnerLoad) n m a m' b → n ≢ s → PlainCourse follows suits s l.seats x a m.0 Open (made_of 0 x.takes x.posts (PushLoad Pusher.Locker)) b m'.0
loads_owner {T} {follows} {suits} {s} {w0} {i0} {w1} {i1} {n} {l} {a} {b} {m} {m'} x at flat fit did other =
    let here : x ≡ made_of 0 x.takes x.posts LockOwnerLoad = (λ i. record { depth = flat i; takes = x.takes; posts = x.posts; point = at i }) in
    let so = plain_next (opens (made_of 0 x.takes x.posts (PushLoad Pusher.Locker))) (plain_none follows suits (subst (λ (z : SeatState). Fit s w0 i0 l z m a) here fit)) did (not_owned 0 x.takes x.posts s n (oldest_in b) other) (λ e. cc) refl refl in
    subst (λ (z : SeatState). PlainCourse follows suits s l.seats z a m.0 Open (made_of 0 x.takes x.posts (PushLoad Pusher.Locker)) b m'.0) (sym here) so.plain

-- the same for a course that continues under the number and the limits after the load
goes_on : {T : Type 0} {follows : ℕ → T → T → Type 0} {suits : T → ℕ → Type 0} {s k : ℕ} {l j : Limits} {p q : SeatState} {a b : Option (Moving T)} {v w : View T} {turn : Turn} → (k ≡ s) × (j ≡ l) → PlainCourse follows suits k j.seats p a v turn q b w → PlainCourse follows suits s l.seats p a v turn q b w
goes_on {T} {follows} {suits} {s} {k} {l} {j} {p} {q} {a} {b} {v} {w} {turn} same so = subst (λ (z : ℕ × Limits). PlainCourse follows suits z.0 z.1.seats p a v turn q b w) (λ i. (same.0 i, same.1 i)) so

-- the seat is at the point where it pushes
pub push-requires-clause-fit : goal.push-requires-clause-fit
push-requires-clause-fit g c κs within = let x = c.args.seat.now.state in let h = c.load_other_owner in
    subst (λ (z : Stepped). IsBetweenSteps h.new.seat z.seat) (not_owned 0 x.takes x.posts h.new.seat.number h.result (oldest_in h.new.seat.moving) (λ e. h.ensures.other (e ∙ h.ensures.same.0))) h.ensures.step.fit

pub returns-in-Queued-clause-finishes : goal.returns-in-Queued-clause-finishes
returns-in-Queued-clause-finishes g c = record {
  kept = search rules;
  made = let s = c.args.seat.now in let h = c.load_other_owner in let p = c.push in let x = s.state in
      let so = plain_join (loads_owner x c.requires.stands c.requires.flat (record { seated = s.seated; became = s.became; ready = s.ready; rooted = s.rooted }) (told_before h.ensures.same h.ensures.step) h.ensures.other) (goes_on h.ensures.same c.in-Queued.ensures.made) in
      subst (λ (z : ℕ). Course g.T.Kept.follows g.T.Kept.fits s.table_seat.number x s.table_seat.moving s.table_seat.place.me.0 (Ended (Answer.Asked Asked.Asleep)) (record x { depth = z; point = Asleep Sleeper.Locker }) p.new.seat.moving p.new.seat.place.me.0) (sym c.requires.flat) so.course;
  wakes = let s = c.args.seat.now in let h = c.load_other_owner in let p = c.push in
      let so = plain_join (loads_owner s.state c.requires.stands c.requires.flat (record { seated = s.seated; became = s.became; ready = s.ready; rooted = s.rooted }) (told_before h.ensures.same h.ensures.step) h.ensures.other) (goes_on h.ensures.same c.in-Queued.ensures.made) in
      wakes_none s.table_seat.limits.seats s.table_seat.place.me.0.trail p.new.seat.place.me.0.trail so.grants;
}

pub returns-in-Queued-clause-spends : goal.returns-in-Queued-clause-spends
returns-in-Queued-clause-spends g c =
    let s = c.args.seat.now in let h = c.load_other_owner in let p = c.push in let n = s.table_seat.limits.seats in
    let so = plain_join (loads_owner s.state c.requires.stands c.requires.flat (record { seated = s.seated; became = s.became; ready = s.ready; rooted = s.rooted }) (told_before h.ensures.same h.ensures.step) h.ensures.other) (goes_on h.ensures.same c.in-Queued.ensures.made) in
    let all = due n (length s.table_seat.place.me.0.popped) s.state.point in
    spends_within all all (due n (length p.new.seat.place.me.0.popped) (Asleep Sleeper.Locker)) 0 s.table_seat.place.me.0.trail p.new.seat.place.me.0.trail (omega arith) (omega arith) so.spends

-- the seat is at the point where the slow path takes over
stops : (x : SeatState) (q : Point) → x.depth ≡ 0 → record x { point = q } ≡ made_of 0 x.takes x.posts q
stops x q flat = λ i. record { depth = flat i; takes = x.takes; posts = x.posts; point = q }

pub returns-in-Stopped : goal.returns-in-Stopped
returns-in-Stopped g c =
    let s = c.args.seat.now in let h = c.load_other_owner in let p = c.push in let on = c.finish_ask in let x = s.state in
    let so = plain_join (loads_owner x c.requires.stands c.requires.flat (record { seated = s.seated; became = s.became; ready = s.ready; rooted = s.rooted }) (told_before h.ensures.same h.ensures.step) h.ensures.other) (goes_on h.ensures.same c.in-Stopped.ensures.made) in
    record {
      finishes = rest_finishes so (c.stop_at_push.ensures ∙ stops x (push_stop_point Pusher.Locker c.in-Stopped.stop) c.requires.flat) on.ensures.finishes (search rules);
      spends = rest_spends so (c.stop_at_push.ensures ∙ stops x (push_stop_point Pusher.Locker c.in-Stopped.stop) c.requires.flat) (same_then h.ensures.same p.ensures.same) on.ensures.spends;
    }
